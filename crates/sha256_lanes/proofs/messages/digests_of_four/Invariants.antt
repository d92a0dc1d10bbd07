use Rattle.std.proofs.Common.{◌≡◌, ℕ, [], ◌∷◌, ◌<◌, slice_index_or}
use Rattle.sha2.specs.Sha256.{hash_after, initial_hash_256, padded_message}
use Rattle.sha256_lanes.specs.Lanes.{lane}
use Rattle.sha256_lanes.proofs.messages.digests_of_four.Given as goal

abbrev pub invariant-turns : goal.invariant-turns
invariant-turns l =
    (j : ℕ) → j < 4 → lane j l.h ≡ hash_after initial_hash_256 (padded_message (slice_index_or (l.first ∷ l.second ∷ l.third ∷ l.fourth ∷ []) j [])) l.n
