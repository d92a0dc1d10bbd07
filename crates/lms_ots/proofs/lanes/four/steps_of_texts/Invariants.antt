use Rattle.std.proofs.Common.{◌≡◌, ℕ, ◌<◌, [], List, length, take, slice_index, slice_index_or}
use Rattle.lms_ots.specs.Ots.{steps, tagged}
use Rattle.lms_ots.proofs.lanes.four.steps_of_texts.Given as goal

abbrev pub invariant-steps : goal.invariant-steps
invariant-steps l =
    (id : List ℕ) (q i j : ℕ) → length id ≡ 16 → j < 4 → take 22 (slice_index_or l.texts j []) ≡ tagged id q i
    → (take 22 (slice_index_or l.messages j []) ≡ tagged id q i)
    × (slice_index_or l.values j [] ≡ steps id q i (slice_index l.first j) l.k (slice_index_or l.start j []))
