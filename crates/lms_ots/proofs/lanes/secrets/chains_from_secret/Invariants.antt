use Rattle.std.proofs.Common.{◌≡◌, ℕ, ◌*◌, ◌<◌, [], length, slice_index_or}
use Rattle.lms_ots.specs.Ots.{chain}
use Rattle.lms_ots.specs.Signing.{secret_start}
use Rattle.lms_ots.proofs.lanes.secrets.chains_from_secret.Given as goal

abbrev pub invariant-groups : goal.invariant-groups
invariant-groups l =
    (k : ℕ) → k < 4 * l.group → k < length l.values → slice_index_or l.values k [] ≡ chain l.id l.q k 0 l.count (secret_start l.id l.q k l.secret)
