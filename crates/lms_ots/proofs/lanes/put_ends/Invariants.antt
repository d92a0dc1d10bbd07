use Rattle.std.proofs.Common.{◌≡◌, ℕ, ◌<◌, [], slice_index_or}
use Rattle.lms_ots.specs.Ots.{y_at}
use Rattle.lms_ots.proofs.lanes.put_ends.Given as goal

abbrev pub invariant-values : goal.invariant-values
invariant-values l = (k : ℕ) → k < l.i → slice_index_or l.values k [] ≡ y_at l.sig k
