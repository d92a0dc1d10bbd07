use Rattle.std.proofs.Common.{◌≡◌, ℕ, ◌<◌, length, slice_index}
use Rattle.lms_ots.specs.Lanes.{Advanced}
use Rattle.lms_ots.proofs.lanes.running.advance_all.Given as goal

abbrev pub invariant-turns : goal.invariant-turns
invariant-turns l = record {
  lanes : length l.four ≡ 4;
  chains : (j : ℕ) → j < 4 → slice_index l.four j < length l.values;
  advanced : Advanced l.id l.q l.initial.at l.initial.values l.to l.at l.values;
}
