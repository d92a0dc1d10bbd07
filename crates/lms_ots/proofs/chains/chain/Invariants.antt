use Rattle.std.proofs.Common.{◌≡◌, ◌-◌, take}
use Rattle.lms_ots.specs.Ots.{steps, tagged}
use Rattle.lms_ots.proofs.chains.chain.Given as goal

abbrev pub invariant-loop-j : goal.invariant-loop-j
invariant-loop-j l = record {
  prefix : take 22 l.message ≡ tagged l.id l.q l.i;
  value : l.value ≡ steps l.id l.q l.i l.from (l.j - l.from) l.fn.start;
}
