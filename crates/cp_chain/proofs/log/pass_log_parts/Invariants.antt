use Rattle.std.proofs.Common.{◌≡◌}
use Rattle.cp_chain.proofs.LogReadings.{LogRead}
use Rattle.cp_chain.proofs.log.pass_log_parts.Given as goal

-- so many parts are read
abbrev pub invariant-parts : goal.invariant-parts
invariant-parts l = record {
  read : LogRead l.counter l.initial.cut.rest l.cut.rest l.before;
  total : l.cut.total ≡ l.initial.cut.total;
}
