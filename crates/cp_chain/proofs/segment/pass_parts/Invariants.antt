use Rattle.std.proofs.Common.{◌≡◌, Ok}
use Rattle.cp_chain.specs.Segment.{parts_at, parts_in}
use Rattle.cp_chain.proofs.segment.pass_parts.Given as goal

-- so many parts are read
abbrev pub invariant-parts : goal.invariant-parts
invariant-parts l = record {
  read : parts_at l.counter l.initial.cut.rest ≡ Ok (parts_in l.counter l.initial.cut.rest, l.cut.rest);
  total : l.cut.total ≡ l.initial.cut.total;
}
