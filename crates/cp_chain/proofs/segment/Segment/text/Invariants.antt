use Rattle.std.proofs.Common.{◌≡◌, drop}
use Rattle.cp_chain.proofs.segment.Segment.text.Given as goal

-- those before are gone
abbrev pub invariant-loop : goal.invariant-loop
invariant-loop l = l.texts ≡ drop l.counter l.self
