use Rattle.std.proofs.Common.{◌≡◌, ◌++◌, flat_map, take}
use Rattle.cp_bytes.specs.Fields.{part}
use Rattle.cp_evidence.proofs.layout.push_parts.Given as goal

-- the parts so far stand behind what was there
abbrev pub invariant-loop-part : goal.invariant-loop-part
invariant-loop-part l = l.out.items ≡ l.initial.out.items ++ flat_map (λ p. part p.now) (take l.part-index l.parts)
