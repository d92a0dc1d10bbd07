use Rattle.std.proofs.Common.{◌≡◌, ◌++◌, flat_map, take}
use Rattle.std.specs.Int.{w64, to_be_bytes}
use Rattle.cp_evidence.proofs.layout.push_numbers.Given as goal

-- the numbers so far stand behind what was there
abbrev pub invariant-loop-number : goal.invariant-loop-number
invariant-loop-number l = l.out.items ≡ l.initial.out.items ++ flat_map (to_be_bytes w64) (take l.number-index l.numbers)
