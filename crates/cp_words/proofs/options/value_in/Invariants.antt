use Rattle.std.proofs.Common.{◌≡◌, map, string_bytes, length}
use Rattle.cp_words.specs.Pairs.{value_in}
use Rattle.cp_words.proofs.options.value_in.Given as goal

abbrev pub invariant-loop-rest : goal.invariant-loop-rest
invariant-loop-rest l = value_in (map string_bytes l.rest) l.fn.name ≡ value_in (map string_bytes l.fn.words) l.fn.name

abbrev pub decreases-loop-rest : goal.decreases-loop-rest
decreases-loop-rest l = length l.rest
