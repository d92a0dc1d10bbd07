use Rattle.std.proofs.Common.{◌≡◌, map, string_bytes, length}
use Rattle.cp_words.specs.Pairs.{names_in, are_pairs}
use Rattle.cp_words.proofs.options.Pairs.read.Given as goal

abbrev pub invariant-loop-rest : goal.invariant-loop-rest
invariant-loop-rest l = are_pairs (names_in l.fn.names) (map string_bytes l.rest) ≡ are_pairs (names_in l.fn.names) (map string_bytes l.fn.words)

abbrev pub decreases-loop-rest : goal.decreases-loop-rest
decreases-loop-rest l = length l.rest
