use Rattle.std.proofs.Common.{◌≡◌, length}
use Rattle.cp_words.specs.Pairs.{names_in, is_among}
use denote.Shadow.{shadow}
use denote.Text.{Utf8}
use Rattle.cp_words.proofs.options.is_among.Given as goal

abbrev pub invariant-loop-one : goal.invariant-loop-one
invariant-loop-one l = (is_among (names_in l.rest) l.fn.name ≡ is_among (names_in l.fn.names) l.fn.name) × shadow (Utf8 l.rest)

abbrev pub decreases-loop-one : goal.decreases-loop-one
decreases-loop-one l = length l.rest
