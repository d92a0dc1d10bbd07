use Rattle.std.proofs.Common.{◌≡◌, ◌*◌, ◌<◌, ℕ, length}
use Rattle.std.specs.Prelude.{slice_index}
use mathlib.Core.Option.{some}
use lib.ListN.{get_elem?}
use Rattle.cp_gate.specs.Words.{word_of}
use Rattle.cp_gate.proofs.slots.words_of.Given as goal

abbrev pub invariant-loop-value : goal.invariant-loop-value
invariant-loop-value g l = (length l.words.items ≡ word_of l.value-index) × ((p : ℕ) (x : _) → p < l.value-index → get_elem? l.values p ≡ some x → slice_index l.words.items (word_of p) ≡ 2 * length (g.T.StandsFor.history l._key p x))
