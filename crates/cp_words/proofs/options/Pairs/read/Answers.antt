use Rattle.std.proofs.Common.{◌≡◌, ◌∙◌, sym, map, string_bytes, false, refl}
use Rattle.cp_words.specs.Pairs.{names_in, are_pairs}
use Rattle.cp_words.proofs.PairLemmas.{one_word}
use Rattle.cp_words.proofs.options.Pairs.read.Goals as goal

pub returns-else-is_empty : goal.returns-else-is_empty
returns-else-is_empty c =
    let names = names_in c.args.names.now in
    let refused : are_pairs names (map string_bytes c.args.words.now) ≡ false =
    sym c.loop-rest.invariant ∙ one_word string_bytes names c.loop-rest.rest.now c.in_default.len_below (sym c.if-is_empty.ensures) in
    rw refused refl
