use Rattle.std.proofs.Common.{◌∙◌, ap, sym, string_bytes}
use Rattle.std.specs.Prelude.{bytes_eq}
use Rattle.cp_words.proofs.PairLemmas.{value_in_next}
use Rattle.cp_words.proofs.options.value_in.Goals as goal

pub loop-rest-preserved : goal.loop-rest-preserved
loop-rest-preserved c =
    value_in_next string_bytes c.loop-rest.rest.now c.first-item.result _ c.args.name.now c.in-len2-up.len_at_least c.first-item.is
    (ap (λ t. bytes_eq t c.args.name.now) (sym c.as_str.ensures.value) ∙ sym (c.if-is_name.ensures))
    ∙ c.loop-rest.invariant
