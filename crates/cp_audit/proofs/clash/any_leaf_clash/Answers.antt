use Rattle.std.proofs.Common.{◌≡◌, List, [], ◌++◌, Option, None, ap, sym, ◌∙◌}
use Rattle.std.specs.Prelude.{option_map, map}
use Rattle.std.specs.Ordering.{nat_cmp}
use Rattle.cp_chain.specs.Rules.{or_else}
use Rattle.cp_statements.specs.Envelope.{Envelope}
use Rattle.cp_statements.specs.View.{envelope_view}
use Rattle.cp_evidence.specs.Material.{closing_envelopes}
use Rattle.cp_evidence.specs.Verdict.{clash, same_leaf}
use Rattle.cp_evidence.specs.declared.two.Two.{Two}
use Rattle.cp_audit.specs.Firsts.{differ, leaf_key, pair_view, same_by}
use Rattle.cp_audit.specs.Given.{given_view}
use Rattle.cp_audit.proofs.KeyLemmas.{leaf_clash_is}
use Rattle.cp_audit.proofs.PassLemmas.{clash_then, on_ok}
use Rattle.cp_audit.proofs.clash.any_leaf_clash.Goals as goal

-- a clash among the first of two lists, and then in both
among_both : (cs ys : List Envelope) (given found : Option (Envelope × Envelope)) → given ≡ clash (differ (same_by nat_cmp) leaf_key) [] cs → found ≡ or_else given (clash (differ (same_by nat_cmp) leaf_key) cs ys) → found ≡ clash same_leaf [] (cs ++ ys)
among_both cs ys given found first is =
    is ∙ ap (λ (o : Option (Envelope × Envelope)). or_else o (clash (differ (same_by nat_cmp) leaf_key) cs ys)) first ∙ sym (clash_then (differ (same_by nat_cmp) leaf_key) [] cs ys) ∙ leaf_clash_is [] (cs ++ ys)

pub returns : goal.returns
returns c =
    let cs = closing_envelopes (given_view c.args.o.now) in
    let ys = map envelope_view c.args.xs.now in
    let none : None ≡ clash (differ (same_by nat_cmp) leaf_key) [] cs = ap (option_map pair_view) (sym c.in-None.is) ∙ c.in_ok-two.ensures.found in
    on_ok _ (λ (two : Option Two). option_map pair_view two ≡ clash same_leaf [] (cs ++ ys))
    (λ two h. among_both cs ys None (option_map pair_view two) none (h cs (c.in_ok-two.ensures.kept c.in-None.is))) c.leaf_clash.result c.leaf_clash.ensures.found
