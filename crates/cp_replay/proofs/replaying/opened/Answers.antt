use Rattle.std.proofs.Common.{◌≡◌, true, length, ap, refl, subst, sym, ◌∙◌, arith}
use Rattle.sha2.proofs.Facts256.{length-sha256}
use Rattle.lms_tree.specs.PublicKey.{key_reads}
use Rattle.cp_core.specs.Store.{SpellsFamilies, StoreFits}
use Rattle.cp_core.specs.View.{opened}
use Rattle.cp_replay.specs.Keys.{closings_in}
use Rattle.cp_replay.proofs.Opening.{few_leaves, follows_first}
use Rattle.cp_replay.proofs.replaying.opened.Goals as goal

pub open-requires-clause-families : goal.open-requires-clause-families
open-requires-clause-families c = subst SpellsFamilies (sym c.in_ok-families.ensures.text) c.in_ok-families.ensures.spells

pub returns-clause-follows : goal.returns-clause-follows
returns-clause-follows c =
    let is = c.in_ok-store.ensures in
    let few = few_leaves c.args.key.now in
    let closings = c.closings_in-closings.ensures ∙ ap closings_in c.leaves-leaves.ensures in
    let fits : StoreFits c.in_ok-store.store.store = subst (λ s. StoreFits s) (sym (ap (λ x. x.store) is))
    (record {
      id = ap length c.digest-id.ensures ∙ length-sha256 _;
      leaves = omega (arith, c.from.ensures, c.from-2.ensures, c.leaves-leaves.ensures, closings, few.most, few.closings);
      list = subst SpellsFamilies (sym c.in_ok-families.ensures.text) c.in_ok-families.ensures.spells;
    }) in
    follows_first _ _ fits (is ∙ ap opened (sym (ap (λ x. x.store) is))) (sym (ap (λ x. x.store.id) is))
    (sym (ap (λ x. x.store.families) is ∙ c.in_ok-families.ensures.text)) refl c.new.ensures.items c.new-2.ensures.items c.new-3.ensures.items
