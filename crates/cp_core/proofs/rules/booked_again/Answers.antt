use Rattle.std.proofs.Common.{ℕ, List, ap, sym, ◌∙◌}
use Rattle.cp_statements.specs.Attestation.{attestation_text}
use Rattle.cp_statements.specs.View.{entry_view}
use Rattle.cp_tips.specs.Tip.{Tip}
use Rattle.cp_core.specs.Calls.{attested, text_again}
use Rattle.cp_core.proofs.RuleLemmas.{again_text, in_place, stands_before}
use Rattle.cp_core.proofs.rules.booked_again.Goals as goal

pub tip_of-requires : goal.tip_of-requires
tip_of-requires c = stands_before c.args.items.now c.args.at c.requires.row.0 c.requires.stands

pub attested-requires : goal.attested-requires
attested-requires c = (in_place c.args.items.now c.args.at c.args.leaf c.args.text.now (entry_view c.args.entry.now) c.requires.stands c.requires.row c.requires.spells).spells.spelled

pub returns : goal.returns
returns c =
    let e = entry_view c.args.entry.now in
    let signed = c.text-signed.ensures ∙ ap attestation_text c.attested.ensures ∙ ap (λ (t : Tip). attestation_text (attested c.args.store.now t.head e)) c.tip_of.ensures
    ∙ sym (again_text c.args.store.now c.args.items.now c.args.at c.args.leaf c.args.text.now e c.requires.stands c.requires.row c.requires.spells) in
    c.new.ensures ∙ ap (λ (t : List ℕ). record { leaf = c.args.leaf; text = t; content = c.in_ok-content.content }) signed
    ∙ ap (λ (t : List ℕ). record { leaf = c.args.leaf; text = text_again c.args.store.now c.args.items.now e; content = t }) (c.in_ok-content.ensures)
