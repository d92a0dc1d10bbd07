use Rattle.std.proofs.Common.{◌≡◌, ℕ, List, [], ◌∷◌, Option, None, ap, subst, sym, ◌∙◌}
use Rattle.std.specs.Prelude.{option_map}
use Rattle.std.specs.Map.{lookup}
use Rattle.std.specs.Ordering.{nat_cmp}
use Rattle.std.specs.BTreeMap.{is_at}
use Rattle.cp_statements.specs.Envelope.{Envelope}
use Rattle.cp_statements.specs.View.{envelope_view}
use Rattle.cp_statements.specs.declared.envelope.Envelope as code
use Rattle.cp_evidence.specs.Material.{closing_envelopes}
use Rattle.cp_evidence.specs.Verdict.{clash}
use Rattle.cp_evidence.specs.declared.two.Two.{Two}
use Rattle.cp_evidence.specs.declared.before.Before.{Before}
use Rattle.cp_audit.specs.Firsts.{KeepsFirsts, differ, kept_in, leaf_key, pair_view, same_by}
use Rattle.cp_audit.specs.Given.{given_view}
use Rattle.cp_evidence.specs.View.{before_view}
use Rattle.cp_audit.proofs.FirstLemmas.{keeps_none}
use Rattle.cp_audit.proofs.PassLemmas.{on_ok}
use Rattle.cp_audit.proofs.clash.given_clash.Goals as goal
use Rattle.cp_audit.proofs.clash.given_clash.Goals.{In-Closing}

-- nothing is kept at first
empty : (c : In-Closing) → KeepsFirsts (same_by nat_cmp) leaf_key [] (kept_in nat_cmp c.args.firsts.now)
empty c = keeps_none (same_by nat_cmp) leaf_key (kept_in nat_cmp c.args.firsts.now) (λ (q : ℕ). ap (λ (es : List (ℕ × code.Envelope)). option_map envelope_view (lookup (is_at (nat_cmp q)) es)) c.requires)

-- the closings are the one before and the one of the epoch
both : (c : In-Closing) → envelope_view c.in-Closing.before.envelope ∷ envelope_view c.args.o.now.closing.envelope ∷ [] ≡ closing_envelopes (given_view c.args.o.now)
both c = ap (λ (b : Before). closing_envelopes (record (given_view c.args.o.now) { before = before_view b })) (sym c.in-Closing.is)

pub returns-in-Closing-clause-found : goal.returns-in-Closing-clause-found
returns-in-Closing-clause-found c =
    on_ok _ (λ (two : Option Two). option_map pair_view two ≡ clash (differ (same_by nat_cmp) leaf_key) [] (closing_envelopes (given_view c.args.o.now)))
    (λ two h. h [] (empty (goal.at.returns-in-Closing-clause-found c).In-Closing) ∙ ap (clash (differ (same_by nat_cmp) leaf_key) []) (both (goal.at.returns-in-Closing-clause-found c).In-Closing)) c.leaf_clash-in-Closing.result c.leaf_clash-in-Closing.ensures.found

pub returns-in-Closing-clause-kept : goal.returns-in-Closing-clause-kept
returns-in-Closing-clause-kept c =
    on_ok _ (λ (two : Option Two). two ≡ None → KeepsFirsts (same_by nat_cmp) leaf_key (closing_envelopes (given_view c.args.o.now)) (kept_in nat_cmp c.leaf_clash-in-Closing.new.firsts))
    (λ two h none. subst (λ (l : List Envelope). KeepsFirsts (same_by nat_cmp) leaf_key l (kept_in nat_cmp c.leaf_clash-in-Closing.new.firsts)) (both (goal.at.returns-in-Closing-clause-kept c).In-Closing) (h [] (empty (goal.at.returns-in-Closing-clause-kept c).In-Closing) none)) c.leaf_clash-in-Closing.result c.leaf_clash-in-Closing.ensures.kept
