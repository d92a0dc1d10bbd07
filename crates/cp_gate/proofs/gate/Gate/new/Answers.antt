use Rattle.std.proofs.Common.{rules, arith, ◌≤◌, List, [], length, map, vec_capacity, Some, sym, refl, ap, ◌∙◌, subst}
use Rattle.std.specs.Prelude.{slice_index}
use lib.ListN.{get_elem?}
use Rattle.atomic_table.specs.Table.{opening}
use Rattle.cp_gate.specs.Words.{word_of, words_from, Spaced}
use Rattle.cp_gate.specs.Rule.{first_view, InTurn}
use Rattle.cp_gate.specs.Models.{starts}
use Rattle.cp_gate.proofs.Ends.{begins, length-starts}
use Rattle.cp_gate.proofs.Words.{length-words_from, first_at}
use Rattle.cp_gate.proofs.Unloads.{length_somes, within_list}
use Rattle.cp_gate.proofs.gate.Gate.new.Goals as goal

pub words_of-requires : goal.words_of-requires
words_of-requires g c p x e = c.requires.values p x (ap (λ l. get_elem? l p) (sym c.as_slice.ensures.value) ∙ e)

pub returns-in_default-clause-back : goal.returns-in_default-clause-back
returns-in_default-clause-back g c = (refl, refl)

pub returns-in_default-with_capacity-clause-back : goal.returns-in_default-with_capacity-clause-back
returns-in_default-with_capacity-clause-back g c = (refl, refl)

pub returns-in_default-with_capacity-2-clause-back : goal.returns-in_default-with_capacity-2-clause-back
returns-in_default-with_capacity-2-clause-back g c = (refl, refl)

pub stow-slots-requires : goal.stow-slots-requires
stow-slots-requires g c = record { room = (c.in-Ok-with_capacity-2.ensures.items, (let e = c.in-Ok-with_capacity-2.ensures.exact in let n = c.len.ensures in let l = c.as_slice.ensures.len in let v = ap (λ l. length l) c.as_slice.ensures.value in omega (arith, e, n, l, v))) }

pub new-requires : goal.new-requires
new-requires g c = let F = g.T.StandsFor.fits in let H = g.T.StandsFor.history in let N = g.T.StandsFor.names in let w = c.in-Ok.ensures in let of = c.as_slice.ensures.value in let now = c.as_slice-2.ensures.value in
    subst (λ (z : g.row.T-Key.Denot × List g.row.T.Denot). Spaced (length z.1) (InTurn (F z.0) (H z.0) (N z.0) z.0 (length z.1) c.args.seats (starts (H z.0) 0 z.1)) (opening c.as_slice-2.result.now c.stow-slots.result.0.items (first_view z.0 c.args.seats (starts (H z.0) 0 z.1))))
    (λ i. (sym c.of.ensures i, sym (ap (λ v. v.items) c.of-2.ensures) i))
    record {
      wide = ap (λ l. length l) now ∙ (w.0 ∙ ap (λ l. word_of (length l)) of);
      kept = begins F H N c.args.key c.args.seats c.args.values.items (words_from c.as_slice-2.result.now 0 (length c.args.values.items)) c.stow-slots.result.0.items (length-words_from c.as_slice-2.result.now 0 (length c.args.values.items)) c.stow-slots.ensures.slots
          (λ p x e. ((c.requires.values p x e).0, first_at c.as_slice-2.result.now (length c.args.values.items) p (within_list c.args.values.items p x e) ∙ (ap (λ l. slice_index l (word_of p)) now ∙ w.1 p x (ap (λ l. get_elem? l p) of ∙ e))));
    }

pub invariant_of-gate : goal.invariant_of-gate
invariant_of-gate g c = let ok = c.in-Ok-new.ensures.ok in let w = c.in-Ok.ensures in let of = c.as_slice.ensures.value in let now = c.as_slice-2.ensures.value in
    let vals = ap (λ a. a.values.value.items) ok.5 ∙ ap (λ v. v.items) c.of-2.ensures in
    let wl = ap (λ l. length l) now ∙ (w.0 ∙ ap (λ l. word_of (length l)) of) in
    let n = ap (λ l. length l) vals in let some_value = c.requires.counts.0 in let o0 = ok.0 in (
      ap (λ a. a.key.value) ok.5 ∙ c.of.ensures,
      ok.0 ∙ (wl ∙ ap word_of (sym n)),
      ok.1 ∙ (ap (λ l. length l) c.stow-slots.ensures.slots ∙ (length_somes c.args.values.items ∙ sym n)),
      omega (arith, o0, wl, some_value),
    )

pub deal-all-requires-clause-room : goal.deal-all-requires-clause-room
deal-all-requires-clause-room g c = (c.in-Ok-with_capacity.ensures.items, (let e = c.in-Ok-with_capacity.ensures.exact in omega (arith, e)))

pub deal-all-requires-clause-first : goal.deal-all-requires-clause-first
deal-all-requires-clause-first g c = let ok = c.in-Ok-new.ensures.ok in let H = g.T.StandsFor.history in let w = c.in-Ok.ensures in let of = c.as_slice.ensures.value in let now = c.as_slice-2.ensures.value in
    let vals = ap (λ a. a.values.value.items) ok.5 ∙ ap (λ v. v.items) c.of-2.ensures in
    let slots = ok.1 ∙ (ap (λ l. length l) c.stow-slots.ensures.slots ∙ length_somes c.args.values.items) in (
      ok.2,
      length-starts (H c.args.key) 0 _ ∙ (ap (λ l. length l) vals ∙ sym slots),
      ok.4 ∙ (λ i. (first_view (c.of.ensures i) c.args.seats (starts (H (c.of.ensures i)) 0 (sym (ap (λ a. a.values.value.items) ok.5) i)), [])),
    )

pub returns-in-Ok-new-clause-gate : goal.returns-in-Ok-new-clause-gate
returns-in-Ok-new-clause-gate g c = let ok = c.in-Ok-new.ensures.ok in let w = c.in-Ok.ensures in let of = c.as_slice.ensures.value in let now = c.as_slice-2.ensures.value in
    let vals = ap (λ a. a.values.value.items) ok.5 ∙ ap (λ v. v.items) c.of-2.ensures in
    (refl, ap (λ a. a.seats) ok.5, ok.1 ∙ (ap (λ l. length l) c.stow-slots.ensures.slots ∙ length_somes c.args.values.items), ap (λ l. starts (g.T.StandsFor.history c.args.key) 0 l) vals)

pub returns-in-Ok-new-clause-seats : goal.returns-in-Ok-new-clause-seats
returns-in-Ok-new-clause-seats g c = let ok = c.in-Ok-new.ensures.ok in let d = c.deal-all.ensures in (d.0, d.1, d.2)

pub unstow-values-requires-clause-slots : goal.unstow-values-requires-clause-slots
unstow-values-requires-clause-slots g c = c.in-Err.ensures.err ∙ (c.stow-slots.ensures.slots ∙ ap (λ v. map (λ x. Some x) v.items) (sym c.of-were.ensures))

pub unstow-values-requires-clause-room : goal.unstow-values-requires-clause-room
unstow-values-requires-clause-room g c = let cap : length c.args.values.items ≤ vec_capacity c.args.values = search rules in let same = c.stow-slots.ensures.room.1 in let n = ap (λ v. length v.items) c.of-were.ensures in (c.stow-slots.ensures.room.0, omega (arith, cap, same, n))

pub returns-clause-back : goal.returns-clause-back
returns-clause-back g c = (refl, c.unstow-values.ensures ∙ ap (λ v. v.items) c.of-were.ensures)

pub destroy_empty-requires : goal.destroy_empty-requires
destroy_empty-requires g c = let none = c.stow-slots.ensures.room.0 in search rules
