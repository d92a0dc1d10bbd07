use Rattle.std.proofs.Common.{arith, suc, ◌≡◌, ◌+◌, ◌-◌, [], ◌∷◌, length, map, None, Some, sym, refl, ap, ◌∙◌, subst}
use Rattle.std.specs.List.{All, range_with_len}
use Rattle.std.proofs.lemmas.List.{length-append}
use Rattle.std.proofs.lemmas.List.Elements.{All-append}
use Rattle.cp_gate.specs.Models.{IsNewSeatOf}
use Rattle.cp_gate.proofs.Words.{splits}
use Rattle.cp_gate.proofs.Ends.{deals}
use Rattle.cp_gate.proofs.Seats.{kept_as, dealt_none, dealt_one, dealt_rest, dealt_me, length-zeros, map_snoc, range_next}
use Rattle.table_views.proofs.Views.{all_one}
use Rattle.cp_gate.proofs.gate.Gate.deal.Goals as goal

pub loop-number-init : goal.loop-number-init
loop-number-init g c = let nil = c.requires.room.0 in let e = ap (λ l. length l) nil in (c.requires.first.0, dealt_none _ _ _ _ _ _ _ c.requires.first.2, e, λ k d l. absurd (omega (arith, e, l)), ap (λ l. map (λ s. s.number) l) nil, refl)

pub split_seat-seat-requires : goal.split_seat-seat-requires
split_seat-seat-requires g c = let i = c.loop-number.invariant in let low = c.loop-number-test.true in
    let next : c.args.seats - c.loop-number.number ≡ suc (c.args.seats - (c.loop-number.number + 1)) = omega (arith, low) in let is = dealt_one _ _ _ _ _ _ _ _ _ next i.1 in (
      i.0 ∙ sym (ap (λ s. s.table) c.self.view_is),
      c.self.invariant.3,
      splits _ _ _ _ _ _ (deals g.T.StandsFor.fits g.T.StandsFor.history g.T.StandsFor.names _ _ _ _ _ _ _ _ (ap (λ z. z.0.identities) is) (ap (λ z. z.0.entered) is) (ap (λ z. z.0.notes) is)),
    )

pub push_reserved-requires : goal.push_reserved-requires
push_reserved-requires g c = let i = c.loop-number.invariant in let low = c.loop-number-test.true in let room = c.requires.room.1 in let cap = i.5 in let n = i.2 in omega (arith, low, room, cap, n)

pub invariant_of-push_reserved : goal.invariant_of-push_reserved
invariant_of-push_reserved g c = let i = c.loop-number.invariant in let low = c.loop-number-test.true in
    let next : c.args.seats - c.loop-number.number ≡ suc (c.args.seats - (c.loop-number.number + 1)) = omega (arith, low) in let is = dealt_one _ _ _ _ _ _ _ _ _ next i.1 in
    let slots = ap (λ t. t.slots) (c.split_seat-seat.ensures.3 ∙ i.0) in
    (_, kept_as _ _ _ _ _ _ _ _ _ _ (dealt_me _ _ _ _ _ _ _ _ _ is c.split_seat-seat.ensures.4) (λ p (e : None ≡ Some p). absurd (cc)) (c.requires.first.1 ∙ sym slots) (length-zeros _ ∙ (c.requires.first.1 ∙ sym slots)))

pub loop-number-preserved : goal.loop-number-preserved
loop-number-preserved g c = let i = c.loop-number.invariant in let low = c.loop-number-test.true in
    let next : c.args.seats - c.loop-number.number ≡ suc (c.args.seats - (c.loop-number.number + 1)) = omega (arith, low) in let is = dealt_one _ _ _ _ _ _ _ _ _ next i.1 in
    let me = dealt_me _ _ _ _ _ _ _ _ _ is c.split_seat-seat.ensures.4 in
    let more = c.push_reserved.ensures.items in (
      c.split_seat-seat.ensures.0 ∙ i.0,
      dealt_rest _ _ _ _ _ _ _ _ _ is c.split_seat-seat.ensures.2,
      ap (λ l. length l) more ∙ (length-append c.loop-number.all.items _ ∙ ap (λ n. n + 1) i.2),
      subst (All (IsNewSeatOf c.args.self.now)) (sym more)
          (All-append (IsNewSeatOf c.args.self.now) c.loop-number.all.items _ i.3
          (all_one (IsNewSeatOf c.args.self.now) _
          ((c.split_seat-seat.ensures.3 ∙ i.0, ap (λ m. m.0.key) me), ap (λ m. Rattle.cp_gate.specs.Rule.first_seen m.0.identities) me, ap (λ m. m.0.turns) me, ap (λ m. m.0.entered) me))),
      ap (λ l. map (λ s. s.number) l) more ∙ (map_snoc (λ s. s.number) c.loop-number.all.items _ ∙ ((λ k. Rattle.std.proofs.Common.◌++◌ (i.4 k) (c.loop-number.number ∷ [])) ∙ sym (range_next c.loop-number.number))),
      c.push_reserved.ensures.capacity ∙ i.5,
    )

pub returns : goal.returns
returns g c = let i = c.loop-number.invariant in let z : c.loop-number.number ≡ c.args.seats = omega arith in (i.2 ∙ z, i.3, i.4 ∙ ap (range_with_len 0) z)
