use Rattle.std.proofs.Common.{◌≡◌, Some, None, ◌∷◌, length, length-set, arith, sym, refl, ap, ◌∙◌}
use Rattle.cp_gate.proofs.PlaceSteps.{leaves_at}
use Rattle.cp_gate.proofs.Seats.{key_of, key_stays, seat_in, kept_as, leaving_is, owns_move, put_in, leaving_facts}
use Rattle.cp_gate.proofs.gate.Gate.put_back.Goals as goal

pub exchange-empty-requires : goal.exchange-empty-requires
exchange-empty-requires g c = let table = ap (λ s. s.table) c.self.view_is in let is = seat_in _ _ _ _ _ _ _ _ c.seat.invariant.1 (ap (λ s. s.entered) c.seat.view_is ∙ c.requires.entered) in
    let carried = ap (λ m. m.1) is in (ap (λ s. s.table) c.seat.view_is ∙ (c.requires.seat.0 ∙ sym table), (None, carried ∙ ap (λ l. (c.args.place, None) ∷ Rattle.atomic_table.specs.Table.rest l) (sym carried)))

pub store-requires : goal.store-requires
store-requires g c =
    let table = ap (λ s. s.table) c.self.view_is in let same = ap (λ s. s.table) c.seat.view_is ∙ (c.requires.seat.0 ∙ sym table) in let slots = ap (λ t. t.slots) same in let i = c.self.invariant in
    let there = ap (λ s. s.entered) c.seat.view_is ∙ c.requires.entered in let is = seat_in _ _ _ _ _ _ _ _ c.seat.invariant.1 there in
    let at = c.seat.invariant.1.1 c.args.place there in
    let key = key_of _ _ _ _ _ _ _ _ _ c.seat.invariant.1 (ap (λ s. s.key) c.seat.view_is) c.requires.seat.1 in
    let own = owns_move g.T.StandsFor.fits g.T.StandsFor.history g.T.StandsFor.names _ _ _ _ _ _ c.args.place c.args.value (sym key) (sym (ap (λ s. s.number) c.seat.view_is)) (sym (ap (λ s. s.seen) c.seat.view_is)) c.requires.fits c.requires.own in
    let count = c.items-word.ensures c.args.self.now.key c.args.place c.requires.fits in
    let count' = ap (λ k. length (g.T.StandsFor.history k c.args.place c.args.value)) key in (
      c.exchange-empty.ensures.0 ∙ same,
      omega (arith, slots, at, i.1, i.2),
      leaves_at g.T.StandsFor.fits g.T.StandsFor.history g.T.StandsFor.names _ _ _ _ _ _ c.args.place _ _ _ _ _ _ c.args.value (omega (arith, slots, at, i.2)) (put_in _ _ _ _ _ _ _ _ _ _ c.args.value is c.exchange-empty.ensures.3) own.0 own.1 (omega (arith, count, count')),
    )

pub wake-requires : goal.wake-requires
wake-requires g c = let at = c.seat.invariant.1.1 c.args.place (ap (λ s. s.entered) c.seat.view_is ∙ c.requires.entered) in let slots = ap (λ s. s.table.slots) c.seat.view_is ∙ ap (λ t. t.slots) c.requires.seat.0 in omega (arith, at, slots)

pub invariant_of-seat : goal.invariant_of-seat
invariant_of-seat g c =
    let is = seat_in _ _ _ _ _ _ _ _ c.seat.invariant.1 (ap (λ s. s.entered) c.seat.view_is ∙ c.requires.entered) in
    let left = c.store.ensures.2 c.args.place refl _ _ _ _ _ (put_in _ _ _ _ _ _ _ _ _ _ c.args.value is c.exchange-empty.ensures.3) in
    (c.seat.invariant.0, kept_as _ _ _ _ _ _ _ _ _ _ left (λ p (e : None ≡ Some p). absurd (cc)) (length-set _ c.args.place _ ∙ (c.seat.invariant.1.2 ∙ sym (ap (λ t. t.slots) (c.store.ensures.0 ∙ c.exchange-empty.ensures.0)))) (c.seat.invariant.1.3 ∙ sym (ap (λ t. t.slots) (c.store.ensures.0 ∙ c.exchange-empty.ensures.0))))

pub returns-clause-seat : goal.returns-clause-seat
returns-clause-seat g c =
    let is = seat_in _ _ _ _ _ _ _ _ c.seat.invariant.1 (ap (λ s. s.entered) c.seat.view_is ∙ c.requires.entered) in
    let left = c.store.ensures.2 c.args.place refl _ _ _ _ _ (put_in _ _ _ _ _ _ _ _ _ _ c.args.value is c.exchange-empty.ensures.3) in
    let key = key_of _ _ _ _ _ _ _ _ _ c.seat.invariant.1 (ap (λ s. s.key) c.seat.view_is) c.requires.seat.1 in
    leaving_is c.seat.inside.seat.table_id c.store.new.seat.table_id c.seat.inside.seat.me.0.key c.store.new.seat.me.0.key c.seat.invariant.0 c.seat.inside.number c.seat.inside.seat.me.0 c.store.new.seat.me.0 c.args.seat.now c.args.place _ _ c.seat.view_is
    (c.store.ensures.0 ∙ c.exchange-empty.ensures.0) (key_stays _ _ _ _ _ _ _ _ _ _ _ _ c.seat.invariant.1 (ap (λ m. m.0) left)) (ap (λ m. m.0) left) (λ i. g.T.StandsFor.history (key i) c.args.place c.args.value)

pub returns-clause-here : goal.returns-clause-here
returns-clause-here g c =
    let is = seat_in _ _ _ _ _ _ _ _ c.seat.invariant.1 (ap (λ s. s.entered) c.seat.view_is ∙ c.requires.entered) in
    let left = c.store.ensures.2 c.args.place refl _ _ _ _ _ (put_in _ _ _ _ _ _ _ _ _ _ c.args.value is c.exchange-empty.ensures.3) in
    let key = key_of _ _ _ _ _ _ _ _ _ c.seat.invariant.1 (ap (λ s. s.key) c.seat.view_is) c.requires.seat.1 in
    let there = ap (λ s. s.entered) c.seat.view_is ∙ c.requires.entered in let at = c.seat.invariant.1.1 c.args.place there in let sized = c.seat.invariant.1.2 in let seen = ap (λ s. length s.seen) c.seat.view_is in
    leaving_facts c.args.seat.now _ c.args.place _ (leaving_is c.seat.inside.seat.table_id c.store.new.seat.table_id c.seat.inside.seat.me.0.key c.store.new.seat.me.0.key c.seat.invariant.0 c.seat.inside.number c.seat.inside.seat.me.0 c.store.new.seat.me.0 c.args.seat.now c.args.place _ _ c.seat.view_is (c.store.ensures.0 ∙ c.exchange-empty.ensures.0) (key_stays _ _ _ _ _ _ _ _ _ _ _ _ c.seat.invariant.1 (ap (λ m. m.0) left)) (ap (λ m. m.0) left) (λ i. g.T.StandsFor.history (key i) c.args.place c.args.value)) (omega (arith, at, sized, seen))
