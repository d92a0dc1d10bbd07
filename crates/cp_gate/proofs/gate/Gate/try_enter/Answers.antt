use Rattle.std.proofs.Common.{◌≡◌, Some, None, ◌∷◌, length, length-set, arith, sym, refl, ap, ◌∙◌, subst}
use Rattle.std.specs.Option.{IsSome}
use Rattle.atomic_table.specs.Table.{rest}
use Rattle.cp_gate.proofs.PlaceSteps.{enters_at}
use Rattle.cp_gate.proofs.Steps.{first_value}
use Rattle.cp_gate.proofs.Seats.{match_hit, match_miss, key_of, key_stays, seat_in, kept_as, same_is, entering_is, facts_move, taken_out, entering_facts}
use Rattle.cp_gate.proofs.gate.Gate.try_enter.Goals as goal

pub compare_exchange-requires : goal.compare_exchange-requires
compare_exchange-requires g c = let table = ap (λ s. s.table) c.self.view_is in let slots = ap (λ s. s.table.slots) c.self.view_is in let i = c.self.invariant in let at = c.requires.place in
    let out = ap (λ s. s.entered) c.seat.view_is ∙ c.requires.free in (
      ap (λ s. s.table) c.seat.view_is ∙ (c.requires.seat.0 ∙ sym table),
      omega (arith, slots, at, i.1, i.2),
      enters_at g.T.StandsFor.fits g.T.StandsFor.history g.T.StandsFor.names _ _ _ _ _ _ c.args.place _ _ _ _ _ _ (seat_in _ _ _ _ _ _ _ _ c.seat.invariant.1 out) (omega (arith, slots, at, i.2)) c.requires.word.0,
    )

pub invariant_of-seat : goal.invariant_of-seat
invariant_of-seat g c = let out = ap (λ s. s.entered) c.seat.view_is ∙ c.requires.free in let is = seat_in _ _ _ _ _ _ _ _ c.seat.invariant.1 out in
    let same = match_miss _ _ _ _ c.if-compare_exchange-word.true (c.compare_exchange.ensures.2 c.args.place refl _ _ _ _ (ap (λ m. m.0) is)) in
    (c.seat.invariant.0, kept_as _ _ _ _ _ _ _ _ _ _ (same ∙ is) (λ p (e : None ≡ Some p). absurd (cc)) (c.seat.invariant.1.2 ∙ sym (ap (λ t. t.slots) c.compare_exchange.ensures.0)) (c.seat.invariant.1.3 ∙ sym (ap (λ t. t.slots) c.compare_exchange.ensures.0)))

pub returns-then-compare_exchange-word : goal.returns-then-compare_exchange-word
returns-then-compare_exchange-word g c = let out = ap (λ s. s.entered) c.seat.view_is ∙ c.requires.free in let is = seat_in _ _ _ _ _ _ _ _ c.seat.invariant.1 out in
    let same = match_miss _ _ _ _ c.if-compare_exchange-word.true (c.compare_exchange.ensures.2 c.args.place refl _ _ _ _ (ap (λ m. m.0) is)) in
    same_is _ _ _ _ _ _ _ _ c.seat.view_is c.compare_exchange.ensures.0 (ap (λ m. m.0.key) same) (ap (λ m. m.0) same)

pub exchange-requires : goal.exchange-requires
exchange-requires g c = let table = ap (λ s. s.table) c.self.view_is in
    let out = ap (λ s. s.entered) c.seat.view_is ∙ c.requires.free in let is = seat_in _ _ _ _ _ _ _ _ c.seat.invariant.1 out in
    let hit = match_hit _ _ _ _ c.if-compare_exchange-word.false (c.compare_exchange.ensures.2 c.args.place refl _ _ _ _ (ap (λ m. m.0) is)) in let carried = ap (λ m. m.1) hit.1 in (
      c.compare_exchange.ensures.0 ∙ (ap (λ s. s.table) c.seat.view_is ∙ (c.requires.seat.0 ∙ sym table)),
      (Some hit.0, carried ∙ ap (λ l. (c.args.place, Some hit.0) ∷ rest l) (sym carried)),
    )

pub unwrap-value-requires : goal.unwrap-value-requires
unwrap-value-requires g c =
    let out = ap (λ s. s.entered) c.seat.view_is ∙ c.requires.free in let is = seat_in _ _ _ _ _ _ _ _ c.seat.invariant.1 out in
    let hit = match_hit _ _ _ _ c.if-compare_exchange-word.false (c.compare_exchange.ensures.2 c.args.place refl _ _ _ _ (ap (λ m. m.0) is)) in let carried = ap (λ m. m.1) hit.1 in
    let was : Some hit.0 ≡ c.exchange.result = ap first_value (sym carried ∙ c.exchange.ensures.2) in subst IsSome was refl

pub invariant_of-seat-2 : goal.invariant_of-seat-2
invariant_of-seat-2 g c =
    let slots = ap (λ s. s.table.slots) c.self.view_is in let at = c.requires.place in let table = ap (λ s. s.table.slots) c.seat.view_is ∙ ap (λ t. t.slots) c.requires.seat.0 in let kept = ap (λ t. t.slots) c.exchange.ensures.0 ∙ ap (λ t. t.slots) c.compare_exchange.ensures.0 in
    let out = ap (λ s. s.entered) c.seat.view_is ∙ c.requires.free in let is = seat_in _ _ _ _ _ _ _ _ c.seat.invariant.1 out in
    let hit = match_hit _ _ _ _ c.if-compare_exchange-word.false (c.compare_exchange.ensures.2 c.args.place refl _ _ _ _ (ap (λ m. m.0) is)) in (
      c.seat.invariant.0,
      kept_as _ _ _ _ _ _ _ _ _ _ (taken_out _ _ _ _ _ _ _ _ _ _ _ _ (ap (λ m. m.1) is) hit.1 c.exchange.ensures.3)
          (λ p (e : Some c.args.place ≡ Some p). let same : c.args.place ≡ p = cc in omega (arith, same, at, table, kept)) (length-set _ c.args.place _ ∙ (c.seat.invariant.1.2 ∙ sym kept)) (length-set _ c.args.place _ ∙ (c.seat.invariant.1.3 ∙ sym kept)),
    )

pub returns : goal.returns
returns g c =
    let out = ap (λ s. s.entered) c.seat.view_is ∙ c.requires.free in let is = seat_in _ _ _ _ _ _ _ _ c.seat.invariant.1 out in
    let hit = match_hit _ _ _ _ c.if-compare_exchange-word.false (c.compare_exchange.ensures.2 c.args.place refl _ _ _ _ (ap (λ m. m.0) is)) in let carried = ap (λ m. m.1) hit.1 in
    let was : Some hit.0 ≡ c.exchange.result = ap first_value (sym carried ∙ c.exchange.ensures.2) in
    let value : hit.0 ≡ c.unwrap-value.result = cc (was, c.unwrap-value.ensures) in
    let key = key_of _ _ _ _ _ _ _ _ _ c.seat.invariant.1 (ap (λ s. s.key) c.seat.view_is) c.requires.seat.1 in
    let facts = facts_move g.T.StandsFor.fits g.T.StandsFor.history g.T.StandsFor.names _ _ _ _ _ _ c.args.place _ _ key (ap (λ s. s.number) c.seat.view_is) (ap (λ s. s.seen) c.seat.view_is) value hit.2 hit.3 in
    let now = entering_is c.seat.inside.seat.table_id c.exchange.new.seat.table_id c.seat.inside.seat.me.0.key c.exchange.new.seat.me.0.key c.seat.invariant.0 c.seat.inside.number c.seat.inside.seat.me.0 c.exchange.new.seat.me.0 c.args.seat.now c.args.place _ _ c.seat.view_is (c.exchange.ensures.0 ∙ c.compare_exchange.ensures.0) (key_stays _ _ _ _ _ _ _ _ _ _ _ _ c.seat.invariant.1 (ap (λ m. m.0) c.exchange.ensures.3 ∙ ap (λ m. m.0) hit.1)) (ap (λ m. m.0) c.exchange.ensures.3 ∙ ap (λ m. m.0) hit.1) (λ i. g.T.StandsFor.history (key i) c.args.place (value i)) in
    let slots = ap (λ s. s.table.slots) c.seat.view_is ∙ ap (λ t. t.slots) c.requires.seat.0 in let low = c.requires.place in let sized = c.seat.invariant.1.2 in let turned = c.seat.invariant.1.3 in
    let seen = ap (λ s. length s.seen) c.seat.view_is in let turns = ap (λ s. length s.turns) c.seat.view_is in
    let more = entering_facts c.args.seat.now _ c.args.place _ now (omega (arith, slots, low, turned, turns)) (omega (arith, slots, low, sized, seen)) in (
      refl,
      facts.0,
      facts.1,
      now,
      more.0,
      more.1,
    )
