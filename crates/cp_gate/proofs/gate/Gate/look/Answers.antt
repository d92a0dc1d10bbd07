use Rattle.std.proofs.Common.{length, length-set, arith, sym, refl, ap, ◌∙◌, []}
use Rattle.cp_gate.specs.Histories.{seen_of}
use Rattle.cp_gate.proofs.PlaceSteps.{looks_at}
use Rattle.cp_gate.proofs.Seats.{key_of, key_stays, kept_as, looking_is, read_done, adds_move, looked_at, looked_inside}
use Rattle.cp_gate.proofs.gate.Gate.look.Goals as goal

pub load-requires : goal.load-requires
load-requires g c = let table = ap (λ s. s.table) c.self.view_is in let slots = ap (λ s. s.table.slots) c.self.view_is in let i = c.self.invariant in let at = c.requires.place in (
  ap (λ s. s.table) c.seat.view_is ∙ (c.requires.seat.0 ∙ sym table),
  omega (arith, slots, at, i.1, i.2),
  looks_at g.T.StandsFor.fits g.T.StandsFor.history g.T.StandsFor.names _ _ _ _ _ _ c.args.place _ _ _ _ _ _ (ap (λ m. m.0) c.seat.invariant.1.0) (omega (arith, slots, at, i.2)),
)

pub invariant_of-seat : goal.invariant_of-seat
invariant_of-seat g c = let l = c.load.ensures.2 c.args.place refl _ _ _ _ _ (ap (λ m. m.0) c.seat.invariant.1.0) in let slots = ap (λ t. t.slots) c.load.ensures.0 in
    (c.seat.invariant.0, kept_as _ _ _ _ _ _ _ _ _ _ (read_done _ _ _ _ _ _ _ _ _ _ l.1 (ap (λ m. m.1) c.seat.invariant.1.0)) (λ p e. let low = c.seat.invariant.1.1 p e in omega (arith, slots, low)) (length-set _ c.args.place _ ∙ (c.seat.invariant.1.2 ∙ sym slots)) (c.seat.invariant.1.3 ∙ sym slots))

pub returns-clause-seat : goal.returns-clause-seat
returns-clause-seat g c = let l = c.load.ensures.2 c.args.place refl _ _ _ _ _ (ap (λ m. m.0) c.seat.invariant.1.0) in
    let slots = ap (λ s. s.table.slots) c.seat.view_is ∙ ap (λ t. t.slots) c.requires.seat.0 in let low = c.requires.place in let sized = c.seat.invariant.1.2 in
    looking_is c.seat.inside.seat.table_id c.load.new.seat.table_id c.seat.inside.seat.me.0.key c.load.new.seat.me.0.key c.seat.invariant.0 c.seat.inside.number c.seat.inside.seat.me.0 c.load.new.seat.me.0 c.args.seat.now c.args.place l.0 _ c.seat.view_is c.load.ensures.0 (key_stays _ _ _ _ _ _ _ _ _ _ _ _ c.seat.invariant.1 (ap (λ m. m.0) l.1)) (ap (λ m. m.0) l.1) (sym (looked_at _ _ _ _ _ _ _ _ _ _ c.args.place l.0 l.1 (omega (arith, slots, low, sized))))

pub returns-clause-seen : goal.returns-clause-seen
returns-clause-seen g c = let l = c.load.ensures.2 c.args.place refl _ _ _ _ _ (ap (λ m. m.0) c.seat.invariant.1.0) in
    let slots = ap (λ s. s.table.slots) c.seat.view_is ∙ ap (λ t. t.slots) c.requires.seat.0 in let low = c.requires.place in let sized = c.seat.invariant.1.2 in
    let key = key_of _ _ _ _ _ _ _ _ _ c.seat.invariant.1 (ap (λ s. s.key) c.seat.view_is) c.requires.seat.1 in
    (adds_move g.T.StandsFor.names _ _ _ _ _ _ _ _ _ _ key (ap (λ s. s.number) c.seat.view_is) (ap (λ s. seen_of s.seen c.args.place) c.seat.view_is) (sym (looked_at _ _ _ _ _ _ _ _ _ _ c.args.place l.0 l.1 (omega (arith, slots, low, sized)))) refl l.2 ([], sym (Rattle.std.proofs.Common.append-nil l.0))).0

pub returns-clause-count : goal.returns-clause-count
returns-clause-count g c = let l = c.load.ensures.2 c.args.place refl _ _ _ _ _ (ap (λ m. m.0) c.seat.invariant.1.0) in
    let slots = ap (λ s. s.table.slots) c.seat.view_is ∙ ap (λ t. t.slots) c.requires.seat.0 in let low = c.requires.place in let sized = c.seat.invariant.1.2 in
    let e = ap (λ h. length h) (looked_at _ _ _ _ _ _ _ _ _ _ c.args.place l.0 l.1 (omega (arith, slots, low, sized))) in let a = l.3 in let b = l.4 in omega (arith, e, a, b)

pub returns-clause-inside : goal.returns-clause-inside
returns-clause-inside g c e = let l = c.load.ensures.2 c.args.place refl _ _ _ _ _ (ap (λ m. m.0) c.seat.invariant.1.0) in
    let slots = ap (λ s. s.table.slots) c.seat.view_is ∙ ap (λ t. t.slots) c.requires.seat.0 in let low = c.requires.place in let sized = c.seat.invariant.1.2 in
    looked_inside _ _ _ _ (returns-clause-seat g c) (looked_at _ _ _ _ _ _ _ _ _ _ c.args.place l.0 l.1 (omega (arith, slots, low, sized)) ∙ (l.5 (ap (λ s. s.entered) c.seat.view_is ∙ e) ∙ ap (λ s. seen_of s.seen c.args.place) c.seat.view_is))
