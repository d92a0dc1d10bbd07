use Rattle.std.proofs.Common.{rules, arith, append_assoc, append-nil, ◌≡◌, length, map, sym, refl, ap, ◌∙◌, ◌∷◌, ◌++◌, [], None}
use Rattle.std.proofs.lemmas.Grind.{common_steps}
use Rattle.cp_gate.specs.Models.{starts}
use Rattle.cp_gate.specs.Models.{IsSeatOf}
use Rattle.table_views.proofs.Views.{all_seam}
use Rattle.cp_gate.proofs.Words.{comes, joins}
use Rattle.cp_gate.proofs.Tokens.{arrives, gathers_free, settles}
use Rattle.cp_gate.proofs.Ends.{identity_of, closes, closes_move, identities_join, length_identities}
use Rattle.cp_gate.proofs.Seats.{seat_in}
use Rattle.cp_gate.proofs.gate.Gate.close.Goals as goal

pub load_new_seat-requires : goal.load_new_seat-requires
load_new_seat-requires g c = let i = c.self.invariant in (i.3, comes _ _ _ _ (let words = i.1 in let some_word = i.3 in omega (arith, words, some_word)) (arrives g.T.StandsFor.fits g.T.StandsFor.history g.T.StandsFor.names _ _ _ _ _))

pub join_seat-requires : goal.join_seat-requires
join_seat-requires g c =
    let i = c.loop-seat.invariant in
    let n : c.loop-seat.seat-iterator.rest.items ≡ c.in-Some.field-0 ∷ c.next.new.self.rest.items = search rules in
    let is : c.loop-seat.yielded ++ c.in-Some.field-0 ∷ c.next.new.self.rest.items ≡ c.args.seats.items = ap (λ l. c.loop-seat.yielded ++ l) (sym n) ∙ i.4 in
    let here = all_seam (λ s. IsSeatOf c.args.self s × (s.entered ≡ None)) c.loop-seat.yielded c.in-Some.field-0 c.next.new.self.rest.items c.args.seats.items is c.requires.seats.1 in
    let out = ap (λ s. s.entered) c.seat.view_is ∙ here.1 in (
      i.1,
      ap (λ s. s.table) c.seat.view_is ∙ (here.0.0 ∙ sym (ap (λ s. s.table) c.self.view_is)),
      ap (λ m. m.1) (seat_in _ _ _ _ _ _ _ _ c.seat.invariant.1 out),
      c.self.invariant.3,
      joins _ _ _ _ _ _ _ _ (gathers_free g.T.StandsFor.fits g.T.StandsFor.history g.T.StandsFor.names _ _ _ _ _ _ _ _ i.2 out),
    )

pub loop-seat-preserved : goal.loop-seat-preserved
loop-seat-preserved g c =
    let i = c.loop-seat.invariant in let j = c.join_seat.ensures in let is = c.seat.view_is in
    let n : c.loop-seat.seat-iterator.rest.items ≡ c.in-Some.field-0 ∷ c.next.new.self.rest.items = search rules in (
      refl,
      j.0 ∙ i.1,
      ap (λ m. m.0.entered) j.2 ∙ i.2,
      identities_join c.loop-seat.yielded c.in-Some.field-0 c.loop-seat.all.me.0 c.seat.inside.seat.me.0 c.join_seat.new.seat.me.0 _ _ _ _ _ i.3 (ap (λ m. m.0) c.seat.invariant.1.0) (ap (λ s. s.number) is) (ap (λ s. s.seen) is) (ap (λ m. m.0) j.2),
      append_assoc c.loop-seat.yielded (c.in-Some.field-0 ∷ []) c.next.new.self.rest.items ∙ (ap (λ l. c.loop-seat.yielded ++ l) (sym n) ∙ i.4),
    )

pub unload-requires-clause-full : goal.unload-requires-clause-full
unload-requires-clause-full g c = c.close_with.ensures.values.1

pub unload-requires-clause-values : goal.unload-requires-clause-values
unload-requires-clause-values g c p low =
    let i = c.loop-seat.invariant in let f = c.close_with.ensures.values.2 in
    let none : c.loop-seat.seat-iterator.rest.items ≡ [] = grind (arith, common_steps) in
    let all : c.loop-seat.yielded ≡ c.args.seats.items = sym (ap (λ l. c.loop-seat.yielded ++ l) none ∙ append-nil c.loop-seat.yielded) ∙ i.4 in
    let identities = i.3 ∙ ap (λ l. map (λ s. identity_of s) l) all in
    let count : length c.args.seats.items ≡ c.self.inside.table.shared.key.seats = c.requires.seats.0 ∙ sym (ap (λ s. s.seats) c.self.view_is) in
    let counts = c.close_with.ensures.counts.1 in let slots = c.self.invariant.2 in
    let h = settles g.T.StandsFor.fits g.T.StandsFor.history g.T.StandsFor.names _ _ _ _ _ f.1.0.kept _ _ f.1.1 i.2 (ap (λ l. length l) identities ∙ (length_identities c.args.seats.items ∙ count)) p (omega (arith, low, counts, slots)) in
    (h.value, f.4 p _ h.there)

pub unload-requires-clause-room : goal.unload-requires-clause-room
unload-requires-clause-room g c = let counts = c.close_with.ensures.counts.1 in let slots = c.self.invariant.2 in let t = ap (λ s. s.table.slots) c.self.view_is in let cap = c.requires.room.1 in (c.requires.room.0, omega (arith, cap, counts, slots, t))

pub returns-clause-len : goal.returns-clause-len
returns-clause-len g c = let counts = c.close_with.ensures.counts.1 in let slots = c.self.invariant.2 in let t = ap (λ s. s.table.slots) c.self.view_is in let l = c.unload.ensures.len in omega (arith, counts, slots, t, l)

pub returns-clause-fits : goal.returns-clause-fits
returns-clause-fits g c p x e =
    let i = c.loop-seat.invariant in let f = c.close_with.ensures.values.2 in
    let none : c.loop-seat.seat-iterator.rest.items ≡ [] = grind (arith, common_steps) in
    let all : c.loop-seat.yielded ≡ c.args.seats.items = sym (ap (λ l. c.loop-seat.yielded ++ l) none ∙ append-nil c.loop-seat.yielded) ∙ i.4 in
    let identities = i.3 ∙ ap (λ l. map (λ s. identity_of s) l) all in
    let count : length c.args.seats.items ≡ c.self.inside.table.shared.key.seats = c.requires.seats.0 ∙ sym (ap (λ s. s.seats) c.self.view_is) in
    let counts = c.close_with.ensures.counts.1 in let slots = c.self.invariant.2 in let len = c.unload.ensures.len in
    let done = closes g.T.StandsFor.fits g.T.StandsFor.history g.T.StandsFor.names _ _ _ _ _ f.1.0.kept _ _ f.1.1 i.2 c.args.seats.items identities count c.unload.result.items (omega (arith, counts, slots, len)) (λ p y h. c.unload.ensures.values p y (f.4 p _ h)) in
    let moved = closes_move g.T.StandsFor.fits g.T.StandsFor.history g.T.StandsFor.names _ c.args.self.key _ c.args.self.seats _ c.args.self.start _ _ (c.self.invariant.0 ∙ ap (λ s. s.key) c.self.view_is) (ap (λ s. s.seats) c.self.view_is)
    ((λ i. starts (g.T.StandsFor.history (c.self.invariant.0 i)) 0 c.self.inside.table.shared.key.values.value.items) ∙ ap (λ s. s.start) c.self.view_is) done in
    moved.fit p x e

pub returns-clause-seen : goal.returns-clause-seen
returns-clause-seen g c p x e =
    let i = c.loop-seat.invariant in let f = c.close_with.ensures.values.2 in
    let none : c.loop-seat.seat-iterator.rest.items ≡ [] = grind (arith, common_steps) in
    let all : c.loop-seat.yielded ≡ c.args.seats.items = sym (ap (λ l. c.loop-seat.yielded ++ l) none ∙ append-nil c.loop-seat.yielded) ∙ i.4 in
    let identities = i.3 ∙ ap (λ l. map (λ s. identity_of s) l) all in
    let count : length c.args.seats.items ≡ c.self.inside.table.shared.key.seats = c.requires.seats.0 ∙ sym (ap (λ s. s.seats) c.self.view_is) in
    let counts = c.close_with.ensures.counts.1 in let slots = c.self.invariant.2 in let len = c.unload.ensures.len in
    let done = closes g.T.StandsFor.fits g.T.StandsFor.history g.T.StandsFor.names _ _ _ _ _ f.1.0.kept _ _ f.1.1 i.2 c.args.seats.items identities count c.unload.result.items (omega (arith, counts, slots, len)) (λ p y h. c.unload.ensures.values p y (f.4 p _ h)) in
    let moved = closes_move g.T.StandsFor.fits g.T.StandsFor.history g.T.StandsFor.names _ c.args.self.key _ c.args.self.seats _ c.args.self.start _ _ (c.self.invariant.0 ∙ ap (λ s. s.key) c.self.view_is) (ap (λ s. s.seats) c.self.view_is)
    ((λ i. starts (g.T.StandsFor.history (c.self.invariant.0 i)) 0 c.self.inside.table.shared.key.values.value.items) ∙ ap (λ s. s.start) c.self.view_is) done in
    moved.seen p x e

pub returns-clause-added : goal.returns-clause-added
returns-clause-added g c p x e =
    let i = c.loop-seat.invariant in let f = c.close_with.ensures.values.2 in
    let none : c.loop-seat.seat-iterator.rest.items ≡ [] = grind (arith, common_steps) in
    let all : c.loop-seat.yielded ≡ c.args.seats.items = sym (ap (λ l. c.loop-seat.yielded ++ l) none ∙ append-nil c.loop-seat.yielded) ∙ i.4 in
    let identities = i.3 ∙ ap (λ l. map (λ s. identity_of s) l) all in
    let count : length c.args.seats.items ≡ c.self.inside.table.shared.key.seats = c.requires.seats.0 ∙ sym (ap (λ s. s.seats) c.self.view_is) in
    let counts = c.close_with.ensures.counts.1 in let slots = c.self.invariant.2 in let len = c.unload.ensures.len in
    let done = closes g.T.StandsFor.fits g.T.StandsFor.history g.T.StandsFor.names _ _ _ _ _ f.1.0.kept _ _ f.1.1 i.2 c.args.seats.items identities count c.unload.result.items (omega (arith, counts, slots, len)) (λ p y h. c.unload.ensures.values p y (f.4 p _ h)) in
    let moved = closes_move g.T.StandsFor.fits g.T.StandsFor.history g.T.StandsFor.names _ c.args.self.key _ c.args.self.seats _ c.args.self.start _ _ (c.self.invariant.0 ∙ ap (λ s. s.key) c.self.view_is) (ap (λ s. s.seats) c.self.view_is)
    ((λ i. starts (g.T.StandsFor.history (c.self.invariant.0 i)) 0 c.self.inside.table.shared.key.values.value.items) ∙ ap (λ s. s.start) c.self.view_is) done in
    moved.added p x e

pub returns-clause-numbers : goal.returns-clause-numbers
returns-clause-numbers g c k =
    let i = c.loop-seat.invariant in let f = c.close_with.ensures.values.2 in
    let none : c.loop-seat.seat-iterator.rest.items ≡ [] = grind (arith, common_steps) in
    let all : c.loop-seat.yielded ≡ c.args.seats.items = sym (ap (λ l. c.loop-seat.yielded ++ l) none ∙ append-nil c.loop-seat.yielded) ∙ i.4 in
    let identities = i.3 ∙ ap (λ l. map (λ s. identity_of s) l) all in
    let count : length c.args.seats.items ≡ c.self.inside.table.shared.key.seats = c.requires.seats.0 ∙ sym (ap (λ s. s.seats) c.self.view_is) in
    let counts = c.close_with.ensures.counts.1 in let slots = c.self.invariant.2 in let len = c.unload.ensures.len in
    let done = closes g.T.StandsFor.fits g.T.StandsFor.history g.T.StandsFor.names _ _ _ _ _ f.1.0.kept _ _ f.1.1 i.2 c.args.seats.items identities count c.unload.result.items (omega (arith, counts, slots, len)) (λ p y h. c.unload.ensures.values p y (f.4 p _ h)) in
    let moved = closes_move g.T.StandsFor.fits g.T.StandsFor.history g.T.StandsFor.names _ c.args.self.key _ c.args.self.seats _ c.args.self.start _ _ (c.self.invariant.0 ∙ ap (λ s. s.key) c.self.view_is) (ap (λ s. s.seats) c.self.view_is)
    ((λ i. starts (g.T.StandsFor.history (c.self.invariant.0 i)) 0 c.self.inside.table.shared.key.values.value.items) ∙ ap (λ s. s.start) c.self.view_is) done in
    moved.numbered k
