use Rattle.std.proofs.Common.{rules, arith, append_assoc, append-nil, ◌≡◌, length, sym, ap, ◌∙◌, ◌∷◌, ◌++◌, [], sum_by}
use mathlib.Core.Option.{some-injective}
use Rattle.std.proofs.lemmas.Grind.{common_steps}
use lib.ListN.{get_elem?}
use Rattle.leaf_tickets.specs.Models.{IsSeatOf, times, once_from}
use Rattle.leaf_tickets.proofs.Counts.{adds_up}
use Rattle.leaf_tickets.proofs.Steps.{arrives, gathers, settles, takes_in}
use Rattle.table_views.proofs.Views.{all_seam}
use Rattle.leaf_tickets.proofs.leaves.Leaves.close.Goals as goal

pub load_new_seat-requires : goal.load_new_seat-requires
load_new_seat-requires c = (search rules, arrives _ _ _ (λ _. Unit {0}))

pub join_seat-requires : goal.join_seat-requires
join_seat-requires c =
    let i = c.loop-seat.invariant in
    let n : c.loop-seat.seat-iterator.rest.items ≡ c.in-Some.field-0 ∷ c.next.new.self.rest.items = search rules in
    let is : c.loop-seat.yielded ++ c.in-Some.field-0 ∷ c.next.new.self.rest.items ≡ c.args.seats.items = ap (λ l. c.loop-seat.yielded ++ l) (sym n) ∙ i.5 in
    let here = all_seam (IsSeatOf c.args.self) c.loop-seat.yielded c.in-Some.field-0 c.next.new.self.rest.items c.args.seats.items is c.requires.seats.1 in
    (search rules, ap (λ s. s.counter) c.seat.view_is ∙ (here ∙ sym (ap (λ s. s.counter) c.self.view_is)), search rules, search rules, gathers _ _ _ _ _ _ (let p = c.seat.invariant.1 in omega arith))

pub loop-seat-preserved : goal.loop-seat-preserved
loop-seat-preserved c = let i = c.loop-seat.invariant in let j = c.join_seat.ensures in let is = c.seat.view_is in
    let t = takes_in c.loop-seat.yielded c.in-Some.field-0 c.loop-seat.all.me.0 c.seat.inside.seat.me.0 c.join_seat.new.seat.me.0 (ap (λ m. m.0) j.2) c.seat.invariant.1 (ap (λ s. s.drawn) is) (ap (λ s. s.found) is) i.2 i.3 i.4 in
    let n : c.loop-seat.seat-iterator.rest.items ≡ c.in-Some.field-0 ∷ c.next.new.self.rest.items = search rules in
    (search rules, search rules, t.0, t.1, t.2, append_assoc c.loop-seat.yielded (c.in-Some.field-0 ∷ []) c.next.new.self.rest.items ∙ (ap (λ l. c.loop-seat.yielded ++ l) (sym n) ∙ i.5))

pub returns-clause-once : goal.returns-clause-once
returns-clause-once c x =
    let i = c.loop-seat.invariant in
    let none : c.loop-seat.seat-iterator.rest.items ≡ [] = grind (arith, common_steps) in
    let all : c.loop-seat.yielded ≡ c.args.seats.items = sym (ap (λ l. c.loop-seat.yielded ++ l) none ∙ append-nil c.loop-seat.yielded) ∙ i.5 in
    let f = c.close_with-closed.ensures.values.2 in
    let whole : c.loop-seat.all.me.0.parts ≡ c.self.inside.table.shared.key.seats = i.2 ∙ (ap length all ∙ (c.requires.seats.0 ∙ sym (ap (λ s. s.seats) c.self.view_is))) in
    let n = some-injective _ _ (ap (λ l. get_elem? l 0) (sym f.1.0.counter ∙ f.2) ∙ c.word-count.ensures) in
    ap (λ l. sum_by (λ s. times x s.drawn) l) (sym all) ∙ (sym (i.3 x) ∙ (settles _ _ _ _ f.0 f.1.0 f.1.1 whole x ∙ (λ i. once_from ((c.self.view_is i).start) x (n i))))

pub returns-clause-count : goal.returns-clause-count
returns-clause-count c = let f = c.close_with-closed.ensures.values.2 in
    let n = some-injective _ _ (ap (λ l. get_elem? l 0) (sym f.1.0.counter ∙ f.2) ∙ c.word-count.ensures) in
    adds_up (λ s. s.drawn) c.args.self.start c.word-count.result c.args.seats.items (returns-clause-once c) (let e = ap (λ s. s.start) c.self.view_is in let l = f.1.0.from in omega (arith, e, l, n))
