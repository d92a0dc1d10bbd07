-- Each step keeps the rule of the counter.
use Rattle.std.proofs.Common.{◌≡◌, ℕ, zero, suc, ◌+◌, ◌-◌, ◌≤◌, ◌<◌, ◌==◌, eqb, max, Bool, true, false, cond, List, [], ◌∷◌, ◌++◌, length, get_or, set, sym, refl, ap, subst, arith, sum_by}
use Rattle.std.specs.Prelude.{slice_index}
use Rattle.std.specs.List.{All}
use Rattle.std.proofs.lemmas.List.{length-append}
use Rattle.std.proofs.lemmas.List.Elements.{All-append}
use Rattle.std.proofs.lemmas.List.Sums.{sum_by-append}
use Rattle.std.proofs.lemmas.Bool.Decides.{nat_tests}
use mathlib.Core.Option.{none, some, some-ne-none}
use lib.ListN.{get_elem?}
use prog.Atomic.{either}
use Rattle.atomic_table.specs.Table.{State, Step, Act, Valid, step, keeps, stepped, carried_after, Allows, Enters, Splits, Joins, opening}
use Rattle.atomic_table.proofs.Lists.{set_else}
use Rattle.table_views.proofs.Views.{sum_set, le_sum, two_le_sum, sum_alone, each_set, each_snoc}
use Rattle.leaf_tickets.specs.declared.view.View.{View}
use Rattle.leaf_tickets.specs.Models.{LeafSeatModel, times, once_from}
use Rattle.leaf_tickets.specs.Rule.{DrawnOnce, Sitting, Looked, Drew, view, newcomer}

abbrev St : Type 0
St = State Unit View

-- a step that leaves what each view has drawn, and after which the seat has found the counter
looks_on : (start seats id : ℕ) (v : View) (s : St) (r : DrawnOnce start seats s) → get_elem? s.views id ≡ some v → DrawnOnce start seats record { words = r.count ∷ []; homes = s.homes; views = set s.views id (view v.parts v.drawn r.count) }
looks_on start seats id v s r at = let w : View = view v.parts v.drawn r.count in record {
  count = r.count;
  counter = refl;
  from = r.from;
  parts = (let e = sum_set (λ (u : View). u.parts) s.views id v w at in let p = r.parts in omega arith);
  once = λ x. (let e = sum_set (λ (u : View). times x u.drawn) s.views id v w at in let p = r.once x in omega arith);
  idle = each_set (λ j (u : View). u.parts ≡ 0 → u.drawn ≡ []) s.views id w (r.idle id v at) (λ j u _ e. r.idle j u e);
  low = each_set (λ j (u : View). u.found ≤ r.count) s.views id w (omega arith) (λ j u _ e. r.low j u e);
}

pub looks : (start seats slots id : ℕ) (m : Sitting) → Allows (DrawnOnce start seats) slots id m 0 (λ n. n) (Looked (step slots 0 0 0 none) m)
looks start seats slots id m s r deep at fits =
    let Goal : List ℕ → Type 0 = λ ws. (w : View) × (a : Act Unit) × Valid s.homes m.1 a × DrawnOnce start seats (stepped (record s { words = ws }) 0 (slice_index ws 0) id m.1 w a) × Looked (step slots 0 0 0 none) m (slice_index ws 0) (w, carried_after m.1 a) in
    subst Goal (sym r.counter) (view m.0.parts m.0.drawn r.count, keeps, tt, looks_on start seats id m.0 s r at, (refl, r.low id m.0 at))

-- the number n follows those from start on that are below n
times_next : (start x n : ℕ) → start ≤ n → once_from start x n + times x (n ∷ []) ≡ once_from start x (n + 1)
times_next start x n le = grind (arith, nat_tests)

once_end : (start n : ℕ) → once_from start n n ≡ 0
once_end start n = grind (arith, nat_tests)

none_yet : (start x : ℕ) → once_from start x start ≡ 0
none_yet start x = grind (arith, nat_tests)

draws_on : (start seats id : ℕ) (v : View) (s : St) (r : DrawnOnce start seats s) → get_elem? s.views id ≡ some v → 0 < v.parts
    → DrawnOnce start seats record { words = (r.count + 1) ∷ []; homes = s.homes; views = set s.views id (view v.parts (v.drawn ++ r.count ∷ []) (r.count + 1)) }
draws_on start seats id v s r at some_part = let w : View = view v.parts (v.drawn ++ r.count ∷ []) (r.count + 1) in record {
  count = r.count + 1;
  counter = refl;
  from = (let f = r.from in omega arith);
  parts = (let e = sum_set (λ (u : View). u.parts) s.views id v w at in let p = r.parts in omega arith);
  once = λ x. (let e = sum_set (λ (u : View). times x u.drawn) s.views id v w at in let p = r.once x in let q = times_next start x r.count r.from in let a = sum_by-append (λ (y : ℕ). cond (eqb y x) 1 0) v.drawn (r.count ∷ []) in omega arith);
  idle = each_set (λ j (u : View). u.parts ≡ 0 → u.drawn ≡ []) s.views id w (λ none. absurd (omega arith)) (λ j u _ e. r.idle j u e);
  low = each_set (λ j (u : View). u.found ≤ r.count + 1) s.views id w (omega arith) (λ j u _ e. let l = r.low j u e in omega arith);
}

fresh : (start seats id : ℕ) (v : View) (s : St) (r : DrawnOnce start seats s) → get_elem? s.views id ≡ some v → times r.count v.drawn ≡ 0
fresh start seats id v s r at = let l = le_sum (λ (u : View). times r.count u.drawn) s.views id v at in let p = r.once r.count in let z = once_end start r.count in omega arith

pub draws : (start seats slots id : ℕ) (m : Sitting) (old : ℕ) → 0 < m.0.parts → Allows (DrawnOnce start seats) slots id m 0 (λ n. either (n == old) (old + 1) n) (Drew (step slots 0 old (old + 1) none) m)
draws start seats slots id m old some_part s r deep at fits =
    let st : Step Unit = step slots 0 old (old + 1) none in
    let Goal : List ℕ → Type 0 = λ ws. (w : View) × (a : Act Unit) × Valid s.homes m.1 a × DrawnOnce start seats (stepped (record s { words = ws }) 0 (either (slice_index ws 0 == old) (old + 1) (slice_index ws 0)) id m.1 w a) × Drew st m (slice_index ws 0) (w, carried_after m.1 a) in
    subst Goal (sym r.counter) (by_test (r.count == old) refl)
  where
    by_test : (b : Bool) → (r.count == old) ≡ b → (w : View) × (a : Act Unit) × Valid s.homes m.1 a × DrawnOnce start seats (stepped (record s { words = r.count ∷ [] }) 0 (either (r.count == old) (old + 1) r.count) id m.1 w a) × Drew (step slots 0 old (old + 1) none) m r.count (w, carried_after m.1 a)
    by_test true is = let same : r.count ≡ old = grind (arith, nat_tests) in
        let next : r.count + 1 ≡ old + 1 = omega arith in (
          view m.0.parts (m.0.drawn ++ r.count ∷ []) (r.count + 1),
          keeps,
          tt,
          rw is (subst (λ (k : ℕ). DrawnOnce start seats record { words = k ∷ []; homes = s.homes; views = set s.views id (view m.0.parts (m.0.drawn ++ r.count ∷ []) (r.count + 1)) }) next (draws_on start seats id m.0 s r at some_part)),
          (r.low id m.0 at, rw is (refl, fresh start seats id m.0 s r at)),
        )
    by_test false is = (view m.0.parts m.0.drawn r.count, keeps, tt, rw is (looks_on start seats id m.0 s r at), (r.low id m.0 at, rw is refl))

pub deals : (start seats id : ℕ) (v : View) → 0 < v.parts → v.drawn ≡ [] → Splits (DrawnOnce start seats) id v (view (v.parts - 1) v.drawn v.found) (view 1 [] v.found)
deals start seats id v some_part bare s r at = let w : View = view (v.parts - 1) v.drawn v.found in let new : View = view 1 [] v.found in record {
  count = r.count;
  counter = r.counter;
  from = r.from;
  parts = (let e = sum_set (λ (u : View). u.parts) s.views id v w at in let a = sum_by-append (λ (u : View). u.parts) (set s.views id w) (new ∷ []) in let p = r.parts in omega arith);
  once = λ x. (let e = sum_set (λ (u : View). times x u.drawn) s.views id v w at in let a = sum_by-append (λ (u : View). times x u.drawn) (set s.views id w) (new ∷ []) in let p = r.once x in omega arith);
  idle = each_snoc (λ j (u : View). u.parts ≡ 0 → u.drawn ≡ []) (set s.views id w) new (λ _ _. refl) (each_set (λ j (u : View). u.parts ≡ 0 → u.drawn ≡ []) s.views id w (λ _. bare) (λ j u _ e. r.idle j u e));
  low = each_snoc (λ j (u : View). u.found ≤ r.count) (set s.views id w) new (λ _. r.low id v at) (each_set (λ j (u : View). u.found ≤ r.count) s.views id w (r.low id v at) (λ j u _ e. r.low j u e));
}

pub arrives : (start seats slots : ℕ) (M : Sitting → Type 0) → Enters (DrawnOnce start seats) slots 0 (λ n w. w ≡ newcomer)
arrives start seats slots M s r deep fits = (
  newcomer,
  record {
    count = r.count;
    counter = r.counter;
    from = r.from;
    parts = (let a = sum_by-append (λ (u : View). u.parts) s.views (newcomer ∷ []) in let p = r.parts in omega arith);
    once = λ x. (let a = sum_by-append (λ (u : View). times x u.drawn) s.views (newcomer ∷ []) in let p = r.once x in omega arith);
    idle = each_snoc (λ j (u : View). u.parts ≡ 0 → u.drawn ≡ []) s.views (newcomer) (λ _ _. refl) r.idle;
    low = each_snoc (λ j (u : View). u.found ≤ r.count) s.views (newcomer) (λ _. omega arith) r.low;
  },
  refl,
)

pub gathers : (start seats id : ℕ) (v : View) (other : ℕ) (w : View) → 0 < w.parts → Joins (DrawnOnce start seats) id v other w (view (v.parts + w.parts) (v.drawn ++ w.drawn) (max v.found w.found)) (newcomer)
gathers start seats id v other w some_part s r at apart there =
    let b : View = view (v.parts + w.parts) (v.drawn ++ w.drawn) (max v.found w.found) in let z : View = newcomer in let vs : List View = set s.views id b in
    let was : get_elem? s.views other ≡ some w = subst (λ l. l ≡ some w) (set_else s.views id other b apart) there in record {
      count = r.count;
      counter = r.counter;
      from = r.from;
      parts = (let e = sum_set (λ (u : View). u.parts) s.views id v b at in let f = sum_set (λ (u : View). u.parts) vs other w z there in let p = r.parts in omega arith);
      once = λ x. (let e = sum_set (λ (u : View). times x u.drawn) s.views id v b at in let f = sum_set (λ (u : View). times x u.drawn) vs other w z there in let a = sum_by-append (λ (y : ℕ). cond (eqb y x) 1 0) v.drawn w.drawn in let p = r.once x in omega arith);
      idle = each_set (λ j (u : View). u.parts ≡ 0 → u.drawn ≡ []) vs other z (λ _. refl) (λ j u _. each_set (λ j (u : View). u.parts ≡ 0 → u.drawn ≡ []) s.views id b (λ none. absurd (omega arith)) (λ j u _ e. r.idle j u e) j u);
      low = each_set (λ j (u : View). u.found ≤ r.count) vs other z (omega arith) (λ j u _. each_set (λ j (u : View). u.found ≤ r.count) s.views id b (let l = r.low id v at in let l' = r.low other w was in omega arith) (λ j u _ e. r.low j u e) j u);
    }

pub begins : (start seats : ℕ) → DrawnOnce start seats (opening (start ∷ []) [] (view seats [] start))
begins start seats = record {
  count = start;
  counter = refl;
  from = omega arith;
  parts = omega arith;
  once = λ x. (let z = none_yet start x in omega arith);
  idle = each_snoc (λ j (u : View). u.parts ≡ 0 → u.drawn ≡ []) [] (view seats [] start) (λ _ _. refl) (λ j u e. absurd (some-ne-none u (sym e)));
  low = each_snoc (λ j (u : View). u.found ≤ start) [] (view seats [] start) (λ _. omega arith) (λ j u e. absurd (some-ne-none u (sym e)));
}

-- where a view has each part, it has drawn each number below the counter
pub settles : (start seats id : ℕ) (v : View) (s : St) (r : DrawnOnce start seats s) → get_elem? s.views id ≡ some v → v.parts ≡ seats → (x : ℕ) → times x v.drawn ≡ once_from start x r.count
settles start seats id v s r at whole x = let e = sum_alone (λ (u : View). times x u.drawn) s.views id v at
    (λ j u ne e. let two = two_le_sum (λ (u : View). u.parts) s.views id j v u (λ h. ne (sym h)) at e in let p = r.parts in ap (times x) (r.idle j u e (omega arith))) in let p = r.once x in omega arith

-- one seat more is taken in
pub takes_in : (done : List LeafSeatModel) (s : LeafSeatModel) (v w b : View) → b ≡ view (v.parts + w.parts) (v.drawn ++ w.drawn) (max v.found w.found) → w.parts ≡ 1 → w.drawn ≡ s.drawn → w.found ≡ s.found
    → v.parts ≡ length done → ((x : ℕ) → times x v.drawn ≡ sum_by (λ (t : LeafSeatModel). times x t.drawn) done) → All (λ (t : LeafSeatModel). t.found ≤ v.found) done
    → (b.parts ≡ length (done ++ s ∷ [])) × ((x : ℕ) → times x b.drawn ≡ sum_by (λ (t : LeafSeatModel). times x t.drawn) (done ++ s ∷ [])) × All (λ (t : LeafSeatModel). t.found ≤ b.found) (done ++ s ∷ [])
takes_in done s v w b is one same found parts once low = (
  (let e = ap (λ (z : View). z.parts) is in omega (arith, length-append done (s ∷ []))),
  (λ x. let e : times x b.drawn ≡ times x (v.drawn ++ w.drawn) = ap (λ (z : View). times x z.drawn) is in let f = sum_by-append (λ (y : ℕ). cond (eqb y x) 1 0) v.drawn w.drawn in let g = sum_by-append (λ (t : LeafSeatModel). times x t.drawn) done (s ∷ []) in
      let h = once x in let k : times x w.drawn ≡ times x s.drawn = ap (times x) same in omega arith),
  All-append (λ (t : LeafSeatModel). t.found ≤ b.found) done (s ∷ []) (λ k d l. let e = ap (λ (z : View). z.found) is in let h = low k d l in omega arith)
      (λ k d l. let e = ap (λ (z : View). z.found) is in let z : get_or (s ∷ []) k d ≡ s = first_one s d k l in let z' : (get_or (s ∷ []) k d).found ≡ s.found = ap (λ (t : LeafSeatModel). t.found) z in omega arith),
)
  where
    first_one : (s d : LeafSeatModel) (k : ℕ) → k < length (s ∷ []) → get_or (s ∷ []) k d ≡ s
    first_one s d zero l = refl
    first_one s d (suc k) l = absurd (omega arith)
