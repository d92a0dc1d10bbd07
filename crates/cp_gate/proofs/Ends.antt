-- The rule at the start, as the numbers are dealt, and at the end.
use Rattle.std.proofs.Common.{◌≡◌, ℕ, zero, suc, ◌+◌, ◌*◌, ◌<◌, ◌==◌, eqb, cond, List, [], ◌∷◌, ◌++◌, map, length, get_or, set, Option, Some, None, sym, refl, ap, ◌∙◌, subst, ⊎_elim, inl, inr, arith, append-nil}
use Rattle.std.specs.Prelude.{slice_index, count_by}
use Rattle.std.specs.List.{All}
use Rattle.std.proofs.lemmas.List.Sums.{sum_by-cons, sum_by-append}
use Rattle.std.proofs.lemmas.Bool.Decides.{nat_tests}
use mathlib.Core.Logic.{dite}
use mathlib.Core.Option.{some, some-injective, some-ne-none}
use native.Mathlib.Decide.{ℕ_discrete}
use lib.ListN.{get_elem?}
use Rattle.atomic_table.specs.Table.{State, Splits, opening}
use Rattle.atomic_table.proofs.Lists.{set_else, at_longer}
use Rattle.cp_gate.specs.declared.view.Identity.{Identity}
use Rattle.cp_gate.specs.declared.view.View.{View}
use Rattle.cp_gate.specs.Histories.{times, once_below, seen_of, OthersAdd, SeatsAdd}
use Rattle.cp_gate.specs.Rule.{Each, identity, numbers, rest, only, identities_from, seated, first_view, without_first, first_alone, both, IdentityOk, ViewOk, InTurn}
use Rattle.cp_gate.specs.Models.{SeatModel, starts}
use Rattle.table_views.proofs.Views.{sum_set, each_set, each_snoc}
use Rattle.cp_gate.proofs.Tokens.{comes_back, settles_numbers}
use Rattle.cp_gate.proofs.Histories.{none_of, adds_nothing}

each_to_all : {A B : Type 0} (P : B → Type 0) (f : A → B) (xs : List A) → Each P (map f xs) → All (λ (x : A). P (f x)) xs
each_to_all P f [] h k d l = absurd (omega arith)
each_to_all P f (x ∷ xs) h zero d l = h.0
each_to_all P f (x ∷ xs) h (suc k) d l = each_to_all P f xs h.1 k d (omega arith)

abbrev pub identity_of : {K I : Type 0} → SeatModel K I → Identity I
identity_of s = identity s.number s.seen

numbers_identities : {K I : Type 0} (xs : List (SeatModel K I)) → numbers (map (λ (s : SeatModel K I). identity_of s) xs) ≡ map (λ (s : SeatModel K I). s.number) xs
numbers_identities [] = refl
numbers_identities (x ∷ xs) = ap (λ (l : List ℕ). x.number ∷ l) (numbers_identities xs)

times_numbers : {K I : Type 0} (k : ℕ) (xs : List (SeatModel K I)) → times k (map (λ (s : SeatModel K I). s.number) xs) ≡ count_by (λ (s : SeatModel K I). s.number == k) xs
times_numbers k [] = refl
times_numbers {K} {I} k (x ∷ xs) = let e = times_numbers k xs in
    sum_by-cons (λ (y : ℕ). cond (eqb y k) 1 0) x.number (map (λ (s : SeatModel K I). s.number) xs) ∙ (ap (λ (n : ℕ). let one : ℕ = cond (eqb x.number k) 1 0 in one + n) e ∙ sym (sum_by-cons (λ (s : SeatModel K I). cond (eqb s.number k) 1 0) x xs))

pub length_identities : {K I : Type 0} (xs : List (SeatModel K I)) → length (map (λ (s : SeatModel K I). identity_of s) xs) ≡ length xs
length_identities [] = refl
length_identities (x ∷ xs) = ap suc (length_identities xs)

pub identities_snoc : {K I : Type 0} (xs : List (SeatModel K I)) (s : SeatModel K I) → map (λ (s : SeatModel K I). identity_of s) (xs ++ s ∷ []) ≡ map (λ (s : SeatModel K I). identity_of s) xs ++ identity_of s ∷ []
identities_snoc [] s = refl
identities_snoc (x ∷ xs) s = ap (λ l. identity_of x ∷ l) (identities_snoc xs s)

pub record Closes {T K I : Type 0} (fits : K → ℕ → T → Type 0) (history : K → ℕ → T → List I) (names : K → I → Option ℕ) (key : K) (seats : ℕ) (start : List (List I)) (all : List (SeatModel K I)) (items : List T) : Type 0 where
  pub fit : (p : ℕ) (x : T) → get_elem? items p ≡ some x → fits key p x
  pub seen : (p : ℕ) (x : T) → get_elem? items p ≡ some x → All (λ (s : SeatModel K I). OthersAdd (names key) s.number (seen_of s.seen p) (history key p x)) all
  pub added : (p : ℕ) (x : T) → get_elem? items p ≡ some x → SeatsAdd (names key) seats (seen_of start p) (history key p x)
  pub numbered : (k : ℕ) → count_by (λ (s : SeatModel K I). s.number == k) all ≡ once_below k seats

pub closes : {T K I : Type 0} (fits : K → ℕ → T → Type 0) (history : K → ℕ → T → List I) (names : K → I → Option ℕ) (key : K) (places seats : ℕ) (start : List (List I)) (s : State (Option T) (View K I))
    (r : InTurn (fits key) (history key) (names key) key places seats start s) (id : ℕ) (v : View K I) → get_elem? s.views id ≡ some v → v.entered ≡ None → (all : List (SeatModel K I)) → v.identities ≡ map (λ (s : SeatModel K I). identity_of s) all → length all ≡ seats
    → (items : List T) → length items ≡ places → ((p : ℕ) (y : T) → get_elem? s.homes p ≡ some (some (Some y)) → get_elem? items p ≡ some y) → Closes fits history names key seats start all items
closes {T} {K} {I} fits history names key places seats start s r id v at out all identities len items length_is home =
    let count : length v.identities ≡ seats = ap (λ (l : List (Identity I)). length l) identities ∙ (length_identities all ∙ len) in
    let back = comes_back fits history names key places seats start s r id v at out count items length_is home in
    let E : Identity I → Type 0 = IdentityOk (fits key) (history key) (names key) key places seats start r.hist in
    let each : Each E (map (λ (s : SeatModel K I). identity_of s) all) = subst (Each E) identities (r.each_view id v at).identities in record {
      fit = λ p x e. (back p x e).1;
      seen = λ p x e k d l. let b = back p x e in subst (λ (z : List I). OthersAdd (names key) (get_or all k d).number (seen_of (get_or all k d).seen p) z) (sym b.2) ((each_to_all E (λ (s : SeatModel K I). identity_of s) all each k d l).adds p b.0);
      added = λ p x e. let b = back p x e in subst (λ (z : List I). SeatsAdd (names key) seats (seen_of start p) z) (sym b.2) (r.grown p b.0);
      numbered = λ k. sym (times_numbers k all) ∙ (ap (times k) (sym (ap numbers identities ∙ numbers_identities all)) ∙ settles_numbers fits history names key places seats start s r id v at count k);
    }

pub closes_move : {T K I : Type 0} (fits : K → ℕ → T → Type 0) (history : K → ℕ → T → List I) (names : K → I → Option ℕ) (k k' : K) (seats seats' : ℕ) (start start' : List (List I)) (all : List (SeatModel K I)) (items : List T) → k ≡ k' → seats ≡ seats' → start ≡ start'
    → Closes fits history names k seats start all items → Closes fits history names k' seats' start' all items
closes_move {T} {K} {I} fits history names k k' seats seats' start start' all items ke se te h = subst (λ (z : K × (ℕ × List (List I))). Closes fits history names z.0 z.1.0 z.1.1 all items) (λ i. (ke i, (se i, te i))) h

pub identities_join : {K I : Type 0} (xs : List (SeatModel K I)) (s : SeatModel K I) (v w b : View K I) (k : K) (number : ℕ) (seen : List (List I)) (turns : List ℕ) (entered : Option ℕ) → v.identities ≡ map (λ (s : SeatModel K I). identity_of s) xs → w ≡ seated k number seen turns entered → number ≡ s.number → seen ≡ s.seen → b ≡ both v w
    → b.identities ≡ map (λ (s : SeatModel K I). identity_of s) (xs ++ s ∷ [])
identities_join xs s v w b k number seen turns entered ve we ne se be = ap (λ z. z.identities) be ∙ ((λ i. ve i ++ (we i).identities) ∙ ((λ i. map (λ s. identity_of s) xs ++ identity (ne i) (se i) ∷ []) ∙ sym (identities_snoc xs s)))

starts_at : {T I : Type 0} (h : ℕ → T → List I) (k : ℕ) (xs : List T) (p : ℕ) (x : T) → get_elem? xs p ≡ some x → seen_of (starts h k xs) p ≡ h (k + p) x
starts_at h k [] p x e = absurd (some-ne-none x (sym e))
starts_at h k (y ∷ ys) zero x e = (λ i. h ((let z : k ≡ k + 0 = omega arith in z) i) (some-injective y x e i))
starts_at h k (y ∷ ys) (suc p) x e = starts_at h (suc k) ys p x e ∙ ap (λ (i : ℕ). h i x) (let z : suc k + p ≡ k + suc p = omega arith in z)

pub length-starts : {T I : Type 0} (h : ℕ → T → List I) (k : ℕ) (xs : List T) → length (starts h k xs) ≡ length xs
length-starts h k [] = refl
length-starts h k (x ∷ xs) = ap suc (length-starts h (suc k) xs)

there_is : {A : Type 0} (xs : List A) (i : ℕ) → i < length xs → (x : A) × (get_elem? xs i ≡ some x)
there_is [] i h = absurd (omega arith)
there_is (x ∷ xs) zero h = (x, refl)
there_is (x ∷ xs) (suc i) h = there_is xs i (omega arith)

length_from : {I : Type 0} (seen : List (List I)) (k n : ℕ) → length (identities_from seen k n) ≡ n
length_from seen k zero = refl
length_from seen k (suc n) = ap suc (length_from seen (suc k) n)

next_below : (x k : ℕ) → once_below x k + times x (k ∷ []) ≡ once_below x (suc k)
next_below x k = grind (arith, nat_tests)

numbers_from : {I : Type 0} (seen : List (List I)) (x k n : ℕ) → once_below x k + times x (numbers (identities_from seen k n)) ≡ once_below x (k + n)
numbers_from seen x k zero = let z : k ≡ k + 0 = omega arith in let e = ap (once_below x) z in omega arith
numbers_from seen x k (suc n) = let a = numbers_from seen x (suc k) n in let b = next_below x k in let z : suc k + n ≡ k + suc n = omega arith in let e = ap (once_below x) z in
    let one : ℕ = cond (eqb k x) 1 0 in let b' : once_below x k + (0 + one) ≡ once_below x (suc k) = b in
    let c : times x (numbers (identities_from seen k (suc n))) ≡ one + times x (numbers (identities_from seen (suc k) n)) = sum_by-cons (λ (y : ℕ). cond (eqb y x) 1 0) k (numbers (identities_from seen (suc k) n)) in omega (arith, a, b', c, e)

none_below : (x : ℕ) → once_below x 0 ≡ 0
none_below x = grind (arith, nat_tests)

each_from : {I : Type 0} (P : Identity I → Type 0) (seen : List (List I)) (k n : ℕ) → ((i : ℕ) → P (identity i seen)) → Each P (identities_from seen k n)
each_from P seen k zero h = tt
each_from P seen k (suc n) h = (h k, each_from P seen (suc k) n h)

pub begins : {T K I : Type 0} (fits : K → ℕ → T → Type 0) (history : K → ℕ → T → List I) (names : K → I → Option ℕ) (key : K) (seats : ℕ) (values : List T) (words : List ℕ) (slots : List (Option T)) → length words ≡ length values → slots ≡ map (λ (x : T). Some x) values
    → ((p : ℕ) (x : T) → get_elem? values p ≡ some x → fits key p x × (slice_index words p ≡ 2 * length (history key p x)))
    → InTurn (fits key) (history key) (names key) key (length values) seats (starts (history key) 0 values) (opening words slots (first_view key seats (starts (history key) 0 values)))
begins {T} {K} {I} fits history names key seats values words slots len are each = let start : List (List I) = starts (history key) 0 values in let v : View K I = first_view key seats start in record {
  hist = λ p. seen_of start p;
  holder = λ _. 0;
  wide = len;
  deep = ap (λ (l : List (Option T)). length (map some l)) are ∙ (length_map2 values);
  each_place = λ p low. let x = there_is values p low in let e = each p x.0 x.1 in let s = starts_at (history key) 0 values p x.0 x.1 in let z : 0 + p ≡ p = omega arith in let s' : seen_of start p ≡ history key p x.0 = s ∙ ap (λ (i : ℕ). history key i x.0) z in inl record {
    value = x.0;
    word = e.1 ∙ ap (λ (l : List I). 2 * length l) (sym s');
    there = ap (λ (l : List (Option T)). get_elem? (map some l) p) are ∙ Rattle.atomic_table.proofs.Lists.at_map some (map (λ (y : T). Some y) values) p (Some x.0) (Rattle.atomic_table.proofs.Lists.at_map (λ (y : T). Some y) values p x.0 x.1);
    fit = e.0;
    is = sym s';
  };
  each_view = each_snoc (ViewOk (fits key) (history key) (names key) key (length values) seats start words (λ p. seen_of start p) (λ _. 0)) [] v
      (λ j. record {
        keyed = λ k (e : Some key ≡ Some k). let z : key ≡ k = cc in sym z;
        identities = each_from (IdentityOk (fits key) (history key) (names key) key (length values) seats start (λ p. seen_of start p)) start 0 seats (λ i. record { sized = length-starts (history key) 0 values; adds = λ p l. adds_nothing (names key) i (seen_of start p) });
        notes = tt;
        inside = λ q (e : None ≡ Some q). absurd (cc);
        idle = λ _. refl;
      })
      (λ j u e. absurd (some-ne-none u (sym e)));
  grown = λ p l. record { added = []; is = sym (append-nil (seen_of start p)); low = none_of (λ x. (k : ℕ) → names key x ≡ Some k → k < seats) };
  counted = (let e = length_from start 0 seats in omega arith);
  numbered = λ k. (let a = numbers_from start k 0 seats in let b = none_below k in let z : 0 + seats ≡ seats = omega arith in let e = ap (once_below k) z in omega (arith, a, b, e));
}
  where
    length_map2 : (xs : List T) → length (map some (map (λ (x : T). Some x) xs)) ≡ length xs
    length_map2 [] = refl
    length_map2 (x ∷ xs) = ap suc (length_map2 xs)

module _ {T K I : Type 0} (fits : K → ℕ → T → Type 0) (history : K → ℕ → T → List I) (names : K → I → Option ℕ) (key : K) (places seats : ℕ) (start : List (List I)) where
  -- the first number goes to a new seat
  pub deals : (id : ℕ) (v : View K I) (e : Identity I) (es : List (Identity I)) → v.identities ≡ e ∷ es → v.entered ≡ None → v.notes ≡ [] → Splits (InTurn (fits key) (history key) (names key) key places seats start) id v (without_first v) (first_alone v)
  deals id v e es is out bare s r at = let w : View K I = without_first v in let u : View K I = first_alone v in let ok = r.each_view id v at in let vs : List (View K I) = set s.views id w in
      let E : Identity I → Type 0 = IdentityOk (fits key) (history key) (names key) key places seats start r.hist in
      let each : Each E (e ∷ es) = subst (Each E) is ok.identities in
      let F : ℕ → View K I → Type 0 = ViewOk (fits key) (history key) (names key) key places seats start s.words r.hist r.holder in record {
        hist = r.hist;
        holder = r.holder;
        wide = r.wide;
        deep = r.deep;
        each_place = λ p l. ⊎_elim (λ x. inl x) (λ x. inr (dite (ℕ_discrete (r.holder p) id)
            (λ same. let is : v ≡ x.view = some-injective v x.view (sym at ∙ (ap (λ (i : ℕ). get_elem? s.views i) (sym same) ∙ x.there)) in let no : None ≡ Some p = sym out ∙ (ap (λ (z : View K I). z.entered) is ∙ x.inside) in absurd (cc))
            (λ ne. record { view = x.view; word = x.word; there = at_longer vs (u ∷ []) (r.holder p) x.view (set_else s.views id (r.holder p) w ne ∙ x.there); inside = x.inside }))) (r.each_place p l);
        each_view = each_snoc F vs u
            (λ j. record {
              keyed = ok.keyed;
              identities = subst (λ (l : List (Identity I)). Each E (only l)) (sym is) (each.0, tt);
              notes = ok.notes;
              inside = λ q h. let no : None ≡ Some q = sym out ∙ h in absurd (cc);
              idle = λ _. out;
            })
            (each_set F s.views id w
            record {
              keyed = ok.keyed;
              identities = subst (λ (l : List (Identity I)). Each E (rest l)) (sym is) each.1;
              notes = ok.notes;
              inside = λ q h. let no : None ≡ Some q = sym out ∙ h in absurd (cc);
              idle = λ _. out;
            }
            (λ j u _ e. r.each_view j u e));
        grown = r.grown;
        counted = (let t = sum_set (λ (z : View K I). length z.identities) s.views id v w at in let a = sum_by-append (λ (z : View K I). length z.identities) vs (u ∷ []) in let c = r.counted in
            let n = ap (λ (l : List (Identity I)). length l) is in let n1 = ap (λ (l : List (Identity I)). length (rest l)) is in let n2 = ap (λ (l : List (Identity I)). length (only l)) is in omega arith);
        numbered = λ k. (let t = sum_set (λ (z : View K I). times k (numbers z.identities)) s.views id v w at in let a = sum_by-append (λ (z : View K I). times k (numbers z.identities)) vs (u ∷ []) in let c = r.numbered k in
            let one : ℕ = cond (eqb e.number k) 1 0 in
            let n : times k (numbers v.identities) ≡ one + times k (numbers es) = ap (λ (l : List (Identity I)). times k (numbers l)) is ∙ sum_by-cons (λ (y : ℕ). cond (eqb y k) 1 0) e.number (numbers es) in let n1 : times k (numbers (rest v.identities)) ≡ times k (numbers es) = ap (λ (l : List (Identity I)). times k (numbers (rest l))) is in
            let n2 : times k (numbers (only v.identities)) ≡ 0 + one = ap (λ (l : List (Identity I)). times k (numbers (only l))) is in omega arith);
      }
