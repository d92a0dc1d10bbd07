-- What a seat shows, before and after a step.
use Rattle.std.proofs.Common.{◌≡◌, ◌≢◌, ℕ, zero, suc, ◌++◌, ◌-◌, map, arith, ◌+◌, ◌==◌, ◌<◌, get_or-set_same, Bool, List, [], ◌∷◌, length, set, Option, Some, None, sym, refl, ap, ◌∙◌, subst, eq-eqb, ne_eqb}
use Rattle.std.specs.Prelude.{MatchBool, slice_index}
use Rattle.atomic_table.specs.Table.{rest}
use Rattle.atomic_table.specs.Seated.{TableId}
use Rattle.std.specs.List.{range_with_len}
use Rattle.std.proofs.lemmas.List.{set-get_or}
use Rattle.cp_gate.specs.declared.view.View.{View}
use Rattle.cp_gate.specs.Histories.{seen_of, OthersAdd, SeatAdds, StartsWith, longest}
use Rattle.cp_gate.specs.Models.{SeatModel, zeros, turn_more, entering, leaving, looking, told_of}
use Rattle.cp_gate.specs.Rule.{Sitting, IsSeated, seated, first_seen, carried_at, both, told, dealing, first_view, without_first, first_alone}

pub match_hit : (A B : Type 0) (n m : ℕ) → n ≡ m → MatchBool (n == m) A B → A
match_hit A B n m e h = subst (λ (b : Bool). MatchBool b A B) (eq-eqb n m e) h

pub match_miss : (A B : Type 0) (n m : ℕ) → n ≢ m → MatchBool (n == m) A B → B
match_miss A B n m ne h = subst (λ (b : Bool). MatchBool b A B) (ne_eqb n m ne) h

pub kept_as : (T K I : Type 0) (key : K) (number places : ℕ) (me : Sitting T K I) (seen : List (List I)) (turns : List ℕ) (entered : Option ℕ) → me ≡ (seated key number seen turns entered, carried_at entered) → ((p : ℕ) → entered ≡ Some p → p < places) → length seen ≡ places → length turns ≡ places → IsSeated key number places me
kept_as T K I key number places me seen turns entered is low sized turned = subst (IsSeated key number places) (sym is) (refl, low, sized, turned)

-- the key of a seat is the gate's
pub key_of : (T K I : Type 0) (key k' : K) (number places : ℕ) (me : Sitting T K I) (o : Option K) → IsSeated key number places me → me.0.key ≡ o → o ≡ Some k' → key ≡ k'
key_of T K I key k' number places me o kept a b = let e : Some key ≡ Some k' = sym (ap (λ (m : Sitting T K I). m.0.key) kept.0) ∙ (a ∙ b) in cc

-- a step that leaves the key and the number leaves what a seat shows of them
pub key_stays : (T K I : Type 0) (key : K) (number places : ℕ) (me : Sitting T K I) (v : View K I) (n : ℕ) (seen : List (List I)) (turns : List ℕ) (entered : Option ℕ) → IsSeated key number places me → v ≡ seated key n seen turns entered → v.key ≡ me.0.key
key_stays T K I key number places me v n seen turns entered kept is = ap (λ (u : View K I). u.key) is ∙ sym (ap (λ (m : Sitting T K I). m.0.key) kept.0)

-- the seat, where it has entered this or nothing
pub seat_in : (T K I : Type 0) (key : K) (number places : ℕ) (me : Sitting T K I) (entered : Option ℕ) → IsSeated key number places me → me.0.entered ≡ entered → me ≡ (seated key number (first_seen me.0.identities) me.0.turns entered, carried_at entered)
seat_in T K I key number places me entered kept is = kept.0 ∙ (λ i. (seated key number (first_seen me.0.identities) me.0.turns (is i), carried_at (is i)))

module _ {K I : Type 0} where
  abbrev pub says : TableId → Option K → ℕ → View K I → SeatModel K I
  says t key number v = record { table = t; key = key; number = number; seen = first_seen v.identities; turns = v.turns; entered = v.entered }

  pub same_is : (t t' : TableId) (key key' : Option K) (number : ℕ) (v v' : View K I) (seat : SeatModel K I) → says t key number v ≡ seat → t' ≡ t → key' ≡ key → v' ≡ v → says t' key' number v' ≡ seat
  same_is t t' key key' number v v' seat is te ke ve = (λ i. says (te i) (ke i) number (ve i)) ∙ is

  pub entering_is : (t t' : TableId) (key key' : Option K) (k : K) (number : ℕ) (v v' : View K I) (seat : SeatModel K I) (p : ℕ) (h h' : List I) → says t key number v ≡ seat → t' ≡ t → key' ≡ key → v' ≡ seated k number (set (first_seen v.identities) p h) (turn_more v.turns p) (Some p) → h ≡ h'
      → says t' key' number v' ≡ entering seat p h'
  entering_is t t' key key' k number v v' seat p h h' is te ke ve he = subst (λ (s : SeatModel K I). says t' key' number v' ≡ entering s p h') is
      ((λ i. says (te i) (ke i) number (ve i)) ∙ (λ i. entering (says t key number v) p (he i)))

  pub leaving_is : (t t' : TableId) (key key' : Option K) (k : K) (number : ℕ) (v v' : View K I) (seat : SeatModel K I) (p : ℕ) (h h' : List I) → says t key number v ≡ seat → t' ≡ t → key' ≡ key → v' ≡ seated k number (set (first_seen v.identities) p h) v.turns None → h ≡ h'
      → says t' key' number v' ≡ leaving seat p h'
  leaving_is t t' key key' k number v v' seat p h h' is te ke ve he = subst (λ (s : SeatModel K I). says t' key' number v' ≡ leaving s p h') is
      ((λ i. says (te i) (ke i) number (ve i)) ∙ (λ i. leaving (says t key number v) p (he i)))

  pub looking_is : (t t' : TableId) (key key' : Option K) (k : K) (number : ℕ) (v v' : View K I) (seat : SeatModel K I) (p : ℕ) (h h' : List I) → says t key number v ≡ seat → t' ≡ t → key' ≡ key → v' ≡ seated k number (set (first_seen v.identities) p h) v.turns v.entered → h ≡ h'
      → says t' key' number v' ≡ looking seat p h'
  looking_is t t' key key' k number v v' seat p h h' is te ke ve he = subst (λ (s : SeatModel K I). says t' key' number v' ≡ looking s p h') is
      ((λ i. says (te i) (ke i) number (ve i)) ∙ (λ i. looking (says t key number v) p (he i)))

  pub told_is : (t t' : TableId) (key key' : Option K) (k : K) (number : ℕ) (v v' : View K I) (seat : SeatModel K I) (seen seen' : List (List I)) → says t key number v ≡ seat → t' ≡ t → key' ≡ key → v' ≡ seated k number (longest (first_seen v.identities) seen) v.turns v.entered → seen ≡ seen'
      → says t' key' number v' ≡ told_of seat seen'
  told_is t t' key key' k number v v' seat seen seen' is te ke ve se = subst (λ (s : SeatModel K I). says t' key' number v' ≡ told_of s seen') is
      ((λ i. says (te i) (ke i) number (ve i)) ∙ (λ i. told_of (says t key number v) (se i)))

module _ {T K I : Type 0} where
  pub facts_move : (fits : K → ℕ → T → Type 0) (history : K → ℕ → T → List I) (names : K → I → Option ℕ) (k k' : K) (number number' : ℕ) (seen seen' : List (List I)) (p : ℕ) (x x' : T) → k ≡ k' → number ≡ number' → seen ≡ seen' → x ≡ x'
      → fits k p x → OthersAdd (names k) number (seen_of seen p) (history k p x) → fits k' p x' × OthersAdd (names k') number' (seen_of seen' p) (history k' p x')
  facts_move fits history names k k' number number' seen seen' p x x' ke ne se xe f a = subst (λ (z : K × (ℕ × (List (List I) × T))). fits z.0 p z.1.1.1 × OthersAdd (names z.0) z.1.0 (seen_of z.1.1.0 p) (history z.0 p z.1.1.1)) (λ i. (ke i, (ne i, (se i, xe i)))) (f, a)

  pub owns_move : (fits : K → ℕ → T → Type 0) (history : K → ℕ → T → List I) (names : K → I → Option ℕ) (k k' : K) (number number' : ℕ) (seen seen' : List (List I)) (p : ℕ) (x : T) → k ≡ k' → number ≡ number' → seen ≡ seen'
      → fits k p x → SeatAdds (names k) number (seen_of seen p) (history k p x) → fits k' p x × SeatAdds (names k') number' (seen_of seen' p) (history k' p x)
  owns_move fits history names k k' number number' seen seen' p x ke ne se f a = subst (λ (z : K × (ℕ × List (List I))). fits z.0 p x × SeatAdds (names z.0) z.1.0 (seen_of z.1.1 p) (history z.0 p x)) (λ i. (ke i, (ne i, se i))) (f, a)

pub taken_out : (T K I : Type 0) (me now : Sitting T K I) (k : K) (number : ℕ) (seen : List (List I)) (turns : List ℕ) (p : ℕ) (x : T) (old : List (ℕ × Option T)) → old ≡ [] → now ≡ (seated k number seen turns (Some p), (p, Some x) ∷ old) → me ≡ (now.0, (p, None) ∷ rest now.1)
    → me ≡ (seated k number seen turns (Some p), carried_at (Some p))
taken_out T K I me now k number seen turns p x old none is e = e ∙ ((λ i. ((is i).0, (p, None) ∷ rest (is i).1)) ∙ (λ i. (seated k number seen turns (Some p), (p, None) ∷ none i)))

pub put_in : (T K I : Type 0) (me was : Sitting T K I) (k : K) (number : ℕ) (seen : List (List I)) (turns : List ℕ) (p : ℕ) (x : T) → was ≡ (seated k number seen turns (Some p), carried_at (Some p)) → me ≡ (was.0, (p, Some x) ∷ rest was.1)
    → me ≡ (seated k number seen turns (Some p), (p, Some x) ∷ [])
put_in T K I me was k number seen turns p x is e = e ∙ (λ i. ((is i).0, (p, Some x) ∷ rest (is i).1))

pub joined : (T K I : Type 0) (me was : Sitting T K I) (note : View K I) (k : K) (number : ℕ) (seen seen' : List (List I)) (turns : List ℕ) (entered : Option ℕ) → was.0 ≡ seated k number seen turns entered → note ≡ record { key = None; identities = []; notes = seen' ∷ []; turns = []; entered = None } → me ≡ (both was.0 note, was.1)
    → me.0 ≡ told k number seen seen' turns entered
joined T K I me was note k number seen seen' turns entered is n e = ap (λ (m : Sitting T K I). m.0) e ∙ (λ i. both (is i) (n i))

pub read_done : (T K I : Type 0) (me : Sitting T K I) (k : K) (number : ℕ) (seen : List (List I)) (turns : List ℕ) (entered : Option ℕ) (carried : List (ℕ × Option T)) → me ≡ (seated k number seen turns entered, carried) → carried ≡ carried_at entered → me ≡ (seated k number seen turns entered, carried_at entered)
read_done T K I me k number seen turns entered carried is same = is ∙ (λ i. (seated k number seen turns entered, same i))

pub adds_move : {K I : Type 0} (names : K → I → Option ℕ) (k k' : K) (number number' : ℕ) (xs xs' ys ys' zs zs' : List I) → k ≡ k' → number ≡ number' → xs ≡ xs' → ys ≡ ys' → zs ≡ zs' → OthersAdd (names k) number xs ys → StartsWith ys zs
    → OthersAdd (names k') number' xs' ys' × StartsWith ys' zs'
adds_move {K} {I} names k k' number number' xs xs' ys ys' zs zs' ke ne xe ye ze a s = subst (λ (w : K × (ℕ × (List I × (List I × List I)))). OthersAdd (names w.0) w.1.0 w.1.1.0 w.1.1.1.0 × StartsWith w.1.1.1.0 w.1.1.1.1) (λ i. (ke i, (ne i, (xe i, (ye i, ze i))))) (a, s)

pub entering_facts : {K I : Type 0} (seat new : SeatModel K I) (p : ℕ) (h : List I) → new ≡ entering seat p h → p < length seat.turns → p < length seat.seen → (slice_index new.turns p ≡ slice_index seat.turns p + 1) × (seen_of new.seen p ≡ h)
entering_facts {K} {I} seat new p h is turns seen = (
  ap (λ (s : SeatModel K I). slice_index s.turns p) is ∙ get_or-set_same seat.turns p (slice_index seat.turns p + 1) 0 turns,
  ap (λ (s : SeatModel K I). seen_of s.seen p) is ∙ get_or-set_same seat.seen p h [] seen,
)

pub leaving_facts : {K I : Type 0} (seat new : SeatModel K I) (p : ℕ) (h : List I) → new ≡ leaving seat p h → p < length seat.seen → seen_of new.seen p ≡ h
leaving_facts {K} {I} seat new p h is seen = ap (λ (s : SeatModel K I). seen_of s.seen p) is ∙ get_or-set_same seat.seen p h [] seen

pub dealt_one : (T K I : Type 0) (me : Sitting T K I) (k : K) (start : List (List I)) (i n m : ℕ) → n ≡ suc m → me ≡ (dealing k start i n, []) → me ≡ (dealing k start i (suc m), [])
dealt_one T K I me k start i n m e is = is ∙ ap (λ (z : ℕ). let v : Sitting T K I = (dealing k start i z, []) in v) e

range_from : (k n : ℕ) → range_with_len k (suc n) ≡ range_with_len k n ++ (k + n) ∷ []
range_from k zero = let z : k ≡ k + 0 = omega arith in ap (λ (i : ℕ). i ∷ []) z
range_from k (suc n) = let z : (k + 1) + n ≡ k + suc n = omega arith in ap (λ (l : List ℕ). k ∷ l) (range_from (k + 1) n ∙ ap (λ (i : ℕ). range_with_len (k + 1) n ++ i ∷ []) z)

pub range_next : (n : ℕ) → range_with_len 0 (n + 1) ≡ range_with_len 0 n ++ n ∷ []
range_next n = let z : n + 1 ≡ suc n = omega arith in let y : 0 + n ≡ n = omega arith in ap (range_with_len 0) z ∙ (range_from 0 n ∙ ap (λ (i : ℕ). range_with_len 0 n ++ i ∷ []) y)

pub dealt_none : (T K I : Type 0) (me : Sitting T K I) (k : K) (start : List (List I)) (seats : ℕ) → me ≡ (first_view k seats start, []) → me ≡ (dealing k start 0 (seats - 0), [])
dealt_none T K I me k start seats is = let z : seats ≡ seats - 0 = omega arith in is ∙ (λ i. (dealing k start 0 (z i), []))

pub dealt_rest : (T K I : Type 0) (new was : Sitting T K I) (k : K) (start : List (List I)) (number m : ℕ) → was ≡ (dealing k start number (suc m), []) → new ≡ (without_first was.0, was.1) → new ≡ (dealing k start (number + 1) m, [])
dealt_rest T K I new was k start number m is e = let z : suc number ≡ number + 1 = omega arith in e ∙ ((λ i. (without_first (is i).0, (is i).1)) ∙ (λ i. (dealing k start (z i) m, [])))

pub dealt_me : (T K I : Type 0) (me was : Sitting T K I) (k : K) (start : List (List I)) (number m : ℕ) → was ≡ (dealing k start number (suc m), []) → me ≡ (first_alone was.0, []) → me ≡ (seated k number start (zeros start) None, carried_at None)
dealt_me T K I me was k start number m is e = e ∙ (λ i. (first_alone (is i).0, []))

pub length-zeros : {A : Type 0} (xs : List A) → length (zeros xs) ≡ length xs
length-zeros [] = refl
length-zeros (x ∷ xs) = ap suc (length-zeros xs)

pub map_snoc : {A B : Type 0} (f : A → B) (xs : List A) (x : A) → map f (xs ++ x ∷ []) ≡ map f xs ++ f x ∷ []
map_snoc f [] x = refl
map_snoc f (y ∷ ys) x = ap (λ l. f y ∷ l) (map_snoc f ys x)

pub looked_at : (T K I : Type 0) (me : Sitting T K I) (k : K) (number : ℕ) (seen : List (List I)) (turns : List ℕ) (entered : Option ℕ) (old : List (ℕ × Option T)) (p : ℕ) (h : List I) → me ≡ (seated k number (set seen p h) turns entered, old) → p < length seen → seen_of (first_seen me.0.identities) p ≡ h
looked_at T K I me k number seen turns entered old p h is low = ap (λ (m : Sitting T K I). seen_of (first_seen m.0.identities) p) is ∙ get_or-set_same seen p h [] low

pub looked_inside : {K I : Type 0} (seat new : SeatModel K I) (p : ℕ) (h : List I) → new ≡ looking seat p h → h ≡ seen_of seat.seen p → new ≡ seat
looked_inside {K} {I} seat new p h is same = is ∙ ((λ i. looking seat p (same i)) ∙ (λ i. record seat { seen = set-get_or seat.seen p [] i }))
