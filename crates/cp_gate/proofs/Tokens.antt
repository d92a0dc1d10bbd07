-- Seats that are split, joined and added keep the rule of the places.
use Rattle.std.proofs.Common.{◌≡◌, ◌⊎◌, ℕ, ◌+◌, ◌<◌, eqb, cond, List, [], ◌∷◌, ◌++◌, length, set, Option, Some, None, sym, refl, ap, ◌∙◌, subst, ⊎_elim, inl, inr, arith}
use Rattle.std.proofs.lemmas.List.{length-append}
use Rattle.std.proofs.lemmas.List.Sums.{sum_by-append}
use mathlib.Core.Logic.{dite}
use mathlib.Core.Option.{some, none, some-injective}
use mathlib.Core.Option as maybe
use native.Mathlib.Decide.{ℕ_discrete}
use lib.ListN.{get_elem?}
use Rattle.atomic_table.specs.Table.{State, Me, Enters, Splits, Joins}
use Rattle.atomic_table.proofs.Lists.{set_else, set_again, at_longer}
use Rattle.cp_gate.specs.declared.view.Identity.{Identity}
use Rattle.cp_gate.specs.declared.view.View.{View}
use Rattle.cp_gate.specs.Histories.{times, once_below, seen_of}
use Rattle.cp_gate.specs.Rule.{identity, numbers, first_seen, seated, newcomer, noted, both, IdentityOk, NoteOk, Home, Out, Inside, ViewOk, InTurn}
use Rattle.table_views.proofs.Views.{sum_set, two_le_sum, sum_alone, each_set, each_snoc}
use Rattle.cp_gate.proofs.Steps.{set_at}
use Rattle.cp_gate.proofs.Unloads.{within_list}
use Rattle.cp_gate.proofs.Histories.{each_append}

module _ {T K I : Type 0} (fits : K → ℕ → T → Type 0) (history : K → ℕ → T → List I) (names : K → I → Option ℕ) (key : K) (places seats : ℕ) (start : List (List I)) where
  abbrev V : Type 0
  V = View K I

  abbrev St : Type 0
  St = State (Option T) V

  abbrev M : Type 0
  M = Me (Option T) V

  abbrev Hs : Type 0
  Hs = List (maybe.Option (Option T))

  abbrev Rule : St → Type 0
  Rule = InTurn (fits key) (history key) (names key) key places seats start

  abbrev EOk : (ℕ → List I) → Identity I → Type 0
  EOk = IdentityOk (fits key) (history key) (names key) key places seats start

  abbrev NOk : (ℕ → List I) → List (List I) → Type 0
  NOk = NoteOk (fits key) (history key) (names key) key places seats start

  abbrev HomeAt : List ℕ → Hs → (ℕ → List I) → ℕ → Type 0
  HomeAt = Home (fits key) (history key) (names key) key places seats start

  abbrev OutAt : List ℕ → List V → (ℕ → List I) → (ℕ → ℕ) → ℕ → Type 0
  OutAt = Out (fits key) (history key) (names key) key places seats start

  abbrev POk : List ℕ → Hs → List V → (ℕ → List I) → (ℕ → ℕ) → ℕ → Type 0
  POk words homes views hist holder p = HomeAt words homes hist p ⊎ OutAt words views hist holder p

  abbrev InAt : List ℕ → (ℕ → List I) → (ℕ → ℕ) → ℕ → V → ℕ → Type 0
  InAt = Inside (fits key) (history key) (names key) key places seats start

  abbrev VOk : List ℕ → (ℕ → List I) → (ℕ → ℕ) → ℕ → V → Type 0
  VOk = ViewOk (fits key) (history key) (names key) key places seats start

  -- a note of what a seat has seen
  pub notes_on : (id : ℕ) (k : K) (m : ℕ) (seen : List (List I)) (turns : List ℕ) (entered : Option ℕ) → Splits Rule id (seated k m seen turns entered) (seated k m seen turns entered) (noted (seated k m seen turns entered))
  notes_on id k m seen turns entered s r at = let v : V = seated k m seen turns entered in let note : V = noted v in let ok = r.each_view id v at in
      subst (λ (vs : List V). Rule record { words = s.words; homes = s.homes; views = vs ++ note ∷ [] }) (sym (set_again s.views id v at)) record {
        hist = r.hist;
        holder = r.holder;
        wide = r.wide;
        deep = r.deep;
        each_place = λ p l. ⊎_elim (λ (x : HomeAt s.words s.homes r.hist p). inl x)
            (λ (x : OutAt s.words s.views r.hist r.holder p). inr record { view = x.view; word = x.word; there = at_longer s.views (note ∷ []) (r.holder p) x.view x.there; inside = x.inside }) (r.each_place p l);
        each_view = each_snoc (VOk s.words r.hist r.holder) s.views note
            (λ j. record {
              keyed = λ k' (e : None ≡ Some k'). absurd (cc);
              identities = tt;
              notes = ((λ p l. ((ok.identities.0.adds p l).rest, (ok.identities.0.adds p l).is)), tt);
              inside = λ q (e : None ≡ Some q). absurd (cc);
              idle = λ _. refl;
            })
            r.each_view;
        grown = r.grown;
        counted = (let a = sum_by-append (λ (z : V). length z.identities) s.views (note ∷ []) in let c = r.counted in omega arith);
        numbered = λ k. (let a = sum_by-append (λ (z : V). times k (numbers z.identities)) s.views (note ∷ []) in let c = r.numbered k in omega arith);
      }

  numbers_append : (xs ys : List (Identity I)) → numbers (xs ++ ys) ≡ numbers xs ++ numbers ys
  numbers_append [] ys = refl
  numbers_append (e ∷ es) ys = ap (λ (l : List ℕ). e.number ∷ l) (numbers_append es ys)

  first_of_two : (e : Identity I) (xs ys zs : List (Identity I)) → xs ≡ e ∷ zs → first_seen (xs ++ ys) ≡ first_seen xs
  first_of_two e xs ys zs is = ap (λ (l : List (Identity I)). first_seen (l ++ ys)) is ∙ ap (λ (l : List (Identity I)). first_seen l) (sym is)

  -- a seat takes in another that is inside no place
  gathers_on : (id : ℕ) (v : V) (other : ℕ) (w : V) → ((q : ℕ) → v.entered ≡ Some q → first_seen (v.identities ++ w.identities) ≡ first_seen v.identities) → (v.identities ++ w.identities ≡ [] → v.entered ≡ None) → w.entered ≡ None → Joins Rule id v other w (both v w) newcomer
  gathers_on id v other w heads free out s r at apart there = let b : V = both v w in let z : V = newcomer in let vs : List V = set s.views id b in
      let was : get_elem? s.views other ≡ some w = subst (λ l. l ≡ some w) (set_else s.views id other b apart) there in
      let ok = r.each_view id v at in let ok' = r.each_view other w was in record {
        hist = r.hist;
        holder = r.holder;
        wide = r.wide;
        deep = r.deep;
        each_place = λ p l. ⊎_elim (λ (x : HomeAt s.words s.homes r.hist p). inl x) (λ (x : OutAt s.words s.views r.hist r.holder p). inr (dite (ℕ_discrete (r.holder p) other)
            (λ same. let is : w ≡ x.view = some-injective w x.view (sym was ∙ (ap (λ (i : ℕ). get_elem? s.views i) (sym same) ∙ x.there)) in let no : None ≡ Some p = sym out ∙ (ap (λ (u : V). u.entered) is ∙ x.inside) in absurd (cc))
            (λ ne. dite (ℕ_discrete (r.holder p) id)
            (λ same. record { view = b; word = x.word; there = set_else vs other (r.holder p) z ne ∙ (ap (λ (i : ℕ). get_elem? vs i) same ∙ set_at s.views id v b at); inside = ap (λ (u : V). u.entered) (some-injective v x.view (sym at ∙ (ap (λ (i : ℕ). get_elem? s.views i) (sym same) ∙ x.there))) ∙ x.inside })
            (λ ne'. record { view = x.view; word = x.word; there = set_else vs other (r.holder p) z ne ∙ (set_else s.views id (r.holder p) b ne' ∙ x.there); inside = x.inside })))) (r.each_place p l);
        each_view = each_set (VOk s.words r.hist r.holder) vs other z
            record {
              keyed = λ k' (e : None ≡ Some k'). absurd (cc);
              identities = tt;
              notes = tt;
              inside = λ q (e : None ≡ Some q). absurd (cc);
              idle = λ _. refl;
            }
            (λ j u _. each_set (VOk s.words r.hist r.holder) s.views id b
            record {
              keyed = ok.keyed;
              identities = each_append (EOk r.hist) v.identities w.identities ok.identities ok'.identities;
              notes = each_append (NOk r.hist) v.notes w.notes ok.notes ok'.notes;
              inside = λ q e'. let i = ok.inside q e' in record { place = i.place; word = i.word; mine = i.mine; all = ap (λ (l : List (List I)). seen_of l q) (heads q e') ∙ i.all };
              idle = free;
            }
            (λ j u _ e. r.each_view j u e) j u);
        grown = r.grown;
        counted = (let e = sum_set (λ (u : V). length u.identities) s.views id v b at in let f = sum_set (λ (u : V). length u.identities) vs other w z there in let a = length-append v.identities w.identities in let p = r.counted in omega arith);
        numbered = λ k. (let e = sum_set (λ (u : V). times k (numbers u.identities)) s.views id v b at in let f = sum_set (λ (u : V). times k (numbers u.identities)) vs other w z there in
            let a : times k (numbers (v.identities ++ w.identities)) ≡ times k (numbers v.identities) + times k (numbers w.identities) = ap (times k) (numbers_append v.identities w.identities) ∙ sum_by-append (λ (y : ℕ). cond (eqb y k) 1 0) (numbers v.identities) (numbers w.identities) in let p = r.numbered k in omega arith);
      }

  pub gathers : (id : ℕ) (v : V) (other : ℕ) (w : V) (e : Identity I) (es : List (Identity I)) → v.identities ≡ e ∷ es → w.entered ≡ None → Joins Rule id v other w (both v w) newcomer
  gathers id v other w e es some_identity out = gathers_on id v other w (λ q _. first_of_two e v.identities w.identities es some_identity) (λ none. let no : e ∷ (es ++ w.identities) ≡ [] = ap (λ (l : List (Identity I)). l ++ w.identities) (sym some_identity) ∙ none in absurd (cc)) out

  pub gathers_free : (id : ℕ) (v : V) (other : ℕ) (w : V) → v.entered ≡ None → w.entered ≡ None → Joins Rule id v other w (both v w) newcomer
  gathers_free id v other w free out = gathers_on id v other w (λ q e. let no : None ≡ Some q = sym free ∙ e in absurd (cc)) (λ _. free) out

  pub arrives : (slots : ℕ) → Enters Rule slots 0 (λ n w. w ≡ newcomer)
  arrives slots s r deep fit = (
    newcomer,
    record {
      hist = r.hist;
      holder = r.holder;
      wide = r.wide;
      deep = r.deep;
      each_place = λ p l. ⊎_elim (λ (x : HomeAt s.words s.homes r.hist p). inl x)
          (λ (x : OutAt s.words s.views r.hist r.holder p). inr record { view = x.view; word = x.word; there = at_longer s.views (newcomer ∷ []) (r.holder p) x.view x.there; inside = x.inside }) (r.each_place p l);
      each_view = each_snoc (VOk s.words r.hist r.holder) s.views newcomer
          (λ j. record {
            keyed = λ k' (e : None ≡ Some k'). absurd (cc);
            identities = tt;
            notes = tt;
            inside = λ q (e : None ≡ Some q). absurd (cc);
            idle = λ _. refl;
          })
          r.each_view;
      grown = r.grown;
      counted = (let a = sum_by-append (λ (z : V). length z.identities) s.views (newcomer ∷ []) in let c = r.counted in omega arith);
      numbered = λ k. (let a = sum_by-append (λ (z : V). times k (numbers z.identities)) s.views (newcomer ∷ []) in let c = r.numbered k in omega arith);
    },
    refl,
  )

  -- where one view has each identity and is inside no place, each value is at home
  pub settles : (s : St) (r : Rule s) (id : ℕ) (v : V) → get_elem? s.views id ≡ some v → v.entered ≡ None → length v.identities ≡ seats → (p : ℕ) → p < places → HomeAt s.words s.homes r.hist p
  settles s r id v at out all p low = ⊎_elim (λ (x : HomeAt s.words s.homes r.hist p). x) (λ (x : OutAt s.words s.views r.hist r.holder p). absurd (dite (ℕ_discrete (r.holder p) id)
      (λ e. let is : v ≡ x.view = some-injective v x.view (sym at ∙ (ap (λ (i : ℕ). get_elem? s.views i) (sym e) ∙ x.there)) in let no : None ≡ Some p = sym out ∙ (ap (λ (u : V). u.entered) is ∙ x.inside) in cc)
      (λ ne. let two = two_le_sum (λ (z : V). length z.identities) s.views id (r.holder p) v x.view (λ h. ne (sym h)) at x.there in let c = r.counted in let no : None ≡ Some p = sym ((r.each_view (r.holder p) x.view x.there).idle (nothing x.view.identities (omega arith))) ∙ x.inside in cc))) (r.each_place p low)
    where
      nothing : (es : List (Identity I)) → length es ≡ 0 → es ≡ []
      nothing [] h = refl
      nothing (e ∷ es) h = absurd (omega arith)

  pub settles_numbers : (s : St) (r : Rule s) (id : ℕ) (v : V) → get_elem? s.views id ≡ some v → length v.identities ≡ seats → (k : ℕ) → times k (numbers v.identities) ≡ once_below k seats
  settles_numbers s r id v at all k = sym (sum_alone (λ (z : V). times k (numbers z.identities)) s.views id v at
      (λ j u ne e. let two = two_le_sum (λ (z : V). length z.identities) s.views id j v u (λ h. ne (sym h)) at e in let c = r.counted in none_in u.identities (omega arith))) ∙ r.numbered k
    where
      none_in : (es : List (Identity I)) → length es ≡ 0 → times k (numbers es) ≡ 0
      none_in [] h = refl
      none_in (e ∷ es) h = absurd (omega arith)

  pub notes_as : (id : ℕ) (v : V) (k : K) (m : ℕ) (seen : List (List I)) (turns : List ℕ) (entered : Option ℕ) → v ≡ seated k m seen turns entered → Splits Rule id v v (noted v)
  notes_as id v k m seen turns entered is = subst (λ (z : V). Splits Rule id z z (noted z)) (sym is) (notes_on id k m seen turns entered)

  pub gathers_as : (id : ℕ) (v : V) (other : ℕ) (w : V) (k : K) (m : ℕ) (seen : List (List I)) (turns : List ℕ) (entered : Option ℕ) → v ≡ seated k m seen turns entered → w.entered ≡ None → Joins Rule id v other w (both v w) newcomer
  gathers_as id v other w k m seen turns entered is out = gathers id v other w (identity m seen) [] (ap (λ (z : V). z.identities) is) out

  -- each value that comes back fits, and stands for the history
  pub comes_back : (s : St) (r : Rule s) (id : ℕ) (v : V) → get_elem? s.views id ≡ some v → v.entered ≡ None → length v.identities ≡ seats → (items : List T) → length items ≡ places → ((p : ℕ) (y : T) → get_elem? s.homes p ≡ some (some (Some y)) → get_elem? items p ≡ some y)
      → (p : ℕ) (x : T) → get_elem? items p ≡ some x → (p < places) × fits key p x × (history key p x ≡ r.hist p)
  comes_back s r id v at out all items len home p x there = let low : p < places = (let l = within_list items p x there in omega arith) in let h = settles s r id v at out all p low in
      let same : h.value ≡ x = some-injective h.value x (sym (home p h.value h.there) ∙ there) in (low, subst (λ (z : T). fits key p z) same h.fit, ap (history key p) (sym same) ∙ h.is)
