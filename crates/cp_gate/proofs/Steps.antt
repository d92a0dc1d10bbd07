-- Each step keeps the rule of the places.
use Rattle.std.proofs.Common.{◌≡◌, ◌≢◌, ◌⊎◌, ℕ, zero, suc, ◌+◌, ◌*◌, ◌%◌, ◌≤◌, ◌<◌, ◌==◌, eqb, cond, Bool, true, false, List, [], ◌∷◌, ◌++◌, length, set, Option, Some, None, sym, refl, ap, ◌∙◌, subst, ⊎_elim, inl, inr, arith, append_assoc, sum_by, eq-eqb, length-set, get_or-set_same, get_or-set_other}
use Rattle.std.specs.Prelude.{slice_index}
use Rattle.std.proofs.lemmas.List.Elements.{All-append}
use Rattle.std.proofs.lemmas.List.{set-get_or}
use Rattle.std.proofs.lemmas.List.Sums.{sum_by-cons}
use Rattle.std.proofs.lemmas.Bool.Decides.{nat_tests}
use mathlib.Core.Logic.{dite}
use mathlib.Core.Option.{some, none, some-injective, some-ne-none}
use mathlib.Core.Option as maybe
use native.Mathlib.Decide.{ℕ_discrete}
use lib.ListN.{get_elem?}
use prog.Atomic.{either}
use Rattle.atomic_table.specs.Table.{State, Me, step, Act, keeps, takes, gives, Valid, carried_after, stepped, Allows}
use Rattle.atomic_table.proofs.Lists.{set_here, set_else, set_again}
use Rattle.cp_gate.specs.declared.view.Identity.{Identity}
use Rattle.cp_gate.specs.declared.view.View.{View}
use Rattle.cp_gate.specs.Histories.{times, once_below, seen_of, StartsWith, OthersAdd, SeatAdds, SeatsAdd, longer, longest}
use Rattle.cp_gate.specs.Rule.{Each, put, identity, numbers, first_seen, seated, told, IdentityOk, NoteOk, Home, Out, Inside, ViewOk, InTurn, Looked, Entered, Left, HasRead}
use Rattle.cp_gate.specs.Models.{turn_more}
use Rattle.table_views.proofs.Views.{sum_set, le_sum, two_le_sum, each_set}
use Rattle.cp_gate.proofs.Histories.{put_here, put_else, each_map, each_map2, adds_nothing, adds_more, starts_more, adds_others, longer_adds, longer_same, length-longest, longest_at}

once_low : (m n : ℕ) → 1 ≤ once_below m n → m < n
once_low m n h = grind (arith, nat_tests)

once_most : (m n : ℕ) → once_below m n ≤ 1
once_most m n = grind (arith, nat_tests)

times_one : (m : ℕ) → times m (m ∷ []) ≡ 1
times_one m = ap (λ (b : Bool). let z : ℕ = 0 + cond b 1 0 in z) (eq-eqb m m refl)

apart_from : {I : Type 0} (m : ℕ) (es : List (Identity I)) → times m (numbers es) ≡ 0 → Each (λ (e : Identity I). e.number ≢ m) es
apart_from m [] h = tt
apart_from m (e ∷ es) h = let one : ℕ = cond (eqb e.number m) 1 0 in let sum : one + times m (numbers es) ≡ 0 = sym (sum_by-cons (λ (y : ℕ). cond (eqb y m) 1 0) e.number (numbers es)) ∙ h in
    ((λ (is : e.number ≡ m). let big : one ≡ 1 = ap (λ (b : Bool). let z : ℕ = cond b 1 0 in z) (eq-eqb e.number m is) in absurd (omega (arith, sum, big))), apart_from m es (omega (arith, sum)))

-- what the slot taken last has
abbrev pub first_value : {T : Type 0} → List (ℕ × Option T) → Option T
first_value [] = None
first_value (c ∷ cs) = c.1

-- the number of the first identity
abbrev first_number : {I : Type 0} → List (Identity I) → ℕ
first_number [] = 0
first_number (e ∷ es) = e.number

-- a view that is there is the new one after it was set
pub set_at : {A : Type 0} (views : List A) (i : ℕ) (v w : A) → get_elem? views i ≡ some v → get_elem? (set views i w) i ≡ some w
set_at [] i v w e = absurd (some-ne-none v (sym e))
set_at (x ∷ xs) zero v w e = refl
set_at (x ∷ xs) (suc i) v w e = set_at xs i v w e

module _ {T K I : Type 0} (fits : K → ℕ → T → Type 0) (history : K → ℕ → T → List I) (names : K → I → Option ℕ) (key : K) (places seats : ℕ) (start : List (List I)) where
  abbrev V : Type 0
  V = View K I

  abbrev St : Type 0
  St = State (Option T) V

  abbrev M : Type 0
  M = Me (Option T) V

  abbrev Hs : Type 0
  Hs = List (maybe.Option (Option T))

  abbrev Rule : St → Type 0
  Rule = InTurn (fits key) (history key) (names key) key places seats start

  abbrev EOk : (ℕ → List I) → Identity I → Type 0
  EOk = IdentityOk (fits key) (history key) (names key) key places seats start

  abbrev NOk : (ℕ → List I) → List (List I) → Type 0
  NOk = NoteOk (fits key) (history key) (names key) key places seats start

  abbrev HomeAt : List ℕ → Hs → (ℕ → List I) → ℕ → Type 0
  HomeAt = Home (fits key) (history key) (names key) key places seats start

  abbrev OutAt : List ℕ → List V → (ℕ → List I) → (ℕ → ℕ) → ℕ → Type 0
  OutAt = Out (fits key) (history key) (names key) key places seats start

  abbrev POk : List ℕ → Hs → List V → (ℕ → List I) → (ℕ → ℕ) → ℕ → Type 0
  POk words homes views hist holder p = HomeAt words homes hist p ⊎ OutAt words views hist holder p

  abbrev InAt : List ℕ → (ℕ → List I) → (ℕ → ℕ) → ℕ → V → ℕ → Type 0
  InAt = Inside (fits key) (history key) (names key) key places seats start

  abbrev VOk : List ℕ → (ℕ → List I) → (ℕ → ℕ) → ℕ → V → Type 0
  VOk = ViewOk (fits key) (history key) (names key) key places seats start

  -- what stays true of a view whose seat is not at the place p
  others_stay : (words words' : List ℕ) (hist hist' : ℕ → List I) (holder holder' : ℕ → ℕ) (j : ℕ) (u : V) (p : ℕ) → ((q : ℕ) → q ≢ p → hist' q ≡ hist q) → ((q : ℕ) → q ≢ p → holder' q ≡ holder q)
      → ((q : ℕ) → q ≢ p → slice_index words' q ≡ slice_index words q) → u.entered ≢ Some p → Each (EOk hist') u.identities → Each (NOk hist') u.notes → VOk words hist holder j u → VOk words' hist' holder' j u
  others_stay words words' hist hist' holder holder' j u p hists holders same out identities notes o = record {
    keyed = o.keyed;
    identities = identities;
    notes = notes;
    inside = λ q e. let ne : q ≢ p = λ h. out (e ∙ ap (λ (z : ℕ). Some z) h) in let i = o.inside q e in record {
      place = i.place;
      word = same q ne ∙ (i.word ∙ ap (λ (l : List I). 2 * length l + 1) (sym (hists q ne)));
      mine = holders q ne ∙ i.mine;
      all = i.all ∙ sym (hists q ne);
    };
    idle = o.idle;
  }

  -- what stays true of the places but p
  places_stay : (words : List ℕ) (homes : Hs) (views : List V) (hist hist' : ℕ → List I) (holder holder' : ℕ → ℕ) (p id n : ℕ) (h : maybe.Option (Option T)) (v w : V) → ((q : ℕ) → q ≢ p → hist' q ≡ hist q)
      → ((q : ℕ) → q ≢ p → holder' q ≡ holder q) → get_elem? views id ≡ some v → ((q : ℕ) → q ≢ p → v.entered ≢ Some q) → (q : ℕ) → q ≢ p
      → POk words homes views hist holder q → POk (set words p n) (set homes p h) (set views id w) hist' holder' q
  places_stay words homes views hist hist' holder holder' p id n h v w hists holders at out q ne = ⊎_elim
      (λ (x : HomeAt words homes hist q). inl record {
        value = x.value;
        word = get_or-set_other words p q n 0 ne ∙ (x.word ∙ ap (λ (l : List I). 2 * length l) (sym (hists q ne)));
        there = set_else homes p q h ne ∙ x.there;
        fit = x.fit;
        is = x.is ∙ sym (hists q ne);
      })
      (λ (x : OutAt words views hist holder q). inr record {
        view = x.view;
        word = get_or-set_other words p q n 0 ne ∙ (x.word ∙ ap (λ (l : List I). 2 * length l + 1) (sym (hists q ne)));
        there = ap (λ (i : ℕ). get_elem? (set views id w) i) (holders q ne)
            ∙ (set_else views id (holder q) w (λ same. out q ne (ap (λ (z : V). z.entered) (some-injective v x.view (sym at ∙ (ap (λ (i : ℕ). get_elem? views i) (sym same) ∙ x.there))) ∙ x.inside)) ∙ x.there);
        inside = x.inside;
      })

  identity_set : (hist hist' : ℕ → List I) (m p : ℕ) (seen : List (List I)) → EOk hist (identity m seen) → p < places → ((q : ℕ) → q ≢ p → hist' q ≡ hist q) → EOk hist' (identity m (set seen p (hist' p)))
  identity_set hist hist' m p seen o low hists = record {
    sized = length-set seen p (hist' p) ∙ o.sized;
    adds = λ q l. dite (ℕ_discrete q p)
        (λ e. subst (λ (z : List I × List I). OthersAdd (names key) m z.0 z.1) (λ i. (sym (ap (λ (k : ℕ). seen_of (set seen p (hist' p)) k) e ∙ get_or-set_same seen p (hist' p) [] (let z = o.sized in omega arith)) i, ap hist' (sym e) i)) (adds_nothing (names key) m (hist' p)))
        (λ ne. subst (λ (z : List I × List I). OthersAdd (names key) m z.0 z.1) (λ i. (sym (get_or-set_other seen p q (hist' p) [] ne) i, sym (hists q ne) i)) (o.adds q l));
  }

  -- no other view has the number of a seat
  apart_of : (s : St) (r : Rule s) (id j m : ℕ) (v u : V) → get_elem? s.views id ≡ some v → times m (numbers v.identities) ≡ 1 → j ≢ id → get_elem? s.views j ≡ some u → Each (λ (e : Identity I). e.number ≢ m) u.identities
  apart_of s r id j m v u at one ne there = let two = two_le_sum (λ (z : V). times m (numbers z.identities)) s.views id j v u (λ h. ne (sym h)) at there in let all = r.numbered m in let most = once_most m seats in apart_from m u.identities (omega arith)

  low_of : (s : St) (r : Rule s) (id m : ℕ) (v : V) → get_elem? s.views id ≡ some v → times m (numbers v.identities) ≡ 1 → m < seats
  low_of s r id m v at one = let l = le_sum (λ (z : V). times m (numbers z.identities)) s.views id v at in let all = r.numbered m in once_low m seats (omega arith)

  same_counts : (s : St) (r : Rule s) (id : ℕ) (v w : V) → get_elem? s.views id ≡ some v → length w.identities ≡ length v.identities → sum_by (λ (z : V). length z.identities) (set s.views id w) ≡ seats
  same_counts s r id v w at e = let t = sum_set (λ (z : V). length z.identities) s.views id v w at in let c = r.counted in omega arith

  same_numbers : (s : St) (r : Rule s) (id : ℕ) (v w : V) → get_elem? s.views id ≡ some v → numbers w.identities ≡ numbers v.identities → (k : ℕ) → sum_by (λ (z : V). times k (numbers z.identities)) (set s.views id w) ≡ once_below k seats
  same_numbers s r id v w at e k = let t = sum_set (λ (z : V). times k (numbers z.identities)) s.views id v w at in let c = r.numbered k in let h : times k (numbers w.identities) ≡ times k (numbers v.identities) = ap (times k) e in omega arith

  -- a seat whose view changes, while nothing else does
  renewed : (s : St) (r : Rule s) (id : ℕ) (v w : V) → get_elem? s.views id ≡ some v → w.entered ≡ v.entered → numbers w.identities ≡ numbers v.identities → length w.identities ≡ length v.identities → VOk s.words r.hist r.holder id w
      → Rule record { words = s.words; homes = s.homes; views = set s.views id w }
  renewed s r id v w at inside number len ok = record {
    hist = r.hist;
    holder = r.holder;
    wide = r.wide;
    deep = r.deep;
    each_place = λ p l. ⊎_elim (λ (x : HomeAt s.words s.homes r.hist p). inl x) (λ (x : OutAt s.words s.views r.hist r.holder p). inr (dite (ℕ_discrete (r.holder p) id)
        (λ e. record { view = w; word = x.word; there = ap (λ (i : ℕ). get_elem? (set s.views id w) i) e ∙ set_at s.views id v w at; inside = inside ∙ (ap (λ (z : V). z.entered) (some-injective v x.view (sym at ∙ (ap (λ (i : ℕ). get_elem? s.views i) (sym e) ∙ x.there))) ∙ x.inside) })
        (λ ne. record { view = x.view; word = x.word; there = set_else s.views id (r.holder p) w ne ∙ x.there; inside = x.inside }))) (r.each_place p l);
    each_view = each_set (VOk s.words r.hist r.holder) s.views id w ok (λ j u _ e. r.each_view j u e);
    grown = r.grown;
    counted = same_counts s r id v w at len;
    numbered = same_numbers s r id v w at number;
  }

  reloaded : (s : St) (p id : ℕ) (homes : Hs) (w : V) → Rule record { words = s.words; homes = homes; views = set s.views id w } → Rule record { words = set s.words p (slice_index s.words p); homes = homes; views = set s.views id w }
  reloaded s p id homes w h = subst (λ (ws : List ℕ). Rule record { words = ws; homes = homes; views = set s.views id w }) (sym (set-get_or s.words p 0)) h

  unmoved : (s : St) (r : Rule s) (p id : ℕ) (v : V) → get_elem? s.views id ≡ some v → Rule record { words = set s.words p (slice_index s.words p); homes = s.homes; views = set s.views id v }
  unmoved s r p id v at = reloaded s p id s.homes v (subst (λ (vs : List V). Rule record { words = s.words; homes = s.homes; views = vs }) (sym (set_again s.views id v at)) r)

  -- a look at the word of a place
  looks_on : (s : St) (r : Rule s) (id p : ℕ) (k : K) (number : ℕ) (seen : List (List I)) (turns : List ℕ) (entered : Option ℕ) → get_elem? s.views id ≡ some (seated k number seen turns entered) → p < places
      → Rule record { words = s.words; homes = s.homes; views = set s.views id (seated k number (set seen p (r.hist p)) turns entered) }
  looks_on s r id p k number seen turns entered at low = let v : V = seated k number seen turns entered in let w : V = seated k number (set seen p (r.hist p)) turns entered in let ok = r.each_view id v at in
      let sized = ok.identities.0.sized in
      renewed s r id v w at refl refl refl record {
        keyed = ok.keyed;
        identities = (identity_set r.hist r.hist number p seen ok.identities.0 low (λ q _. refl), tt);
        notes = tt;
        inside = λ q e. let i = ok.inside q e in record {
          place = i.place;
          word = i.word;
          mine = i.mine;
          all = dite (ℕ_discrete q p)
              (λ same. ap (λ (z : ℕ). seen_of (set seen p (r.hist p)) z) same ∙ (get_or-set_same seen p (r.hist p) [] (omega (arith, sized, low)) ∙ ap r.hist (sym same)))
              (λ ne. get_or-set_other seen p q (r.hist p) [] ne ∙ i.all);
        };
        idle = λ e. absurd (cc);
      }

  pub looks : (slots id p : ℕ) (me : M) (k : K) (number : ℕ) (seen : List (List I)) (turns : List ℕ) (entered : Option ℕ) → me.0 ≡ seated k number seen turns entered → p < places → Allows Rule slots id me p (λ n. n) (Looked names (step slots p 0 0 none) me)
  looks slots id p me k number seen turns entered is low s r deep at fit = let at' : get_elem? s.views id ≡ some (seated k number seen turns entered) = at ∙ ap some is in
      let ok = r.each_view id (seated k number seen turns entered) at' in let is_key : k ≡ key = ok.keyed k refl in let w : V = seated k number (set seen p (r.hist p)) turns entered in
      let bounds : (2 * length (r.hist p) ≤ slice_index s.words p) × (slice_index s.words p ≤ 2 * length (r.hist p) + 1) =
      ⊎_elim (λ (x : HomeAt s.words s.homes r.hist p). let e = x.word in (omega (arith, e), omega (arith, e))) (λ (x : OutAt s.words s.views r.hist r.holder p). let e = x.word in (omega (arith, e), omega (arith, e))) (r.each_place p low) in (
        w,
        keeps,
        tt,
        reloaded s p id s.homes w (looks_on s r id p k number seen turns entered at' low),
        λ k' number' seen' turns' entered' e'. let e : seated k number seen turns entered ≡ seated k' number' seen' turns' entered' = sym is ∙ e' in
            let ee : identity number seen ∷ [] ≡ identity number' seen' ∷ [] = ap (λ (z : V). z.identities) e in let kk : k ≡ k' = cc (ap (λ (z : V). z.key) e) in
            let en : number ≡ number' = ap (λ (z : List (Identity I)). first_number z) ee in let es : seen ≡ seen' = ap (λ (z : List (Identity I)). first_seen z) ee in let et : turns ≡ turns' = ap (λ (z : V). z.turns) e in let ei : entered ≡ entered' = ap (λ (z : V). z.entered) e in (
              r.hist p,
              (λ i. (seated (kk i) (en i) (set (es i) p (r.hist p)) (et i) (ei i), me.1)),
              subst (λ (z : K × (ℕ × List (List I))). OthersAdd (names z.0) z.1.0 (seen_of z.1.1 p) (r.hist p)) (λ i. ((sym is_key ∙ kk) i, (en i, es i))) (ok.identities.0.adds p low),
              bounds.0,
              bounds.1,
              λ inside. sym (ok.inside p (ei ∙ inside)).all ∙ ap (λ (z : List (List I)). seen_of z p) es,
            ),
      )

  -- a seat enters a place whose value is at home
  enters_on : (s : St) (r : Rule s) (id p : ℕ) (k : K) (number : ℕ) (seen : List (List I)) (turns : List ℕ) → get_elem? s.views id ≡ some (seated k number seen turns None) → p < places → HomeAt s.words s.homes r.hist p
      → Rule record { words = set s.words p (slice_index s.words p + 1); homes = set s.homes p none; views = set s.views id (seated k number (set seen p (r.hist p)) (turn_more turns p) (Some p)) }
  enters_on s r id p k number seen turns at low x = let v : V = seated k number seen turns None in let w : V = seated k number (set seen p (r.hist p)) (turn_more turns p) (Some p) in let ok = r.each_view id v at in
      let holder : ℕ → ℕ = put r.holder p id in let n : ℕ = slice_index s.words p + 1 in
      let eye_ok : EOk r.hist (identity number (set seen p (r.hist p))) = identity_set r.hist r.hist number p seen ok.identities.0 low (λ q _. refl) in
      let in_words : p < length s.words = (let z = r.wide in omega arith) in
      let word : slice_index (set s.words p n) p ≡ 2 * length (r.hist p) + 1 = get_or-set_same s.words p n 0 in_words ∙ ap (λ (i : ℕ). i + 1) x.word in record {
        hist = r.hist;
        holder = holder;
        wide = length-set s.words p n ∙ r.wide;
        deep = length-set s.homes p none ∙ r.deep;
        each_place = λ q l. dite (ℕ_discrete q p)
            (λ e. subst (POk (set s.words p n) (set s.homes p none) (set s.views id w) r.hist holder) (sym e) (inr record {
              view = w;
              word = word;
              there = ap (λ (i : ℕ). get_elem? (set s.views id w) i) (put_here r.holder p id) ∙ set_at s.views id v w at;
              inside = refl;
            }))
            (λ ne. places_stay s.words s.homes s.views r.hist r.hist r.holder holder p id n none v w (λ q _. refl) (λ q o. put_else r.holder p id q o) at (λ q _ (h : None ≡ Some q). absurd (cc)) q ne (r.each_place q l));
        each_view = each_set (VOk (set s.words p n) r.hist holder) s.views id w
            record {
              keyed = ok.keyed;
              identities = (eye_ok, tt);
              notes = tt;
              inside = λ q (e : Some p ≡ Some q). let same : p ≡ q = cc in subst (InAt (set s.words p n) r.hist holder id w) same record {
                place = low;
                word = word;
                mine = put_here r.holder p id;
                all = get_or-set_same seen p (r.hist p) [] (let z = ok.identities.0.sized in omega arith);
              };
              idle = λ e. absurd (cc);
            }
            (λ j u ne e. let o = r.each_view j u e in others_stay s.words (set s.words p n) r.hist r.hist r.holder holder j u p (λ q _. refl) (λ q h. put_else r.holder p id q h) (λ q h. get_or-set_other s.words p q n 0 h)
            (λ h. let i = o.inside p h in let a = i.word in let b = x.word in absurd (omega arith)) o.identities o.notes o);
        grown = r.grown;
        counted = same_counts s r id v w at refl;
        numbered = same_numbers s r id v w at refl;
      }

  abbrev enters_goal : St → ℕ → ℕ → ℕ → ℕ → M → ℕ → Type 0
  enters_goal s slots id p old m n = (w : V) × (a : Act (Option T)) × Valid s.homes m.1 a × Rule (stepped s p n id m.1 w a) × Entered fits history names (step slots p old (old + 1) none) m (slice_index s.words p) (w, carried_after m.1 a)

  -- the exchange that enters
  pub enters : (slots id p old : ℕ) (m : M) (k : K) (number : ℕ) (seen : List (List I)) (turns : List ℕ) → m ≡ (seated k number seen turns None, []) → p < places → old % 2 ≡ 0
      → Allows Rule slots id m p (λ n. either (n == old) (old + 1) n) (Entered fits history names (step slots p old (old + 1) none) m)
  enters slots id p old m k number seen turns is low even = subst (λ (z : M). Allows Rule slots id z p (λ n. either (n == old) (old + 1) n) (Entered fits history names (step slots p old (old + 1) none) z)) (sym is) plain
    where
      me : M
      me = (seated k number seen turns None, [])

      hit : (s : St) (r : Rule s) → get_elem? s.views id ≡ some (seated k number seen turns None) → (slice_index s.words p == old) ≡ true → slice_index s.words p ≡ old → HomeAt s.words s.homes r.hist p → enters_goal s slots id p old (seated k number seen turns None, []) (slice_index s.words p + 1)
      hit s r at test same x = let ok = r.each_view id (seated k number seen turns None) at in let is_key : k ≡ key = ok.keyed k refl in let w : V = seated k number (set seen p (r.hist p)) (turn_more turns p) (Some p) in (
        w,
        takes p (Some x.value),
        x.there,
        enters_on s r id p k number seen turns at low x,
        λ k' number' seen' turns' (e : seated k number seen turns None ≡ seated k' number' seen' turns' None). rw test (
            let kk : k ≡ k' = cc (ap (λ (z : V). z.key) e) in let ek : key ≡ k' = sym is_key ∙ kk in
            let ee : identity number seen ∷ [] ≡ identity number' seen' ∷ [] = ap (λ (z : V). z.identities) e in
            let en : number ≡ number' = ap (λ (z : List (Identity I)). first_number z) ee in let es : seen ≡ seen' = ap (λ (z : List (Identity I)). first_seen z) ee in let et : turns ≡ turns' = ap (λ (z : V). z.turns) e in
            let h : r.hist p ≡ history k' p x.value = sym x.is ∙ ap (λ (z : K). history z p x.value) ek in (
              x.value,
              (λ i. (seated (kk i) (en i) (set (es i) p (h i)) (turn_more (et i) p) (Some p), (p, Some x.value) ∷ [])),
              subst (λ (z : K). fits z p x.value) ek x.fit,
              subst (λ (z : K × (ℕ × (List (List I) × List I))). OthersAdd (names z.0) z.1.0 (seen_of z.1.1.0 p) z.1.1.1) (λ i. (ek i, (en i, (es i, h i)))) (ok.identities.0.adds p low),
            )),
      )

      by_test : (s : St) (r : Rule s) → get_elem? s.views id ≡ some (seated k number seen turns None) → (b : Bool) → (slice_index s.words p == old) ≡ b → enters_goal s slots id p old (seated k number seen turns None, []) (either b (old + 1) (slice_index s.words p))
      by_test s r at true test = let same : slice_index s.words p ≡ old = grind (arith, nat_tests) in
          ⊎_elim (λ (x : HomeAt s.words s.homes r.hist p). subst (λ (z : ℕ). enters_goal s slots id p old (seated k number seen turns None, []) z) (ap (λ (z : ℕ). z + 1) same) (hit s r at test same x))
          (λ (x : OutAt s.words s.views r.hist r.holder p). let w = x.word in absurd (omega arith)) (r.each_place p low)
      by_test s r at false test = (seated k number seen turns None, keeps, tt, unmoved s r p id (seated k number seen turns None) at, λ k' number' seen' turns' e. rw test refl)

      plain : Allows Rule slots id (seated k number seen turns None, []) p (λ n. either (n == old) (old + 1) n) (Entered fits history names (step slots p old (old + 1) none) (seated k number seen turns None, []))
      plain s r deep at fit = by_test s r at (slice_index s.words p == old) refl

  -- a seat leaves with a value whose history goes on
  leaves_on : (s : St) (r : Rule s) (id p m : ℕ) (k : K) (seen : List (List I)) (turns : List ℕ) (x : T) → get_elem? s.views id ≡ some (seated k m seen turns (Some p)) → fits key p x → SeatAdds (names key) m (seen_of seen p) (history key p x)
      → Rule record { words = set s.words p (2 * length (history key p x)); homes = set s.homes p (some (Some x)); views = set s.views id (seated k m (set seen p (history key p x)) turns None) }
  leaves_on s r id p m k seen turns x at fit own = let v : V = seated k m seen turns (Some p) in let H : List I = history key p x in let w : V = seated k m (set seen p H) turns None in let ok = r.each_view id v at in let i = ok.inside p refl in
      let hist : ℕ → List I = put r.hist p H in let low : p < places = i.place in let n : ℕ = 2 * length H in
      let hists : (q : ℕ) → q ≢ p → hist q ≡ r.hist q = λ q ne. put_else r.hist p H q ne in
      let here : hist p ≡ H = put_here r.hist p H in
      let all : seen_of seen p ≡ r.hist p = i.all in
      let own' : SeatAdds (names key) m (r.hist p) H = subst (λ (l : List I). SeatAdds (names key) m l H) all own in
      let moved : (e : Identity I) → EOk r.hist e → e.number ≢ m → EOk hist e = λ e o ne. record {
        sized = o.sized;
        adds = λ q l. dite (ℕ_discrete q p)
            (λ same. subst (λ (z : ℕ). OthersAdd (names key) e.number (seen_of e.seen z) (hist z)) (sym same) (subst (λ (z : List I). OthersAdd (names key) e.number (seen_of e.seen p) z) (sym here) (adds_more (names key) e.number (seen_of e.seen p) (r.hist p) H (o.adds p low) (adds_others (names key) e.number m (r.hist p) H ne own'))))
            (λ other. subst (λ (z : List I). OthersAdd (names key) e.number (seen_of e.seen q) z) (sym (hists q other)) (o.adds q l));
      } in
      let noted' : (n : List (List I)) → NOk r.hist n → NOk hist n = λ n o q l. dite (ℕ_discrete q p)
      (λ same. subst (λ (z : ℕ). StartsWith (hist z) (seen_of n z)) (sym same) (subst (λ (z : List I). StartsWith z (seen_of n p)) (sym here) (starts_more (seen_of n p) (r.hist p) H (o p low) (own'.rest, own'.is))))
      (λ other. subst (λ (z : List I). StartsWith z (seen_of n q)) (sym (hists q other)) (o q l)) in
      record {
        hist = hist;
        holder = r.holder;
        wide = length-set s.words p n ∙ r.wide;
        deep = length-set s.homes p (some (Some x)) ∙ r.deep;
        each_place = λ q l. dite (ℕ_discrete q p)
            (λ e. subst (POk (set s.words p n) (set s.homes p (some (Some x))) (set s.views id w) hist r.holder) (sym e) (inl record {
              value = x;
              word = get_or-set_same s.words p n 0 (let z = r.wide in omega arith) ∙ ap (λ (l : List I). 2 * length l) (sym here);
              there = set_here s.homes p (some (Some x)) (let z = r.deep in omega arith);
              fit = fit;
              is = sym here;
            }))
            (λ ne. places_stay s.words s.homes s.views r.hist hist r.holder r.holder p id n (some (Some x)) v w hists (λ q _. refl) at (λ q o (h : Some p ≡ Some q). let z : p ≡ q = cc in o (sym z)) q ne (r.each_place q l));
        each_view = each_set (VOk (set s.words p n) hist r.holder) s.views id w
            record {
              keyed = ok.keyed;
              identities = (subst (λ (l : List I). EOk hist (identity m (set seen p l))) here (identity_set r.hist hist m p seen ok.identities.0 low hists), tt);
              notes = tt;
              inside = λ q (e : None ≡ Some q). absurd (cc);
              idle = λ _. refl;
            }
            (λ j u ne e. let o = r.each_view j u e in others_stay s.words (set s.words p n) r.hist hist r.holder r.holder j u p hists (λ q _. refl) (λ q h. get_or-set_other s.words p q n 0 h)
            (λ h. ne (sym (o.inside p h).mine ∙ i.mine)) (each_map2 (EOk r.hist) (λ (e : Identity I). e.number ≢ m) (EOk hist) u.identities moved o.identities (apart_of s r id j m v u at (times_one m) ne e)) (each_map (NOk r.hist) (NOk hist) u.notes noted' o.notes) o);
        grown = λ q l. dite (ℕ_discrete q p)
            (λ same. subst (λ (z : ℕ). SeatsAdd (names key) seats (seen_of start z) (hist z)) (sym same) (let g = r.grown p low in record {
              added = g.added ++ own'.rest;
              is = here ∙ (own'.is ∙ (ap (λ (l : List I). l ++ own'.rest) g.is ∙ append_assoc (seen_of start p) g.added own'.rest));
              low = All-append (λ (y : I). (k : ℕ) → names key y ≡ Some k → k < seats) g.added own'.rest g.low (λ i d l k e. let z = own'.own i d l k e in let t = low_of s r id m v at (times_one m) in omega arith);
            }))
            (λ other. subst (λ (z : List I). SeatsAdd (names key) seats (seen_of start q) z) (sym (hists q other)) (r.grown q l));
        counted = same_counts s r id v w at refl;
        numbered = same_numbers s r id v w at refl;
      }

  pub leaves : (slots id p new : ℕ) (me : M) (k : K) (m : ℕ) (seen : List (List I)) (turns : List ℕ) (x : T) → me ≡ (seated k m seen turns (Some p), (p, Some x) ∷ []) → fits k p x → SeatAdds (names k) m (seen_of seen p) (history k p x) → new ≡ 2 * length (history k p x)
      → Allows Rule slots id me p (λ _. new) (λ _. Left history (step slots p new 0 none) me new)
  leaves slots id p new me k m seen turns x is fit own word = subst (λ (z : M). Allows Rule slots id z p (λ _. new) (λ _. Left history (step slots p new 0 none) z new)) (sym is) plain
    where
      plain : Allows Rule slots id (seated k m seen turns (Some p), (p, Some x) ∷ []) p (λ _. new) (λ _. Left history (step slots p new 0 none) (seated k m seen turns (Some p), (p, Some x) ∷ []) new)
      plain s r deep at bound = let ok = r.each_view id (seated k m seen turns (Some p)) at in let is_key : k ≡ key = ok.keyed k refl in
          let fit' : fits key p x = subst (λ (z : K). fits z p x) is_key fit in
          let own' : SeatAdds (names key) m (seen_of seen p) (history key p x) = subst (λ (z : K). SeatAdds (names z) m (seen_of seen p) (history z p x)) is_key own in
          let h : history key p x ≡ history k p x = ap (λ (z : K). history z p x) (sym is_key) in (
            seated k m (set seen p (history k p x)) turns None,
            gives,
            tt,
            subst (λ (z : ℕ × List I). Rule record { words = set s.words p z.0; homes = set s.homes p (some (Some x)); views = set s.views id (seated k m (set seen p z.1) turns None) }) (λ i. ((ap (λ (l : List I). 2 * length l) h ∙ sym word) i, h i)) (leaves_on s r id p m k seen turns x at fit' own'),
            λ k' m' seen' turns' x' e. let ee : identity m seen ∷ [] ≡ identity m' seen' ∷ [] = ap (λ (z : M). z.0.identities) e in let kk : k ≡ k' = cc (ap (λ (z : M). z.0.key) e) in let xx : x ≡ x' = cc (ap (λ (z : M). first_value z.1) e) in
                let em : m ≡ m' = ap (λ (z : List (Identity I)). first_number z) ee in let es : seen ≡ seen' = ap (λ (z : List (Identity I)). first_seen z) ee in let et : turns ≡ turns' = ap (λ (z : M). z.0.turns) e in
                (λ i. (seated (kk i) (em i) (set (es i) p (history (kk i) p (xx i))) (et i) None, [])),
          )

  -- a seat reads a note
  reads_on : (s : St) (r : Rule s) (id : ℕ) (k : K) (m : ℕ) (seen note : List (List I)) (turns : List ℕ) (entered : Option ℕ) → get_elem? s.views id ≡ some (told k m seen note turns entered)
      → Rule record { words = s.words; homes = s.homes; views = set s.views id (seated k m (longest seen note) turns entered) } × ((p : ℕ) → p < length seen → OthersAdd (names key) m (seen_of seen p) (seen_of (longest seen note) p) × StartsWith (seen_of (longest seen note) p) (seen_of note p) × (entered ≡ Some p → seen_of (longest seen note) p ≡ seen_of seen p))
  reads_on s r id k m seen note turns entered at = let v : V = told k m seen note turns entered in let w : V = seated k m (longest seen note) turns entered in let ok = r.each_view id v at in let o = ok.identities.0 in let n = ok.notes.0 in
      let known : (p : ℕ) → p < places → OthersAdd (names key) m (seen_of seen p) (longer (seen_of seen p) (seen_of note p)) × OthersAdd (names key) m (longer (seen_of seen p) (seen_of note p)) (r.hist p) × StartsWith (longer (seen_of seen p) (seen_of note p)) (seen_of note p)
      = λ p l. longer_adds (names key) m (seen_of seen p) (seen_of note p) (r.hist p) (o.adds p l) (n p l) in
      let kept : (q : ℕ) → entered ≡ Some q → seen_of (longest seen note) q ≡ seen_of seen q
      = λ q e. let i = ok.inside q e in longest_at seen note q (let e = o.sized in let l = i.place in omega arith) ∙ longer_same (seen_of seen q) (seen_of note q) (subst (λ (z : List I). StartsWith z (seen_of note q)) (sym i.all) (n q i.place)) in (
        renewed s r id v w at refl refl refl record {
          keyed = ok.keyed;
          identities = (
            record {
              sized = length-longest seen note ∙ o.sized;
              adds = λ p l. subst (λ (z : List I). OthersAdd (names key) m z (r.hist p)) (sym (longest_at seen note p (let e = o.sized in omega arith))) (known p l).1;
            },
            tt,
          );
          notes = tt;
          inside = λ q e. let i = ok.inside q e in record {
            place = i.place;
            word = i.word;
            mine = i.mine;
            all = kept q e ∙ i.all;
          };
          idle = λ e. absurd (cc);
        },
        λ p l. let low : p < places = (let e = o.sized in omega arith) in let is = longest_at seen note p l in
            (subst (λ (z : List I). OthersAdd (names key) m (seen_of seen p) z) (sym is) (known p low).0, subst (λ (z : List I). StartsWith z (seen_of note p)) (sym is) (known p low).2, kept p),
      )

  pub reads : (slots id p : ℕ) (me : M) (k : K) (m : ℕ) (seen note : List (List I)) (turns : List ℕ) (entered : Option ℕ) → me.0 ≡ told k m seen note turns entered → Allows Rule slots id me p (λ n. n) (HasRead names (step slots p 0 0 none) me)
  reads slots id p me k m seen note turns entered is s r deep at fit = let at' : get_elem? s.views id ≡ some (told k m seen note turns entered) = at ∙ ap some is in
      let got = reads_on s r id k m seen note turns entered at' in let ok = r.each_view id (told k m seen note turns entered) at' in let is_key : k ≡ key = ok.keyed k refl in (
        seated k m (longest seen note) turns entered,
        keeps,
        tt,
        reloaded s p id s.homes (seated k m (longest seen note) turns entered) got.0,
        λ k' m' seen' note' turns' entered' e'. let e : told k m seen note turns entered ≡ told k' m' seen' note' turns' entered' = sym is ∙ e' in
            let ee : identity m seen ∷ [] ≡ identity m' seen' ∷ [] = ap (λ (z : V). z.identities) e in let kk : k ≡ k' = cc (ap (λ (z : V). z.key) e) in let en : note ≡ note' = cc (ap (λ (z : V). z.notes) e) in
            let em : m ≡ m' = ap (λ (z : List (Identity I)). first_number z) ee in let es : seen ≡ seen' = ap (λ (z : List (Identity I)). first_seen z) ee in let et : turns ≡ turns' = ap (λ (z : V). z.turns) e in let ei : entered ≡ entered' = ap (λ (z : V). z.entered) e in (
              (λ i. (seated (kk i) (em i) (longest (es i) (en i)) (et i) (ei i), me.1)),
              subst (λ (z : K × (ℕ × (List (List I) × (List (List I) × Option ℕ)))). (p : ℕ) → p < length z.1.1.0 → OthersAdd (names z.0) z.1.0 (seen_of z.1.1.0 p) (seen_of (longest z.1.1.0 z.1.1.1.0) p) × StartsWith (seen_of (longest z.1.1.0 z.1.1.1.0) p) (seen_of z.1.1.1.0 p) × (z.1.1.1.1 ≡ Some p → seen_of (longest z.1.1.0 z.1.1.1.0) p ≡ seen_of z.1.1.0 p))
                  (λ i. ((sym is_key ∙ kk) i, (em i, (es i, (en i, ei i))))) got.1,
            ),
      )
