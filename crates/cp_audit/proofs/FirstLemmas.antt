-- Of the envelopes that were passed, the first one of each key is enough to find a clash with the next.
use Rattle.std.proofs.Common.{◌≡◌, Bool, true, false, cond, List, [], ◌∷◌, ◌++◌, Option, Some, None, refl, sym, ap, ◌∙◌}
use Rattle.std.specs.Prelude.{bytes_eq, not, ◌&&◌, is_none}
use Rattle.std.specs.Cmp.{IsEquivalence}
use Rattle.std.specs.List.{find}
use Rattle.std.specs.Option.{option_or}
use Rattle.std.proofs.lemmas.Bool.{false≢true}
use Rattle.std.proofs.lemmas.List.Folds.{find-append}
use Rattle.std.proofs.lemmas.Slice.Eq.{bytes_eq-Decides}
use Rattle.cp_statements.specs.Envelope.{Envelope}
use Rattle.cp_chain.specs.Rules.{or_else}
use Rattle.cp_chain.proofs.Found.{some_is}
use Rattle.cp_evidence.specs.Verdict.{some_and, with_later, clash}
use Rattle.cp_evidence.proofs.Searches.{all_map, all_always, all_append, find_none, none_found}
use Rattle.cp_audit.specs.Firsts.{has, differs_at, differ, KeepsFirsts, only_other, other_at, kept_with}

-- ---- searches

find_both : {A : Type 0} (p d : A → Bool) (xs : List A) (f : A) → find p xs ≡ Some f → d f ≡ true → find (λ x. p x && d x) xs ≡ Some f
find_both p d [] f e t = absurd cc
find_both {A} p d (x ∷ xs) f e t = go (p x) e (find_both p d xs f)
  where
    go : (b : Bool) → cond b (Some x) (find p xs) ≡ Some f → (find p xs ≡ Some f → d f ≡ true → find (λ z. p z && d z) xs ≡ Some f) → cond (b && d x) (Some x) (find (λ z. p z && d z) xs) ≡ Some f
    go true is rest = let same : x ≡ f = some_is x f is in ap (λ (b : Bool). cond b (Some x) (find (λ z. p z && d z) xs)) (ap d same ∙ t) ∙ is
    go false is rest = rest is t

or_none : {A : Type 0} (o : Option A) → option_or o None ≡ o
or_none None = refl
or_none (Some x) = refl

clash_none : (wrong : Envelope → Envelope → Bool) (xs : List Envelope) (y : Envelope) (ys : List Envelope) → find (λ x. wrong x y) xs ≡ None → clash wrong xs (y ∷ ys) ≡ clash wrong (xs ++ y ∷ []) ys
clash_none wrong xs y ys e = ap (λ (o : Option Envelope). or_else (with_later y o) (clash wrong (xs ++ y ∷ []) ys)) e

clash_some : (wrong : Envelope → Envelope → Bool) (xs : List Envelope) (y : Envelope) (ys : List Envelope) (f : Envelope) → find (λ x. wrong x y) xs ≡ Some f → clash wrong xs (y ∷ ys) ≡ Some (f, y)
clash_some wrong xs y ys f e = ap (λ (o : Option Envelope). or_else (with_later y o) (clash wrong (xs ++ y ∷ []) ys)) e

-- nothing is kept of no envelopes
pub keeps_none : {K : Type 0} (same : K → K → Bool) (key : Envelope → Option K) (kept : K → Option Envelope) → ((q : K) → kept q ≡ None) → KeepsFirsts same key [] kept
keeps_none same key kept none = record { first = none; texts = λ q. tt }

-- ---- the next envelope

module _ {K : Type 0} (same : K → K → Bool) (laws : IsEquivalence same) (key : Envelope → Option K) where
  at_alike : (k q : K) → same k q ≡ true → (o : Option K) → some_and o (same k) ≡ some_and o (same q)
  at_alike k q t None = refl
  at_alike k q t (Some a) = laws.congr k q a t

  find_alike : (k q : K) → same k q ≡ true → (xs : List Envelope) → find (has same key k) xs ≡ find (has same key q) xs
  find_alike k q t xs = λ i. find (λ x. at_alike k q t (key x) i) xs

  kept_alike : (k q : K) (xs : List Envelope) (kept : K → Option Envelope) → KeepsFirsts same key xs kept → same k q ≡ true → kept k ≡ kept q
  kept_alike k q xs kept keeps t = keeps.first k ∙ find_alike k q t xs ∙ sym (keeps.first q)

  none_there : (k : K) (y : Envelope) (xs : List Envelope) → find (has same key k) xs ≡ None → find (differs_at same key (Some k) y) xs ≡ None
  none_there k y xs e = none_found (differs_at same key (Some k) y) xs (all_map (λ x. has same key k x ≡ false) (λ x. differs_at same key (Some k) y x ≡ false) (λ x h. ap (λ (b : Bool). b && not (bytes_eq x.text y.text)) h) xs (find_none (has same key k) xs e))

  one_text : (k : K) (y : Envelope) (xs : List Envelope) (kept : K → Option Envelope) (f : Envelope) → KeepsFirsts same key xs kept → kept k ≡ Some f → f.text ≡ y.text → find (differs_at same key (Some k) y) xs ≡ None
  one_text k y xs kept f keeps at text = none_found (differs_at same key (Some k) y) xs (all_map (λ x. has same key k x ≡ true → (g : Envelope) × (kept k ≡ Some g) × (g.text ≡ x.text)) (λ x. differs_at same key (Some k) y x ≡ false) (λ x h. go x (has same key k x) h) xs (keeps.texts k))
    where
      go : (x : Envelope) (b : Bool) → (b ≡ true → (g : Envelope) × (kept k ≡ Some g) × (g.text ≡ x.text)) → (b && not (bytes_eq x.text y.text)) ≡ false
      go x false h = refl
      go x true h =
          let w = h refl in
          let is : w.0 ≡ f = some_is w.0 f (sym w.1 ∙ at) in
          ap not ((bytes_eq-Decides x.text y.text).1 (sym w.2 ∙ ap (λ (z : Envelope). z.text) is ∙ text))

  -- what is found beside the next one is what is kept of its key, where that has another text
  found_beside : (o : Option K) (y : Envelope) (xs : List Envelope) (kept : K → Option Envelope) → KeepsFirsts same key xs kept → find (differs_at same key o y) xs ≡ other_at kept o y
  found_beside None y xs kept keeps = none_found (λ _. false) xs (all_always (λ _. false ≡ false) (λ _. refl) xs)
  found_beside (Some k) y xs kept keeps = go (kept k) refl
    where
      differing : (f : Envelope) (b : Bool) → bytes_eq f.text y.text ≡ b → kept k ≡ Some f → find (differs_at same key (Some k) y) xs ≡ cond b None (Some f)
      differing f true t at = one_text k y xs kept f keeps at ((bytes_eq-Decides f.text y.text).0 t)
      differing f false t at = find_both (has same key k) (λ x. not (bytes_eq x.text y.text)) xs f (sym (keeps.first k) ∙ at) (ap not t)

      go : (z : Option Envelope) → kept k ≡ z → find (differs_at same key (Some k) y) xs ≡ only_other y z
      go None e = none_there k y xs (sym (keeps.first k) ∙ e)
      go (Some f) e = differing f (bytes_eq f.text y.text) refl e

  -- ---- what is kept with it

  keeps_by : (y : Envelope) (xs : List Envelope) (kept more : K → Option Envelope) → KeepsFirsts same key xs kept
      → ((q : K) → more q ≡ option_or (kept q) (cond (has same key q y) (Some y) None))
      → ((q : K) → has same key q y ≡ true → (f : Envelope) × (more q ≡ Some f) × (f.text ≡ y.text)) → KeepsFirsts same key (xs ++ y ∷ []) more
  keeps_by y xs kept more keeps is new = record {
    first = λ q. is q ∙ ap (λ (o : Option Envelope). option_or o (cond (has same key q y) (Some y) None)) (keeps.first q) ∙ sym (find-append (has same key q) xs (y ∷ []));
    texts = λ q. all_append (Told q) xs (y ∷ []) (all_map (λ x. has same key q x ≡ true → (f : Envelope) × (kept q ≡ Some f) × (f.text ≡ x.text)) (Told q) (λ x told t. let w = told t in (w.0, is q ∙ ap (λ (o : Option Envelope). option_or o (cond (has same key q y) (Some y) None)) w.1, w.2)) xs (keeps.texts q)) (new q, tt);
  }
    where
      Told : K → Envelope → Type 0
      Told q x = has same key q x ≡ true → (f : Envelope) × (more q ≡ Some f) × (f.text ≡ x.text)

  merged : (y : Envelope) (b : Bool) (z w : Option Envelope) → (b ≡ true → z ≡ w) → cond (is_none z && b) (Some y) w ≡ option_or w (cond b (Some y) None)
  merged y true None w h = ap (λ (o : Option Envelope). option_or o (Some y)) (h refl)
  merged y true (Some f) w h = sym (h refl) ∙ ap (λ (o : Option Envelope). option_or o (Some y)) (h refl)
  merged y false None w h = sym (or_none w)
  merged y false (Some f) w h = sym (or_none w)

  same_text : (f y : Envelope) (b : Bool) → bytes_eq f.text y.text ≡ b → cond b None (Some f) ≡ None → f.text ≡ y.text
  same_text f y true t e = (bytes_eq-Decides f.text y.text).0 t
  same_text f y false t e = absurd cc

  keeps_at : (o : Option K) (y : Envelope) (xs : List Envelope) (kept more : K → Option Envelope) → key y ≡ o → KeepsFirsts same key xs kept → other_at kept o y ≡ None → ((q : K) → more q ≡ kept_with same kept o y q) → KeepsFirsts same key (xs ++ y ∷ []) more
  keeps_at None y xs kept more at keeps none is = keeps_by y xs kept more keeps
      (λ q. is q ∙ sym (or_none (kept q)) ∙ ap (λ (b : Bool). option_or (kept q) (cond b (Some y) None)) (sym (ap (λ (o : Option K). some_and o (same q)) at)))
      (λ q t. absurd (false≢true (sym (ap (λ (o : Option K). some_and o (same q)) at) ∙ t)))
  keeps_at (Some k) y xs kept more at keeps none is = keeps_by y xs kept more keeps joined (λ q t. go q (sym (here q) ∙ t) (kept k) refl)
    where
      -- whether it has a key
      here : (q : K) → has same key q y ≡ same k q
      here q = ap (λ (o : Option K). some_and o (same q)) at ∙ laws.symm q k

      joined : (q : K) → more q ≡ option_or (kept q) (cond (has same key q y) (Some y) None)
      joined q = is q ∙ merged y (same k q) (kept k) (kept q) (kept_alike k q xs kept keeps) ∙ ap (λ (b : Bool). option_or (kept q) (cond b (Some y) None)) (sym (here q))

      go : (q : K) → same k q ≡ true → (z : Option Envelope) → kept k ≡ z → (f : Envelope) × (more q ≡ Some f) × (f.text ≡ y.text)
      go q t None e = (y, joined q ∙ ap (λ (o : Option Envelope). option_or o (cond (has same key q y) (Some y) None)) (sym (kept_alike k q xs kept keeps t) ∙ e) ∙ ap (λ (b : Bool). cond b (Some y) None) (here q ∙ t), refl)
      go q t (Some f) e = (f, joined q ∙ ap (λ (o : Option Envelope). option_or o (cond (has same key q y) (Some y) None)) (sym (kept_alike k q xs kept keeps t) ∙ e), same_text f y (bytes_eq f.text y.text) refl (ap (only_other y) (sym e) ∙ none))

  -- ---- one step of a pass

  pub none_beside : (y : Envelope) (xs ys : List Envelope) (kept more : K → Option Envelope) → KeepsFirsts same key xs kept → None ≡ other_at kept (key y) y → ((q : K) → more q ≡ kept_with same kept (key y) y q)
      → KeepsFirsts same key (xs ++ y ∷ []) more × (clash (differ same key) xs (y ∷ ys) ≡ clash (differ same key) (xs ++ y ∷ []) ys)
  none_beside y xs ys kept more keeps none is = (
    keeps_at (key y) y xs kept more refl keeps (sym none) is,
    clash_none (differ same key) xs y ys (found_beside (key y) y xs kept keeps ∙ sym none),
  )

  pub one_beside : (y : Envelope) (xs ys : List Envelope) (kept : K → Option Envelope) (f : Envelope) → KeepsFirsts same key xs kept → Some f ≡ other_at kept (key y) y → clash (differ same key) xs (y ∷ ys) ≡ Some (f, y)
  one_beside y xs ys kept f keeps found = clash_some (differ same key) xs y ys f (found_beside (key y) y xs kept keeps ∙ sym found)
