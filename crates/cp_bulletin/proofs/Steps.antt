-- A step that only adds to what is published keeps the rule, and lists that start with others.
use Rattle.std.proofs.Common.{◌≡◌, ◌≢◌, ℕ, zero, suc, ◌+◌, ◌≤◌, ◌<◌, List, [], ◌∷◌, ◌++◌, map, length, fold, sym, refl, ap, ◌∙◌, subst, ⊎_elim, arith, append_assoc, append-nil, take}
use Rattle.std.proofs.lemmas.List.{take-append-le}
use Rattle.std.proofs.Math.Seq.{take-append_seam}
use mathlib.Core.Logic.{dite}
use native.Mathlib.Decide.{ℕ_discrete}
use mathlib.Core.Option.{some, some-injective, some-ne-none}
use lib.ListN.{get_elem?}
use Rattle.std.specs.Prelude.{Result, Ok, Err, MatchResult}
use Rattle.std.specs.List.{All}
use Rattle.left_right.specs.Register.{Admits, TurnsAt}
use Rattle.atomic_table.proofs.Lists.{at_set, at_snoc}
use Rattle.cp_bulletin.specs.declared.contents.Contents.{Contents}
use Rattle.cp_bulletin.specs.declared.rule.View.{View}
use Rattle.cp_bulletin.specs.Texts.{StartsWith}
use Rattle.cp_bulletin.specs.Rule.{Keeps, HasSeen, seeing}

pub starts_same : (xs ys : List Contents) → ys ≡ xs → StartsWith ys xs
starts_same xs ys e = ([], e ∙ sym (append-nil xs))

pub starts_more : (xs ys zs : List Contents) → StartsWith ys xs → StartsWith zs ys → StartsWith zs xs
starts_more xs ys zs a b = (a.0 ++ b.0, b.1 ∙ (ap (λ (l : List Contents). l ++ b.0) a.1 ∙ append_assoc xs a.0 b.0))

module _ {P : Type 0} (texts : P → List Contents) where
  pub admits : Admits (Keeps texts) (seeing [])
  admits x views h seat v at = ⊎_elim (h seat v) (λ (e : seeing [] ≡ v). subst (λ (z : View). StartsWith (texts x) z.seen) e (texts x, refl)) (at_snoc views (seeing []) v seat at)

  pub begins : (x : P) → Keeps texts x (seeing [] ∷ [])
  begins x seat v at = ⊎_elim (λ e. absurd (some-ne-none v (sym e))) (λ (e : seeing [] ≡ v). subst (λ (z : View). StartsWith (texts x) z.seen) e (texts x, refl)) (at_snoc [] (seeing []) v seat at)

  pub shows : (seat : ℕ) (v : View) (x y : P) → StartsWith (texts y) (texts x) → TurnsAt (Keeps texts) seat v x y (HasSeen texts)
  shows seat v x y up views h at = let s = starts_more v.seen (texts x) (texts y) (h seat v at) up in (
    seeing (texts y),
    (λ j u e. ⊎_elim (λ (t : (j ≡ seat) × (seeing (texts y) ≡ u)). subst (λ (z : View). StartsWith (texts y) z.seen) t.1 (starts_same (texts y) (texts y) refl))
        (λ (t : (j ≢ seat) × (get_elem? views j ≡ some u)). starts_more u.seen (texts x) (texts y) (h j u t.1) up) (at_set views seat j (seeing (texts y)) u e)),
    (s, refl),
  )

-- a beginning that is no longer than xs stays where the list grows
pub take_stays : (n : ℕ) (xs ys : List Contents) → StartsWith ys xs → n ≤ length xs → take n ys ≡ take n xs
take_stays n xs ys s le = ap (take n) s.1 ∙ take-append-le n xs s.0 le

pub take_all : (n : ℕ) (xs : List Contents) → length xs ≡ n → take n xs ≡ xs
take_all n xs is = ap (λ (k : ℕ). take k xs) (sym is) ∙ (ap (take (length xs)) (sym (append-nil xs)) ∙ take-append_seam xs [])

module _ {A : Type 0} (f : A → Contents) where
  abbrev pub Agree : ℕ → List A → List A → Type 0
  Agree i xs ys = (k : ℕ) (x y : A) → k < i → get_elem? xs k ≡ some x → get_elem? ys k ≡ some y → f x ≡ f y

  -- where the texts start with n of the list's, both agree below n
  pub agree_known : (xs ys : List A) (n : ℕ) → StartsWith (map f ys) (take n (map f xs)) → Agree n xs ys
  agree_known xs ys zero s k x y low ex ey = absurd (omega arith)
  agree_known [] ys (suc n) s k x y low ex ey = absurd (some-ne-none x (sym ex))
  agree_known (a ∷ xs) [] (suc n) s k x y low ex ey = absurd (some-ne-none y (sym ey))
  agree_known (a ∷ xs) (b ∷ ys) (suc n) s zero x y low ex ey = let all : f b ∷ map f ys ≡ f a ∷ (take n (map f xs) ++ s.0) = s.1 in let h : f b ≡ f a = cc in
      ap f (sym (some-injective a x ex)) ∙ (sym h ∙ ap f (some-injective b y ey))
  agree_known (a ∷ xs) (b ∷ ys) (suc n) s (suc k) x y low ex ey = let all : f b ∷ map f ys ≡ f a ∷ (take n (map f xs) ++ s.0) = s.1 in let r : map f ys ≡ take n (map f xs) ++ s.0 = cc in
      agree_known xs ys n (s.0, r) k x y (omega arith) ex ey

  pub next_of : (ts xs : List A) (b c : A) (i : ℕ) → length xs ≡ i → get_elem? ts i ≡ some b → f c ≡ f b → StartsWith (map f ts) (map f xs) → StartsWith (map f ts) (map f (xs ++ c ∷ []))
  next_of [] xs b c i len at same s = absurd (some-ne-none b (sym at))
  next_of (t ∷ ts) [] b c zero len at same s = let e : t ≡ b = some-injective t b at in (map f ts, (λ k. (ap f e ∙ sym same) k ∷ map f ts))
  next_of (t ∷ ts) [] b c (suc i) len at same s = absurd (omega arith)
  next_of (t ∷ ts) (x ∷ xs) b c zero len at same s = absurd (omega arith)
  next_of (t ∷ ts) (x ∷ xs) b c (suc i) len at same s = let all : f t ∷ map f ts ≡ f x ∷ (map f xs ++ s.0) = s.1 in let h : f t ≡ f x = cc in let r : map f ts ≡ map f xs ++ s.0 = cc in
      let n = next_of ts xs b c i (omega arith) at same (s.0, r) in (n.0, (λ k. h k ∷ n.1 k))

  pub all_of : (ts xs : List A) → length ts ≤ length xs → StartsWith (map f ts) (map f xs) → map f xs ≡ map f ts
  all_of [] [] le s = refl
  all_of [] (x ∷ xs) le s = let e : [] ≡ f x ∷ (map f xs ++ s.0) = s.1 in absurd (cc)
  all_of (t ∷ ts) [] le s = absurd (omega arith)
  all_of (t ∷ ts) (x ∷ xs) le s = let all : f t ∷ map f ts ≡ f x ∷ (map f xs ++ s.0) = s.1 in let h : f t ≡ f x = cc in let r : map f ts ≡ map f xs ++ s.0 = cc in
      (λ k. sym h k ∷ all_of ts xs (omega arith) (s.0, r) k)

  pub no_longer : (ts xs : List A) → StartsWith (map f ts) (map f xs) → length xs ≤ length ts
  no_longer ts [] s = omega arith
  no_longer [] (x ∷ xs) s = let e : [] ≡ f x ∷ (map f xs ++ s.0) = s.1 in absurd (cc)
  no_longer (t ∷ ts) (x ∷ xs) s = let all : f t ∷ map f ts ≡ f x ∷ (map f xs ++ s.0) = s.1 in let r : map f ts ≡ map f xs ++ s.0 = cc in let n = no_longer ts xs (s.0, r) in omega arith

  pub map_snoc : (xs : List A) (x : A) → map f (xs ++ x ∷ []) ≡ map f xs ++ f x ∷ []
  map_snoc [] x = refl
  map_snoc (y ∷ ys) x = ap (λ (l : List Contents). f y ∷ l) (map_snoc ys x)

  pub fold_adds : (xs : List Contents) (ops : List A) → fold (λ (ys : List Contents) (a : A). ys ++ f a ∷ []) xs ops ≡ xs ++ map f ops
  fold_adds xs [] = sym (append-nil xs)
  fold_adds xs (a ∷ ops) = fold_adds (xs ++ f a ∷ []) ops ∙ append_assoc xs (f a ∷ []) (map f ops)

  pub agree_next : (xs ys : List A) (i : ℕ) (a b : A) → get_elem? xs i ≡ some a → get_elem? ys i ≡ some b → f a ≡ f b → Agree i xs ys → Agree (i + 1) xs ys
  agree_next xs ys i a b ax by same before k x y low ex ey = dite (ℕ_discrete k i)
      (λ e. let xa : x ≡ a = some-injective x a (sym ex ∙ (ap (λ (n : ℕ). get_elem? xs n) e ∙ ax)) in let yb : y ≡ b = some-injective y b (sym ey ∙ (ap (λ (n : ℕ). get_elem? ys n) e ∙ by)) in ap f xa ∙ (same ∙ ap f (sym yb)))
      (λ ne. before k x y (omega arith) ex ey)

  pub starts_agree : (xs ys : List A) → length xs ≤ length ys → Agree (length xs) xs ys → StartsWith (map f ys) (map f xs)
  starts_agree [] ys le all = (map f ys, refl)
  starts_agree (x ∷ xs) [] le all = absurd (omega arith)
  starts_agree (x ∷ xs) (y ∷ ys) le all = let h : f x ≡ f y = all zero x y (omega arith) refl refl in let r = starts_agree xs ys (omega arith) (λ k a b low ea eb. all (suc k) a b (omega arith) ea eb) in (r.0, (λ k. sym h k ∷ r.1 k))

  pub next_word : (ts xs : List A) (b : A) (w : Contents) (i : ℕ) → length xs ≡ i → get_elem? ts i ≡ some b → w ≡ f b → StartsWith (map f ts) (map f xs) → StartsWith (map f ts) (map f xs ++ w ∷ [])
  next_word [] xs b w i len at same s = absurd (some-ne-none b (sym at))
  next_word (t ∷ ts) [] b w zero len at same s = let e : t ≡ b = some-injective t b at in (map f ts, (λ k. (ap f e ∙ sym same) k ∷ map f ts))
  next_word (t ∷ ts) [] b w (suc i) len at same s = absurd (omega arith)
  next_word (t ∷ ts) (x ∷ xs) b w zero len at same s = absurd (omega arith)
  next_word (t ∷ ts) (x ∷ xs) b w (suc i) len at same s = let all : f t ∷ map f ts ≡ f x ∷ (map f xs ++ s.0) = s.1 in let h : f t ≡ f x = cc in let r : map f ts ≡ map f xs ++ s.0 = cc in
      let n = next_word ts xs b w i (omega arith) at same (s.0, r) in (n.0, (λ k. h k ∷ n.1 k))

pub match_map : {A B : Type 0} (r : Result A B) (P P' : A → Type 0) (Q Q' : B → Type 0) → ((a : A) → P a → P' a) → ((b : B) → Q b → Q' b) → MatchResult r P Q → MatchResult r P' Q'
match_map (Ok a) P P' Q Q' f g h = f a h
match_map (Err b) P P' Q Q' f g h = g b h

pub all_one : {A : Type 0} (P : A → Type 0) (x : A) → P x → All P (x ∷ [])
all_one P x h zero d l = h
all_one P x h (suc k) d l = absurd (omega arith)
