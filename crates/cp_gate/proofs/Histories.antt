-- Histories that go on from one another.
use Rattle.std.proofs.Common.{◌≡◌, ◌≢◌, ℕ, zero, suc, ◌+◌, ◌≤◌, ◌<◌, ltb, cond, Bool, true, false, List, [], ◌∷◌, ◌++◌, length, get_or, Option, Some, sym, refl, ap, ◌∙◌, subst, arith, append_assoc, append-nil, eq-eqb, ne_eqb}
use Rattle.std.specs.List.{All}
use Rattle.std.proofs.lemmas.List.Elements.{All-append}
use Rattle.std.proofs.lemmas.List.{length-append}
use Rattle.std.proofs.lemmas.Bool.Decides.{nat_tests}
use Rattle.cp_gate.specs.Histories.{seen_of, StartsWith, OthersAdd, SeatAdds, longer, longest}
use Rattle.cp_gate.specs.Rule.{Each, put}

pub none_of : {A : Type 0} (P : A → Type 0) → All P []
none_of P k d l = absurd (omega arith)

pub put_here : {A : Type 0} (f : ℕ → A) (p : ℕ) (x : A) → put f p x p ≡ x
put_here f p x = ap (λ (b : Bool). cond b x (f p)) (eq-eqb p p refl)

pub put_else : {A : Type 0} (f : ℕ → A) (p : ℕ) (x : A) (q : ℕ) → q ≢ p → put f p x q ≡ f q
put_else f p x q ne = ap (λ (b : Bool). cond b x (f q)) (ne_eqb q p ne)

module _ {A : Type 0} where
  pub each_map : (P Q : A → Type 0) (xs : List A) → ((x : A) → P x → Q x) → Each P xs → Each Q xs
  each_map P Q [] f h = tt
  each_map P Q (x ∷ xs) f h = (f x h.0, each_map P Q xs f h.1)

  pub each_map2 : (P Q R : A → Type 0) (xs : List A) → ((x : A) → P x → Q x → R x) → Each P xs → Each Q xs → Each R xs
  each_map2 P Q R [] f h k = tt
  each_map2 P Q R (x ∷ xs) f h k = (f x h.0 k.0, each_map2 P Q R xs f h.1 k.1)

  pub each_append : (P : A → Type 0) (xs ys : List A) → Each P xs → Each P ys → Each P (xs ++ ys)
  each_append P [] ys h k = k
  each_append P (x ∷ xs) ys h k = (h.0, each_append P xs ys h.1 k)

module _ {I : Type 0} where
  pub adds_nothing : (names : I → Option ℕ) (k : ℕ) (xs : List I) → OthersAdd names k xs xs
  adds_nothing names k xs = record { rest = []; is = sym (append-nil xs); foreign = none_of (λ x. names x ≢ Some k) }

  pub adds_more : (names : I → Option ℕ) (k : ℕ) (xs ys zs : List I) → OthersAdd names k xs ys → OthersAdd names k ys zs → OthersAdd names k xs zs
  adds_more names k xs ys zs a b = record {
    rest = a.rest ++ b.rest;
    is = b.is ∙ (ap (λ (l : List I). l ++ b.rest) a.is ∙ append_assoc xs a.rest b.rest);
    foreign = All-append (λ x. names x ≢ Some k) a.rest b.rest a.foreign b.foreign;
  }

  pub starts_more : (xs ys zs : List I) → StartsWith ys xs → StartsWith zs ys → StartsWith zs xs
  starts_more xs ys zs a b = (a.0 ++ b.0, b.1 ∙ (ap (λ (l : List I). l ++ b.0) a.1 ∙ append_assoc xs a.0 b.0))

  -- what another seat adds does not name k
  pub adds_others : (names : I → Option ℕ) (k m : ℕ) (xs ys : List I) → k ≢ m → SeatAdds names m xs ys → OthersAdd names k xs ys
  adds_others names k m xs ys ne own = record { rest = own.rest; is = own.is; foreign = λ i d l e. ne (own.own i d l k e) }

  pub tail_all : (P : I → Type 0) (x : I) (xs : List I) → All P (x ∷ xs) → All P xs
  tail_all P x xs h k d l = h (suc k) d (omega arith)

  -- of two beginnings of one list the shorter begins the longer, and the rest goes on from it
  pub between : (names : I → Option ℕ) (k : ℕ) (xs ys : List I) (r t : List I) → xs ++ r ≡ ys ++ t → length xs ≤ length ys → All (λ x. names x ≢ Some k) r → OthersAdd names k xs ys × All (λ x. names x ≢ Some k) t
  between names k [] ys r t e le h = (
    record { rest = ys; is = refl; foreign = λ i d l. subst (λ (x : I). names x ≢ Some k) (ap (λ (z : List I). get_or z i d) e ∙ Rattle.std.proofs.Math.ListN.get_or-append ys t d i l) (h i d (let q = ap (λ (z : List I). length z) e in omega (arith, length-append ys t))) },
    λ i d l. subst (λ (x : I). names x ≢ Some k) (ap (λ (z : List I). get_or z (length ys + i) d) e ∙ Rattle.std.proofs.lemmas.List.get_or-append-add ys t i d) (h (length ys + i) d (let q = ap (λ (z : List I). length z) e in omega (arith, length-append ys t))),
  )
  between names k (x ∷ xs) [] r t e le h = absurd (omega arith)
  between names k (x ∷ xs) (y ∷ ys) r t e le h = let head : x ≡ y = cc in let tail : xs ++ r ≡ ys ++ t = cc in let b = between names k xs ys r t tail (omega arith) h in
      (record { rest = b.0.rest; is = (ap (λ (z : I). z ∷ ys) (sym head) ∙ ap (λ (l : List I). x ∷ l) b.0.is); foreign = b.0.foreign }, b.1)

  pub within : (xs ys : List I) (r t : List I) → xs ++ r ≡ ys ++ t → length xs ≤ length ys → StartsWith ys xs
  within [] ys r t e le = (ys, refl)
  within (x ∷ xs) [] r t e le = absurd (omega arith)
  within (x ∷ xs) (y ∷ ys) r t e le = let head : x ≡ y = cc in let tail : xs ++ r ≡ ys ++ t = cc in let b = within xs ys r t tail (omega arith) in (b.0, ap (λ (z : I). z ∷ ys) (sym head) ∙ ap (λ (l : List I). x ∷ l) b.1)

  longer_by : (b : Bool) (names : I → Option ℕ) (k : ℕ) (xs ys hs : List I) → ltb (length xs) (length ys) ≡ b → OthersAdd names k xs hs → StartsWith hs ys → OthersAdd names k xs (cond b ys xs) × OthersAdd names k (cond b ys xs) hs × StartsWith (cond b ys xs) ys
  longer_by true names k xs ys hs test a y = let le : length xs ≤ length ys = grind (arith, nat_tests) in let b = between names k xs ys a.rest y.0 (sym a.is ∙ y.1) le a.foreign in
      (b.0, record { rest = y.0; is = y.1; foreign = b.1 }, ([], sym (append-nil ys)))
  longer_by false names k xs ys hs test a y = let le : length ys ≤ length xs = grind (arith, nat_tests) in (adds_nothing names k xs, a, within ys xs y.0 a.rest (sym y.1 ∙ a.is) le)

  pub longer_adds : (names : I → Option ℕ) (k : ℕ) (xs ys hs : List I) → OthersAdd names k xs hs → StartsWith hs ys → OthersAdd names k xs (longer xs ys) × OthersAdd names k (longer xs ys) hs × StartsWith (longer xs ys) ys
  longer_adds names k xs ys hs a y = longer_by (ltb (length xs) (length ys)) names k xs ys hs refl a y

  -- what is no shorter than any beginning stays
  pub longer_same : (xs ys : List I) → StartsWith xs ys → longer xs ys ≡ xs
  longer_same xs ys a = let le : length ys ≤ length xs = (let e = ap (λ (l : List I). length l) a.1 in omega (arith, length-append ys a.0)) in let test : ltb (length xs) (length ys) ≡ false = grind (arith, nat_tests) in ap (λ (b : Bool). cond b ys xs) test

  pub length-longest : (xs ys : List (List I)) → length (longest xs ys) ≡ length xs
  length-longest [] ys = refl
  length-longest (x ∷ xs) [] = ap suc (length-longest xs [])
  length-longest (x ∷ xs) (y ∷ ys) = ap suc (length-longest xs ys)

  pub longest_at : (xs ys : List (List I)) (p : ℕ) → p < length xs → seen_of (longest xs ys) p ≡ longer (seen_of xs p) (seen_of ys p)
  longest_at [] ys p l = absurd (omega arith)
  longest_at (x ∷ xs) [] zero l = sym (longer_same x [] (x, refl))
  longest_at (x ∷ xs) [] (suc p) l = longest_at xs [] p (omega arith)
  longest_at (x ∷ xs) (y ∷ ys) zero l = refl
  longest_at (x ∷ xs) (y ∷ ys) (suc p) l = longest_at xs ys p (omega arith)
