-- Parts in a row: read one by one, from the front.
use Rattle.std.proofs.Common.{◌≡◌, ℕ, zero, suc, ◌+◌, ◌<◌, List, [], ◌∷◌, ◌++◌, length, Result, Ok, Err, refl, sym, ap, subst, ◌∙◌, arith}
use Rattle.std.specs.Prelude.{IsOk}
use Rattle.cp_bytes.specs.Fields.{part_at}
use Rattle.cp_bytes.proofs.FieldLemmas.{bind_ok, ok_is}
use Rattle.cp_chain.specs.Segment.{parts_at, first_or_none, parts_in}

abbrev Read : Type 0
Read = Result (List (List ℕ) × List ℕ) ℕ

abbrev read_as : List (List ℕ) → List ℕ → Read
read_as texts rest = Ok (texts, rest)

-- what is read so is what is in them
pub parts_in_is : (n : ℕ) (bytes : List ℕ) (texts : List (List ℕ)) (rest : List ℕ) → parts_at n bytes ≡ Ok (texts, rest) → parts_in n bytes ≡ texts
unfolding parts_in
parts_in_is n bytes texts rest e = ap first_or_none e

pub none_left : (n : ℕ) (bytes : List ℕ) → n ≡ 0 → parts_in n bytes ≡ []
unfolding parts_in parts_at
none_left n bytes e = ap (λ (i : ℕ). parts_in i bytes) e

pub none_read : (bytes : List ℕ) → parts_at 0 bytes ≡ Ok (parts_in 0 bytes, bytes)
unfolding parts_in parts_at
none_read bytes = refl

ok_value : {A : Type 0} (r : Result A ℕ) → IsOk r → (x : A) × (r ≡ Ok x)
ok_value (Ok x) h = (x, refl)
ok_value (Err e) h = absurd (cc)

pub is_read : {A : Type 0} (r : Result A ℕ) (x : A) → r ≡ Ok x → IsOk r
is_read r x e = rw e refl

-- so many parts, as many as were asked for
pub length-parts_at : (n : ℕ) (bytes : List ℕ) (x : List (List ℕ) × List ℕ) → parts_at n bytes ≡ Ok x → length x.0 ≡ n
unfolding parts_at
length-parts_at zero bytes x e = ap (λ (y : List (List ℕ) × List ℕ). length y.0) (sym (ok_is ([], bytes) x e))
length-parts_at (suc n) bytes x e =
    let a = bind_ok (part_at bytes) _ x e in
    let b = bind_ok (parts_at n a.0.1) _ x a.2 in
    ap (λ (y : List (List ℕ) × List ℕ). length y.0) (sym (ok_is (a.0.0 ∷ b.0.0, b.0.1) x b.2)) ∙ ap suc (length-parts_at n a.0.1 b.0 b.1)

pub length-parts_in : (n : ℕ) (bytes : List ℕ) → IsOk (parts_at n bytes) → length (parts_in n bytes) ≡ n
unfolding parts_in
length-parts_in n bytes h =
    let v = ok_value (parts_at n bytes) h in
    ap (λ (r : Read). length (first_or_none r)) v.1 ∙ length-parts_at n bytes v.0 v.1

-- the first of some parts, and the others behind it
pub record NextPart (n m : ℕ) (bytes text rest : List ℕ) : Type 0 where
  pub others : IsOk (parts_at n rest)
  pub all : parts_in m bytes ≡ text ∷ parts_in n rest

pub next_part : (n m : ℕ) (bytes text rest : List ℕ) → m ≡ n + 1 → IsOk (parts_at m bytes) → part_at bytes ≡ Ok (text, rest) → NextPart n m bytes text rest
unfolding parts_at parts_in
next_part n m bytes text rest e h read =
    let k : m ≡ suc n = omega (arith, e) in
    let g : IsOk (parts_at (suc n) bytes) = subst (λ (i : ℕ). IsOk (parts_at i bytes)) k h in
    let v = ok_value (parts_at (suc n) bytes) g in
    let a = bind_ok (part_at bytes) _ v.0 v.1 in
    let b = bind_ok (parts_at n a.0.1) _ v.0 a.2 in
    let same : a.0 ≡ (text, rest) = ok_is a.0 (text, rest) (sym a.1 ∙ read) in
    let behind : parts_at n rest ≡ Ok b.0 = ap (λ (x : List ℕ × List ℕ). parts_at n x.1) (sym same) ∙ b.1 in
    let whole : parts_in (suc n) bytes ≡ a.0.0 ∷ b.0.0 = ap first_or_none v.1 ∙ ap (λ (x : List (List ℕ) × List ℕ). x.0) (sym (ok_is (a.0.0 ∷ b.0.0, b.0.1) v.0 b.2)) in
    record {
      others = is_read (parts_at n rest) b.0 behind;
      all = ap (λ (i : ℕ). parts_in i bytes) k ∙ whole ∙ ap (λ (x : List ℕ × List ℕ). x.0 ∷ b.0.0) same ∙ ap (λ (r : Read). text ∷ first_or_none r) (sym behind);
    }

pub some_part : (n : ℕ) (bytes : List ℕ) (left : ℕ) → 0 < n → IsOk (parts_at n bytes) → part_at bytes ≡ Err left → ⊥
unfolding parts_at
some_part zero bytes left lt h read = omega (arith, lt)
some_part (suc n) bytes left lt h read =
    let v = ok_value (parts_at (suc n) bytes) h in
    let a = bind_ok (part_at bytes) _ v.0 v.1 in
    absurd (cc (a.1, read))

-- one part more, or a fault in it
pub parts_more : (i : ℕ) (bytes : List ℕ) (texts : List (List ℕ)) (rest text behind : List ℕ) → parts_at i bytes ≡ Ok (texts, rest) → part_at rest ≡ Ok (text, behind) → parts_at (i + 1) bytes ≡ Ok (texts ++ text ∷ [], behind)
unfolding parts_at
parts_more zero bytes texts rest text behind e f =
    let same = ok_is ([], bytes) (texts, rest) e in
    let there : part_at bytes ≡ Ok (text, behind) = ap (λ (x : List (List ℕ) × List ℕ). part_at x.1) same ∙ f in
    let none : [] ≡ texts = ap (λ (x : List (List ℕ) × List ℕ). x.0) same in
    rw there (ap (λ (l : List (List ℕ)). read_as (l ++ text ∷ []) behind) none)
parts_more (suc i) bytes texts rest text behind e f =
    let a = bind_ok (part_at bytes) _ (texts, rest) e in
    let b = bind_ok (parts_at i a.0.1) _ (texts, rest) a.2 in
    let same = ok_is (a.0.0 ∷ b.0.0, b.0.1) (texts, rest) b.2 in
    let there : part_at b.0.1 ≡ Ok (text, behind) = ap (λ (x : List (List ℕ) × List ℕ). part_at x.1) same ∙ f in
    let first : a.0.0 ∷ b.0.0 ≡ texts = ap (λ (x : List (List ℕ) × List ℕ). x.0) same in
    let more = parts_more i a.0.1 b.0.0 b.0.1 text behind b.1 there in
    let count : suc i + 1 ≡ suc (i + 1) = omega arith in
    ap (λ (n : ℕ). parts_at n bytes) count ∙ rw a.1 (rw more (ap (λ (l : List (List ℕ)). read_as (l ++ text ∷ []) behind) first))

pub parts_fail : (i n : ℕ) (bytes : List ℕ) (texts : List (List ℕ)) (rest : List ℕ) (left : ℕ) → i < n → parts_at i bytes ≡ Ok (texts, rest) → part_at rest ≡ Err left → parts_at n bytes ≡ Err left
unfolding parts_at
parts_fail i zero bytes texts rest left lt e f = absurd (omega (arith, lt))
parts_fail zero (suc n) bytes texts rest left lt e f =
    let same = ok_is ([], bytes) (texts, rest) e in
    let there : part_at bytes ≡ Err left = ap (λ (x : List (List ℕ) × List ℕ). part_at x.1) same ∙ f in
    rw there refl
parts_fail (suc i) (suc n) bytes texts rest left lt e f =
    let a = bind_ok (part_at bytes) _ (texts, rest) e in
    let b = bind_ok (parts_at i a.0.1) _ (texts, rest) a.2 in
    let same = ok_is (a.0.0 ∷ b.0.0, b.0.1) (texts, rest) b.2 in
    let there : part_at b.0.1 ≡ Err left = ap (λ (x : List (List ℕ) × List ℕ). part_at x.1) same ∙ f in
    rw a.1 (rw (parts_fail i n a.0.1 b.0.0 b.0.1 left (omega (arith, lt)) b.1 there) refl)

-- one part more is in them, or the fault in it is theirs
pub part_more : (i : ℕ) (bytes rest text behind : List ℕ) → parts_at i bytes ≡ Ok (parts_in i bytes, rest) → part_at rest ≡ Ok (text, behind) → parts_at (i + 1) bytes ≡ Ok (parts_in (i + 1) bytes, behind)
part_more i bytes rest text behind e f =
    let more = parts_more i bytes (parts_in i bytes) rest text behind e f in
    more ∙ ap (λ (l : List (List ℕ)). read_as l behind) (sym (parts_in_is (i + 1) bytes _ behind more))
