-- What the reading of a families list's rows says of the bytes where they lie.
use Rattle.std.proofs.Common.{◌≡◌, ℕ, zero, suc, ◌+◌, ◌-◌, ◌*◌, ◌/◌, ◌<◌, ◌≤◌, Bool, true, false, cond, ltb, List, [], ◌∷◌, ◌++◌, length, take, drop, Option, Some, None, Result, Ok, Err, refl, sym, ap, subst, ◌∙◌, append_assoc, arith}
use Rattle.std.specs.Prelude.{map}
use Rattle.std.specs.Int.{w32, from_be_bytes}
use Rattle.std.specs.List.{AllByRecursion}
use Rattle.std.proofs.lemmas.Bool.{and_from, ltb-false}
use Rattle.std.proofs.lemmas.List.{append-nil, drop-drop, take-take, drop-take, map-append, length-drop}
use Rattle.std.specs.Simd.{first_chunks}
use Rattle.cp_bytes.specs.Fields.{Field, ValueOf, size_of, parse_field, ◌>>=◌, or_left, field_at}
use Rattle.cp_bytes.specs.Fields.Field.{U32, Raw}
use Rattle.cp_bytes.proofs.FieldLemmas.{bind_ok, guard_ok, ok_is, or_left_ok}
use Rattle.lms_tree.specs.PublicKey.{key_reads}
use Rattle.cp_families.specs.Families.{FamilyRow, comes_after, family_row_at, family_rows_at, family_ascends}
use Rattle.cp_families.specs.Rows.{row_of, IsListed}
use Rattle.cp_families.proofs.Chunks.{first_chunks-more, take-first_chunks}

-- ---- one row

-- a field that was read
pub record Split (f : Field) (bytes : List ℕ) (x : ValueOf f × List ℕ) : Type 0 where
  pub long : size_of f ≤ length bytes
  pub value : parse_field f (take (size_of f) bytes) ≡ Some x.0
  pub rest : drop (size_of f) bytes ≡ x.1

pub field_split : (f : Field) (bytes : List ℕ) (x : ValueOf f × List ℕ) → field_at f bytes ≡ Ok x → Split f bytes x
unfolding field_at
field_split f bytes x e =
    let g = guard_ok (ltb (length bytes) (size_of f)) (length bytes) (or_left bytes (parse_field f (take (size_of f) bytes)) >>= λ v. Ok (v, drop (size_of f) bytes)) x e in
    let b = bind_ok (or_left bytes (parse_field f (take (size_of f) bytes))) (λ v. Ok (v, drop (size_of f) bytes)) x g.1 in
    let made : ValueOf f × List ℕ = (b.0, drop (size_of f) bytes) in
    let is = ok_is made x b.2 in
    record {
      long = ltb-false _ _ g.0;
      value = or_left_ok bytes (parse_field f (take (size_of f) bytes)) b.0 b.1 ∙ ap (λ (y : ValueOf f × List ℕ). Some y.0) is;
      rest = ap (λ (y : ValueOf f × List ℕ). y.1) is;
    }

some_is : {A : Type 0} (x y : A) → (let a : Option A = Some x in a) ≡ Some y → x ≡ y
some_is x y e = cc

pub given_then : {A : Type 0} (b : Bool) (r : Result A ℕ) (d : ℕ) (y : A) → cond b r (Err d) ≡ Ok y → (b ≡ true) × (r ≡ Ok y)
given_then true r d y e = (refl, e)
given_then false r d y e = absurd cc

-- a row that was read
pub record Taken (before : Option FamilyRow) (bytes : List ℕ) (x : FamilyRow × List ℕ) : Type 0 where
  pub long : 64 ≤ length bytes
  pub row : x.0 ≡ row_of (take 64 bytes)
  pub rest : x.1 ≡ drop 64 bytes
  pub after : comes_after before x.0.family x.0.client ≡ true
  pub key_read : key_reads x.0.key ≡ true

-- the same bytes, in pieces
pieces : (bytes : List ℕ) → (take 4 (take 64 bytes) ≡ take 4 bytes) × (take 4 (drop 4 (take 64 bytes)) ≡ take 4 (drop 4 bytes)) × (drop 8 (take 64 bytes) ≡ take 56 (drop 8 bytes))
pieces bytes = (take-take 4 64 bytes (omega arith), ap (take 4) (drop-take 4 60 bytes) ∙ take-take 4 60 (drop 4 bytes) (omega arith), drop-take 8 56 bytes)

pub row_taken : (before : Option FamilyRow) (bytes : List ℕ) (x : FamilyRow × List ℕ) → family_row_at before bytes ≡ Ok x → Taken before bytes x
unfolding family_row_at
row_taken before bytes x e =
    let a = bind_ok (field_at U32 bytes) _ x e in
    let b = bind_ok (field_at U32 a.0.1) _ x a.2 in
    let k = bind_ok (cond (comes_after before a.0.0 b.0.0) (field_at (Raw 56) b.0.1) (Err (length bytes))) _ x b.2 in
    let g = given_then (comes_after before a.0.0 b.0.0) (field_at (Raw 56) b.0.1) (length bytes) k.0 k.1 in
    let made : FamilyRow × List ℕ = (record { family = a.0.0; client = b.0.0; key = k.0.0 }, k.0.1) in
    let l = given_then (key_reads k.0.0) (Ok made) (length b.0.1) x k.2 in
    subst (λ (y : FamilyRow × List ℕ). Taken before bytes y) (ok_is made x l.1)
    (joined before bytes a.0 b.0 k.0 (field_split U32 bytes a.0 a.1) (field_split U32 a.0.1 b.0 b.1) (field_split (Raw 56) b.0.1 k.0 g.1) g.0 l.0)
  where
    joined : (before : Option FamilyRow) (bytes : List ℕ) (a b : ℕ × List ℕ) (k : List ℕ × List ℕ) → Split U32 bytes a → Split U32 a.1 b → Split (Raw 56) b.1 k
        → comes_after before a.0 b.0 ≡ true → key_reads k.0 ≡ true → Taken before bytes (record { family = a.0; client = b.0; key = k.0 }, k.1)
    joined before bytes a b k sa sb sk after reads =
        let second : drop 4 bytes ≡ a.1 = sa.rest in
        let third : drop 8 bytes ≡ b.1 = sym (drop-drop 4 4 bytes) ∙ ap (drop 4) second ∙ sb.rest in
        let last : drop 64 bytes ≡ k.1 = sym (drop-drop 56 8 bytes) ∙ ap (drop 56) third ∙ sk.rest in
        let p = pieces bytes in
        let family : a.0 ≡ from_be_bytes w32 (take 4 (take 64 bytes)) = sym (ap (from_be_bytes w32) p.0 ∙ some_is _ a.0 sa.value) in
        let client : b.0 ≡ from_be_bytes w32 (take 4 (drop 4 (take 64 bytes))) = sym (ap (from_be_bytes w32) (p.1 ∙ ap (take 4) second) ∙ some_is _ b.0 sb.value) in
        let key : k.0 ≡ drop 8 (take 64 bytes) = sym (p.2 ∙ ap (take 56) third ∙ some_is _ k.0 sk.value) in
        record {
          long = long a.1 b.1 second third sa.long sb.long sk.long;
          row = cc;
          rest = sym last;
          after = after;
          key_read = reads;
        }
      where
        long : (r1 r2 : List ℕ) → drop 4 bytes ≡ r1 → drop 8 bytes ≡ r2 → 4 ≤ length bytes → 4 ≤ length r1 → 56 ≤ length r2 → 64 ≤ length bytes
        long r1 r2 e f h i j = grind (arith, ap length e, ap length f, length-drop 4 bytes, length-drop 8 bytes)

-- ---- so many rows

-- rows that stand before those that are still read
abbrev pub behind : List FamilyRow → Result (List FamilyRow × List ℕ) ℕ → Result (List FamilyRow × List ℕ) ℕ
behind front r = r >>= λ x. Ok (front ++ x.0, x.1)

less_one : (count i : ℕ) → i < count → count - i ≡ suc (count - (i + 1))
less_one count i h = omega (arith, h)

pub rows_step : (count i : ℕ) (before : Option FamilyRow) (front : List FamilyRow) (bytes : List ℕ) (x : FamilyRow × List ℕ) → i < count → family_row_at before bytes ≡ Ok x
    → behind front (family_rows_at (count - i) before bytes) ≡ behind (front ++ x.0 ∷ []) (family_rows_at (count - (i + 1)) (Some x.0) x.1)
unfolding family_rows_at
rows_step count i before front bytes x h e = ap (λ n. behind front (family_rows_at n before bytes)) (less_one count i h) ∙ rw e (regroup (family_rows_at (count - (i + 1)) (Some x.0) x.1))
  where
    regroup : (r : Result (List FamilyRow × List ℕ) ℕ) → behind front (r >>= λ others. Ok (x.0 ∷ others.0, others.1)) ≡ behind (front ++ x.0 ∷ []) r
    regroup (Ok y) = ap (λ (l : List FamilyRow). Ok (l, y.1)) (sym (append_assoc front (x.0 ∷ []) y.0))
    regroup (Err d) = refl

pub rows_stop : (count i : ℕ) (before : Option FamilyRow) (front : List FamilyRow) (bytes : List ℕ) (d : ℕ) → i < count → family_row_at before bytes ≡ Err d
    → behind front (family_rows_at (count - i) before bytes) ≡ Err d
unfolding family_rows_at
rows_stop count i before front bytes d h e = ap (λ n. behind front (family_rows_at n before bytes)) (less_one count i h) ∙ rw e refl

pub rows_end : (count i : ℕ) (before : Option FamilyRow) (front : List FamilyRow) (bytes : List ℕ) → count ≤ i → behind front (family_rows_at (count - i) before bytes) ≡ Ok (front, bytes)
unfolding family_rows_at
rows_end count i before front bytes h = ap (λ n. behind front (family_rows_at n before bytes)) (let e : count - i ≡ zero = omega (arith, h) in e) ∙ ap (λ (l : List FamilyRow). Ok (l, bytes)) (append-nil front)

-- the rows where they lie, and one more
pub rows_more : (n : ℕ) (bytes : List ℕ) → map row_of (first_chunks 64 (n + 1) bytes) ≡ map row_of (first_chunks 64 n bytes) ++ row_of (take 64 (drop (64 * n) bytes)) ∷ []
rows_more n bytes = ap (map row_of) (first_chunks-more 64 n bytes) ∙ map-append row_of (first_chunks 64 n bytes) (take 64 (drop (64 * n) bytes) ∷ [])

record Listed (before : Option FamilyRow) (rows : List FamilyRow) : Type 0 where
  pub ascends : family_ascends before rows ≡ true
  pub keys_read : AllByRecursion (λ r. key_reads r.key ≡ true) rows

listed_from : (n : ℕ) (before : Option FamilyRow) (bytes : List ℕ) (x : List FamilyRow × List ℕ) → family_rows_at n before bytes ≡ Ok x → Listed before x.0
unfolding family_rows_at
listed_from zero before bytes x e =
    let made : List FamilyRow × List ℕ = ([], bytes) in
    subst (λ (y : List FamilyRow × List ℕ). Listed before y.0) (ok_is made x e) (record { ascends = refl; keys_read = tt })
listed_from (suc n) before bytes x e =
    let a = bind_ok (family_row_at before bytes) _ x e in
    let b = bind_ok (family_rows_at n (Some a.0.0) a.0.1) _ x a.2 in
    let t = row_taken before bytes a.0 a.1 in
    let l = listed_from n (Some a.0.0) a.0.1 b.0 b.1 in
    let made : List FamilyRow × List ℕ = (a.0.0 ∷ b.0.0, b.0.1) in
    subst (λ (y : List FamilyRow × List ℕ). Listed before y.0) (ok_is made x b.2) (record { ascends = and_from _ _ t.after l.ascends; keys_read = (t.key_read, l.keys_read) })

-- rows that were read ascend, and their keys read
pub rows_listed : (n : ℕ) (bytes : List ℕ) (rows : List FamilyRow) (rest : List ℕ) → family_rows_at n None bytes ≡ Ok (rows, rest) → IsListed rows
rows_listed n bytes rows rest e = let l = listed_from n None bytes (rows, rest) e in record { ascends = l.ascends; keys_read = l.keys_read }

-- ---- the steps of a loop over the rows; n is the number of rows, i of those that were read, and
-- bytes are those from the first row on

abbrev pub SoFar : ℕ → ℕ → List ℕ → Option FamilyRow → List ℕ → Type 0
SoFar n i bytes before rest = family_rows_at n None bytes ≡ behind (map row_of (first_chunks 64 i bytes)) (family_rows_at (n - i) before rest)

pub record Onward (n i : ℕ) (bytes rest : List ℕ) (row : FamilyRow) : Type 0 where
  pub within : 64 * (i + 1) ≤ length bytes
  pub rest_is : rest ≡ drop (64 * (i + 1)) bytes
  pub so_far : SoFar n (i + 1) bytes (Some row) rest

pub loop_step : (n i : ℕ) (bytes rest : List ℕ) (before : Option FamilyRow) (x : FamilyRow × List ℕ) → i < n → 64 * i ≤ length bytes → rest ≡ drop (64 * i) bytes → SoFar n i bytes before rest → family_row_at before rest ≡ Ok x → Onward n i bytes x.1 x.0
loop_step n i bytes rest before x lt within is so_far e =
    let t = row_taken before rest x e in
    let long : 64 ≤ length bytes - 64 * i = subst (λ (m : ℕ). 64 ≤ m) (ap length is ∙ length-drop (64 * i) bytes) t.long in
    let row : x.0 ≡ row_of (take 64 (drop (64 * i) bytes)) = t.row ∙ ap (λ (l : List ℕ). row_of (take 64 l)) is in
    let front : map row_of (first_chunks 64 i bytes) ++ x.0 ∷ [] ≡ map row_of (first_chunks 64 (i + 1) bytes) = ap (λ (r : FamilyRow). map row_of (first_chunks 64 i bytes) ++ r ∷ []) row ∙ sym (rows_more i bytes) in
    record {
      within = omega (arith, within, long);
      rest_is = t.rest ∙ ap (drop 64) is ∙ drop-drop 64 (64 * i) bytes ∙ ap (λ (m : ℕ). drop m bytes) (let e : 64 * i + 64 ≡ 64 * (i + 1) = omega arith in e);
      so_far = so_far ∙ rows_step n i before (map row_of (first_chunks 64 i bytes)) rest x lt e ∙ ap (λ (l : List FamilyRow). behind l (family_rows_at (n - (i + 1)) (Some x.0) x.1)) front;
    }

pub loop_end : (n i : ℕ) (bytes rest : List ℕ) (before : Option FamilyRow) → i ≡ n → SoFar n i bytes before rest → family_rows_at n None bytes ≡ Ok (map row_of (first_chunks 64 n bytes), rest)
loop_end n i bytes rest before is so_far = so_far ∙ rows_end n i before (map row_of (first_chunks 64 i bytes)) rest (omega (arith, is)) ∙ ap (λ (m : ℕ). Ok (map row_of (first_chunks 64 m bytes), rest)) is

-- the first n of all pieces of 64 bytes
pub first_rows : (n : ℕ) (bytes : List ℕ) (pieces : List (List ℕ)) → 64 * n ≤ length bytes → pieces ≡ first_chunks 64 (length bytes / 64) bytes → take n pieces ≡ first_chunks 64 n bytes
first_rows n bytes pieces le is = ap (take n) is ∙ take-first_chunks 64 n (length bytes / 64) bytes (omega (arith, le))

behind_none : (r : Result (List FamilyRow × List ℕ) ℕ) → behind [] r ≡ r
behind_none (Ok x) = refl
behind_none (Err d) = refl

pub loop_start : (n : ℕ) (bytes : List ℕ) → SoFar n 0 bytes None bytes
loop_start n bytes = ap (λ (m : ℕ). family_rows_at m None bytes) (let e : n ≡ n - 0 = omega arith in e) ∙ sym (behind_none (family_rows_at (n - 0) None bytes))

pub loop_stop : (n i : ℕ) (bytes rest : List ℕ) (before : Option FamilyRow) (d : ℕ) → i < n → SoFar n i bytes before rest → family_row_at before rest ≡ Err d → family_rows_at n None bytes ≡ Err d
loop_stop n i bytes rest before d lt so_far e = so_far ∙ rows_stop n i before (map row_of (first_chunks 64 i bytes)) rest d lt e
