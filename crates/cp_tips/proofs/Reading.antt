-- What the bytes of a table's rows read as, where they lie.
use Rattle.std.proofs.Common.{◌≡◌, ℕ, zero, suc, ◌+◌, ◌-◌, ◌*◌, ◌/◌, ◌%◌, ◌<◌, ◌≤◌, false, eqb, ltb, List, [], ◌∷◌, ◌++◌, length, take, drop, Result, Ok, Err, refl, sym, ap, ◌∙◌, arith}
use Rattle.std.specs.Prelude.{map, codes}
use Rattle.std.specs.Int.{w64, from_be_bytes}
use Rattle.std.specs.Simd.{first_chunks}
use Rattle.std.proofs.lemmas.Bool.{lt-ltb, le-ltb, ne_eqb}
use Rattle.std.proofs.lemmas.List.{append-nil, drop-drop, take-take, drop-take, length-drop, nil_from_length}
use Rattle.cp_bytes.specs.Fields.{Field, size_of, parse_field, ◌>>=◌, or_left, field_at, fields_at}
use Rattle.cp_bytes.proofs.FieldLemmas.{bind_ok, guard_ok, ok_is}
use Rattle.cp_bytes.specs.Fields.Field.{Tag, U64, Raw}
use Rattle.cp_tips.specs.Table.{TableRow, row_fields, row_values, rows_at, table_of}
use Rattle.cp_tips.specs.Rows.{row_of}

-- ---- one field

pub field_short : (f : Field) (bytes : List ℕ) → length bytes < size_of f → field_at f bytes ≡ Err (length bytes)
unfolding field_at
field_short f bytes h = rw (lt-ltb (length bytes) (size_of f) h) refl

pub u64_there : (bytes : List ℕ) → 8 ≤ length bytes → field_at U64 bytes ≡ Ok (from_be_bytes w64 (take 8 bytes), drop 8 bytes)
unfolding field_at
u64_there bytes h = rw (le-ltb (length bytes) 8 h) refl

pub raw_there : (n : ℕ) (bytes : List ℕ) → n ≤ length bytes → field_at (Raw n) bytes ≡ Ok (take n bytes, drop n bytes)
unfolding field_at
raw_there n bytes h = rw (le-ltb (length bytes) n h) refl

-- ---- one row

-- the field behind n bytes
next_u64 : (bytes : List ℕ) (n : ℕ) → n + 8 ≤ length bytes → field_at U64 (drop n bytes) ≡ Ok (from_be_bytes w64 (take 8 (drop n bytes)), drop (n + 8) bytes)
next_u64 bytes n h = u64_there (drop n bytes) (omega (arith, length-drop n bytes)) ∙ ap (λ (l : List ℕ). Ok (from_be_bytes w64 (take 8 (drop n bytes)), l)) (drop-drop 8 n bytes)

next_hash : (bytes : List ℕ) (n : ℕ) → n + 32 ≤ length bytes → field_at (Raw 32) (drop n bytes) ≡ Ok (take 32 (drop n bytes), drop (n + 32) bytes)
next_hash bytes n h = raw_there 32 (drop n bytes) (omega (arith, length-drop n bytes)) ∙ ap (λ (l : List ℕ). Ok (take 32 (drop n bytes), l)) (drop-drop 32 n bytes)

next_short : (f : Field) (bytes : List ℕ) (n : ℕ) → length bytes < n + size_of f → n ≤ length bytes → field_at f (drop n bytes) ≡ Err (length bytes - n)
next_short f bytes n h le = field_short f (drop n bytes) (omega (arith, length-drop n bytes)) ∙ ap (λ (m : ℕ). Err m) (length-drop n bytes)

pub row_there : (bytes : List ℕ) → 88 ≤ length bytes → fields_at row_fields bytes ≡ Ok (row_values (row_of bytes), drop 88 bytes)
unfolding fields_at
row_there bytes h =
    rw (u64_there bytes (omega (arith, h)))
    (rw (next_u64 bytes 8 (omega (arith, h)))
    (rw (next_u64 bytes 16 (omega (arith, h)))
    (rw (next_hash bytes 24 (omega (arith, h)))
    (rw (next_hash bytes 56 (omega (arith, h))) refl))))

-- a row that is cut short, in each of its fields
pub short_first : (bytes : List ℕ) → length bytes < 8 → fields_at row_fields bytes ≡ Err (length bytes)
unfolding fields_at
short_first bytes h = rw (field_short U64 bytes h) refl

pub short_second : (bytes : List ℕ) → 8 ≤ length bytes → length bytes < 16 → fields_at row_fields bytes ≡ Err (length bytes - 8)
unfolding fields_at
short_second bytes h lt = rw (u64_there bytes h) (rw (next_short U64 bytes 8 lt h) refl)

pub short_third : (bytes : List ℕ) → 16 ≤ length bytes → length bytes < 24 → fields_at row_fields bytes ≡ Err (length bytes - 16)
unfolding fields_at
short_third bytes h lt = rw (u64_there bytes (omega (arith, h))) (rw (next_u64 bytes 8 (omega (arith, h))) (rw (next_short U64 bytes 16 lt h) refl))

pub short_fourth : (bytes : List ℕ) → 24 ≤ length bytes → length bytes < 56 → fields_at row_fields bytes ≡ Err (length bytes - 24)
unfolding fields_at
short_fourth bytes h lt = rw (u64_there bytes (omega (arith, h))) (rw (next_u64 bytes 8 (omega (arith, h))) (rw (next_u64 bytes 16 (omega (arith, h))) (rw (next_short (Raw 32) bytes 24 lt h) refl)))

pub short_fifth : (bytes : List ℕ) → 56 ≤ length bytes → length bytes < 88 → fields_at row_fields bytes ≡ Err (length bytes - 56)
unfolding fields_at
short_fifth bytes h lt = rw (u64_there bytes (omega (arith, h))) (rw (next_u64 bytes 8 (omega (arith, h))) (rw (next_u64 bytes 16 (omega (arith, h))) (rw (next_hash bytes 24 (omega (arith, h))) (rw (next_short (Raw 32) bytes 56 lt h) refl))))

-- ---- so many rows

-- the row is that of its own 88 bytes
row_of_piece : (bytes : List ℕ) → row_of (take 88 bytes) ≡ row_of bytes
row_of_piece bytes =
    let block : take 8 (take 88 bytes) ≡ take 8 bytes = take-take 8 88 bytes (omega arith) in
    let count : take 8 (drop 8 (take 88 bytes)) ≡ take 8 (drop 8 bytes) = ap (take 8) (drop-take 8 80 bytes) ∙ take-take 8 80 (drop 8 bytes) (omega arith) in
    let version : take 8 (drop 16 (take 88 bytes)) ≡ take 8 (drop 16 bytes) = ap (take 8) (drop-take 16 72 bytes) ∙ take-take 8 72 (drop 16 bytes) (omega arith) in
    let content : take 32 (drop 24 (take 88 bytes)) ≡ take 32 (drop 24 bytes) = ap (take 32) (drop-take 24 64 bytes) ∙ take-take 32 64 (drop 24 bytes) (omega arith) in
    let head : take 32 (drop 56 (take 88 bytes)) ≡ take 32 (drop 56 bytes) = ap (take 32) (drop-take 56 32 bytes) ∙ take-take 32 32 (drop 56 bytes) (omega arith) in
    rw (block, count, version, content, head) refl

-- rows that stand before those that are still read
abbrev pub behind : List TableRow → Result (List TableRow) ℕ → Result (List TableRow) ℕ
behind front r = r >>= λ others. Ok (front ++ others)

behind_one : (r : TableRow) (front : List TableRow) (x : Result (List TableRow) ℕ) → (behind front x >>= λ others. Ok (r ∷ others)) ≡ behind (r ∷ front) x
behind_one r front (Ok others) = refl
behind_one r front (Err d) = refl

behind_none : (r : Result (List TableRow) ℕ) → r ≡ behind [] r
behind_none (Ok others) = refl
behind_none (Err d) = refl

-- the first k rows, each whole, and the others
pub rows_there : (k n : ℕ) (bytes : List ℕ) → k ≤ n → 88 * k ≤ length bytes → rows_at n bytes ≡ behind (map row_of (first_chunks 88 k bytes)) (rows_at (n - k) (drop (88 * k) bytes))
unfolding rows_at
rows_there zero n bytes le long = ap (λ (m : ℕ). rows_at m bytes) (let e : n ≡ n - 0 = omega arith in e) ∙ ap (λ (m : ℕ). rows_at (n - 0) (drop m bytes)) (let e : 0 ≡ 88 * 0 = omega arith in e) ∙ behind_none _
rows_there (suc k) zero bytes le long = absurd (omega (arith, le))
rows_there (suc k) (suc n) bytes le long =
    let some : eqb (length bytes) 0 ≡ false = ne_eqb _ _ (λ e. omega (arith, e, long)) in
    let later = rows_there k n (drop 88 bytes) (omega (arith, le)) (omega (arith, long, length-drop 88 bytes)) in
    let rest : drop (88 * k) (drop 88 bytes) ≡ drop (88 * suc k) bytes = drop-drop (88 * k) 88 bytes ∙ ap (λ (m : ℕ). drop m bytes) (let e : 88 + 88 * k ≡ 88 * suc k = omega arith in e) in
    let less : n - k ≡ suc n - suc k = omega arith in
    rw some (rw (row_there bytes (omega (arith, long))) (rw later (behind_one (row_of bytes) (map row_of (first_chunks 88 k (drop 88 bytes))) (rows_at (n - k) (drop (88 * k) (drop 88 bytes))) ∙ rw (rest, less, row_of_piece bytes) refl)))

-- nothing is left
pub rows_none : (n : ℕ) → rows_at n [] ≡ Ok []
unfolding rows_at
rows_none zero = refl
rows_none (suc n) = refl

pub rows_refused : (n : ℕ) (bytes : List ℕ) (d : ℕ) → 0 < length bytes → fields_at row_fields bytes ≡ Err d → rows_at (suc n) bytes ≡ Err d
unfolding rows_at
rows_refused n bytes d some e = rw (let t : eqb (length bytes) 0 ≡ false = ne_eqb _ _ (λ z. omega (arith, z, some)) in t) (rw e refl)

-- all rows are whole
pub whole_rows : (bytes : List ℕ) → length bytes % 88 ≡ 0 → rows_at (length bytes) bytes ≡ Ok (map row_of (first_chunks 88 (length bytes / 88) bytes))
whole_rows bytes exact =
    let k = length bytes / 88 in
    let ended : drop (88 * k) bytes ≡ [] = nil_from_length _ (length-drop (88 * k) bytes ∙ (let e : length bytes - 88 * k ≡ 0 = omega (arith, exact) in e)) in
    rows_there k (length bytes) bytes (omega arith) (omega arith) ∙ rw ended (rw (rows_none (length bytes - k)) (ap (λ (l : List TableRow). Ok l) (append-nil (map row_of (first_chunks 88 k bytes)))))

-- the last row is not
pub last_row_short : (bytes : List ℕ) (d : ℕ) → 0 < length bytes % 88 → fields_at row_fields (drop (88 * (length bytes / 88)) bytes) ≡ Err d → rows_at (length bytes) bytes ≡ Err d
last_row_short bytes d some e =
    let k = length bytes / 88 in
    let more : length bytes - k ≡ suc (length bytes - k - 1) = omega (arith, some) in
    let left : 0 < length (drop (88 * k) bytes) = omega (arith, some, length-drop (88 * k) bytes) in
    rows_there k (length bytes) bytes (omega arith) (omega arith) ∙ rw (more, rows_refused (length bytes - k - 1) (drop (88 * k) bytes) d left e) refl

-- ---- a whole table; rest is what stands behind its tag

tag_left : (bytes rest : List ℕ) → field_at (Tag (codes "CPt1")) bytes ≡ Ok (tt, rest) → length rest ≤ length bytes
unfolding field_at
tag_left bytes rest e =
    let g = guard_ok (ltb (length bytes) 4) (length bytes) (or_left bytes (parse_field (Tag (codes "CPt1")) (take 4 bytes)) >>= λ v. Ok (v, drop 4 bytes)) (tt, rest) e in
    let b = bind_ok (or_left bytes (parse_field (Tag (codes "CPt1")) (take 4 bytes))) (λ v. Ok (v, drop 4 bytes)) (tt, rest) g.1 in
    let made : Unit {0} × List ℕ = (b.0, drop 4 bytes) in
    let is : drop 4 bytes ≡ rest = ap (λ (y : Unit {0} × List ℕ). y.1) (ok_is made (tt, rest) b.2) in
    omega (arith, ap length is, length-drop 4 bytes)

pub left_within : (bytes rest short : List ℕ) (left : ℕ) → field_at (Tag (codes "CPt1")) bytes ≡ Ok (tt, rest) → length short ≡ length rest % 88 → left ≤ length short → left ≤ length bytes
left_within bytes rest short left e is le = omega (arith, tag_left bytes rest e, is, le)

pub table_read : (bytes rest : List ℕ) (pieces : List (List ℕ)) → field_at (Tag (codes "CPt1")) bytes ≡ Ok (tt, rest) → pieces ≡ first_chunks 88 (length rest / 88) rest → length rest % 88 ≡ 0 → table_of bytes ≡ Ok (map row_of pieces)
unfolding table_of
table_read bytes rest pieces e is exact = rw e (rw (whole_rows rest exact, is) refl)

pub table_refused : (bytes rest short : List ℕ) (left : ℕ) → field_at (Tag (codes "CPt1")) bytes ≡ Ok (tt, rest) → short ≡ drop (length rest / 88 * 88) rest → length short ≡ length rest % 88 → 0 < length short → fields_at row_fields short ≡ Err left → table_of bytes ≡ Err (length bytes - left)
unfolding table_of
table_refused bytes rest short left e is size some refused =
    let there : short ≡ drop (88 * (length rest / 88)) rest = is ∙ ap (λ (m : ℕ). drop m rest) (let t : length rest / 88 * 88 ≡ 88 * (length rest / 88) = omega arith in t) in
    let last = last_row_short rest left (omega (arith, size, some)) (ap (fields_at row_fields) (sym there) ∙ refused) in
    rw e (rw last refl)
