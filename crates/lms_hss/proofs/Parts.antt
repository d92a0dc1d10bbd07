-- Parts of bytes by their places.
use Rattle.std.proofs.Common.{◌≡◌, ℕ, ◌+◌, ◌<◌, List, ◌++◌, length, take, drop, get_or, refl, sym, ap, ◌∙◌, arith, rules, take-add, length-append}
use Rattle.std.specs.Prelude.{IsTrue, Bool, true, false, ◌&&◌, ◌==◌, bytes_eq}
use Rattle.std.specs.Int.{w32, to_be_bytes}
use Rattle.std.proofs.lemmas.List.{places, take_all}
use Rattle.std.proofs.lemmas.Bool.Decides.{Decides-eqb}
use Rattle.std.proofs.lemmas.Slice.Eq.{bytes_eq-Decides}
use Rattle.lms_tree.specs.PublicKey.{number_at, key_reads}
use Rattle.lms_tree.proofs.KeyBytes.{reads_tells, number_spelled}
use Rattle.lms_hss.specs.Hss.{top_key, hss_reads}

pub eq_tells : (x y : ℕ) → IsTrue (x == y) → x ≡ y
eq_tells x y h = (Decides-eqb x y).0 h

pub eq_told : (x y : ℕ) → x ≡ y → IsTrue (x == y)
eq_told x y h = (Decides-eqb x y).1 h

pub same_bytes : (x y : List ℕ) → IsTrue (bytes_eq x y) → x ≡ y
same_bytes x y h = (bytes_eq-Decides x y).0 h

pub told_bytes : (x y : List ℕ) → x ≡ y → IsTrue (bytes_eq x y)
told_bytes x y h = (bytes_eq-Decides x y).1 h

pub two : (a b : Bool) → IsTrue (a && b) → IsTrue a × IsTrue b
two true true h = (refl, refl)
two true false h = cc
two false b h = cc

pub three : (a b c : Bool) → IsTrue (a && b && c) → IsTrue a × IsTrue b × IsTrue c
three true true true h = (refl, refl, refl)
three true true false h = cc
three true false c h = cc
three false b c h = cc

pub five : (a b c d e : Bool) → IsTrue (a && b && c && d && e) → IsTrue a × IsTrue b × IsTrue c × IsTrue d × IsTrue e
five true true true true true h = (refl, refl, refl, refl, refl)
five true true true true false h = cc
five true true true false e h = cc
five true true false d e h = cc
five true false c d e h = cc
five false b c d e h = cc

-- a part of four bytes, one of n and one of 56 are all
pub three_parts : (n : ℕ) (bytes : List ℕ) → length bytes ≡ 60 + n
    → take 4 bytes ++ take n (drop 4 bytes) ++ take 56 (drop (4 + n) bytes) ≡ bytes
three_parts n bytes long =
    rw (← take-add 4 n bytes, ← take-add (4 + n) 56 bytes) (take_all _ _ (omega arith))

-- ---- keys of two levels

pub hss_reads_tells : (key : List ℕ) → IsTrue (hss_reads key) → (length key ≡ 60) × (number_at key 0 ≡ 2) × IsTrue (key_reads (top_key key))
unfolding hss_reads
hss_reads_tells key h =
    let parts : IsTrue (length key == 60) × IsTrue (number_at key 0 == 2) × IsTrue (key_reads (top_key key)) = three _ _ _ h in
    (eq_tells _ _ parts.0, eq_tells _ _ parts.1, parts.2)

pub hss_reads_told : (key : List ℕ) → length key ≡ 60 → number_at key 0 ≡ 2 → IsTrue (key_reads (top_key key)) → IsTrue (hss_reads key)
unfolding hss_reads
hss_reads_told key long levels top = rw (long, levels, top) refl

-- the number of levels and a key that reads are one
pub spelled_reads : (top : List ℕ) → IsTrue (key_reads top) → IsTrue (hss_reads (to_be_bytes w32 2 ++ top))
spelled_reads top is =
    let long : length top ≡ 56 = (reads_tells top is).0 in
    hss_reads_told (to_be_bytes w32 2 ++ top) (simp length-append (omega arith)) refl is

-- what was read is spelled so
pub read_spelled : (key : List ℕ) → length key ≡ 60 → ((i : ℕ) → get_or key i 0 < 256) → number_at key 0 ≡ 2 → to_be_bytes w32 2 ++ drop 4 key ≡ key
read_spelled key long fits levels =
    let front : to_be_bytes w32 2 ≡ take 4 key = number_spelled key 0 2 fits (omega arith) (sym levels) in
    let split : take 4 key ++ take 56 (drop 4 key) ≡ key = let all : take 60 key ≡ key = take_all 60 key (omega arith) in rw (← take-add 4 56 key) all in
    let back : take 56 (drop 4 key) ≡ drop 4 key = take_all 56 (drop 4 key) (search (rules, places)) in
    ap (λ x. x ++ drop 4 key) front ∙ ap (λ x. take 4 key ++ x) (sym back) ∙ split
