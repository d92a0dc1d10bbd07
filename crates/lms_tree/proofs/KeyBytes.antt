-- The fields of a key, put together again, are its bytes.
use Rattle.std.proofs.Common.{◌≡◌, ℕ, ◌+◌, ◌<◌, ◌≤◌, List, ◌++◌, length, take, drop, get_or, ap, subst, sym, ◌∙◌, refl, arith, rules, take-add, length-append}
use Rattle.std.proofs.lemmas.List.{places, take_all}
use Rattle.std.proofs.lemmas.Nat.{be_bytes_4}
use Rattle.std.proofs.lemmas.Nat.{from_be_bytes-to_be_bytes_4}
use Rattle.std.proofs.lemmas.Bool.Decides.{Decides-eqb}
use Rattle.std.specs.Prelude.{IsTrue, Bool, true, false, ◌&&◌, ◌==◌}
use Rattle.lms_ots.specs.declared.ots_type.OtsType.{OtsType}
use Rattle.lms_ots.specs.Parameters.{code_of, is_ots_code, ots_of}
use Rattle.lms_tree.specs.declared.lms_type.LmsType.{LmsType}
use Rattle.lms_tree.specs.Parameters.{lms_code_of, is_lms_code, lms_of}
use Rattle.lms_tree.specs.PublicKey.{number_at, key_lms, key_ots, key_reads}
use Rattle.lms_tree.specs.Codes.{code_fits, lms_code_fits}
use Rattle.lms_tree.proofs.Codes.{code_of-ots_of, lms_code_of-lms_of, has_ots_code, has_lms_code}
use Rattle.std.specs.Int.{w32, to_be_bytes}

byte_fits : (bytes : List ℕ) (at i : ℕ) → ((i : ℕ) → get_or bytes i 0 < 256) → get_or (take 4 (drop at bytes)) i 0 < 256
byte_fits bytes at i fits = let here : get_or bytes (at + i) 0 < 256 = fits (at + i) in grind (arith, places)

joined : (bytes : List ℕ) (a b c d : ℕ) → length bytes ≡ a + b + c + d
    → take a bytes ++ take b (drop a bytes) ++ take c (drop (a + b) bytes) ++ take d (drop (a + b + c) bytes) ≡ bytes
joined bytes a b c d long =
    rw (← take-add a b bytes, ← take-add (a + b) c bytes, ← take-add (a + b + c) d bytes) (take_all _ _ (omega arith))

pub number_spelled : (bytes : List ℕ) (at n : ℕ) → ((i : ℕ) → get_or bytes i 0 < 256) → at + 4 ≤ length bytes → n ≡ number_at bytes at
    → to_be_bytes w32 n ≡ take 4 (drop at bytes)
number_spelled bytes at n fits long n_is =
    be_bytes_4 (take 4 (drop at bytes)) n (search (rules, places)) (λ i. byte_fits bytes at i fits) n_is

pub key_spelled : (bytes : List ℕ) (l o : ℕ) → length bytes ≡ 56 → ((i : ℕ) → get_or bytes i 0 < 256) → l ≡ number_at bytes 0 → o ≡ number_at bytes 4
    → to_be_bytes w32 l ++ to_be_bytes w32 o ++ take 16 (drop 8 bytes) ++ take 32 (drop 24 bytes) ≡ bytes
key_spelled bytes l o long fits l_is o_is =
    let l_spelled : to_be_bytes w32 l ≡ take 4 bytes = number_spelled bytes 0 l fits (omega arith) l_is in
    let o_spelled : to_be_bytes w32 o ≡ take 4 (drop 4 bytes) = number_spelled bytes 4 o fits (omega arith) o_is in
    ap (λ a. a ++ to_be_bytes w32 o ++ take 16 (drop 8 bytes) ++ take 32 (drop 24 bytes)) l_spelled
    ∙ ap (λ a. take 4 bytes ++ a ++ take 16 (drop 8 bytes) ++ take 32 (drop 24 bytes)) o_spelled
    ∙ joined bytes 4 4 16 32 long

-- ---- the test

pub reads : (bytes : List ℕ) → length bytes ≡ 56 → IsTrue (is_lms_code (key_lms bytes)) → IsTrue (is_ots_code (key_ots bytes)) → IsTrue (key_reads bytes)
unfolding key_reads
reads bytes long lms ots = rw (long, lms, ots) refl

three : (a b c : Bool) → IsTrue (a && (b && c)) → IsTrue a × IsTrue b × IsTrue c
three true true true h = (refl, refl, refl)
three true true false h = cc
three true false c h = cc
three false b c h = cc

eq_tells : (x y : ℕ) → IsTrue (x == y) → x ≡ y
eq_tells x y h = (Decides-eqb x y).0 h

pub reads_tells : (bytes : List ℕ) → IsTrue (key_reads bytes) → (length bytes ≡ 56) × IsTrue (is_lms_code (key_lms bytes)) × IsTrue (is_ots_code (key_ots bytes))
unfolding key_reads
reads_tells bytes h =
    let parts : IsTrue (length bytes == 56) × IsTrue (is_lms_code (key_lms bytes)) × IsTrue (is_ots_code (key_ots bytes)) = three _ _ _ h in
    (eq_tells _ _ parts.0, parts.1, parts.2)

pub key_read : (bytes : List ℕ) (l o : ℕ) (lms : LmsType) (ots : OtsType) (id root : List ℕ) → length bytes ≡ 56 → ((i : ℕ) → get_or bytes i 0 < 256)
    → l ≡ number_at bytes 0 → o ≡ number_at bytes 4
    → IsTrue (is_lms_code l) → lms ≡ lms_of l → IsTrue (is_ots_code o) → ots ≡ ots_of o
    → id ≡ take 16 (drop 8 bytes) → root ≡ take 32 (drop 24 bytes)
    → IsTrue (key_reads bytes) × (to_be_bytes w32 (lms_code_of lms) ++ to_be_bytes w32 (code_of ots) ++ id ++ root ≡ bytes)
key_read bytes l o lms ots id root long fits l_is o_is l_ok lms_is o_ok ots_is id_is root_is =
    let l_same : lms_code_of lms ≡ l = ap lms_code_of lms_is ∙ lms_code_of-lms_of l l_ok in
    let o_same : code_of ots ≡ o = ap code_of ots_is ∙ code_of-ots_of o o_ok in (
      reads bytes long (subst (λ n. IsTrue (is_lms_code n)) l_is l_ok) (subst (λ n. IsTrue (is_ots_code n)) o_is o_ok),
      ap (λ i. to_be_bytes w32 (lms_code_of lms) ++ to_be_bytes w32 (code_of ots) ++ i ++ root) id_is
          ∙ ap (λ r. to_be_bytes w32 (lms_code_of lms) ++ to_be_bytes w32 (code_of ots) ++ take 16 (drop 8 bytes) ++ r) root_is
          ∙ key_spelled bytes (lms_code_of lms) (code_of ots) long fits (l_same ∙ l_is) (o_same ∙ o_is),
    )

pub spelled_reads : (lms : LmsType) (ots : OtsType) (id root : List ℕ) → length id ≡ 16 → length root ≡ 32
    → IsTrue (key_reads (to_be_bytes w32 (lms_code_of lms) ++ to_be_bytes w32 (code_of ots) ++ id ++ root))
spelled_reads lms ots id root id_long root_long =
    let l_is : key_lms (to_be_bytes w32 (lms_code_of lms) ++ to_be_bytes w32 (code_of ots) ++ id ++ root) ≡ lms_code_of lms = from_be_bytes-to_be_bytes_4 (lms_code_of lms) (lms_code_fits lms) in
    let o_is : key_ots (to_be_bytes w32 (lms_code_of lms) ++ to_be_bytes w32 (code_of ots) ++ id ++ root) ≡ code_of ots = from_be_bytes-to_be_bytes_4 (code_of ots) (code_fits ots) in
    reads (to_be_bytes w32 (lms_code_of lms) ++ to_be_bytes w32 (code_of ots) ++ id ++ root) (simp length-append (omega arith))
    (subst (λ n. IsTrue (is_lms_code n)) (sym l_is) (has_lms_code lms)) (subst (λ n. IsTrue (is_ots_code n)) (sym o_is) (has_ots_code ots))
