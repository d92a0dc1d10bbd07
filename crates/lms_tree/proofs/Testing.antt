-- The test of a signature says what the standard's conditions say.
use Rattle.std.proofs.Common.{◌≡◌, ℕ, ◌+◌, ◌*◌, ◌^◌, ◌<◌, ◌≤◌, List, length, take, drop, refl, sym, ap, subst, ◌∙◌, arith, rules, length-drop}
use Rattle.std.specs.Prelude.{IsTrue, Bool, true, false, ◌&&◌, ◌==◌, nat_lt, nat_le, bytes_eq}
use Rattle.std.proofs.lemmas.Bool.Decides.{Decides-eqb, Decides-ltb}
use Rattle.std.proofs.lemmas.Slice.Eq.{bytes_eq-Decides}
use Rattle.std.proofs.lemmas.List.{places, take-take}
use Rattle.std.specs.Int.{w32, from_be_bytes}
use Rattle.lms_ots.specs.declared.ots_type.OtsType.{OtsType}
use Rattle.lms_ots.specs.Parameters.{sig_len_of, code_of}
use Rattle.lms_ots.specs.Ots.{IsOtsSignature}
use Rattle.lms_tree.specs.PublicKey.{number_at, key_lms, key_ots, key_id, key_root, key_reads, key_type, key_height}
use Rattle.lms_tree.specs.Verifying.{leaf_of, ots_sig, root_candidate, verifies, Verifies}
use Rattle.lms_tree.specs.Laws.{TestIsTheStatement, ShortNeverVerifies}
use Rattle.lms_tree.proofs.KeyBytes.{reads_tells}
use Rattle.lms_tree.proofs.Codes.{code_of-ots_of, le_true}

-- ---- eight tests together

all_true : (a b c d e f g h : Bool) → IsTrue (a && b && c && d && e && f && g && h)
    → IsTrue a × IsTrue b × IsTrue c × IsTrue d × IsTrue e × IsTrue f × IsTrue g × IsTrue h
all_true true true true true true true true true x = (refl, refl, refl, refl, refl, refl, refl, refl)
all_true true true true true true true true false x = cc
all_true true true true true true true false h x = cc
all_true true true true true true false g h x = cc
all_true true true true true false f g h x = cc
all_true true true true false e f g h x = cc
all_true true true false d e f g h x = cc
all_true true false c d e f g h x = cc
all_true false b c d e f g h x = cc

none_false : (a b c d e f g h : Bool) → IsTrue a → IsTrue b → IsTrue c → IsTrue d → IsTrue e → IsTrue f → IsTrue g → IsTrue h
    → IsTrue (a && b && c && d && e && f && g && h)
none_false a b c d e f g h a' b' c' d' e' f' g' h' = rw (a', b', c', d', e', f', g', h') refl

-- ---- both ways

pub verifies_tells : (key text sig : List ℕ) → IsTrue (verifies key text sig) → Verifies key text sig
unfolding verifies
verifies_tells key text sig is =
    let parts : IsTrue (key_reads key)
    × IsTrue (nat_le 8 (length sig))
    × IsTrue (number_at sig 4 == key_ots key)
    × IsTrue (nat_le (8 + sig_len_of (key_type key)) (length sig))
    × IsTrue (number_at sig (4 + sig_len_of (key_type key)) == key_lms key)
    × IsTrue (nat_lt (leaf_of sig) (2 ^ key_height key))
    × IsTrue (length sig == 8 + sig_len_of (key_type key) + 32 * key_height key)
    × IsTrue (bytes_eq (root_candidate (key_type key) (key_height key) (key_id key) text sig) (key_root key))
    = all_true _ _ _ _ _ _ _ _ is in
    record {
      key_reads = parts.0;
      ots_code = (Decides-eqb _ _).0 parts.2;
      lms_code = (Decides-eqb _ _).0 parts.4;
      leaf = (Decides-ltb _ _).0 parts.5;
      long = (Decides-eqb _ _).0 parts.6;
      root = (bytes_eq-Decides _ _).0 parts.7;
    }

pub verified : (key text sig : List ℕ) → Verifies key text sig → IsTrue (verifies key text sig)
unfolding verifies
verified key text sig v =
    none_false _ _ _ _ _ _ _ _ v.key_reads
    (le_true 8 (length sig) (omega (arith, v.long)))
    ((Decides-eqb _ _).1 v.ots_code)
    (le_true (8 + sig_len_of (key_type key)) (length sig) (omega (arith, v.long)))
    ((Decides-eqb _ _).1 v.lms_code)
    ((Decides-ltb _ _).1 v.leaf)
    ((Decides-eqb _ _).1 v.long)
    ((bytes_eq-Decides _ _).1 v.root)

pub verifies_iff : TestIsTheStatement
verifies_iff key text sig = (verifies_tells key text sig, verified key text sig)

not_true : (b : Bool) → ¬ IsTrue b → b ≡ false
not_true true never = absurd (never refl)
not_true false never = refl

pub verifies-short : ShortNeverVerifies
verifies-short key text sig lt =
    not_true (verifies key text sig) (λ is. let long : length sig ≡ 8 + sig_len_of (key_type key) + 32 * key_height key = (verifies_tells key text sig is).long in omega (arith, long))

pub ruleset testing = (verifies_iff, verifies-short)

-- ---- what the code finds

pub take_less : (a b : ℕ) (xs : List ℕ) → a ≤ b → take a (take b xs) ≡ take a xs
take_less a b xs le = take-take a b xs le

-- the one-time signature has its form exactly where its code is the key's
take_long : (n : ℕ) (xs : List ℕ) → n ≤ length xs → length (take n xs) ≡ n
take_long n xs le = search (rules, places)

drop_long : (n k : ℕ) (xs : List ℕ) → length xs ≡ n + k → length (drop n xs) ≡ k
drop_long n k xs long = rw length-drop (omega arith)

pub one_time_form : (key sig : List ℕ) → IsTrue (key_reads key) → length sig ≡ 8 + sig_len_of (key_type key) + 32 * key_height key
    → (IsOtsSignature (key_type key) (ots_sig (key_type key) sig) → number_at sig 4 ≡ key_ots key)
    × (number_at sig 4 ≡ key_ots key → IsOtsSignature (key_type key) (ots_sig (key_type key) sig))
one_time_form key sig is long =
    let code : code_of (key_type key) ≡ key_ots key = code_of-ots_of (key_ots key) (reads_tells key is).2 in
    let front : take 4 (ots_sig (key_type key) sig) ≡ take 4 (drop 4 sig) = take_less 4 (sig_len_of (key_type key)) (drop 4 sig) (omega arith) in
    let room : length (ots_sig (key_type key) sig) ≡ sig_len_of (key_type key) =
    take_long (sig_len_of (key_type key)) (drop 4 sig) (omega (arith, drop_long 4 (4 + sig_len_of (key_type key) + 32 * key_height key) sig (omega arith))) in
    ((λ form. sym (ap (from_be_bytes w32) front) ∙ form.1 ∙ code), λ same. (room, ap (from_be_bytes w32) front ∙ same ∙ sym code))

-- what the code tests, for a one-time type and a height
pub record Accepts (t : OtsType) (h : ℕ) (key text sig : List ℕ) : Type 0 where
  pub long : length sig ≡ 8 + sig_len_of t + 32 * h
  pub form : IsOtsSignature t (ots_sig t sig)
  pub lms_code : number_at sig (4 + sig_len_of t) ≡ key_lms key
  pub leaf : leaf_of sig < 2 ^ h
  pub root : root_candidate t h (key_id key) text sig ≡ key_root key

accepts_tells : (key text sig : List ℕ) → IsTrue (key_reads key) → Accepts (key_type key) (key_height key) key text sig → Verifies key text sig
accepts_tells key text sig reads a = record {
  key_reads = reads;
  ots_code = (one_time_form key sig reads a.long).0 a.form;
  lms_code = a.lms_code;
  leaf = a.leaf;
  long = a.long;
  root = a.root;
}

verifies_accepts : (key text sig : List ℕ) → Verifies key text sig → Accepts (key_type key) (key_height key) key text sig
verifies_accepts key text sig v = record {
  long = v.long;
  form = (one_time_form key sig v.key_reads v.long).1 v.ots_code;
  lms_code = v.lms_code;
  leaf = v.leaf;
  root = v.root;
}

-- a result that says what the code tests is the test's
pub same_as_test : (r : Bool) (t : OtsType) (h : ℕ) (key text sig : List ℕ) → t ≡ key_type key → h ≡ key_height key → IsTrue (key_reads key)
    → (IsTrue r → Accepts t h key text sig) → (Accepts t h key text sig → IsTrue r) → r ≡ verifies key text sig
same_as_test true t h key text sig t_is h_is reads to from =
    let a : Accepts (key_type key) (key_height key) key text sig =
    subst (λ t'. Accepts t' (key_height key) key text sig) t_is (subst (λ h'. Accepts t h' key text sig) h_is (to refl)) in
    sym (verified key text sig (accepts_tells key text sig reads a))
same_as_test false t h key text sig t_is h_is reads to from =
    sym (not_true (verifies key text sig) (λ is.
    let a : Accepts t h key text sig =
    subst (λ t'. Accepts t' h key text sig) (sym t_is) (subst (λ h'. Accepts (key_type key) h' key text sig) (sym h_is) (verifies_accepts key text sig (verifies_tells key text sig is))) in
    let never : false ≡ true = from a in
    cc))
