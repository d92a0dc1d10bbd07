-- The tests say what the statements say.
use Rattle.std.proofs.Common.{◌≡◌, ℕ, ◌+◌, ◌<◌, ◌≤◌, List, ◌++◌, length, take, drop, refl, sym, ap, subst, ◌∙◌, arith, length-append, length-drop}
use Rattle.std.specs.Prelude.{IsTrue, Bool, true, false, ◌&&◌, ◌==◌, bytes_eq}
use Rattle.std.specs.Int.{w32, to_be_bytes}
use Rattle.std.proofs.lemmas.List.{take_all, take_at, drop_at, take-append-drop, drop-drop}
use Rattle.lms_tree.specs.PublicKey.{key_reads, key_sig_len}
use Rattle.lms_tree.specs.Verifying.{Verifies, verifies}
use Rattle.lms_tree.proofs.KeyBytes.{reads_tells}
use Rattle.lms_tree.proofs.Testing.{verifies_tells, verified}
use Rattle.lms_hss.specs.Hss.{top_key, hss_reads, joined, Certifies, IsCertificate, HssVerifies, certificate_len, front, life_sig, top_sig, life_key, certifies, hss_verifies}
use Rattle.lms_hss.specs.Laws.{CertifiesIsTheStatement, VerifiesIsTheStatement, JoinedVerifies}
use Rattle.lms_hss.proofs.Parts.{eq_tells, eq_told, same_bytes, told_bytes, two, five, three_parts}

not_true : (b : Bool) → (IsTrue b → ⊥) → false ≡ b
not_true true never = absurd (never refl)
not_true false never = refl

-- ---- certificates

-- what the test tells, by the parts' places
pub record Tells (key certificate : List ℕ) : Type 0 where
  pub reads : IsTrue (hss_reads key)
  pub long : length certificate ≡ certificate_len key
  pub levels : take 4 certificate ≡ to_be_bytes w32 1
  pub life_reads : IsTrue (key_reads (life_key key certificate))
  pub signed : IsTrue (verifies (top_key key) (life_key key certificate) (top_sig key certificate))

pub certifies_tells : (key certificate : List ℕ) → IsTrue (certifies key certificate) → Tells key certificate
unfolding certifies
certifies_tells key certificate is =
    let parts : IsTrue (hss_reads key)
    × IsTrue (length certificate == certificate_len key)
    × IsTrue (bytes_eq (take 4 certificate) (to_be_bytes w32 1))
    × IsTrue (key_reads (life_key key certificate))
    × IsTrue (verifies (top_key key) (life_key key certificate) (top_sig key certificate))
    = five _ _ _ _ _ is in
    record {
      reads = parts.0;
      long = eq_tells _ _ parts.1;
      levels = same_bytes _ _ parts.2;
      life_reads = parts.3;
      signed = parts.4;
    }

pub certifies_told : (key certificate : List ℕ) → Tells key certificate → IsTrue (certifies key certificate)
unfolding certifies
certifies_told key certificate t =
    rw (t.reads, eq_told _ _ t.long, told_bytes _ _ t.levels, t.life_reads, t.signed) refl

-- a certificate by its places is one put together
to_certificate : (key certificate : List ℕ) → IsTrue (certifies key certificate) → IsCertificate key certificate
to_certificate key certificate is =
    let t : Tells key certificate = certifies_tells key certificate is in (
      top_sig key certificate,
      life_key key certificate,
      record {
        reads = t.reads;
        spelled =
            sym (ap (λ x. x ++ top_sig key certificate ++ life_key key certificate) (sym t.levels)
            ∙ three_parts (key_sig_len (top_key key)) certificate t.long);
        life_reads = t.life_reads;
        signed = verifies_tells _ _ _ t.signed;
      },
    )

-- the places of the parts of what was put together
pub joined_long : (s0 pub1 : List ℕ) (n : ℕ) → length s0 ≡ n → length pub1 ≡ 56 → length (joined s0 pub1) ≡ 60 + n
joined_long s0 pub1 n s0_long pub1_long = simp (length-append) (omega arith)

pub joined_levels : (s0 pub1 : List ℕ) → take 4 (joined s0 pub1) ≡ to_be_bytes w32 1
joined_levels s0 pub1 = refl

pub joined_sig : (s0 pub1 : List ℕ) (n : ℕ) → length s0 ≡ n → take n (drop 4 (joined s0 pub1)) ≡ s0
joined_sig s0 pub1 n s0_long = take_at s0 pub1 n s0_long

pub joined_life : (s0 pub1 : List ℕ) (n : ℕ) → length s0 ≡ n → length pub1 ≡ 56 → take 56 (drop (4 + n) (joined s0 pub1)) ≡ pub1
joined_life s0 pub1 n s0_long pub1_long =
    let head_long : length (to_be_bytes w32 1 ++ s0) ≡ 4 + n = simp length-append (omega arith) in
    ap (take 56) (drop_at (to_be_bytes w32 1 ++ s0) pub1 (4 + n) head_long) ∙ take_all 56 pub1 (omega arith)

pub joined_certifies : (key s0 pub1 : List ℕ) → IsTrue (hss_reads key) → IsTrue (key_reads pub1) → IsTrue (verifies (top_key key) pub1 s0)
    → IsTrue (certifies key (joined s0 pub1)) × (life_key key (joined s0 pub1) ≡ pub1)
joined_certifies key s0 pub1 reads life_reads signed =
    let s0_long : length s0 ≡ key_sig_len (top_key key) = (verifies_tells _ _ _ signed).long in
    let pub1_long : length pub1 ≡ 56 = (reads_tells pub1 life_reads).0 in
    let life : life_key key (joined s0 pub1) ≡ pub1 = joined_life s0 pub1 (key_sig_len (top_key key)) s0_long pub1_long in
    let sig : top_sig key (joined s0 pub1) ≡ s0 = joined_sig s0 pub1 (key_sig_len (top_key key)) s0_long in (
      certifies_told key (joined s0 pub1) (record {
        reads = reads;
        long = joined_long s0 pub1 (key_sig_len (top_key key)) s0_long pub1_long;
        levels = joined_levels s0 pub1;
        life_reads = subst (λ k. IsTrue (key_reads k)) (sym life) life_reads;
        signed = subst (λ k. IsTrue (verifies (top_key key) k (top_sig key (joined s0 pub1)))) (sym life)
            (subst (λ s. IsTrue (verifies (top_key key) pub1 s)) (sym sig) signed);
      }),
      life,
    )

from_parts : (key certificate s0 pub1 : List ℕ) → Certifies key certificate s0 pub1
    → IsTrue (certifies key certificate) × (life_key key certificate ≡ pub1)
from_parts key certificate s0 pub1 c =
    subst (λ x. IsTrue (certifies key x) × (life_key key x ≡ pub1)) (sym c.spelled)
    (joined_certifies key s0 pub1 c.reads c.life_reads (verified _ _ _ c.signed))

pub certifies_iff : CertifiesIsTheStatement
certifies_iff key certificate = (to_certificate key certificate, λ is. (from_parts key certificate is.0 is.1 is.2).0)

-- ---- signatures

pub hss_tells : (key text sig : List ℕ) → IsTrue (hss_verifies key text sig)
    → IsTrue (certifies key (front key sig)) × IsTrue (verifies (life_key key (front key sig)) text (life_sig key sig))
unfolding hss_verifies
hss_tells key text sig is = two _ _ is

pub joined_verifies : JoinedVerifies
unfolding hss_verifies
joined_verifies key certificate text sig is =
    let long : length certificate ≡ certificate_len key = (certifies_tells key certificate is).long in
    let front_is : front key (certificate ++ sig) ≡ certificate = take_at certificate sig (certificate_len key) long in
    let back_is : life_sig key (certificate ++ sig) ≡ sig = drop_at certificate sig (certificate_len key) long in
    ap (λ c. certifies key c && verifies (life_key key c) text (life_sig key (certificate ++ sig))) front_is
    ∙ ap (λ s. certifies key certificate && verifies (life_key key certificate) text s) back_is
    ∙ ap (λ b. b && verifies (life_key key certificate) text sig) is

to_statement : (key text sig : List ℕ) → IsTrue (hss_verifies key text sig) → HssVerifies key text sig
to_statement key text sig is =
    let parts = hss_tells key text sig is in
    let made : IsCertificate key (front key sig) = to_certificate key (front key sig) parts.0 in
    let same : life_key key (front key sig) ≡ made.1 = (from_parts key (front key sig) made.0 made.1 made.2).1 in (
      front key sig,
      made.0,
      made.1,
      life_sig key sig,
      record {
        certified = made.2;
        spelled = sym (take-append-drop (certificate_len key) sig);
        signed = subst (λ k. Verifies k text (life_sig key sig)) same (verifies_tells _ _ _ parts.1);
      },
    )

from_statement : (key text sig : List ℕ) → HssVerifies key text sig → IsTrue (hss_verifies key text sig)
from_statement key text sig (certificate, s0, pub1, s1, by) =
    let c = from_parts key certificate s0 pub1 by.certified in
    subst (λ s. IsTrue (hss_verifies key text s)) (sym by.spelled)
    (joined_verifies key certificate text s1 c.0
    ∙ ap (λ k. verifies k text s1) c.1
    ∙ verified _ _ _ by.signed)

pub verifies_iff : VerifiesIsTheStatement
verifies_iff key text sig = (to_statement key text sig, from_statement key text sig)

-- fewer bytes than a certificate has are no signature
pub short_never : (key text sig : List ℕ) → length sig < certificate_len key → false ≡ hss_verifies key text sig
short_never key text sig lt =
    not_true (hss_verifies key text sig) (λ is.
    let parts = hss_tells key text sig is in
    let long : length (front key sig) ≡ certificate_len key = (certifies_tells key (front key sig) parts.0).long in
    let all : front key sig ≡ sig = take_all (certificate_len key) sig (omega arith) in
    let same : length (front key sig) ≡ length sig = ap length all in
    omega (arith, long, same))

-- what the code finds of a certificate's parts
pub record Cut (key certificate s0 life : List ℕ) (n : ℕ) : Type 0 where
  pub reads : IsTrue (hss_reads key)
  pub n_is : n ≡ key_sig_len (top_key key)
  pub long : length certificate ≡ 60 + n
  pub sig_is : s0 ≡ take n (drop 4 certificate)
  pub life_is : life ≡ drop n (drop 4 certificate)

pub cut_sig : (key certificate s0 life : List ℕ) (n : ℕ) → Cut key certificate s0 life n → s0 ≡ top_sig key certificate
cut_sig key certificate s0 life n c = c.sig_is ∙ ap (λ m. take m (drop 4 certificate)) c.n_is

pub cut_life : (key certificate s0 life : List ℕ) (n : ℕ) → Cut key certificate s0 life n → life ≡ life_key key certificate
cut_life key certificate s0 life n c =
    let long : length (drop (4 + n) certificate) ≤ 56 = rw length-drop (omega (arith, c.long)) in
    c.life_is ∙ drop-drop n 4 certificate ∙ sym (take_all 56 (drop (4 + n) certificate) long)
    ∙ ap (λ m. take 56 (drop (4 + m) certificate)) c.n_is

pub cut_told : (key certificate s0 life : List ℕ) (n : ℕ) → Cut key certificate s0 life n → take 4 certificate ≡ to_be_bytes w32 1
    → IsTrue (key_reads life) → IsTrue (verifies (top_key key) life s0) → IsTrue (certifies key certificate)
cut_told key certificate s0 life n c levels life_reads signed =
    certifies_told key certificate (record {
      reads = c.reads;
      long = c.long ∙ ap (λ m. 60 + m) c.n_is;
      levels = levels;
      life_reads = subst (λ k. IsTrue (key_reads k)) (cut_life key certificate s0 life n c) life_reads;
      signed = subst (λ k. IsTrue (verifies (top_key key) k (top_sig key certificate))) (cut_life key certificate s0 life n c)
          (subst (λ s. IsTrue (verifies (top_key key) life s)) (cut_sig key certificate s0 life n c) signed);
    })

pub cut_reads : (key certificate s0 life : List ℕ) (n : ℕ) → Cut key certificate s0 life n → IsTrue (certifies key certificate) → IsTrue (key_reads life)
cut_reads key certificate s0 life n c is =
    subst (λ k. IsTrue (key_reads k)) (sym (cut_life key certificate s0 life n c)) (certifies_tells key certificate is).life_reads

pub cut_signed : (key certificate s0 life : List ℕ) (n : ℕ) → Cut key certificate s0 life n → IsTrue (certifies key certificate)
    → IsTrue (verifies (top_key key) life s0)
cut_signed key certificate s0 life n c is =
    subst (λ k. IsTrue (verifies (top_key key) k s0)) (sym (cut_life key certificate s0 life n c))
    (subst (λ s. IsTrue (verifies (top_key key) (life_key key certificate) s)) (sym (cut_sig key certificate s0 life n c)) (certifies_tells key certificate is).signed)

pub ruleset testing = (certifies_iff, verifies_iff, joined_verifies)
