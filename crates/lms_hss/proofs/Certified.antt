-- A life's certificate is one, for the life's key.
use Rattle.std.proofs.Common.{◌≡◌, ℕ, ◌<◌, List, ◌++◌, length, take, ap, ◌∙◌, rules}
use Rattle.std.specs.Prelude.{IsTrue, codes}
use Rattle.std.specs.Int.{w32, to_be_bytes}
use Rattle.std.proofs.lemmas.List.{places}
use Rattle.sha2.specs.Sha256.{sha256}
use Rattle.sha2.proofs.Facts256.{length-sha256}
use Rattle.lms_tree.specs.PublicKey.{key_reads}
use Rattle.lms_tree.specs.Secret.{public_of, signature}
use Rattle.lms_tree.specs.Verifying.{verifies}
use Rattle.lms_tree.proofs.Climbing.{public_is_key, signature_verifies}
use Rattle.lms_hss.specs.Hss.{hss_reads, certifies, life_key}
use Rattle.lms_hss.specs.Lives.{HssSecret, lives_of, top_of, life_of, life_id, life_signed, hss_public, certificate}
use Rattle.lms_hss.specs.Laws.{LivesAreCertified, CertificatesNameTheirLife, LivesVerify}
use Rattle.lms_hss.proofs.Parts.{spelled_reads}
use Rattle.lms_hss.proofs.Testing.{joined_certifies, joined_verifies}

half : (hash : List ℕ) → length hash ≡ 32 → length (take 16 hash) ≡ 16
half hash long = search (rules, places)

pub life_id_long : (key : HssSecret) (a : ℕ) → length (life_id key a) ≡ 16
unfolding life_id
life_id_long key a = half (sha256 (codes "CPhi" ++ key.id ++ to_be_bytes w32 a ++ key.seed)) (length-sha256 _)

public_reads : (key : HssSecret) → length key.id ≡ 16 → IsTrue (hss_reads (hss_public key))
public_reads key long = spelled_reads (public_of (top_of key)) (public_is_key (top_of key) long)

life_reads : (key : HssSecret) (a : ℕ) → IsTrue (key_reads (public_of (life_of key a)))
life_reads key a = public_is_key (life_of key a) (life_id_long key a)

both : (key : HssSecret) (a : ℕ) → length key.id ≡ 16 → a < lives_of key
    → IsTrue (certifies (hss_public key) (certificate key a)) × (life_key (hss_public key) (certificate key a) ≡ public_of (life_of key a))
unfolding certificate
both key a long lt =
    joined_certifies (hss_public key) (life_signed key a) (public_of (life_of key a)) (public_reads key long) (life_reads key a)
    (signature_verifies (top_of key) a (public_of (life_of key a)) long lt)

pub life_certified : LivesAreCertified
life_certified key a long lt = (both key a long lt).0

pub life_named : CertificatesNameTheirLife
life_named key a long lt = (both key a long lt).1

pub life_verifies : LivesVerify
life_verifies key a leaf text long lt leaf_lt =
    joined_verifies (hss_public key) (certificate key a) text (signature (life_of key a) leaf text) (life_certified key a long lt)
    ∙ ap (λ k. verifies k text (signature (life_of key a) leaf text)) (life_named key a long lt)
    ∙ signature_verifies (life_of key a) leaf text (life_id_long key a) leaf_lt

pub ruleset certified = (life_certified, life_named, life_verifies)
