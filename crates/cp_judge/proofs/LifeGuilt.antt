-- The judge under an operator's key is guilty exactly where the certificate holds and the bytes convict.
use Rattle.std.proofs.Common.{◌≡◌, ℕ, List, Bool, true, false, refl}
use Rattle.std.specs.Prelude.{◌↔◌, IsTrue}
use Rattle.lms_hss.specs.Hss.{hss_reads, certifies, life_key}
use Rattle.lms_hss.proofs.Testing.{certifies_tells}
use Rattle.cp_evidence.specs.Conditions.{Convicts}
use Rattle.cp_judge.specs.Lives.{life_judgement_of, IsLifeGuilty}
use Rattle.cp_judge.proofs.Guilt.{guilty}

both : (b : Bool) → b ≡ true → b ≡ false → ⊥
both true e f = cc
both false e f = cc

pub life_guilty : (key certificate bytes : List ℕ)
    → IsLifeGuilty (life_judgement_of key certificate bytes) ↔ (IsTrue (certifies key certificate) × Convicts (life_key key certificate) bytes)
life_guilty key certificate bytes = go (hss_reads key) refl (certifies key certificate) refl
  where
    go : (reads : Bool) → hss_reads key ≡ reads → (certified : Bool) → certifies key certificate ≡ certified
        → IsLifeGuilty (life_judgement_of key certificate bytes) ↔ (IsTrue (certifies key certificate) × Convicts (life_key key certificate) bytes)
    go true e true f = let g = guilty (life_key key certificate) bytes in rw (e, f) (λ h. (refl, g.0 h), λ p. g.1 p.1)
    go true e false f = rw (e, f) (λ h. absurd h, λ p. absurd (both false p.0 refl))
    go false e certified f = rw e (λ h. absurd h, λ p. absurd (both _ (certifies_tells key certificate p.0).reads e))

-- under bytes that are no key there is no certificate
pub unread : (key certificate bytes : List ℕ) → (IsTrue (hss_reads key) → ⊥)
    → (⊥ → IsTrue (certifies key certificate) × Convicts (life_key key certificate) bytes) × (IsTrue (certifies key certificate) × Convicts (life_key key certificate) bytes → ⊥)
unread key certificate bytes none = (λ h. absurd h, λ p. none (certifies_tells key certificate p.0).reads)

pub unread_key : (key certificate bytes : List ℕ) → hss_reads key ≡ false
    → (⊥ → IsTrue (certifies key certificate) × Convicts (life_key key certificate) bytes) × (IsTrue (certifies key certificate) × Convicts (life_key key certificate) bytes → ⊥)
unread_key key certificate bytes e = unread key certificate bytes (λ r. both _ r e)

pub ruleset lives = (life_guilty, unread, unread_key)
