-- The judge answers guilty exactly where the bytes convict.
use Rattle.std.proofs.Common.{◌≡◌, ℕ, List, Bool, true, false, Result, Ok, Err, refl}
use Rattle.std.specs.Prelude.{IsOkAnd, ◌↔◌}
use Rattle.lms_tree.specs.PublicKey.{key_reads}
use Rattle.cp_evidence.specs.Evidence.{Evidence, evidence_of, kind_of}
use Rattle.cp_evidence.specs.Conditions.{tried, Convicts}
use Rattle.cp_judge.specs.Judging.{judgement_by, judgement_on, judgement_of, IsGuilty}

abbrev Passed : Result (Unit {0}) ℕ → Type 0
Passed r = r ≡ Ok tt

by_guilty : (kind : ℕ) (r : Result (Unit {0}) ℕ) → IsGuilty (judgement_by kind r) ↔ Passed r
by_guilty kind (Ok x) = (λ g. refl, λ p. tt)
by_guilty kind (Err n) = (λ g. absurd g, λ p. absurd cc)

on_guilty : (key : List ℕ) (r : Result Evidence ℕ) → IsGuilty (judgement_on key r) ↔ IsOkAnd r (λ e. Passed (tried key e))
on_guilty key (Ok e) = by_guilty (kind_of e) (tried key e)
on_guilty key (Err at) = (λ g. absurd g, λ p. absurd p)

reads_not : (b : Bool) → b ≡ true → b ≡ false → ⊥
reads_not true e f = cc
reads_not false e f = cc

pub guilty : (key bytes : List ℕ) → IsGuilty (judgement_of key bytes) ↔ Convicts key bytes
guilty key bytes = go (key_reads key) refl
  where
    go : (reads : Bool) → key_reads key ≡ reads → IsGuilty (judgement_of key bytes) ↔ Convicts key bytes
    go true e = rw e (λ g. record { key_reads = e; holds = (on_guilty key (evidence_of bytes)).0 g }, λ c. (on_guilty key (evidence_of bytes)).1 c.holds)
    go false e = rw e (λ g. absurd g, λ c. absurd (reads_not _ c.key_reads e))

pub ruleset guilt = (guilty)
