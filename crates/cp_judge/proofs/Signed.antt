-- A signature that verifies is long enough to name a leaf.
use Rattle.std.proofs.Common.{◌≡◌, ℕ, ◌≤◌, List, length, Bool, true, false, inl, inr}
use Rattle.std.proofs.lemmas.Bool.{cases_lt}
use Rattle.cp_statements.specs.Envelope.{Envelope}
use Rattle.lms_tree.proofs.Testing.{verifies-short}
use Rattle.cp_evidence.specs.Conditions.{signed_by}

not_both : (b : Bool) → b ≡ true → b ≡ false → ⊥
not_both true e f = cc
not_both false e f = cc

pub signed_long : (key : List ℕ) (x : Envelope) → signed_by key x ≡ true → 4 ≤ length x.signature
signed_long key x signed =
    elim (cases_lt (length x.signature) 4) [
      | inl short ↦ absurd (not_both _ signed (verifies-short key x.text x.signature short))
      | inr long ↦ long
    ]
