-- What a log gives that was read, and where it is read.
use Rattle.std.proofs.Common.{◌≡◌, ℕ, Bool, true, false, cond, ◌&&◌, List, Option, Some, None, Result, Ok, refl, sym, ap, ◌∙◌}
use Rattle.std.specs.Prelude.{is_none, is_some}
use Rattle.std.specs.Result.{result_ok}
use Rattle.std.proofs.lemmas.Bool.{eq-eqb, false≢true}
use Rattle.cp_tips.specs.Table.{TableRow}
use Rattle.cp_families.specs.Families.{FamilyRow}
use Rattle.cp_chain.specs.Frame.{Frame}
use Rattle.cp_chain.specs.Log.{LogPart, log_of}
use Rattle.cp_evidence.specs.Material.{What, least_regressed, log_fault, whole_log, log_given}
use Rattle.cp_audit.specs.declared.refusal.AuditRefusal.{AuditRefusal}
use Rattle.cp_audit.specs.Given.{Refuses}

pub given_by : (epoch : ℕ) (frame : ℕ → Frame) (before after : List TableRow) (bytes : List ℕ) (parts : List LogPart) (fault : Option ℕ) → log_of bytes ≡ Ok (record { epoch = epoch; parts = parts }) → fault ≡ log_fault frame before after parts
    → log_given epoch frame before after (result_ok (log_of bytes)) ≡ whole_log parts fault
given_by epoch frame before after bytes parts fault e f = rw e (rw (eq-eqb epoch epoch refl) (ap (whole_log parts) (sym f)))

pub none_found : (found : Option ℕ) (b : Bool) (before after : List TableRow) (rows_before rows : List TableRow) → b ≡ is_some found → b ≡ false → found ≡ least_regressed before after → before ≡ rows_before → after ≡ rows → is_none (least_regressed rows_before rows) ≡ true
none_found None b before after rows_before rows e f g h k = rw (sym h, sym k) (rw (sym g) refl)
none_found (Some x) b before after rows_before rows e f g h k = absurd (false≢true (sym f ∙ e))

pub same_refusal : {A : Type 0} (r s : Result A What) (x : AuditRefusal) → r ≡ s → Refuses s x → Refuses r x
same_refusal r s x e h = rw e h

-- the log is read where all three hold, between the same tables
pub read_between : {A : Type 0} (L : List FamilyRow → List TableRow → List TableRow → Result (Option A) What) (f f₂ : List FamilyRow) (b b₂ a a₂ : List TableRow) (x y z : Bool) → f₂ ≡ f → b₂ ≡ b → a₂ ≡ a → x ≡ true → y ≡ true → z ≡ true → cond (x && (y && z)) (L f b a) (Ok None) ≡ L f₂ b₂ a₂
read_between L f f₂ b b₂ a a₂ x y z e1 e2 e3 p q r = rw (e1, e2, e3) (rw (p, q, r) refl)
