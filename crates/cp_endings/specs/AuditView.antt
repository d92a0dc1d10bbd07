-- What contracts see of how `audit` ends.
use Rattle.cp_audit.specs.View.{what_view}
use Rattle.cp_endings.specs.AuditEndings as endings
use Rattle.cp_endings.specs.Endings.{Outcome, missing}
use Rattle.cp_endings.specs.EpochFiles.{epoch_file}
use Rattle.cp_endings.specs.declared.audit_ending.AuditEnding.{AuditEnding}
use Rattle.cp_endings.specs.declared.audit_ending.AuditEnding.TheVariants.{Clean, Guilty, NotGiven, Malformed, Missing}

abbrev pub audit_ending_view : AuditEnding → Outcome
audit_ending_view (Clean entries handed aside) = endings.clean entries handed aside
audit_ending_view (Guilty guilt) = endings.guilty guilt
audit_ending_view (NotGiven what) = endings.not_given (what_view what)
audit_ending_view (Malformed at) = endings.malformed at
audit_ending_view (Missing part epoch) = missing (epoch_file part epoch)
