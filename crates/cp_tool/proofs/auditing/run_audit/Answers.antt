use Rattle.std.proofs.Common.{◌≡◌, ℕ, List, Ok, subst}
use Rattle.cp_audit.specs.declared.verdict.Verdict.TheVariants.{Guilty}
use Rattle.cp_tool.specs.AuditAnswers.{Answers}
use Rattle.cp_tool.specs.AuditInputs.{sources_view}
use Rattle.cp_commands.specs.View.{audit_words_view}
use Rattle.cp_endings.specs.Folders.{Files, files_of}
use Rattle.cp_endings.specs.View.{ending_view}
use Rattle.cp_tool.proofs.AuditingLemmas.{audit_guilty}
use Rattle.cp_tool.proofs.auditing.run_audit.Goals as goal

pub returns-in-Ok-Guilty-clause-ends : goal.returns-in-Ok-Guilty-clause-ends
returns-in-Ok-Guilty-clause-ends g c =
    let old : Files = files_of g.F.Folder c.args.files.now in
    let mid : Files = files_of g.F.Folder c.read.new.files in
    let new : Files = files_of g.F.Folder c.write_evidence.new.files in
    let answer : Answers (sources_view c.args.words.epoch c.in-Ok.sources) (Ok (Guilty c.in-Ok-Guilty.evidence)) = rw c.in-Ok-Guilty.field-0-is at c.in-Ok-Guilty.ensures in
    let same : c.in-Ok-Guilty.evidence ≡ c.as_slice.result.now = cc in
    audit_guilty (audit_words_view c.args.words) old mid c.in-Ok.sources c.in-Ok.ensures.reads new c.as_slice.result.now (ending_view c.write_evidence.result)
    (subst (λ (b : List ℕ). Answers (sources_view c.args.words.epoch c.in-Ok.sources) (Ok (Guilty b))) same answer) c.write_evidence.ensures.writes c.read.ensures.unwritten c.write_evidence.ensures.unread
