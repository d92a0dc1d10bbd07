use Rattle.std.proofs.Common.{map, string_bytes}
use Rattle.cp_commands.specs.Commands.{command_of}
use Rattle.cp_endings.specs.Folders.{Files, files_of}
use Rattle.cp_endings.specs.View.{ending_view}
use Rattle.cp_tool.proofs.AuditStatusLemmas.{audit_status}
use Rattle.cp_tool.proofs.FirstLemmas.{outputs_alone, read_failed}
use Rattle.cp_tool.proofs.StatusLemmas.{of_certify, of_forgery, of_judge_life, status_2, status_4, verify_status}
use Rattle.cp_tool.proofs.running.run.Goals as goal

pub returns-clause-usage : goal.returns-clause-usage
returns-clause-usage g c =
    let old : Files = files_of g.F.Folder c.args.files.now in
    let new : Files = files_of g.F.Folder c.done-ending.new.files in
    status_2 g.K.Disk (command_of (map string_bytes c.args.words.now)) old new c.args.vault.now c.done-ending.new.vault (ending_view c.done-ending.result) (g.S.Endpoint.held c.args.out.now) (g.S.Endpoint.held c.report.new.out)
    (g.S.Endpoint.write_faults c.args.out.now) (g.S.Endpoint.write_faults c.report.new.out) c.report.result c.done-ending.ensures.ends c.report.ensures.reports

pub returns-clause-fault : goal.returns-clause-fault
returns-clause-fault g c =
    let old : Files = files_of g.F.Folder c.args.files.now in
    let new : Files = files_of g.F.Folder c.done-ending.new.files in
    status_4 g.K.Disk (command_of (map string_bytes c.args.words.now)) old new c.args.vault.now c.done-ending.new.vault (ending_view c.done-ending.result) (g.S.Endpoint.held c.args.out.now) (g.S.Endpoint.held c.report.new.out)
    (g.S.Endpoint.write_faults c.args.out.now) (g.S.Endpoint.write_faults c.report.new.out) c.report.result c.done-ending.ensures.ends c.report.ensures.reports

pub returns-clause-audit : goal.returns-clause-audit
returns-clause-audit g c = λ wanted is told.
    let old : Files = files_of g.F.Folder c.args.files.now in
    let new : Files = files_of g.F.Folder c.done-ending.new.files in
    audit_status g.K.Disk _ old new _ _ _ _ _ _ _ _ c.done-ending.ensures.ends c.report.ensures.reports wanted is told

pub returns-clause-failed_read : goal.returns-clause-failed_read
returns-clause-failed_read g c =
    let old : Files = files_of g.F.Folder c.args.files.now in
    let new : Files = files_of g.F.Folder c.done-ending.new.files in
    read_failed g.K.Disk old new c.args.vault.now c.done-ending.new.vault (ending_view c.done-ending.result) (command_of (map string_bytes c.args.words.now)) _ _ _ _ c.report.result c.done-ending.ensures.ends c.report.ensures.reports

pub returns-clause-only_outputs : goal.returns-clause-only_outputs
returns-clause-only_outputs g c =
    let old : Files = files_of g.F.Folder c.args.files.now in
    let new : Files = files_of g.F.Folder c.done-ending.new.files in
    outputs_alone g.K.Disk old new c.args.vault.now c.done-ending.new.vault (ending_view c.done-ending.result) (command_of (map string_bytes c.args.words.now)) c.done-ending.ensures.ends

pub returns-clause-verify : goal.returns-clause-verify
returns-clause-verify g c = λ key text signature key_bytes text_bytes signature_bytes.
    let old : Files = files_of g.F.Folder c.args.files.now in
    let new : Files = files_of g.F.Folder c.done-ending.new.files in
    verify_status g.K.Disk _ old new _ _ _ _ _ _ _ _ c.done-ending.ensures.ends c.report.ensures.reports key text signature key_bytes text_bytes signature_bytes

pub returns-clause-certify : goal.returns-clause-certify
returns-clause-certify g c = λ wanted seed.
    let old : Files = files_of g.F.Folder c.args.files.now in
    let new : Files = files_of g.F.Folder c.done-ending.new.files in
    of_certify g.K.Disk _ old new _ _ _ _ _ _ _ _ c.done-ending.ensures.ends c.report.ensures.reports wanted seed

pub returns-clause-judge_life : goal.returns-clause-judge_life
returns-clause-judge_life g c = λ key certificate evidence key_bytes certificate_bytes evidence_bytes.
    let old : Files = files_of g.F.Folder c.args.files.now in
    let new : Files = files_of g.F.Folder c.done-ending.new.files in
    of_judge_life g.K.Disk _ old new _ _ _ _ _ _ _ _ c.done-ending.ensures.ends c.report.ensures.reports key certificate evidence key_bytes certificate_bytes evidence_bytes

pub returns-clause-forgery : goal.returns-clause-forgery
returns-clause-forgery g c = λ wanted seed signed text signature.
    let old : Files = files_of g.F.Folder c.args.files.now in
    let new : Files = files_of g.F.Folder c.done-ending.new.files in
    of_forgery g.K.Disk _ old new _ _ _ _ _ _ _ _ c.done-ending.ensures.ends c.report.ensures.reports wanted seed signed text signature
