use Rattle.std.proofs.Common.{rules, ◌≤◌, length, refl, inl, inr, ◌∙◌, arith}
use Rattle.cp_tool.specs.AuditRuns.{content_at, own}
use Rattle.cp_endings.proofs.Contents.{read_failed, read_ok, read_too_long, read_unkept}
use Rattle.cp_tool.proofs.SourceLemmas.{own_source}
use Rattle.cp_tool.proofs.audit_sources.own_file.Goals as goal

pub returns-in_default-clause-reads : goal.returns-in_default-clause-reads
returns-in_default-clause-reads g c = record { content = content_at (g.F.Folder.file c.args.files.now) (own c.args.part c.args.epoch c.args.limit); told = λ t. refl; gives = inr (inr refl); later = omega arith; failed = inl refl }

pub returns-in-Ok-read_whole-clause-reads : goal.returns-in-Ok-read_whole-clause-reads
returns-in-Ok-read_whole-clause-reads g c =
    let within : length c.in-Ok-read_whole.bytes.items ≤ c.args.limit = first_of (omega (arith, c.in-Ok-read_whole.ensures.bound, c.in-Ok-read_whole.bytes.ok), search (rules, c.in-Ok-read_whole.ensures.bound)) in
    own_source _ (g.F.Folder.file c.args.files.now) c.args.part c.args.epoch c.as_str.result.now c.args.limit _ _ _ (c.as_str.ensures.value ∙ c.in-Ok.ensures)
    (read_ok _ _ _ _ _ _ c.in-Ok-read_whole.bytes c.in-Ok-read_whole.ensures.bytes within c.in-Ok-read_whole.ensures.cause.stays)

pub returns-in-Err-TooLong-clause-reads : goal.returns-in-Err-TooLong-clause-reads
returns-in-Err-TooLong-clause-reads g c =
    own_source _ (g.F.Folder.file c.args.files.now) c.args.part c.args.epoch c.as_str.result.now c.args.limit _ _ _ (c.as_str.ensures.value ∙ c.in-Ok.ensures)
    (read_too_long _ _ _ _ _ _ _ _ c.in-Err-TooLong.field-0-is c.in-Err-TooLong.ensures.bytes c.in-Err-TooLong.ensures.cause.stays)

pub returns-in-Err-Failed-clause-reads : goal.returns-in-Err-Failed-clause-reads
returns-in-Err-Failed-clause-reads g c =
    own_source _ (g.F.Folder.file c.args.files.now) c.args.part c.args.epoch c.as_str.result.now c.args.limit _ _ _ (c.as_str.ensures.value ∙ c.in-Ok.ensures)
    (read_failed _ _ _ _ _ _ _ c.in-Err-Failed.field-0-is c.in-Err-Failed.ensures.cause.failed c.in-Err-Failed.ensures.cause.never_falls)

pub returns-clause-reads : goal.returns-clause-reads
returns-clause-reads g c =
    own_source _ (g.F.Folder.file c.args.files.now) c.args.part c.args.epoch c.as_str.result.now c.args.limit _ _ _ (c.as_str.ensures.value ∙ c.in-Ok.ensures)
    (read_unkept _ _ _ _ _ _ _ c.in-Err-OutOfMemory.field-0-is c.in-Err-OutOfMemory.ensures.cause.stays)
