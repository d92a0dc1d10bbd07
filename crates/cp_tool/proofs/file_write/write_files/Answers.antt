use Rattle.std.proofs.Common.{arith, ◌∙◌}
use Rattle.cp_endings.specs.Folders.{Files, files_of}
use Rattle.cp_tool.proofs.WriteLemmas.{not_named, wrote_first, wrote_next, wrote_stops}
use Rattle.cp_tool.proofs.file_write.write_files.Goals as goal

pub loop-write-init : goal.loop-write-init
loop-write-init g c = wrote_first c.args.writes.now (files_of g.F.Folder c.args.files.now)

pub returns-in-Err-clause-writes : goal.returns-in-Err-clause-writes
returns-in-Err-clause-writes g c =
    let old : Files = files_of g.F.Folder c.args.files.now in
    let mid : Files = files_of g.F.Folder c.loop-write.files in
    let new : Files = files_of g.F.Folder c.write.new.self in
    wrote_stops c.args.writes.now old mid new c.loop-write.write-index c.write-item.result c.loop-write.invariant (omega (arith, c.loop-write-test.true)) c.write-item.is c.as_str.result.now c.as_str.ensures.value
    c.in-Err.ensures.others c.in-Err.ensures.cause.failed

pub returns-in-Err-clause-others : goal.returns-in-Err-clause-others
returns-in-Err-clause-others g c = λ name apart.
    c.in-Err.ensures.others name (λ same. not_named name c.args.writes.now c.loop-write.write-index c.write-item.result (omega (arith, c.loop-write-test.true)) c.write-item.is apart (same ∙ c.as_str.ensures.value))
    ∙ c.loop-write.invariant.others name apart

pub loop-write-preserved : goal.loop-write-preserved
loop-write-preserved g c =
    let old : Files = files_of g.F.Folder c.args.files.now in
    let mid : Files = files_of g.F.Folder c.loop-write.files in
    let new : Files = files_of g.F.Folder c.write.new.self in
    wrote_next c.args.writes.now old mid new c.loop-write.write-index c.write-item.result c.loop-write.invariant (omega (arith, c.loop-write-test.true)) c.write-item.is c.as_str.result.now c.as_str.ensures.value
    c.in-Ok.ensures.written c.in-Ok.ensures.others c.in-Ok.ensures.tells c.in-Ok.ensures.unread c.in-Ok.ensures.cause.never_falls
