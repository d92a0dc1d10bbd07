use Rattle.std.proofs.Common.{ap, ◌∙◌, None, Some}
use Rattle.std.specs.Prelude.{map}
use Rattle.cp_chain.specs.Log.{parts_ascend}
use Rattle.cp_chain.proofs.LogOrder.{log_ascends}
use Rattle.cp_audit.specs.Parts.{part_view, frame_in}
use Rattle.cp_audit.proofs.GivenLemmas.{given_by}
use Rattle.cp_audit.proofs.given_log.given_log.Goals as goal

pub log_fault-requires-clause-ascend : goal.log_fault-requires-clause-ascend
log_fault-requires-clause-ascend c =
    let read = rw c.in-Ok-Some.field-0-is at c.in-Ok-Some.ensures in
    ap (λ l. parts_ascend None (map part_view l)) c.deref.ensures.value ∙ log_ascends c.args.bytes.now _ read.0

pub returns-in-Some : goal.returns-in-Some
returns-in-Some c =
    let read = rw c.in-Ok-Some.field-0-is at c.in-Ok-Some.ensures in
    let f = c.args.frames.now in
    given_by f.epoch (frame_in f) f.before f.after c.args.bytes.now (map part_view c.in-Ok-Some.parts.items) (Some c.in-Some.block) read.0 (rw c.deref.ensures.value at c.in-Some.ensures)

pub returns : goal.returns
returns c =
    let read = rw c.in-Ok-Some.field-0-is at c.in-Ok-Some.ensures in
    let f = c.args.frames.now in
    (given_by f.epoch (frame_in f) f.before f.after c.args.bytes.now (map part_view c.in-Ok-Some.parts.items) None read.0 (rw c.deref.ensures.value at c.in-None.ensures), read.1)
