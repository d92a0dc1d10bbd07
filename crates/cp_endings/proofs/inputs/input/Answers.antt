use Rattle.std.proofs.Common.{rules, ◌≤◌, length, arith}
use Rattle.cp_endings.proofs.Contents.{read_ok, read_too_long, read_failed, read_unkept}
use Rattle.cp_endings.proofs.inputs.input.Goals as goal

pub returns-in-Ok-clause-reads : goal.returns-in-Ok-clause-reads
returns-in-Ok-clause-reads g c =
    let within : length c.in-Ok.bytes.items ≤ c.args.limit = first_of (omega (arith, c.in-Ok.ensures.bound, c.in-Ok.bytes.ok), search (rules, c.in-Ok.ensures.bound)) in
    read_ok _ _ _ _ _ _ c.in-Ok.bytes c.in-Ok.ensures.bytes within c.in-Ok.ensures.cause.stays

pub returns-in-Err-TooLong-clause-reads : goal.returns-in-Err-TooLong-clause-reads
returns-in-Err-TooLong-clause-reads g c =
    read_too_long _ _ _ _ _ _ _ _ c.in-Err-TooLong.field-0-is c.in-Err-TooLong.ensures.bytes c.in-Err-TooLong.ensures.cause.stays

pub returns-in-Err-Failed-clause-reads : goal.returns-in-Err-Failed-clause-reads
returns-in-Err-Failed-clause-reads g c =
    read_failed _ _ _ _ _ _ _ c.in-Err-Failed.field-0-is c.in-Err-Failed.ensures.cause.failed c.in-Err-Failed.ensures.cause.never_falls

pub returns-in-Err-OutOfMemory-clause-reads : goal.returns-in-Err-OutOfMemory-clause-reads
returns-in-Err-OutOfMemory-clause-reads g c =
    read_unkept _ _ _ _ _ _ _ c.in-Err-OutOfMemory.field-0-is c.in-Err-OutOfMemory.ensures.cause.stays
