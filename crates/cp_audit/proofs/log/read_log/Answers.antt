use Rattle.std.proofs.Common.{◌≡◌, ℕ, List, None, Ok, ap, ◌∙◌}
use Rattle.std.specs.Prelude.{map}
use Rattle.cp_chain.specs.Log.{LogPart, log_parts_at}
use Rattle.cp_audit.specs.Parts.{part_view}
use Rattle.cp_audit.proofs.LogLemmas.{joined, no_parts, bytes_left, no_header}
use Rattle.cp_audit.proofs.log.read_log.Goals as goal

pub returns-in_default : goal.returns-in_default
returns-in_default c l e of =
    let none = rw c.new-cut.ensures at c.in_default.ensures in
    no_header c.args.bytes.now c.args.frames.now.epoch none l e of

pub returns-in_default-2 : goal.returns-in_default-2
returns-in_default-2 c l e of =
    let header = rw c.new-cut.ensures at c.in-Some.ensures in
    let none = rw c.in_default-2.is at c.in_ok-parts.ensures in
    no_parts c.args.bytes.now c.args.frames.now.epoch c.in-Some.count c.take_count.new.cut.rest header none l e

pub returns-in-Ok : goal.returns-in-Ok
returns-in-Ok c =
    let header = rw c.new-cut.ensures at c.in-Some.ensures in
    let some = rw c.in-Some-2.is at c.in_ok-parts.ensures in
    let parts : List LogPart = map part_view c.in-Some-2.parts.items in
    let read : log_parts_at c.in-Some.count None c.take_count.new.cut.rest ≡ Ok (parts, _) = some.0 ∙ ap (λ (r : List ℕ). Ok (parts, r)) c.in-Ok.ensures in
    (joined c.args.bytes.now c.args.frames.now.epoch c.in-Some.count c.take_count.new.cut.rest parts header read, some.1)

pub returns : goal.returns
returns c l e of =
    let header = rw c.new-cut.ensures at c.in-Some.ensures in
    let some = rw c.in-Some-2.is at c.in_ok-parts.ensures in
    bytes_left c.args.bytes.now c.args.frames.now.epoch c.in-Some.count c.take_count.new.cut.rest c.take_parts.new.cut.rest (map part_view c.in-Some-2.parts.items) header some.0 c.in-Err.ensures.0 l e
