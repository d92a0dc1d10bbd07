use Rattle.std.proofs.Common.{◌<◌, ◌≤◌, ◌+◌, ◌-◌, List, Some, sym, ap, ◌∙◌, arith}
use Rattle.std.specs.Prelude.{map}
use Rattle.cp_chain.specs.Log.{LogPart, log_parts_at}
use Rattle.cp_audit.specs.Parts.{part_view, IsFramed}
use Rattle.cp_audit.proofs.TakingLemmas.{behind, turn, stop_block, stop_segment, finish, all_push}
use Rattle.cp_audit.proofs.PartLemmas.{pushed}
use Rattle.cp_audit.proofs.taking.take_parts.Goals as goal

pub returns-in_default : goal.returns-in_default
returns-in_default c =
    let lt : c.loop.counter < c.args.count = omega (arith, c.loop-test.true) in
    rw c.loop.invariant.so_far (stop_block c.args.count c.loop.counter c.loop.last c.loop.cut.rest (map part_view c.loop.parts.items) lt c.in_default.ensures)

pub returns-in_default-2 : goal.returns-in_default-2
returns-in_default-2 c =
    let lt : c.loop.counter < c.args.count = omega (arith, c.loop-test.true) in
    let none = rw c.in_default-2.is at c.in_ok-part.ensures in
    rw c.loop.invariant.so_far (stop_segment c.args.count c.loop.counter c.loop.last c.loop.cut.rest c.take_block.new.cut.rest c.in-Some.block (map part_view c.loop.parts.items) lt c.in-Some.ensures.0 c.in-Some.ensures.1 none)

pub loop-preserved : goal.loop-preserved
loop-preserved c =
    let lt : c.loop.counter < c.args.count = omega (arith, c.loop-test.true) in
    let part = c.in-Some-2.part in
    let taken = rw c.in-Some-2.is at c.in_ok-part.ensures in
    let onward = turn c.args.count c.loop.counter c.loop.last c.loop.cut.rest c.take_block.new.cut.rest c.take_part.new.cut.rest c.in-Some.block part.segment (map part_view c.loop.parts.items) lt c.in-Some.ensures.0 c.in-Some.ensures.1 taken.0 in
    let items = pushed c.loop.parts.items part c.in-Some.block taken.1 in
    let all = ap (map part_view) (sym c.in_ok-push.ensures.items) in
    record {
      so_far = c.loop.invariant.so_far ∙ onward ∙ ap (λ (l : List LogPart). behind l (log_parts_at (c.args.count - (c.loop.counter + 1)) (Some c.in-Some.block) c.take_part.new.cut.rest)) (items ∙ all);
      framed = rw c.in_ok-push.ensures.items (all_push (IsFramed c.args.frames.now) c.loop.parts.items part c.loop.invariant.framed taken.2);
    }

pub returns : goal.returns
returns c =
    let done : c.args.count ≤ c.loop.counter = omega (arith, c.loop-test.false) in
    (c.loop.invariant.so_far ∙ finish c.args.count c.loop.counter c.loop.last c.loop.cut.rest (map part_view c.loop.parts.items) done, c.loop.invariant.framed)
