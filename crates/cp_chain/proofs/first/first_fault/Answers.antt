use Rattle.std.specs.Prelude.{option_map}
use Rattle.cp_chain.specs.Legal.{Legal}
use Rattle.cp_chain.specs.Rules.{IsFirstFault}
use Rattle.cp_chain.specs.View.{fault_view, frame_view}
use Rattle.cp_chain.proofs.Passes.{told, none_by_view, some_by_view}
use Rattle.cp_chain.proofs.first.first_fault.Goals as goal

pub returns-clause-none : goal.returns-clause-none
returns-clause-none c =
    let t = told (frame_view c.args.frame.now) c.args.segment.now (option_map fault_view c.find_fault.result) c.find_fault.ensures in
    none_by_view fault_view c.find_fault.result (Legal (frame_view c.args.frame.now) c.args.segment.now) t.none.0 t.none.1

pub returns-clause-least : goal.returns-clause-least
returns-clause-least c =
    let t = told (frame_view c.args.frame.now) c.args.segment.now (option_map fault_view c.find_fault.result) c.find_fault.ensures in
    some_by_view fault_view c.find_fault.result (IsFirstFault (frame_view c.args.frame.now) c.args.segment.now) t.least
