use Rattle.std.proofs.Common.{◌≡◌, Option}
use Rattle.std.specs.Prelude.{option_map, IfSome, IsNone}
use Rattle.std.proofs.lemmas.Result.{IfOk-weaker}
use Rattle.cp_chain.specs.declared.fault.Fault.{Fault}
use Rattle.cp_chain.specs.Legal.{Legal}
use Rattle.cp_chain.specs.Rules.{IsFirstFault, first_fault}
use Rattle.cp_chain.specs.View.{fault_view, frame_view}
use Rattle.cp_chain.proofs.Passes.{told, none_by_view, some_by_view}
use Rattle.cp_chain.proofs.indexed.first_fault_by_index.Goals as goal

pub returns-clause-none : goal.returns-clause-none
returns-clause-none c =
    let f = frame_view c.args.frame.now in
    let ts = c.args.segment.now in
    IfOk-weaker c.find_by_index.result (λ (r : Option Fault). option_map fault_view r ≡ first_fault f ts) (λ (r : Option Fault). (IsNone r → Legal f ts) × (Legal f ts → IsNone r))
    (λ r e. let t = told f ts (option_map fault_view r) e in none_by_view fault_view r (Legal f ts) t.none.0 t.none.1) c.find_by_index.ensures

pub returns-clause-least : goal.returns-clause-least
returns-clause-least c =
    let f = frame_view c.args.frame.now in
    let ts = c.args.segment.now in
    IfOk-weaker c.find_by_index.result (λ (r : Option Fault). option_map fault_view r ≡ first_fault f ts) (λ (r : Option Fault). IfSome r (λ fault. IsFirstFault f ts (fault_view fault)))
    (λ r e. let t = told f ts (option_map fault_view r) e in some_by_view fault_view r (IsFirstFault f ts) t.least) c.find_by_index.ensures
