use Rattle.std.proofs.Common.{◌≡◌, ◌∙◌, ◌+◌, ◌<◌, ◌++◌, ◌∷◌, ℕ, List, [], length, take, slice_index, slice_index_or, ap, arith, rules}
use Rattle.std.proofs.Math.ListN.{length-set}
use Rattle.lms_ots.proofs.SideBySide.{set_more, set_rest}
use Rattle.lms_ots.proofs.lanes.four.put_steps.Goals as goal

pub lanes-preserved : goal.lanes-preserved
lanes-preserved c =
    let j = c.lanes.j in
    let behind : ℕ → List ℕ = λ i. (slice_index c.args.first.now i + c.args.k) ∷ slice_index_or c.args.values.now i [] in
    let written : c.put_step.new.message ≡ take 22 (slice_index_or c.lanes.messages j []) ++ behind j = search rules in
    let long : j < length c.lanes.messages = omega (arith, c.lanes.invariant.lanes) in
    record {
      lanes = length-set c.lanes.messages j _ ∙ c.lanes.invariant.lanes;
      done = set_more (λ i. take 22 (slice_index_or c.args.messages.now i []) ++ behind i) c.lanes.messages j _ long
          (written ∙ ap (λ m. take 22 m ++ behind j) (c.lanes.invariant.rest j (omega arith))) c.lanes.invariant.done;
      rest = set_rest c.args.messages.now c.lanes.messages j _ c.lanes.invariant.rest;
    }
