use Rattle.std.proofs.Common.{◌≡◌, ◌∙◌, [], slice_index, slice_index_or, ap, arith, rules}
use Rattle.lms_ots.specs.Ots.{chain}
use Rattle.lms_ots.proofs.SideBySide.{set_more, set_rest}
use Rattle.lms_ots.proofs.lanes.running.finish.Goals as goal

pub chains-preserved : goal.chains-preserved
chains-preserved c =
    let i = c.chains.i in
    let reached : c.end_of-end.result ≡ chain c.args.id.now c.args.q i (slice_index c.args.at.now i) (slice_index c.args.to.now i) (slice_index_or c.chains.values i []) = search rules in
    record {
      done = set_more (λ k. chain c.args.id.now c.args.q k (slice_index c.args.at.now k) (slice_index c.args.to.now k) (slice_index_or c.args.values.now k []))
          c.chains.values i _ (omega arith)
          (reached ∙ ap (chain c.args.id.now c.args.q i (slice_index c.args.at.now i) (slice_index c.args.to.now i)) (c.chains.invariant.rest i (omega arith)))
          c.chains.invariant.done;
      rest = set_rest c.args.values.now c.chains.values i _ c.chains.invariant.rest;
    }
