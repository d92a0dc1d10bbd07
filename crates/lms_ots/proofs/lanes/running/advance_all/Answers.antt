use Rattle.std.proofs.Common.{◌≡◌, ◌∙◌, ℕ, ◌<◌, length, refl, slice_index, arith}
use Rattle.std.proofs.Math.ListN.{length-set}
use Rattle.sha256_lanes.proofs.LaneLemmas.{below_four}
use Rattle.lms_ots.proofs.SideBySide.{advanced_none, lane_replaced}
use Rattle.lms_ots.proofs.lanes.running.advance_all.Goals as goal
use Rattle.lms_ots.proofs.lanes.running.advance_all.Goals.{then-next-count, else-next-count}

pub turns-init : goal.turns-init
turns-init c = record {
  lanes = refl;
  chains = below_four _ (omega arith) (omega arith) (omega arith) (omega arith);
  advanced = advanced_none _ _ _ _ _ c.requires.within;
}

pub turns-preserved : goal.turns-preserved
turns-preserved c =
    let four = c.turns.four in
    let n = length c.advance.new.values in
    let same : n ≡ length c.turns.values = omega (arith, c.advance.auto.values) in
    let all : (j : ℕ) → j < 4 → slice_index four j < n = λ j lt. omega (arith, c.turns.invariant.chains j lt) in
    let next_within : c.if-next-count.four < n =
    elim c.if-next-count.branch [
      | then-next-count w ↦ omega (arith, w.four-is, w.if-next-count.true, c.turns.auto.values)
      | else-next-count w ↦ omega (arith, w.four-is, all w.longest.result w.longest.ensures)
    ] in
    record {
      lanes = length-set four _ _ ∙ c.turns.invariant.lanes;
      chains = lane_replaced four c.shortest-lane.result c.if-next-count.four n c.turns.invariant.lanes c.shortest-lane.ensures.lane next_within all;
      advanced = c.advance.ensures _ _ _ c.turns.invariant.advanced (λ j lt.
          omega (arith, c.steps_left-left.ensures j lt, c.shortest-lane.ensures.fewest j lt, c.turns.invariant.advanced.within (slice_index four j) (c.turns.invariant.chains j lt)));
    }
