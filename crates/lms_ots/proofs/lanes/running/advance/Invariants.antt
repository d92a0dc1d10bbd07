use Rattle.std.proofs.Common.{ℕ, ◌+◌, ◌<◌, ◌≤◌, List, slice_index}
use Rattle.lms_ots.specs.Lanes.{Advanced}
use Rattle.lms_ots.proofs.lanes.running.advance.Given as goal

abbrev pub invariant-lanes : goal.invariant-lanes
invariant-lanes l = (from to : List ℕ) (starts : List (List ℕ)) → Advanced l.id l.q from starts to l.initial.at l.initial.values
    → ((j : ℕ) → j < 4 → slice_index l.initial.at (slice_index l.four j) + l.count ≤ slice_index to (slice_index l.four j))
    → Advanced l.id l.q from starts to l.at l.values
