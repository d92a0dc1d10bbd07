use Rattle.std.proofs.Common.{◌≡◌, ℕ, ◌+◌, ◌<◌, ◌≤◌, ◌++◌, ◌∷◌, [], length, take, slice_index, slice_index_or}
use Rattle.lms_ots.proofs.lanes.four.put_steps.Given as goal

abbrev pub invariant-lanes : goal.invariant-lanes
invariant-lanes l = record {
  lanes : length l.messages ≡ 4;
  done : (i : ℕ) → i < l.j → slice_index_or l.messages i [] ≡ take 22 (slice_index_or l.initial.messages i []) ++ ((slice_index l.first i + l.k) ∷ slice_index_or l.values i []);
  rest : (i : ℕ) → l.j ≤ i → slice_index_or l.messages i [] ≡ slice_index_or l.initial.messages i [];
}
