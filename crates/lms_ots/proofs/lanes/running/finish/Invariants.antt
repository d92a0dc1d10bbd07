use Rattle.std.proofs.Common.{◌≡◌, ℕ, ◌<◌, ◌≤◌, [], slice_index, slice_index_or}
use Rattle.lms_ots.specs.Ots.{chain}
use Rattle.lms_ots.proofs.lanes.running.finish.Given as goal

abbrev pub invariant-chains : goal.invariant-chains
invariant-chains l = record {
  done : (k : ℕ) → k < l.i → slice_index_or l.values k [] ≡ chain l.id l.q k (slice_index l.at k) (slice_index l.to k) (slice_index_or l.initial.values k []);
  rest : (k : ℕ) → l.i ≤ k → slice_index_or l.values k [] ≡ slice_index_or l.initial.values k [];
}
