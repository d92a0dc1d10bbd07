use Rattle.std.proofs.Common.{length, ◌-◌, ℕ, ◌<◌}
use Rattle.cp_http.specs.Heads.{IsBareFeed}
use Rattle.cp_http.proofs.reading.has_bare_feed.Given as goal

abbrev pub invariant-loop-i : goal.invariant-loop-i
invariant-loop-i l = (0 < l.i) × ((k : ℕ) → k < l.i → ¬ IsBareFeed l.text k)

abbrev pub decreases-loop-i : goal.decreases-loop-i
decreases-loop-i l = length l.text - l.i
