use Rattle.std.proofs.Common.{◌≡◌, take}
use Rattle.cp_tips.specs.View.{tip_view}
use Rattle.cp_chain.specs.Legal.{put_at, latest}
use Rattle.cp_chain.specs.View.{put_view}
use Rattle.cp_chain.proofs.put.Put.latest.Given as goal

-- what is left leads to the same put
abbrev pub invariant-loop-text : goal.invariant-loop-text
invariant-loop-text l = latest (put_view l.latest) (take l.text-iterator.n l.text-iterator.iter) ≡ latest (put_at (tip_view l.before)) (take l.n l.segment)
