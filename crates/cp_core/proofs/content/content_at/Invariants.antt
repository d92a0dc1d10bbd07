use Rattle.std.proofs.Common.{◌≡◌, take}
use Rattle.cp_core.specs.Calls.{content_at}
use Rattle.cp_core.proofs.content.content_at.Given as goal

abbrev pub invariant-loop-content : goal.invariant-loop-content
invariant-loop-content l = l.found ≡ content_at (take l.content-index l.contents) l.block
