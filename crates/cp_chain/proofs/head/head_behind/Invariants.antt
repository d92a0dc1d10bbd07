use Rattle.std.proofs.Common.{◌≡◌, take}
use Rattle.cp_bytes.specs.Hashes.{head_after}
use Rattle.cp_chain.proofs.head.head_behind.Given as goal

-- what is left leads to the same head
abbrev pub invariant-loop-text : goal.invariant-loop-text
invariant-loop-text l = head_after l.last (take l.text-iterator.n l.text-iterator.iter) ≡ head_after l.before (take l.n l.segment)
