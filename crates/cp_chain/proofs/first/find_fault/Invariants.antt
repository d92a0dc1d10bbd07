use Rattle.std.proofs.Common.{take}
use Rattle.cp_chain.specs.Pass.{NoncesWithin}
use Rattle.cp_chain.specs.View.{frame_view, put_view}
use Rattle.cp_chain.proofs.Going.{Gone}
use Rattle.cp_chain.proofs.first.find_fault.Given as goal

-- no text before the place breaks a rule
abbrev pub invariant-loop-text : goal.invariant-loop-text
invariant-loop-text l = record {
  gone : Gone (frame_view l.frame) l.segment l.place l.text-iterator (put_view l.passed.put);
  nonces : NoncesWithin l.passed.nonce (take l.place l.segment);
}
