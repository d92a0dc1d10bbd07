use Rattle.std.proofs.Common.{take}
use Rattle.cp_chain.specs.Index.{IsIndex}
use Rattle.cp_chain.specs.View.{frame_view, put_view}
use Rattle.cp_chain.proofs.Going.{Gone}
use Rattle.cp_chain.proofs.indexed.find_by_index.Given as goal

-- no text before the place breaks a rule, and the index has their calls
abbrev pub invariant-loop-text : goal.invariant-loop-text
invariant-loop-text l = record {
  gone : Gone (frame_view l.frame) l.segment l.place l.text-iterator (put_view l.put);
  index : IsIndex (take l.place l.segment) l.calls;
}
