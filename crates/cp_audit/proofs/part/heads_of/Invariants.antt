use Rattle.std.proofs.Common.{◌≡◌, ◌++◌}
use Rattle.cp_audit.specs.Heads.{heads_from}
use Rattle.cp_audit.proofs.part.heads_of.Given as goal

-- those so far, and those of what is left, are all
abbrev pub invariant-loop-text : goal.invariant-loop-text
invariant-loop-text l = l.heads.items ++ heads_from l.last l.text-iterator ≡ heads_from l.first l.segment
