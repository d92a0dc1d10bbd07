use Rattle.std.proofs.Common.{◌≡◌, ◌++◌}
use Rattle.std.specs.Prelude.{map}
use Rattle.cp_audit.proofs.part.texts_of.Given as goal

-- those so far, and what is left, are all
abbrev pub invariant-loop-text : goal.invariant-loop-text
invariant-loop-text l = map (λ t. t.now) l.texts.items ++ l.text-iterator ≡ l.segment
