use Rattle.std.proofs.Common.{sym, ap, ◌∙◌, length, ℕ, List}
use Rattle.cp_chain.proofs.Parts.{length-parts_in}
use Rattle.cp_chain.proofs.segment.Segment.count.Goals as goal

pub returns : goal.returns
returns c = sym (length-parts_in c.self.inside.count c.self.inside.parts.now c.self.invariant) ∙ ap (λ (texts : List (List ℕ)). length texts) c.self.view_is
