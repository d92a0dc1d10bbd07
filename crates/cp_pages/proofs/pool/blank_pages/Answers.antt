use Rattle.std.proofs.Common.{ℕ, ◌++◌, [], ◌∷◌, ap, ◌∙◌, replicate}
use Rattle.std.proofs.lemmas.List.{replicate_more}
use Rattle.cp_pages.proofs.pool.blank_pages.Goals as goal

pub loop-preserved : goal.loop-preserved
loop-preserved c =
    rw c.in_ok-push.ensures.items
    (ap (λ xs. xs ++ replicate {A = ℕ} 1024 0 ∷ []) c.loop.invariant ∙ replicate_more c.loop.counter (replicate {A = ℕ} 1024 0))
