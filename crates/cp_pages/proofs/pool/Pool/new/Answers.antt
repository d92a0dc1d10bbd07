use Rattle.std.proofs.Common.{◌≡◌, ℕ, ap, ◌∙◌, rules, replicate}
use Rattle.cp_pages.proofs.Runs.{runs_none}
use Rattle.cp_pages.specs.Layout.{runs_from}
use Rattle.cp_pages.proofs.Steps.{laid-new}
use Rattle.cp_pages.proofs.pool.Pool.new.Goals as goal

pub invariant_of-result : goal.invariant_of-result
invariant_of-result c =
    let lengths : c.in_ok-vec.field-0.items ≡ replicate {A = ℕ} c.args.pages 0 = search rules in
    laid-new _ _ _ c.args.pages c.ranges.pages.fits c.in_ok-blank_pages.ensures c.in_ok-links.ensures lengths

pub returns : goal.returns
returns c =
    let lengths : c.in_ok-vec.field-0.items ≡ replicate {A = ℕ} c.args.pages 0 = search rules in
    ap (λ ls. runs_from c.in_ok-blank_pages.field-0.items c.in_ok-links.field-0.items 0 ls) lengths
    ∙ runs_none c.in_ok-blank_pages.field-0.items c.in_ok-links.field-0.items 0 c.args.pages
