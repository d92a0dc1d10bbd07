use Rattle.std.proofs.Common.{rules, sym, ap, ◌∙◌, Some}
use Rattle.std.proofs.lemmas.List.Sorted.{answers_always}
use Rattle.cp_audit.specs.declared.part.Part.{Part}
use Rattle.cp_audit.specs.Parts.{part_view}
use Rattle.cp_audit.proofs.LookupLemmas.{part_found_at, none_there}
use Rattle.cp_audit.proofs.lookup.part_at.Goals as goal

-- the closure gives a part's block
pub returns-in-Ok-clause-found : goal.returns-in-Ok-clause-found
returns-in-Ok-clause-found c =
    let equal = c.in-Ok.ensures.position (λ part. (part_view part).block) (answers_always _ _ _ (λ f a r g called. search rules)) in
    let part : Part = c.index-parts-at.result in
    let found = part_found_at c.args.parts.now c.requires c.args.block c.in-Ok.at part c.in-Ok.ensures.bound (equal part) in
    found.0 ∙ ap (λ (p : Part). Some p.segment) (sym c.index-parts-at.is)

pub returns-in-Ok-clause-member : goal.returns-in-Ok-clause-member
returns-in-Ok-clause-member c =
    let equal = c.in-Ok.ensures.position (λ part. (part_view part).block) (answers_always _ _ _ (λ f a r g called. search rules)) in
    let part : Part = c.index-parts-at.result in
    let found = part_found_at c.args.parts.now c.requires c.args.block c.in-Ok.at part c.in-Ok.ensures.bound (equal part) in
    ((c.in-Ok.at, c.in-Ok.ensures.bound, sym c.index-parts-at.is), ap (λ (p : Part). p.frame.block) c.index-parts-at.is ∙ found.1)

pub returns-in-Err-clause-found : goal.returns-in-Err-clause-found
returns-in-Err-clause-found c =
    let parted = c.in-Err.ensures.position (λ part. (part_view part).block) (answers_always _ _ _ (λ f a r g called. search rules)) in
    none_there c.args.parts.now c.requires c.args.block c.in-Err.field-0 c.in-Err.ensures.bound parted
