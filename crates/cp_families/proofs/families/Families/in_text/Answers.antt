use Rattle.std.proofs.Common.{rules, sym, ap, ◌∙◌, subst, Ok}
use Rattle.cp_families.specs.Rows.{IsListed}
use Rattle.cp_families.proofs.Lying.{list_of, pieces_are}
use Rattle.cp_families.proofs.families.Families.in_text.Goals as goal

pub split_at-requires : goal.split_at-requires
split_at-requires c = (list_of c.args.text.now c.requires).2.long

pub invariant_of-result : goal.invariant_of-result
invariant_of-result c =
    let l = list_of c.args.text.now c.requires in
    let rows = pieces_are c.args.text.now c.split_at.result.1.now c.as_chunks.result.0.now l.0 l.2 (search rules) c.as_chunks.ensures.front in
    subst IsListed (sym rows) l.2.listed

pub returns : goal.returns
returns c =
    let l = list_of c.args.text.now c.requires in
    let rows = pieces_are c.args.text.now c.split_at.result.1.now c.as_chunks.result.0.now l.0 l.2 (search rules) c.as_chunks.ensures.front in
    l.1 ∙ ap Ok (sym rows)
