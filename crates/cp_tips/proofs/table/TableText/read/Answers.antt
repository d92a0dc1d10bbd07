use Rattle.std.proofs.Common.{◌≡◌, Ok, length, refl, sym, ◌∙◌, arith}
use Rattle.std.specs.Prelude.{codes}
use Rattle.std.proofs.lemmas.Bool.{eqb-true, eqb-false}
use Rattle.cp_bytes.specs.Fields.{field_at}
use Rattle.cp_bytes.specs.Fields.Field.{Tag}
use Rattle.cp_tips.proofs.Reading.{left_within, table_read, table_refused}
use Rattle.cp_tips.proofs.table.TableText.read.Goals as goal

pub overflow_sub-result : goal.overflow_sub-result
overflow_sub-result c =
    let tag : field_at (Tag (codes "CPt1")) c.args.bytes.now ≡ Ok (tt, c.rest.result.now) = rw c.rest.ensures (rw c.new-cut.ensures at c.in_ok-take_tag.ensures.0) in
    left_within c.args.bytes.now c.rest.result.now c.as_chunks.result.1.now c.left_in_row-left.result tag c.as_chunks.ensures.back_len c.left_in_row-left.ensures.within

pub returns-then-is_empty : goal.returns-then-is_empty
returns-then-is_empty c =
    let tag : field_at (Tag (codes "CPt1")) c.args.bytes.now ≡ Ok (tt, c.rest.result.now) = rw c.rest.ensures (rw c.new-cut.ensures at c.in_ok-take_tag.ensures.0) in
    let none : length c.as_chunks.result.1.now ≡ 0 = eqb-true _ _ (sym c.is_empty.ensures ∙ c.if-is_empty.true) in
    table_read c.args.bytes.now c.rest.result.now c.as_chunks.result.0.now tag c.as_chunks.ensures.front (sym c.as_chunks.ensures.back_len ∙ none)

pub returns-else-is_empty : goal.returns-else-is_empty
returns-else-is_empty c =
    let tag : field_at (Tag (codes "CPt1")) c.args.bytes.now ≡ Ok (tt, c.rest.result.now) = rw c.rest.ensures (rw c.new-cut.ensures at c.in_ok-take_tag.ensures.0) in
    let some = eqb-false _ _ (sym c.is_empty.ensures ∙ c.if-is_empty.false) in
    table_refused c.args.bytes.now c.rest.result.now c.as_chunks.result.1.now c.left_in_row-left.result tag c.as_chunks.ensures.back c.as_chunks.ensures.back_len (omega (arith, some)) (c.left_in_row-left.ensures.begins _ refl)
