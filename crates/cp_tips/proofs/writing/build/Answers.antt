use Rattle.std.proofs.Common.{◌≡◌, ◌++◌, ap}
use Rattle.std.specs.Prelude.{codes, flat_map}
use Rattle.cp_tips.specs.Table.{row_text, table_text}
use Rattle.cp_tips.specs.Tips.{rows_of}
use Rattle.cp_tips.proofs.Ordered.{rows_ascend}
use Rattle.cp_tips.proofs.writing.build.Goals as goal

pub loop-block-init : goal.loop-block-init
unfolding table_text
loop-block-init c =
    let all : c.into_iter-block-iterator.result ≡ c.args.tips.now.entries = c.into_iter-block-iterator.ensures.into_iter_gives.0 in
    rw (c.in_ok-extend_from_slice.ensures.items, c.reserve.ensures.items, c.new-text.ensures.items) (ap (λ entries. codes "CPt1" ++ flat_map row_text (rows_of entries)) all)

pub returns-clause-ascends : goal.returns-clause-ascends
returns-clause-ascends c = rows_ascend c.args.tips.now.entries c.into_iter-block-iterator.ensures.into_iter_gives.5
