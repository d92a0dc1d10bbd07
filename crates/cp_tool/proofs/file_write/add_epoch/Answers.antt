use Rattle.std.proofs.Common.{map, sym}
use Rattle.std.proofs.lemmas.List.{append-nil}
use Rattle.cp_tool.specs.ReplayView.{write_view}
use Rattle.cp_tool.proofs.WriteLemmas.{one_more}
use Rattle.cp_tool.proofs.file_write.add_epoch.Goals as goal

pub returns : goal.returns
returns c =
    let old = map write_view c.args.writes.now.items in
    let one = one_more old _ _ _ _ _ _ (sym (append-nil old)) c.in_ok-add_part.ensures c.as_slice.ensures in
    let two = one_more old _ _ _ _ _ _ one c.in_ok-add_part-2.ensures c.as_slice-2.ensures in
    let three = one_more old _ _ _ _ _ _ two c.in_ok-add_part-3.ensures c.as_slice-3.ensures in
    one_more old _ _ _ _ _ _ three c.in_ok-add_part-4.ensures c.as_slice-4.ensures
