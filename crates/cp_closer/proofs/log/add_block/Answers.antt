use Rattle.std.proofs.Common.{◌≡◌, List, ◌++◌, ◌∙◌, ℕ, ap, length, flat_map, arith}
use Rattle.std.proofs.lemmas.Result.{on_ok_weaker}
use Rattle.cp_bytes.specs.Fields.{part}
use Rattle.cp_closer.proofs.Bounds.{block_spelled}
use Rattle.cp_closer.proofs.log.add_block.Goals as goal

pub returns : goal.returns
returns c =
    let count : c.len-count.result ≡ length c.args.x.now.entries.items = omega arith in
    on_ok_weaker c.add_texts.result (λ e. block_spelled c.args.block c.len-count.result c.args.x.now.entries.items c.args.out.now.items c.start_segment.new.out.items c.add_texts.new.out.items count c.in_ok-start_segment.ensures (e ∙ ap (λ (t : List (List ℕ)). c.start_segment.new.out.items ++ flat_map part t) c.as_slice.ensures.value)) c.add_texts.ensures
