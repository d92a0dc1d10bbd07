use Rattle.std.proofs.Common.{◌++◌, map, sym, ap, ◌∙◌}
use Rattle.std.specs.Option.{option_map}
use Rattle.std.specs.Map.{lookup}
use Rattle.std.specs.BTreeMap.{is_at}
use Rattle.std.specs.Ordering.{nat_cmp}
use Rattle.cp_core.specs.Frozen.{gained_view}
use Rattle.cp_shard.proofs.EpochRows.{listed_blocks}
use Rattle.cp_shard.proofs.gathering.gather_rows.Goals as goal

pub returns : goal.returns
returns c = λ k n front next fresh.
    ap (map gained_view) c.in_ok-list.ensures.listed
    ∙ listed_blocks (front ++ c.args.rows.now) n c.add_rows.new.blocks c.in_ok-list.ensures.ascending
    (c.in_ok-add_rows.ensures k n front next (λ b. ap (λ es. option_map gained_view (lookup (is_at (nat_cmp b)) es)) c.new-blocks.ensures.empty ∙ sym (fresh b)))
