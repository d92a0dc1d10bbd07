-- What the map of standings says of each block.
use Rattle.std.specs.Prelude.{ℕ, List, [], Option, Some, None}
use Rattle.std.specs.BTreeMap.{BTreeMap, get}
use Rattle.std.specs.Ordering.{nat_cmp}
use Rattle.cp_pages.specs.Extent.{Extent}
use Rattle.cp_pages.specs.Pages.{Pages, content_of}
use Rattle.cp_tips.specs.Tip as spec
use Rattle.cp_tips.specs.View.{tip_view}
use Rattle.cp_shard.specs.declared.standing.Standing.{Standing}

abbrev pub tip_or : ℕ → Option Standing → spec.Tip
tip_or b None = spec.fresh b
tip_or b (Some s) = tip_view s.tip

abbrev pub run_or : Option Standing → Option Extent
run_or None = None
run_or (Some s) = s.run

-- the block's tip, and the run of its latest content
abbrev pub tip_at : BTreeMap ℕ Standing → ℕ → spec.Tip
tip_at standings b = tip_or b (get nat_cmp standings b)

abbrev pub run_at : BTreeMap ℕ Standing → ℕ → Option Extent
run_at standings b = run_or (get nat_cmp standings b)

-- the content of a run; empty where there is none
abbrev pub content_in : Pages → Option Extent → List ℕ
content_in pool None = []
content_in pool (Some run) = content_of pool run
