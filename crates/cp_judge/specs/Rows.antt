-- What the judge knows of the rows of a table that is well formed.
use Rattle.std.specs.Prelude.{Bool, not, ◌&&◌, ◌||◌, ◌==◌, List, nat_lt, nat_le}
use Rattle.std.specs.List.{list_all}
use Rattle.cp_tips.specs.Tip.{Tip, same_tip}
use Rattle.cp_tips.specs.Table.{TableRow, ascends}

-- they ascend, and each count is at least 1
abbrev pub in_order : List TableRow → Bool
in_order rows = ascends rows && list_all (λ r. nat_le 1 r.tip.count) rows

-- a block went back between two such tables that give it these tips; without a row it has the fresh
-- tip, whose count is 0
abbrev pub went_back : Tip → Tip → Bool
went_back before after = nat_lt 0 before.count && (nat_lt after.count before.count || ((after.count == before.count) && not (same_tip before after)))
