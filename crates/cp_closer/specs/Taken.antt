-- What frozen parts bring: the blocks' tips and texts (this project's own).
use Rattle.std.specs.Prelude.{ℕ, List, [], ◌∷◌, length, map, Option, Some, None, ◌==◌, if◌then◌else◌, sum_by}
use Rattle.std.specs.Ordering.{nat_cmp}
use Rattle.std.specs.Map.{lookup}
use Rattle.std.specs.BTreeMap.{insert_entry, is_at}
use Rattle.cp_tips.specs.declared.tip.Tip.{Tip}
use Rattle.cp_core.specs.Life.{shard_of}
use Rattle.cp_core.specs.Frozen.{Part}

-- values by block, ascending, with these put in one after another: a block that has one takes the later
abbrev pub put_all : {X : Type 0} → List (ℕ × X) → List (ℕ × X) → List (ℕ × X)
put_all values [] = values
put_all values (x ∷ xs) = put_all (insert_entry nat_cmp values x.0 x.1) xs

-- each block of a part with its tip at the epoch's end, and with its texts of the epoch
abbrev pub tips_of : Part → List (ℕ × Tip)
tips_of part = map (λ x. (x.block, x.after)) part.blocks

abbrev pub texts_of : Part → List (ℕ × List (List ℕ))
texts_of part = map (λ x. (x.block, x.entries)) part.blocks

-- the number of entries that the part has
abbrev pub entries_in : Part → ℕ
entries_in part = sum_by (λ x. length x.entries) part.blocks

-- the number of a block's entries; 0 for a block without a tip
abbrev pub count_or_none : Option Tip → ℕ
count_or_none None = 0
count_or_none (Some tip) = tip.count

abbrev pub count_of : List (ℕ × Tip) → ℕ → ℕ
count_of tips block = count_or_none (lookup (is_at (nat_cmp block)) tips)

-- the number of a shard's entries
abbrev pub entries_of_shard : List (ℕ × Tip) → ℕ → ℕ
entries_of_shard tips shard = sum_by (λ e. if shard_of e.0 == shard then e.1.count else 0) tips
