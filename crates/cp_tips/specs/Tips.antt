-- The rows of a map from blocks to their tips.
use Rattle.std.specs.Prelude.{ℕ, List, map}
use Rattle.cp_tips.specs.Table.{TableRow}
use Rattle.cp_tips.specs.View.{tip_view}
use Rattle.cp_tips.specs.declared.tip.Tip.{Tip}

-- a row for each entry, in the map's order
abbrev pub rows_of : List (ℕ × Tip) → List TableRow
rows_of entries = map (λ e. record { block = e.0; tip = tip_view e.1 }) entries
