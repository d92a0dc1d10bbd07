-- Tables of tips: what a closing signs the digest of (this project's own). A table is the tag "CPt1"
-- and rows of 88 bytes to the end.
use Rattle.std.specs.Prelude.{ℕ, zero, suc, ◌≡◌, ◌<◌, Bool, true, false, not, ◌&&◌, ◌||◌, List, [], ◌∷◌, ◌++◌, length, Option, Some, None, Result, Ok, Err, nat_lt, nat_le, ◌==◌, if◌then◌else◌, codes, sum_by, flat_map}
use Rattle.std.specs.List.{list_all, AllByRecursion}
use Rattle.cp_bytes.specs.Fields.{Field, Values, Fit, spell, ◌>>=◌, field_at, fields_at, at_offset}
use Rattle.cp_bytes.specs.Fields.Field.{Tag, U64, Raw}
use Rattle.cp_statements.specs.Tagged.{uncurry}
use Rattle.cp_tips.specs.Tip.{Tip, fresh, same_tip}

pub record TableRow : Type 0 where
  pub block : ℕ
  pub tip : Tip

-- ---- the text

-- the fields of a row: block, count, version, content hash, head
abbrev pub row_fields : List Field
row_fields = U64 ∷ U64 ∷ U64 ∷ Raw 32 ∷ Raw 32 ∷ []

abbrev pub row_values : TableRow → Values row_fields
row_values r = (r.block, (r.tip.count, (r.tip.version, (r.tip.content, (r.tip.head, tt)))))

abbrev pub row_from : Values row_fields → TableRow
row_from = uncurry row_fields (λ block count version content head. record { block = block; tip = record { count = count; version = version; content = content; head = head } })

-- each value may stand in its field
abbrev pub RowFits : TableRow → Type 0
RowFits r = Fit row_fields (row_values r)

abbrev pub TableFits : List TableRow → Type 0
TableFits rows = AllByRecursion RowFits rows

unfoldable pub row_text : TableRow → List ℕ
row_text r = spell row_fields (row_values r)

-- its bytes
unfoldable pub table_text : List TableRow → List ℕ
table_text rows = codes "CPt1" ++ flat_map row_text rows

-- rows of one form to the end; the first number bounds the recursion, and the number of bytes is enough
unfoldable pub rows_at : ℕ → List ℕ → Result (List TableRow) ℕ
rows_at zero bytes = if length bytes == 0 then Ok [] else Err (length bytes)
rows_at (suc n) bytes = if length bytes == 0 then Ok [] else (do
  first ← fields_at row_fields bytes
  others ← rows_at n first.1
  Ok (row_from first.0 ∷ others))

-- the rows that all of the bytes spell, or the offset of the first byte that does not fit
unfoldable pub table_of : List ℕ → Result (List TableRow) ℕ
table_of bytes = at_offset bytes (field_at (Tag (codes "CPt1")) bytes >>= λ x. rows_at (length x.1) x.1)

-- ---- its rows

-- the block's row, if there is one
abbrev pub row_in : List TableRow → ℕ → Option Tip
row_in [] block = None
row_in (r ∷ rs) block = if r.block == block then Some r.tip else row_in rs block

abbrev pub tip_or_fresh : ℕ → Option Tip → Tip
tip_or_fresh block None = fresh block
tip_or_fresh block (Some tip) = tip

-- the block's row, or the fresh tip
abbrev pub row : List TableRow → ℕ → Tip
row rows block = tip_or_fresh block (row_in rows block)

-- each block is greater than those before it
abbrev pub all_above : ℕ → List TableRow → Bool
all_above block rows = list_all (λ r. nat_lt block r.block) rows

unfoldable pub ascends : List TableRow → Bool
ascends [] = true
ascends (r ∷ rs) = all_above r.block rs && ascends rs

-- The table is well formed for a closing with these numbers of rows and of entries: rows ascend
-- strictly by block, each count is at least 1, and both numbers are the exact ones.
unfoldable pub well_formed : List TableRow → ℕ → ℕ → Bool
well_formed rows n entries = ascends rows && (list_all (λ r. nat_le 1 r.tip.count) rows && ((length rows == n) && (sum_by (λ r. r.tip.count) rows == entries)))

-- ---- a block that went back

-- from the tip before to the row after: it vanished, its count fell, or it changed at an equal count
abbrev pub regressed_tip : Tip → Option Tip → Bool
regressed_tip before None = true
regressed_tip before (Some after) = nat_lt after.count before.count || ((after.count == before.count) && not (same_tip before after))

abbrev pub regressed_from : Option Tip → Option Tip → Bool
regressed_from None after = false
regressed_from (Some before) after = regressed_tip before after

-- the block went back from the table before to the table after
unfoldable pub regressed : List TableRow → List TableRow → ℕ → Bool
regressed before after block = regressed_from (row_in before block) (row_in after block)

-- the block is the least that went back
pub record IsFirstRegress (before after : List TableRow) (block : ℕ) : Type 0 where
  pub went_back : regressed before after block ≡ true
  pub least : (b : ℕ) → b < block → regressed before after b ≡ false

-- no block went back
abbrev pub NoneRegressed : List TableRow → List TableRow → Type 0
NoneRegressed before after = (b : ℕ) → regressed before after b ≡ false
