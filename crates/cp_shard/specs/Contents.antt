-- The contents of a shard's blocks, and the pages that they take.
use Rattle.std.specs.Prelude.{ℕ, ◌≡◌, ◌≢◌, false, List, [], map, length, Option, Some, None, Result, Ok, Err, ◌==◌, if◌then◌else◌, filter_map}
use Rattle.std.specs.List.{list_any}
use Rattle.cp_statements.specs.Entry.{Entry, entry_of}
use Rattle.cp_chain.specs.Legal.{last_or}
use Rattle.cp_core.specs.Life.{RowItem, rows_in}
use Rattle.cp_core.specs.Calls.{latest_of, puts_block, pages_taken}
use Rattle.cp_core.specs.declared.content.Content.{Content}
use Rattle.cp_core.specs.Kept.{IsContentOf}
use Rattle.cp_core.specs.declared.item.Item.{Item}
use Rattle.cp_pages.specs.Extent.{Extent}
use Rattle.cp_pages.specs.Pages.{Pages, IsLive, AreApart, pages_for, taken_pages}
use Rattle.cp_shard.specs.Standings.{content_in}

-- the block that an entry puts
abbrev pub block_put : Result Entry ℕ → Option ℕ
block_put (Ok e) = if e.kind == 1 then Some e.block else None
block_put (Err left) = None

abbrev pub puts : RowItem → Option ℕ
puts r = block_put (entry_of r.entry)

-- the block of each put
abbrev pub put_blocks : List Item → List ℕ
put_blocks items = filter_map puts (rows_in items)

-- the content of each of these blocks
abbrev pub contents_of : List ℕ → (ℕ → List ℕ) → List Content
contents_of blocks content = map (λ b. record { block = b; bytes = content b }) blocks

-- the pages of the block's last put
abbrev pub put_pages : ℕ → RowItem → Option ℕ
put_pages b r = if puts_block b r then Some r.pages else None

abbrev pub last_pages : List RowItem → ℕ → ℕ
last_pages rows b = last_or 0 (filter_map (put_pages b) rows)

-- the run is live, if there is one, and apart from another
abbrev pub IsLiveRun : Pages → Option Extent → Type 0
IsLiveRun pool None = Unit {0}
IsLiveRun pool (Some run) = IsLive pool run

abbrev pub AreApartRuns : Option Extent → Option Extent → Type 0
AreApartRuns (Some a) (Some b) = AreApart a b
AreApartRuns None b = Unit {0}
AreApartRuns (Some a) None = Unit {0}

-- Each block's run is live and apart from the others, and reads as a content of the block's latest put;
-- a block without a put has none. The runs take just the pages of the last puts.
pub record HasContents (items : List Item) (pages : ℕ) (runs : ℕ → Option Extent) (pool : Pages) : Type 0 where
  pub len : length pool ≡ pages
  pub live : (b : ℕ) → IsLiveRun pool (runs b)
  pub apart : (a b : ℕ) → a ≢ b → AreApartRuns (runs a) (runs b)
  pub taken : taken_pages pool ≡ pages_taken (rows_in items)
  pub counted : (b : ℕ) → last_pages (rows_in items) b ≡ pages_for (length (content_in pool (runs b)))
  pub unwritten : (b : ℕ) → list_any (puts_block b) (rows_in items) ≡ false → content_in pool (runs b) ≡ []
  pub hashed : (b : ℕ) → IsContentOf (latest_of items b) (content_in pool (runs b))
