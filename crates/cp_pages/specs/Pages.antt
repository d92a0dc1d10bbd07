-- What a contract sees of a pool: the live runs by the page where each begins. This project's own.
use Rattle.std.specs.Prelude.{◌≡◌, ◌≢◌, ℕ, ◌-◌, ◌<◌, ◌==◌, if◌then◌else◌, List, [], length, Option, None, Some, slice_index_or, slice_set, sum_by, All}
use Rattle.std.specs.Int.{div_ceil}
use Rattle.cp_pages.specs.Extent.{Extent}

-- how many pages of 1,024 bytes a content of so many bytes needs
abbrev pub pages_for : ℕ → ℕ
pages_for len = div_ceil len 1024

-- what a live run has: its pages in the order of the content, and the bytes that were placed
pub record Kept : Type 0 where
  pub pages : List ℕ
  pub content : List ℕ

-- the run that begins at each page, if one does
abbrev pub Pages : Type 0
Pages = List (Option Kept)

-- the run that begins at this page
abbrev pub kept_at : Pages → ℕ → Option Kept
kept_at pool page = slice_index_or pool page None

-- the bytes of what begins at a page
abbrev pub bytes_of : Option Kept → List ℕ
bytes_of None = []
bytes_of (Some kept) = kept.content

-- the page numbers of what begins at a page
abbrev pub numbers_of : Option Kept → List ℕ
numbers_of None = []
numbers_of (Some kept) = kept.pages

-- the bytes that a run reads as; an empty run needs no page
abbrev pub content_of : Pages → Extent → List ℕ
content_of pool run = if run.len == 0 then [] else bytes_of (kept_at pool run.first)

-- a run is live in a pool: the pool has its content
abbrev pub IsLive : Pages → Extent → Type 0
IsLive pool run = length (content_of pool run) ≡ run.len

-- two runs are different: they don't begin at one page, unless one of them is empty
abbrev pub AreApart : Extent → Extent → Type 0
AreApart a b = 0 < a.len → 0 < b.len → a.first ≢ b.first

-- no live run begins where this run does, unless this one is empty
abbrev pub IsNew : Pages → Extent → Type 0
IsNew pool run = 0 < run.len → kept_at pool run.first ≡ None

-- the pool with this at the run's first page, and all else as it was
abbrev pub with_run : Pages → Extent → Option Kept → Pages
with_run pool run kept = if run.len == 0 then pool else slice_set pool run.first kept

-- how many pages the contents of the live runs need together
abbrev pub taken_pages : Pages → ℕ
taken_pages pool = sum_by (λ kept. pages_for (length (bytes_of kept))) pool

-- how many pages are left
abbrev pub free_pages : Pages → ℕ
free_pages pool = length pool - taken_pages pool

-- a content was placed: the run is new, has its length and reads as it, and nothing else changed
pub record IsPlaced (old new : Pages) (bytes : List ℕ) (run : Extent) : Type 0 where
  pub len : run.len ≡ length bytes
  pub is_new : IsNew old run
  pub content : content_of new run ≡ bytes
  pub others : new ≡ with_run old run (kept_at new run.first)

-- a live run gave its pages back, and nothing else changed
abbrev pub IsGivenBack : Pages → Pages → Extent → Type 0
IsGivenBack old new run = new ≡ with_run old run None

-- each live run has just the pages that its content needs, and the first of them is where it begins;
-- all are pages of the pool, and no page is in two places
pub record IsPaged (pool : Pages) : Type 0 where
  pub counted : (page : ℕ) → length (numbers_of (kept_at pool page)) ≡ pages_for (length (bytes_of (kept_at pool page)))
  pub begins : (page : ℕ) → 0 < length (numbers_of (kept_at pool page)) → slice_index_or (numbers_of (kept_at pool page)) 0 0 ≡ page
  pub inside : (page : ℕ) → All (λ number. number < length pool) (numbers_of (kept_at pool page))
  pub apart : (a b i j : ℕ) → i < length (numbers_of (kept_at pool a)) → j < length (numbers_of (kept_at pool b))
      → slice_index_or (numbers_of (kept_at pool a)) i 0 ≡ slice_index_or (numbers_of (kept_at pool b)) j 0
      → (a ≡ b) × (i ≡ j)
