-- How a pool lays out its runs. No public clause cites this module.
use Rattle.std.specs.Prelude.{◌≡◌, ℕ, zero, suc, ◌+◌, ◌<◌, ◌^◌, List, [], ◌∷◌, length, Option, None, Some, slice_index, slice_index_or, sum_by}
use Rattle.cp_pages.specs.Pages.{Kept, Pages, pages_for}
use Rattle.cp_pages.specs.Chain.{page_after, chain, chain_content}

-- the run of a content of this length that begins at this page, where 0 stands for no run
abbrev pub kept_from : List (List ℕ) → List ℕ → ℕ → ℕ → Option Kept
kept_from pages next page zero = None
kept_from pages next page (suc len) = Some (record {
  pages = chain next (pages_for (suc len)) page;
  content = chain_content pages next (pages_for (suc len)) page (suc len);
})

-- the runs that begin at a page and the pages after it, by the lengths of their contents
abbrev pub runs_from : List (List ℕ) → List ℕ → ℕ → List ℕ → Pages
runs_from pages next page [] = []
runs_from pages next page (len ∷ lengths) =
    kept_from pages next page len ∷ runs_from pages next (page + 1) lengths

-- The chains of a pool are numbered: number 0 is the free pages, and number page + 1 is the run that
-- begins at that page. Where a chain begins:
abbrev pub start : ℕ → ℕ → ℕ
start first_free zero = first_free
start first_free (suc page) = page

-- how many pages a chain has
abbrev pub count : List ℕ → ℕ → ℕ → ℕ
count lengths free zero = free
count lengths free (suc page) = pages_for (slice_index lengths page)

-- each page of each chain is in the pool, no page is in two places, and all pages are in a chain
pub record IsLaidOut (pages : List (List ℕ)) (next lengths : List ℕ) (first_free free : ℕ) : Type 0 where
  pub pages_len : length pages ≡ length next
  pub lengths_len : length lengths ≡ length next
  pub numbered : length next < 2 ^ 32
  pub page_len : (page : ℕ) → page < length pages → length (slice_index_or pages page []) ≡ 1024
  pub inside : (c i : ℕ) → i < count lengths free c → page_after next i (start first_free c) < length next
  pub apart : (c d i j : ℕ) → i < count lengths free c → j < count lengths free d
      → page_after next i (start first_free c) ≡ page_after next j (start first_free d) → (c ≡ d) × (i ≡ j)
  pub total : free + sum_by pages_for lengths ≡ length next
