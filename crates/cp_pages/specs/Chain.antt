-- Chains of pages, in which each page names the next. No public clause cites this module.
use Rattle.std.specs.Prelude.{◌≡◌, ◌≢◌, ℕ, zero, suc, ◌+◌, ◌<◌, List, [], ◌∷◌, ◌++◌, length, slice_index, slice_index_or, take}
use Rattle.std.specs.List.{flat_map}

-- the page that is so many steps on from a page
abbrev pub page_after : List ℕ → ℕ → ℕ → ℕ
page_after next zero page = page
page_after next (suc steps) page = slice_index next (page_after next steps page)

-- so many pages in their order, from a page on
abbrev pub chain : List ℕ → ℕ → ℕ → List ℕ
chain next zero page = []
chain next (suc count) page = chain next count page ++ page_after next count page ∷ []

-- the bytes of a page
abbrev pub page_at : List (List ℕ) → ℕ → List ℕ
page_at pages page = slice_index_or pages page []

-- the bytes of these pages, one after another
abbrev pub bytes_at : List (List ℕ) → List ℕ → List ℕ
bytes_at pages numbers = flat_map (page_at pages) numbers

-- the first bytes of the pages of a chain
abbrev pub chain_content : List (List ℕ) → List ℕ → ℕ → ℕ → ℕ → List ℕ
chain_content pages next count page len = take len (bytes_at pages (chain next count page))

-- each page of a chain is one of the pages
abbrev pub IsWithin : List ℕ → ℕ → ℕ → Type 0
IsWithin next count page = (i : ℕ) → i < count → page_after next i page < length next

-- no page comes twice in a chain
abbrev pub HasNoRepeat : List ℕ → ℕ → ℕ → Type 0
HasNoRepeat next count page = (i j : ℕ) → i < count → j < count
    → page_after next i page ≡ page_after next j page → i ≡ j

-- each page has 1,024 bytes
abbrev pub AreWhole : List (List ℕ) → Type 0
AreWhole pages = (page : ℕ) → page < length pages → length (page_at pages page) ≡ 1024

-- each page that is not in the chain is as it was
abbrev pub SameElsewhere : List (List ℕ) → List (List ℕ) → List ℕ → ℕ → ℕ → Type 0
SameElsewhere old new next count first = (page : ℕ)
    → ((i : ℕ) → i < count → page_after next i first ≢ page) → page_at new page ≡ page_at old page
