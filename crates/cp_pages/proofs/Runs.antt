-- What a contract sees of the chains of a pool.
use Rattle.std.proofs.Common.{◌≡◌, ◌≢◌, ℕ, zero, suc, ◌+◌, ◌-◌, ◌<◌, if◌then◌else◌, List, [], ◌∷◌, length, get_or, set, take, Option, None, Some, refl, sym, ◌∙◌, ap, arith, inl, inr, add-zero, zero-add, sum_by, replicate}
use Rattle.std.proofs.lemmas.Bool.{cases_eq}
use Rattle.std.proofs.lemmas.Bool.Decides.{nat_tests}
use Rattle.std.proofs.lemmas.List.{ext_get_or, get_or-set_same, get_or-set_other, length-set, length-take-le}
use Rattle.std.proofs.lemmas.List.Sums.{sum_by-cons}
use Rattle.cp_pages.specs.Extent.{Extent}
use Rattle.cp_pages.specs.Pages.{Kept, Pages, pages_for, kept_at, bytes_of, numbers_of, content_of, with_run, taken_pages}
use Rattle.cp_pages.specs.Chain.{page_after, chain, chain_content, page_at, bytes_at}
use Rattle.cp_pages.specs.Layout.{kept_from, runs_from}
use Rattle.cp_pages.proofs.Chains.{chain_same, bytes_same, length-chain, length-bytes}

-- the run that begins at a page
pub kept_at-runs : (pages : List (List ℕ)) (next : List ℕ) (page : ℕ) (lengths : List ℕ) (i : ℕ)
    → kept_at (runs_from pages next page lengths) i ≡ kept_from pages next (page + i) (get_or lengths i 0)
kept_at-runs pages next page [] i = refl
kept_at-runs pages next page (len ∷ lengths) zero = rw add-zero refl
kept_at-runs pages next page (len ∷ lengths) (suc i) =
    kept_at-runs pages next (page + 1) lengths i
    ∙ ap (λ p. kept_from pages next p (get_or lengths i 0)) (omega arith)

pub length-runs : (pages : List (List ℕ)) (next : List ℕ) (page : ℕ) (lengths : List ℕ)
    → length (runs_from pages next page lengths) ≡ length lengths
length-runs pages next page [] = refl
length-runs pages next page (len ∷ lengths) = ap suc (length-runs pages next (page + 1) lengths)

pub length-numbers : (pages : List (List ℕ)) (next : List ℕ) (page len : ℕ)
    → length (numbers_of (kept_from pages next page len)) ≡ pages_for len
length-numbers pages next page zero = refl
length-numbers pages next page (suc len) = length-chain next (pages_for (suc len)) page

-- the content of a run has the length that the pool keeps for it
pub length-content : (pages : List (List ℕ)) (next : List ℕ) (page len : ℕ)
    → ((i : ℕ) → i < pages_for len → length (page_at pages (page_after next i page)) ≡ 1024)
    → length (bytes_of (kept_from pages next page len)) ≡ len
length-content pages next page zero whole = refl
length-content pages next page (suc len) whole =
    let all_bytes = length-bytes pages next (pages_for (suc len)) page whole in
    length-take-le (suc len) (bytes_at pages (chain next (pages_for (suc len)) page)) (omega arith)

-- a run of these pages with these bytes
abbrev pub some_kept : List ℕ → List ℕ → Option Kept
some_kept ps bs = Some (record { pages = ps; content = bs })

-- a content that is not empty begins a run
pub kept_is : (pages : List (List ℕ)) (next : List ℕ) (page len : ℕ) → 0 < len
    → kept_from pages next page len ≡ some_kept (chain next (pages_for len) page) (chain_content pages next (pages_for len) page len)
kept_is pages next page zero some = absurd (omega arith)
kept_is pages next page (suc len) some = refl

-- a run of the same pages with the same bytes
pub kept_same : (pages others : List (List ℕ)) (next links : List ℕ) (page len : ℕ)
    → ((i : ℕ) → i < pages_for len → page_after next i page ≡ page_after links i page)
    → ((i : ℕ) → i < pages_for len → page_at pages (page_after next i page) ≡ page_at others (page_after next i page))
    → kept_from pages next page len ≡ kept_from others links page len
kept_same pages others next links page zero same_pages same_bytes = refl
kept_same pages others next links page (suc len) same_pages same_bytes =
    let numbers : chain next (pages_for (suc len)) page ≡ chain links (pages_for (suc len)) page = chain_same next links (pages_for (suc len)) page same_pages in
    let bytes : bytes_at pages (chain next (pages_for (suc len)) page) ≡ bytes_at others (chain next (pages_for (suc len)) page) =
    bytes_same pages others next (pages_for (suc len)) page same_bytes in
    ap (λ bs. some_kept (chain next (pages_for (suc len)) page) (take (suc len) bs)) bytes
    ∙ ap (λ ps. some_kept ps (take (suc len) (bytes_at others ps))) numbers

-- one run changes, and all others stay
pub runs-set : (pages others : List (List ℕ)) (next links lengths : List ℕ) (at len : ℕ) (now : Option Kept)
    → at < length lengths
    → kept_from others links at len ≡ now
    → ((page : ℕ) → page ≢ at → kept_from others links page (get_or lengths page 0) ≡ kept_from pages next page (get_or lengths page 0))
    → runs_from others links 0 (set lengths at len) ≡ set (runs_from pages next 0 lengths) at now
runs-set pages others next links lengths at len now within this rest =
    let new_len : length (runs_from others links 0 (set lengths at len)) ≡ length lengths =
    length-runs others links 0 (set lengths at len) ∙ length-set lengths at len in
    let old_len : length (runs_from pages next 0 lengths) ≡ length lengths = length-runs pages next 0 lengths in
    let new_at : (i : ℕ) → kept_at (runs_from others links 0 (set lengths at len)) i ≡ kept_from others links i (get_or (set lengths at len) i 0) =
    λ i. kept_at-runs others links 0 (set lengths at len) i ∙ ap (λ p. kept_from others links p (get_or (set lengths at len) i 0)) (zero-add i) in
    let old_at : (i : ℕ) → kept_at (runs_from pages next 0 lengths) i ≡ kept_from pages next i (get_or lengths i 0) =
    λ i. kept_at-runs pages next 0 lengths i ∙ ap (λ p. kept_from pages next p (get_or lengths i 0)) (zero-add i) in
    let same_at : (i : ℕ) → i ≡ at → kept_at (runs_from others links 0 (set lengths at len)) i ≡ kept_at (set (runs_from pages next 0 lengths) at now) i =
    λ i same. rw same (new_at at ∙ ap (kept_from others links at) (get_or-set_same lengths at len 0 within) ∙ this
    ∙ sym (get_or-set_same (runs_from pages next 0 lengths) at now None (omega arith))) in
    let other_at : (i : ℕ) → i ≢ at → kept_at (runs_from others links 0 (set lengths at len)) i ≡ kept_at (set (runs_from pages next 0 lengths) at now) i =
    λ i other. new_at i ∙ ap (kept_from others links i) (get_or-set_other lengths at i len 0 other) ∙ rest i other
    ∙ sym (get_or-set_other (runs_from pages next 0 lengths) at i now None other ∙ old_at i) in
    ext_get_or None (runs_from others links 0 (set lengths at len)) (set (runs_from pages next 0 lengths) at now)
    (new_len ∙ sym (length-set (runs_from pages next 0 lengths) at now ∙ old_len))
    (λ i h. elim (cases_eq i at) [ inl same ↦ same_at i same | inr other ↦ other_at i other ])

-- the pages of the live runs are those that the lengths of their contents need
pub taken-runs : (pages : List (List ℕ)) (next : List ℕ) (page : ℕ) (lengths : List ℕ)
    → ((i : ℕ) → length (bytes_of (kept_from pages next (page + i) (get_or lengths i 0))) ≡ get_or lengths i 0)
    → taken_pages (runs_from pages next page lengths) ≡ sum_by pages_for lengths
taken-runs pages next page [] same = refl
taken-runs pages next page (len ∷ lengths) same =
    let first : length (bytes_of (kept_from pages next page len)) ≡ len = rw add-zero at (same 0) in
    let shift : (i : ℕ) → page + 1 + i ≡ page + suc i = λ i. omega arith in
    let rest : taken_pages (runs_from pages next (page + 1) lengths) ≡ sum_by pages_for lengths =
    taken-runs pages next (page + 1) lengths (λ i. rw (shift i) (same (suc i))) in
    sum_by-cons (λ kept. pages_for (length (bytes_of kept))) (kept_from pages next page len) (runs_from pages next (page + 1) lengths)
    ∙ rw (first, rest) (sym (sum_by-cons pages_for len lengths))

pub runs_none : (pages : List (List ℕ)) (next : List ℕ) (page n : ℕ) → runs_from pages next page (replicate n 0) ≡ replicate n None
runs_none pages next page zero = refl
runs_none pages next page (suc n) = ap (λ rest. None ∷ rest) (runs_none pages next (page + 1) n)

-- an empty run reads as nothing
pub content-empty : (pool : Pages) (run : Extent) → run.len ≡ 0 → content_of pool run ≡ []
content-empty pool run e = grind (arith, nat_tests)

-- any other run reads as what begins at its first page
pub content-at : (pool : Pages) (run : Extent) → 0 < run.len → content_of pool run ≡ bytes_of (kept_at pool run.first)
content-at pool run h = grind (arith, nat_tests)

pub with_run-empty : (pool : Pages) (run : Extent) (now : Option Kept) → run.len ≡ 0 → with_run pool run now ≡ pool
with_run-empty pool run now e = grind (arith, nat_tests)

pub with_run-at : (pool : Pages) (run : Extent) (now : Option Kept) → 0 < run.len → with_run pool run now ≡ set pool run.first now
with_run-at pool run now h = grind (arith, nat_tests)
