-- What the calls of a pool leave, over plain variables.
use Rattle.std.proofs.Common.{◌≡◌, ◌≢◌, ℕ, zero, suc, ◌+◌, ◌-◌, ◌<◌, ◌≤◌, ◌^◌, List, [], length, get_or, set, map, replicate, None, refl, sym, ◌∙◌, ap, arith, inl, inr, sum_by}
use Rattle.std.specs.List.{range_with_len}
use Rattle.std.proofs.lemmas.Bool.{cases_eq, cases_lt}
use Rattle.std.proofs.lemmas.List.{get_or-set_same, get_or-replicate, get_or-map, get_or_past, length-map, length-replicate}
use Rattle.std.proofs.lemmas.List.FromFn.{get_or-range_with_len, length-range_with_len}
use Rattle.std.proofs.lemmas.List.Folds.{sum_by-replicate}
use Rattle.std.proofs.lemmas.List.Sums.{get_or-le-sum_by}
use Rattle.cp_pages.specs.Extent.{Extent}
use Rattle.cp_pages.specs.Pages.{Pages, pages_for, kept_at, bytes_of, content_of, IsLive, IsPlaced, with_run}
use Rattle.cp_pages.specs.Chain.{page_after, chain, chain_content, page_at}
use Rattle.cp_pages.specs.Layout.{runs_from, start, count, IsLaidOut}
use Rattle.cp_pages.proofs.Runs.{length-runs, some_kept, content-at, with_run-at}
use Rattle.cp_pages.proofs.Layouts.{none-seen, laid-taken, runs-taken, laid-given, runs-given, begins-inside, live-len, content-live}

-- a content that is placed in a run of its own
pub is-placed : (old new : Pages) (bytes : List ℕ) (first : ℕ) (numbers : List ℕ) → kept_at old first ≡ None → first < length old
    → new ≡ set old first (some_kept numbers bytes) → 0 < length bytes
    → IsPlaced old new bytes (record { first = first; len = length bytes })
is-placed old new bytes first numbers none inside new_is some =
    let run : Extent = record { first = first; len = length bytes } in
    let at_first : kept_at new first ≡ some_kept numbers bytes =
    ap (λ pool. kept_at pool first) new_is ∙ get_or-set_same old first (some_kept numbers bytes) None inside in
    record {
      len = refl;
      is_new = λ _. none;
      content = content-at new run some ∙ ap bytes_of at_first;
      others = new_is ∙ sym (with_run-at old run (kept_at new first) some ∙ ap (set old first) at_first);
    }

module _ (pages : List (List ℕ)) (next lengths : List ℕ) (first free : ℕ) (laid : IsLaidOut pages next lengths first free) where
  -- the first free page is a page of the pool
  pub free-inside : 0 < free → first < length lengths
  free-inside some = let at_first = laid.inside 0 0 some in omega (arith, laid.lengths_len)

  -- the layout after a content was written
  pub laid-placed : (now fresh : List (List ℕ)) (links : List ℕ) (after need len : ℕ)
      → now ≡ fresh → links ≡ next → after ≡ page_after links (pages_for len) first → need ≡ pages_for len
      → 0 < len → need ≤ free → length fresh ≡ length pages
      → ((page : ℕ) → page < length fresh → length (page_at fresh page) ≡ 1024)
      → IsLaidOut now next (set lengths first len) after (free - need)
  laid-placed now fresh links after need len now_is links_is after_is need_is some room same page_len =
      rw (now_is, after_is, links_is, need_is) (laid-taken pages next lengths first free laid fresh len some (omega arith) same page_len)

  -- what is seen after a content was written
  pub seen-placed : (pool : Pages) (before now fresh : List (List ℕ)) (links : List ℕ) (need : ℕ) (bytes : List ℕ)
      → runs_from pages next 0 lengths ≡ pool
      → before ≡ pages → now ≡ fresh → links ≡ next → need ≡ pages_for (length bytes) → 0 < length bytes → need ≤ free
      → chain_content fresh links (pages_for (length bytes)) first (length bytes) ≡ bytes
      → ((page : ℕ) → ((i : ℕ) → i < pages_for (length bytes) → page_after links i first ≢ page) → page_at fresh page ≡ page_at before page)
      → IsPlaced pool (runs_from now next 0 (set lengths first (length bytes))) bytes (record { first = first; len = length bytes })
  seen-placed pool before now fresh links need bytes view_is before_is now_is links_is need_is some room written others =
      rw (← view_is, now_is) (is-placed (runs_from pages next 0 lengths) (runs_from fresh next 0 (set lengths first (length bytes))) bytes first
      (chain next (pages_for (length bytes)) first)
      (none-seen pages next lengths first free laid (omega arith))
      (rw length-runs (free-inside (omega arith)))
      (runs-taken pages next lengths first free laid fresh (length bytes) bytes some (omega arith)
      (rw links_is at written) (rw (links_is, before_is) at others))
      some)

  module _ (run : Extent) (live : IsLive (runs_from pages next 0 lengths) run) where
    -- a live run has no more pages than there are
    pub live-room : free + pages_for run.len ≤ length next
    live-room = elim (cases_eq run.len 0) [
      | inl none ↦ rw none (omega (arith, laid.total))
      | inr one ↦
          let some : 0 < run.len = omega (arith, one) in
          let len = live-len pages next lengths first free laid run some live in
          let inside = begins-inside pages next lengths first free laid run.first (omega (arith, len)) in
          let part : pages_for run.len ≤ sum_by pages_for lengths = rw len at (get_or-le-sum_by pages_for lengths run.first 0 inside) in
          omega (arith, laid.total)
    ]

    pub live-fits : pages_for run.len < 2 ^ 32
    live-fits = omega (arith, live-room, laid.numbered)

    -- the pages of a live run are pages of the pool
    pub live-inside : (i : ℕ) → i < pages_for run.len → page_after next i run.first < length next
    live-inside i h =
        let some : 0 < run.len = omega arith in
        laid.inside (suc run.first) i (rw (live-len pages next lengths first free laid run some live) h)

    pub live-begins : 0 < run.len → run.first < length lengths
    live-begins some = begins-inside pages next lengths first free laid run.first (rw (live-len pages next lengths first free laid run some live) some)

    -- what a live run reads as
    pub read-live : (pool : Pages) (data_ : List (List ℕ)) (links : List ℕ) (len : ℕ)
        → runs_from pages next 0 lengths ≡ pool → data_ ≡ pages → links ≡ next → len ≡ run.len
        → chain_content data_ links (pages_for len) run.first len ≡ content_of pool run
    read-live pool data_ links len view_is data_is links_is len_is =
        rw (← view_is, data_is, links_is, len_is) (content-live pages next lengths first free laid run live)

    -- the layout after a live run gave its pages back
    pub laid-returned : (links : List ℕ) (need last : ℕ) → need ≡ pages_for run.len → 0 < run.len
        → links ≡ next → last ≡ page_after links (need - 1) run.first
        → IsLaidOut pages (set next last first) (set lengths run.first 0) run.first (free + need)
    laid-returned links need last need_is some links_is last_is =
        let len = live-len pages next lengths first free laid run some live in
        rw (last_is, links_is) (laid-given pages next lengths first free laid run.first need (need_is ∙ ap pages_for (sym len)) (omega arith))

    -- what is seen then
    pub seen-returned : (pool : Pages) (links : List ℕ) (need last : ℕ) → runs_from pages next 0 lengths ≡ pool
        → need ≡ pages_for run.len → 0 < run.len
        → links ≡ next → last ≡ page_after links (need - 1) run.first
        → runs_from pages (set next last first) 0 (set lengths run.first 0) ≡ with_run pool run None
    seen-returned pool links need last view_is need_is some links_is last_is =
        let len = live-len pages next lengths first free laid run some live in
        rw (last_is, links_is) (runs-given pages next lengths first free laid run.first need (need_is ∙ ap pages_for (sym len)) (omega arith))
        ∙ sym (with_run-at (runs_from pages next 0 lengths) run None some)
        ∙ ap (λ pool. with_run pool run None) view_is

-- the links of a new pool
abbrev pub first_links : ℕ → List ℕ
first_links n = map (λ page. page + 1) (range_with_len 0 n)

length-first_links : (n : ℕ) → length (first_links n) ≡ n
length-first_links n = length-map (range_with_len 0 n) (λ page. page + 1) ∙ length-range_with_len 0 n

page_after-first : (n i : ℕ) → i ≤ n → page_after (first_links n) i 0 ≡ i
page_after-first n zero h = refl
page_after-first n (suc i) h =
    let within : i < length (range_with_len 0 n) = rw length-range_with_len h in
    ap (λ p. get_or (first_links n) p 0) (page_after-first n i (omega arith))
    ∙ get_or-map (λ page. page + 1) (range_with_len 0 n) i 0 0 within
    ∙ ap (λ p. p + 1) (get_or-range_with_len 0 n i 0 (omega arith)) ∙ omega arith

-- a new pool is laid out
pub laid-new : (pages : List (List ℕ)) (next lengths : List ℕ) (n : ℕ) → n < 2 ^ 32
    → pages ≡ replicate n (replicate 1024 0) → next ≡ first_links n → lengths ≡ replicate n 0
    → IsLaidOut pages next lengths 0 n
laid-new pages next lengths n small pages_is next_is lengths_is =
    rw (pages_is, next_is, lengths_is) (record {
      pages_len = length-replicate n (replicate {A = ℕ} 1024 0) ∙ sym (length-first_links n);
      lengths_len = length-replicate n 0 ∙ sym (length-first_links n);
      numbered = rw length-first_links small;
      page_len = λ page h.
          ap length (get_or-replicate n page (replicate {A = ℕ} 1024 0) [] (rw length-replicate at h)) ∙ length-replicate {A = ℕ} 1024 0;
      inside = inside;
      apart = apart;
      total = rw (sum_by-replicate pages_for n 0, length-first_links n) (omega arith);
    })
  where
    none : (page : ℕ) → get_or {A = ℕ} (replicate n 0) page 0 ≡ 0
    none page = elim (cases_lt page n) [
      | inl less ↦ get_or-replicate n page 0 0 less
      | inr past ↦ get_or_past (replicate n 0) page 0 (rw length-replicate past)
    ]

    inside : (c i : ℕ) → i < count (replicate n 0) n c → page_after (first_links n) i (start 0 c) < length (first_links n)
    inside zero i h = rw (page_after-first n i (omega arith), length-first_links n) h
    inside (suc page) i h = absurd (omega (arith, rw none at h))

    apart : (c d i j : ℕ) → i < count (replicate n 0) n c → j < count (replicate n 0) n d
        → page_after (first_links n) i (start 0 c) ≡ page_after (first_links n) j (start 0 d) → (c ≡ d) × (i ≡ j)
    apart zero zero i j hi hj e = (refl, sym (page_after-first n i (omega arith)) ∙ e ∙ page_after-first n j (omega arith))
    apart zero (suc page) i j hi hj e = absurd (omega (arith, rw none at hj))
    apart (suc page) d i j hi hj e = absurd (omega (arith, rw none at hi))
