-- A pool stays laid out as its chains change, and what follows of its runs.
use Rattle.std.proofs.Common.{◌≡◌, ◌≢◌, ℕ, zero, suc, ◌+◌, ◌-◌, ◌<◌, ◌≤◌, ◌⊎◌, List, [], length, get_or, set, None, refl, sym, ◌∙◌, ap, arith, inl, inr, zero-add, sum_by}
use Rattle.std.proofs.lemmas.Bool.{cases_eq, cases_lt}
use Rattle.std.proofs.lemmas.List.{get_or-set_same, get_or-set_other, get_or_past, length-set}
use Rattle.std.proofs.lemmas.List.Sums.{sum_by-set}
use Rattle.cp_pages.specs.Extent.{Extent}
use Rattle.cp_pages.specs.Pages.{pages_for, kept_at, bytes_of, numbers_of, content_of, IsLive, IsPaged, free_pages, taken_pages}
use Rattle.cp_pages.specs.Chain.{page_after, chain, chain_content, page_at}
use Rattle.cp_pages.specs.Layout.{kept_from, runs_from, start, count, IsLaidOut}
use Rattle.cp_pages.proofs.Chains.{page_after-add, page_after-set, get_or-chain, length-chain}
use Rattle.cp_pages.proofs.Runs.{kept_at-runs, length-runs, taken-runs, length-content, some_kept, kept_is, kept_same, runs-set, content-at, content-empty}

-- a place in a chain of the new layout, and the place of the old one that has its page
record Origin (old new : ℕ → ℕ → ℕ) (counts : ℕ → ℕ) (Was : ℕ → ℕ → ℕ → ℕ → Type 0) (c i : ℕ) : Type 0 where
  chain : ℕ
  place : ℕ
  within : place < counts chain
  same : new c i ≡ old chain place
  was : Was c i chain place

-- places that come from different places have different pages
relabelled : (old new : ℕ → ℕ → ℕ) (counts now : ℕ → ℕ) (Was : ℕ → ℕ → ℕ → ℕ → Type 0)
    → ((c d i j : ℕ) → i < counts c → j < counts d → old c i ≡ old d j → (c ≡ d) × (i ≡ j))
    → ((c i : ℕ) → i < now c → Origin old new counts Was c i)
    → ((c i d j c' i' d' j' : ℕ) → Was c i c' i' → Was d j d' j' → c' ≡ d' → i' ≡ j' → (c ≡ d) × (i ≡ j))
    → (c d i j : ℕ) → i < now c → j < now d → new c i ≡ new d j → (c ≡ d) × (i ≡ j)
relabelled old new counts now Was apart origin one c d i j hi hj e =
    let o = origin c i hi in
    let p = origin d j hj in
    let q = apart o.chain p.chain o.place p.place o.within p.within (sym o.same ∙ e ∙ p.same) in
    one c i d j o.chain o.place p.chain p.place o.was p.was q.0 q.1

-- the places that a content takes are the first of the free pages
abbrev IsTaking : ℕ → ℕ → ℕ → ℕ → ℕ → ℕ → Type 0
IsTaking first need c i c' i' =
    ((c ≡ 0) × (c' ≡ 0) × (i' ≡ need + i)) ⊎ (((c ≡ suc first) × (c' ≡ 0) × (i' ≡ i) × (i < need)) ⊎ ((0 < c) × (c ≢ suc first) × (c' ≡ c) × (i' ≡ i)))

-- the places that a run gives back are the first of the free pages then
abbrev IsGiving : ℕ → ℕ → ℕ → ℕ → ℕ → ℕ → Type 0
IsGiving first need c i c' i' =
    ((c ≡ 0) × (c' ≡ suc first) × (i' ≡ i) × (i < need)) ⊎ (((c ≡ 0) × (c' ≡ 0) × (i ≡ need + i')) ⊎ ((0 < c) × (c ≢ suc first) × (c' ≡ c) × (i' ≡ i)))

taking-one : (first need c i d j c' i' d' j' : ℕ) → IsTaking first need c i c' i' → IsTaking first need d j d' j' → c' ≡ d' → i' ≡ j' → (c ≡ d) × (i ≡ j)
taking-one first need c i d j c' i' d' j' p q e f = grind arith

giving-one : (first need c i d j c' i' d' j' : ℕ) → IsGiving first need c i c' i' → IsGiving first need d j d' j' → c' ≡ d' → i' ≡ j' → (c ≡ d) × (i ≡ j)
giving-one first need c i d j c' i' d' j' p q e f = grind arith

module _ (pages : List (List ℕ)) (next lengths : List ℕ) (first free : ℕ) (laid : IsLaidOut pages next lengths first free) where
  -- no run begins at a free page
  pub unused : 0 < free → get_or lengths first 0 ≡ 0
  unused some =
      elim (cases_eq (get_or lengths first 0) 0) [
        | inl none ↦ none
        | inr one ↦
            let q = laid.apart 0 (suc first) 0 0 some (omega (arith, one)) refl in
            absurd (omega (arith, q.0))
      ]

  taking-origin : (len : ℕ) → 0 < len → pages_for len ≤ free → (c i : ℕ)
      → i < count (set lengths first len) (free - pages_for len) c
      → Origin (λ c i. page_after next i (start first c)) (λ c i. page_after next i (start (page_after next (pages_for len) first) c)) (count lengths free) (IsTaking first (pages_for len)) c i
  taking-origin len some room zero i h = record {
    chain = 0;
    place = pages_for len + i;
    within = omega arith;
    same = sym (page_after-add next (pages_for len) i first);
    was = inl (refl, refl, refl);
  }
  taking-origin len some room (suc p) i h =
      let at_free : first < length next = laid.inside 0 0 (omega arith) in
      let here : first < length lengths = omega (arith, laid.lengths_len) in
      elim (cases_eq p first) [
        | inl same ↦
            let less : i < pages_for len = rw (same, get_or-set_same lengths first len 0 here) at h in
            record {
              chain = 0;
              place = i;
              within = omega arith;
              same = ap (page_after next i) same;
              was = inr (inl (ap suc same, refl, refl, less));
            }
        | inr other ↦
            let less : i < pages_for (get_or lengths p 0) = rw (get_or-set_other lengths first p len 0 other) at h in
            record {
              chain = suc p;
              place = i;
              within = less;
              same = refl;
              was = inr (inr (omega arith, λ e. other (omega (arith, e)), refl, refl));
            }
      ]

  -- after a content took the first of the free pages
  pub laid-taken : (fresh : List (List ℕ)) (len : ℕ) → 0 < len → pages_for len ≤ free
      → length fresh ≡ length pages
      → ((page : ℕ) → page < length fresh → length (page_at fresh page) ≡ 1024)
      → IsLaidOut fresh next (set lengths first len) (page_after next (pages_for len) first) (free - pages_for len)
  laid-taken fresh len some room same page_len =
      let at_free : first < length next = laid.inside 0 0 (omega arith) in
      let here : first < length lengths = omega (arith, laid.lengths_len) in
      let none : get_or lengths first 0 ≡ 0 = unused (omega arith) in
      let sums = sum_by-set pages_for lengths first len 0 here in
      record {
        pages_len = same ∙ laid.pages_len;
        lengths_len = length-set lengths first len ∙ laid.lengths_len;
        numbered = laid.numbered;
        page_len = page_len;
        inside = λ c i h. let o = taking-origin len some room c i h in rw o.same (laid.inside o.chain o.place o.within);
        apart = relabelled _ _ (count lengths free) _ (IsTaking first (pages_for len)) laid.apart (taking-origin len some room)
            (taking-one first (pages_for len));
        total = omega (arith, rw none at sums, laid.total);
      }

  -- what is seen then
  pub runs-taken : (fresh : List (List ℕ)) (len : ℕ) (bytes : List ℕ) → 0 < len → pages_for len ≤ free
      → chain_content fresh next (pages_for len) first len ≡ bytes
      → ((page : ℕ) → ((i : ℕ) → i < pages_for len → page_after next i first ≢ page) → page_at fresh page ≡ page_at pages page)
      → runs_from fresh next 0 (set lengths first len)
      ≡ set (runs_from pages next 0 lengths) first (some_kept (chain next (pages_for len) first) bytes)
  runs-taken fresh len bytes some room written others =
      let at_free : first < length next = laid.inside 0 0 (omega arith) in
      runs-set pages fresh next next lengths first len (some_kept (chain next (pages_for len) first) bytes)
      (omega (arith, laid.lengths_len))
      (kept_is fresh next first len some ∙ ap (some_kept (chain next (pages_for len) first)) written)
      (λ page other. kept_same fresh pages next next page (get_or lengths page 0) (λ i h. refl)
      (λ i h. others (page_after next i page) (λ k hk e.
      let q = laid.apart 0 (suc page) k i (omega arith) h e in absurd (omega (arith, q.0)))))

  -- the link of a run's last page is on the way to no other page
  off : (run need c steps : ℕ) → need ≡ pages_for (get_or lengths run 0) → 0 < need → steps ≤ count lengths free c
      → (c ≡ suc run → steps < need)
      → (k : ℕ) → k < steps → page_after next k (start first c) ≢ page_after next (need - 1) run
  off run need c steps need_is some within before k h e =
      let q = laid.apart c (suc run) k (need - 1) (omega arith) (omega arith) e in
      absurd (let early = before q.0 in omega (arith, q.1))

  giving-origin : (run need : ℕ) → need ≡ pages_for (get_or lengths run 0) → 0 < need → (c i : ℕ)
      → i < count (set lengths run 0) (free + need) c
      → Origin (λ c i. page_after next i (start first c)) (λ c i. page_after (set next (page_after next (need - 1) run) first) i (start run c)) (count lengths free) (IsGiving run need) c i
  giving-origin run need need_is some zero i h =
      let last : ℕ = page_after next (need - 1) run in
      let in_next : last < length next = laid.inside (suc run) (need - 1) (omega arith) in
      let back : page_after (set next last first) (need - 1) run ≡ last =
      page_after-set next last first (need - 1) run (off run need (suc run) (need - 1) need_is some (omega arith) (λ _. omega arith)) in
      let steps : need ≡ suc (need - 1) = omega arith in
      let link : page_after (set next last first) need run ≡ first =
      ap (λ m. page_after (set next last first) m run) steps
      ∙ ap (λ p. get_or (set next last first) p 0) back ∙ get_or-set_same next last first 0 in_next in
      elim (cases_lt i need) [
        | inl less ↦ record {
          chain = suc run;
          place = i;
          within = omega arith;
          same = page_after-set next last first i run (off run need (suc run) i need_is some (omega arith) (λ _. less));
          was = inl (refl, refl, refl, less);
        }
        | inr more ↦
            let split : i ≡ need + (i - need) = omega arith in
            record {
              chain = 0;
              place = i - need;
              within = omega arith;
              same = ap (λ m. page_after (set next last first) m run) split
                  ∙ page_after-add (set next last first) need (i - need) run
                  ∙ ap (page_after (set next last first) (i - need)) link
                  ∙ page_after-set next last first (i - need) first (off run need 0 (i - need) need_is some (omega arith) (λ e. absurd (omega (arith, e))));
              was = inr (inl (refl, refl, omega arith));
            }
      ]
  giving-origin run need need_is some (suc p) i h =
      let last : ℕ = page_after next (need - 1) run in
      let in_lengths : run < length lengths = elim (cases_lt run (length lengths)) [
        | inl less ↦ less
        | inr past ↦ absurd (omega (arith, need_is ∙ ap pages_for (get_or_past lengths run 0 past)))
      ] in
      elim (cases_eq p run) [
        | inl same ↦ absurd (omega (arith, rw (same, get_or-set_same lengths run 0 0 in_lengths) at h))
        | inr other ↦
            let less : i < pages_for (get_or lengths p 0) = rw (get_or-set_other lengths run p 0 0 other) at h in
            record {
              chain = suc p;
              place = i;
              within = less;
              same = page_after-set next last first i p (off run need (suc p) i need_is some (omega arith) (λ e. absurd (other (omega (arith, e)))));
              was = inr (inr (omega arith, λ e. other (omega (arith, e)), refl, refl));
            }
      ]

  -- a run that has pages begins at a page of the pool
  pub begins-inside : (run : ℕ) → 0 < get_or lengths run 0 → run < length lengths
  begins-inside run some = elim (cases_lt run (length lengths)) [
    | inl less ↦ less
    | inr past ↦ absurd (omega (arith, get_or_past lengths run 0 past))
  ]

  -- after a run gave its pages back
  pub laid-given : (run need : ℕ) → need ≡ pages_for (get_or lengths run 0) → 0 < need
      → IsLaidOut pages (set next (page_after next (need - 1) run) first) (set lengths run 0) run (free + need)
  laid-given run need need_is some =
      let last : ℕ = page_after next (need - 1) run in
      let same_len : length (set next last first) ≡ length next = length-set next last first in
      let in_lengths : run < length lengths = begins-inside run (omega arith) in
      let sums = sum_by-set pages_for lengths run 0 0 in_lengths in
      record {
        pages_len = laid.pages_len ∙ sym same_len;
        lengths_len = length-set lengths run 0 ∙ laid.lengths_len ∙ sym same_len;
        numbered = rw same_len laid.numbered;
        page_len = laid.page_len;
        inside = λ c i h. let o = giving-origin run need need_is some c i h in rw (o.same, same_len) (laid.inside o.chain o.place o.within);
        apart = relabelled _ _ (count lengths free) _ (IsGiving run need) laid.apart (giving-origin run need need_is some) (giving-one run need);
        total = omega (arith, sums, laid.total, same_len);
      }

  -- what is seen then
  pub runs-given : (run need : ℕ) → need ≡ pages_for (get_or lengths run 0) → 0 < need
      → runs_from pages (set next (page_after next (need - 1) run) first) 0 (set lengths run 0) ≡ set (runs_from pages next 0 lengths) run None
  runs-given run need need_is some =
      let last : ℕ = page_after next (need - 1) run in
      runs-set pages pages next (set next last first) lengths run 0 None (begins-inside run (omega arith)) refl
      (λ page other. kept_same pages pages (set next last first) next page (get_or lengths page 0)
      (λ i h. page_after-set next last first i page (off run need (suc page) i need_is some (omega arith) (λ e. absurd (other (omega (arith, e))))))
      (λ i h. refl))

  -- the length that the pool keeps for a page is that of what is seen there
  length-seen : (page : ℕ) → length (bytes_of (kept_at (runs_from pages next 0 lengths) page)) ≡ get_or lengths page 0
  length-seen page =
      ap (λ kept. length (bytes_of kept)) (kept_at-runs pages next 0 lengths page ∙ ap (λ p. kept_from pages next p (get_or lengths page 0)) (zero-add page))
      ∙ length-content pages next page (get_or lengths page 0)
      (λ i h. laid.page_len (page_after next i page) (rw laid.pages_len (laid.inside (suc page) i h)))

  -- a live run has the length that the pool keeps for its first page
  pub live-len : (run : Extent) → 0 < run.len → IsLive (runs_from pages next 0 lengths) run → get_or lengths run.first 0 ≡ run.len
  live-len run some live =
      sym (length-seen run.first) ∙ sym (ap length (content-at (runs_from pages next 0 lengths) run some)) ∙ live

  -- a live run reads as the bytes of its chain
  pub content-live : (run : Extent) → IsLive (runs_from pages next 0 lengths) run
      → chain_content pages next (pages_for run.len) run.first run.len ≡ content_of (runs_from pages next 0 lengths) run
  content-live run live =
      elim (cases_eq run.len 0) [
        | inl none ↦ ap (λ len. chain_content pages next (pages_for len) run.first len) none ∙ sym (content-empty (runs_from pages next 0 lengths) run none)
        | inr one ↦
            let some : 0 < run.len = omega (arith, one) in
            let len : get_or lengths run.first 0 ≡ run.len = live-len run some live in
            sym (content-at (runs_from pages next 0 lengths) run some
            ∙ ap bytes_of (kept_at-runs pages next 0 lengths run.first
            ∙ ap (λ p. kept_from pages next p (get_or lengths run.first 0)) (zero-add run.first)
            ∙ ap (kept_from pages next run.first) len ∙ kept_is pages next run.first run.len some))
      ]

  -- the free pages are those that no run has
  pub total-seen : free + taken_pages (runs_from pages next 0 lengths) ≡ length (runs_from pages next 0 lengths)
  total-seen =
      let taken : taken_pages (runs_from pages next 0 lengths) ≡ sum_by pages_for lengths =
      taken-runs pages next 0 lengths (λ page. length-content pages next (0 + page) (get_or lengths page 0)
      (λ i h. laid.page_len (page_after next i (0 + page)) (rw (zero-add, laid.pages_len) (laid.inside (suc page) i h)))) in
      rw (taken, length-runs pages next 0 lengths) (laid.total ∙ sym laid.lengths_len)

  pub free-seen : free ≡ free_pages (runs_from pages next 0 lengths)
  free-seen = omega (arith, total-seen)

  -- no run is seen at a free page
  pub none-seen : 0 < free → kept_at (runs_from pages next 0 lengths) first ≡ None
  none-seen some =
      kept_at-runs pages next 0 lengths first ∙ ap (λ len. kept_from pages next (0 + first) len) (unused some)

  seen : (page : ℕ) → numbers_of (kept_at (runs_from pages next 0 lengths) page) ≡ chain next (pages_for (get_or lengths page 0)) page
  seen page =
      ap numbers_of (kept_at-runs pages next 0 lengths page ∙ ap (λ p. kept_from pages next p (get_or lengths page 0)) (zero-add page))
      ∙ numbers_is (get_or lengths page 0)
    where
      numbers_is : (len : ℕ) → numbers_of (kept_from pages next page len) ≡ chain next (pages_for len) page
      numbers_is zero = refl
      numbers_is (suc len) = refl

  -- no page is in two places
  pub is-paged : IsPaged (runs_from pages next 0 lengths)
  is-paged = record {
    counted = λ page. ap length (seen page) ∙ length-chain next (pages_for (get_or lengths page 0)) page ∙ sym (ap pages_for (length-seen page));
    begins = λ page h.
        ap (λ ps. get_or ps 0 0) (seen page)
        ∙ get_or-chain next (pages_for (get_or lengths page 0)) page 0 0 (rw (seen page, length-chain next (pages_for (get_or lengths page 0)) page) at h);
    inside = λ page i d h.
        let less : i < pages_for (get_or lengths page 0) = rw (seen page, length-chain next (pages_for (get_or lengths page 0)) page) at h in
        rw (seen page, get_or-chain next (pages_for (get_or lengths page 0)) page i d less, length-runs pages next 0 lengths, laid.lengths_len)
        (laid.inside (suc page) i less);
    apart = λ a b i j hi hj e.
        let at_a : i < pages_for (get_or lengths a 0) = rw (seen a, length-chain next (pages_for (get_or lengths a 0)) a) at hi in
        let at_b : j < pages_for (get_or lengths b 0) = rw (seen b, length-chain next (pages_for (get_or lengths b 0)) b) at hj in
        let q = laid.apart (suc a) (suc b) i j at_a at_b
        (sym (get_or-chain next (pages_for (get_or lengths a 0)) a i 0 at_a) ∙ sym (ap (λ ps. get_or ps i 0) (seen a))
        ∙ e ∙ ap (λ ps. get_or ps j 0) (seen b) ∙ get_or-chain next (pages_for (get_or lengths b 0)) b j 0 at_b) in
        (omega (arith, q.0), q.1);
  }
