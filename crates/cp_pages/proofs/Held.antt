-- What a caller that keeps several runs needs: other runs stay as they are.
use Rattle.std.proofs.Common.{◌≡◌, ℕ, ◌+◌, ◌<◌, List, [], ◌∷◌, length, set, Option, None, sym, ◌∙◌, ap, arith, inl, inr, add-zero}
use Rattle.std.proofs.lemmas.Bool.{cases_eq, cases_lt}
use Rattle.std.proofs.lemmas.List.{get_or-set_other, get_or_past, length-set}
use Rattle.std.proofs.lemmas.List.Sums.{sum_by-set}
use Rattle.cp_pages.specs.Extent.{Extent}
use Rattle.cp_pages.specs.Pages.{Kept, Pages, pages_for, kept_at, bytes_of, content_of, IsLive, AreApart, IsNew, IsPlaced, IsGivenBack, with_run, taken_pages}
use Rattle.cp_pages.specs.History.{Placed, GivenBack, LiveRunsStay, NewRunsAreApart}
use Rattle.cp_pages.proofs.Runs.{content-empty, content-at, with_run-empty, with_run-at}

-- a run is apart from each that is live, where none begins at its first page
pub apart-new : (pool : Pages) (run other : Extent) → IsNew pool run → IsLive pool other → AreApart run other
apart-new pool run other is_new live some some_other same =
    let none : bytes_of (kept_at pool other.first) ≡ [] = ap bytes_of (ap (kept_at pool) (sym same) ∙ is_new some) in
    let len : length (content_of pool other) ≡ 0 = ap length (content-at pool other some_other ∙ none) in
    absurd (omega (arith, live, len))

-- apart is the same either way round
pub apart-sym : (run other : Extent) → AreApart run other → AreApart other run
apart-sym run other apart some_other some same = apart some some_other (sym same)

-- what is placed is live
pub live-placed : (old new : Pages) (bytes : List ℕ) (run : Extent) → IsPlaced old new bytes run → IsLive new run
live-placed old new bytes run placed = ap length placed.content ∙ sym placed.len

-- what happens at one run leaves each run that is apart from it as it was
pub content-apart : (pool : Pages) (run other : Extent) (now : Option Kept) → AreApart run other
    → content_of (with_run pool run now) other ≡ content_of pool other
content-apart pool run other now apart =
    elim (cases_eq run.len 0) [
      | inl none ↦ ap (λ pool. content_of pool other) (with_run-empty pool run now none)
      | inr one ↦ elim (cases_eq other.len 0) [
        | inl none ↦ content-empty (with_run pool run now) other none ∙ sym (content-empty pool other none)
        | inr also ↦
            let some : 0 < run.len = omega (arith, one) in
            let some_other : 0 < other.len = omega (arith, also) in
            ap (λ pool. content_of pool other) (with_run-at pool run now some)
            ∙ content-at (set pool run.first now) other some_other
            ∙ ap bytes_of (get_or-set_other pool run.first other.first now None (λ e. apart some some_other (sym e)))
            ∙ sym (content-at pool other some_other)
      ]
    ]

-- placing a content leaves each live run as it was
pub content-placed : (old new : Pages) (bytes : List ℕ) (run other : Extent) → IsPlaced old new bytes run → IsLive old other
    → content_of new other ≡ content_of old other
content-placed old new bytes run other placed live =
    ap (λ pool. content_of pool other) placed.others
    ∙ content-apart old run other (kept_at new run.first) (apart-new old run other placed.is_new live)

-- a run that is not empty begins at a page of the pool, if it reads as its bytes
inside : (pool : Pages) (run : Extent) → 0 < run.len → IsLive pool run → run.first < length pool
inside pool run some live = elim (cases_lt run.first (length pool)) [
  | inl less ↦ less
  | inr past ↦
      let len : length (content_of pool run) ≡ 0 = ap length (content-at pool run some ∙ ap bytes_of (get_or_past pool run.first None past)) in
      absurd (omega (arith, live, len))
]

-- a content takes the pages that it needs
pub taken-placed : (old new : Pages) (bytes : List ℕ) (run : Extent) → IsPlaced old new bytes run
    → taken_pages new ≡ taken_pages old + pages_for (length bytes)
taken-placed old new bytes run placed =
    elim (cases_eq run.len 0) [
      | inl none ↦
          let same : taken_pages new ≡ taken_pages old = ap taken_pages (placed.others ∙ with_run-empty old run (kept_at new run.first) none) in
          omega (arith, same, placed.len)
      | inr one ↦
          let some : 0 < run.len = omega (arith, one) in
          let now : Option Kept = kept_at new run.first in
          let others : new ≡ set old run.first now = placed.others ∙ with_run-at old run now some in
          let bytes_is : bytes_of now ≡ bytes = sym (content-at new run some) ∙ placed.content in
          let live : IsLive new run = live-placed old new bytes run placed in
          let within : run.first < length old = rw (ap length others ∙ length-set old run.first now) at (inside new run some live) in
          let sums = sum_by-set (λ kept. pages_for (length (bytes_of kept))) old run.first now None within in
          let summed = rw (placed.is_new some, bytes_is) at sums in
          rw (ap taken_pages others) (sym (add-zero (taken_pages (set old run.first now))) ∙ summed)
    ]

-- a run gives back the pages that its content needs
pub taken-given : (old new : Pages) (run : Extent) → IsLive old run → IsGivenBack old new run
    → taken_pages new + pages_for run.len ≡ taken_pages old
taken-given old new run live given =
    elim (cases_eq run.len 0) [
      | inl none ↦
          let same : taken_pages new ≡ taken_pages old = ap taken_pages (given ∙ with_run-empty old run None none) in
          omega (arith, same, none)
      | inr one ↦
          let some : 0 < run.len = omega (arith, one) in
          let others : new ≡ set old run.first None = given ∙ with_run-at old run None some in
          let len : length (bytes_of (kept_at old run.first)) ≡ run.len = sym (ap length (content-at old run some)) ∙ live in
          let sums = sum_by-set (λ kept. pages_for (length (bytes_of kept))) old run.first None None (inside old run some live) in
          let summed = rw len at sums in
          rw (ap taken_pages others) (summed ∙ add-zero (taken_pages old))
    ]

pub live_runs_stay : LiveRunsStay
live_runs_stay old new [] run live same spares = (rw same live, ap (λ pool. content_of pool run) same)
live_runs_stay old new (Placed bytes other ∷ changes) run live (next, (placed, along)) spares =
    let kept : content_of next run ≡ content_of old run = content-placed old next bytes other run placed live in
    let rest = live_runs_stay next new changes run (ap length kept ∙ live) along spares.1 in
    (rest.0, rest.1 ∙ kept)
live_runs_stay old new (GivenBack other ∷ changes) run live (next, (given, along)) spares =
    let kept : content_of next run ≡ content_of old run =
    ap (λ pool. content_of pool run) given.1 ∙ content-apart old other run None spares.0 in
    let rest = live_runs_stay next new changes run (ap length kept ∙ live) along spares.1 in
    (rest.0, rest.1 ∙ kept)

pub new_runs_are_apart : NewRunsAreApart
new_runs_are_apart old new bytes run other placed live = apart-new old run other placed.is_new live
