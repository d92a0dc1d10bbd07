-- The contents stay right as a put comes.
use Rattle.std.proofs.Common.{◌≡◌, ◌≢◌, ℕ, ◌+◌, ◌-◌, ◌<◌, ◌≤◌, Bool, true, false, cond, eqb, ◌&&◌, ◌||◌, List, [], ◌∷◌, ◌++◌, length, Option, Some, None, Ok, inl, inr, refl, sym, ap, subst, ◌∙◌, arith}
use Rattle.std.specs.List.{list_any}
use Rattle.std.proofs.lemmas.List.{length-set}
use Rattle.std.proofs.lemmas.Bool.{cases_eq, eq-eqb, ne_eqb}
use Rattle.sha2.specs.Sha256.{sha256}
use Rattle.cp_statements.specs.Entry.{Entry, entry_of}
use Rattle.cp_chain.specs.Legal.{Put, put_by}
use Rattle.cp_core.specs.Life.{RowItem, row_item, rows_in}
use Rattle.cp_core.specs.Calls.{latest_of, puts_block, pages_taken}
use Rattle.cp_core.specs.Kept.{IsContentOf}
use Rattle.cp_core.specs.declared.item.Item.{Item}
use Rattle.cp_core.proofs.CallLemmas.{latest_push, latest_other}
use Rattle.cp_pages.specs.Extent.{Extent}
use Rattle.cp_pages.specs.Pages.{Kept, Pages, pages_for, kept_at, content_of, IsLive, IsPlaced, with_run, taken_pages}
use Rattle.cp_pages.proofs.Runs.{with_run-empty, with_run-at}
use Rattle.cp_pages.proofs.Held.{apart-new, apart-sym, content-apart, content-placed, taken-placed, taken-given}
use Rattle.cp_shard.specs.Standings.{content_in}
use Rattle.cp_shard.specs.Contents.{last_pages, IsLiveRun, AreApartRuns, HasContents}
use Rattle.cp_shard.specs.Released.{IsReleased}
use Rattle.cp_shard.proofs.PutPages.{any_push, last_push, puts_read, taken_put}
use Rattle.cp_shard.proofs.Holding.{rows_row}

-- ---- one run is placed, and another one given back

length-with : (pool : Pages) (run : Extent) (now : Option Kept) → length (with_run pool run now) ≡ length pool
length-with pool run now = elim (cases_eq run.len 0) [
  | inl none ↦ ap length (with_run-empty pool run now none)
  | inr one ↦ let some : 0 < run.len = omega (arith, one) in ap length (with_run-at pool run now some) ∙ length-set pool run.first now
]

-- what happens to the pool
pub record IsExchanged (old new : Pages) (bytes : List ℕ) (run : Extent) (gone : Option Extent) : Type 0 where
  pub more : Pages
  pub placed : IsPlaced old more bytes run
  pub released : IsReleased more new gone

length-released : (more new : Pages) (gone : Option Extent) → IsReleased more new gone → length new ≡ length more
length-released more new None same = ap length same
length-released more new (Some run) given = ap length given ∙ length-with more run None

pub length-exchanged : (old new : Pages) (bytes : List ℕ) (run : Extent) (gone : Option Extent) → IsExchanged old new bytes run gone → length new ≡ length old
length-exchanged old new bytes run gone x = length-released x.more new gone x.released ∙ ap length x.placed.others ∙ length-with old run (kept_at x.more run.first)

-- a run that was live before, or the one that was placed, reads as it did, if the run that went is
-- another one
stays-released : (more new : Pages) (gone : Option Extent) (run : Extent) → IsReleased more new gone → AreApartRuns gone (Some run) → content_of new run ≡ content_of more run
stays-released more new None run same apart = ap (λ pool. content_of pool run) same
stays-released more new (Some other) run given apart = ap (λ pool. content_of pool run) given ∙ content-apart more other run None apart

pub placed-apart : (old more : Pages) (bytes : List ℕ) (run : Extent) (other : Option Extent) → IsPlaced old more bytes run → IsLiveRun old other → AreApartRuns other (Some run)
placed-apart old more bytes run None placed live = tt
placed-apart old more bytes run (Some other) placed live = apart-sym run other (apart-new old run other placed.is_new live)

pub content-new : (old new : Pages) (bytes : List ℕ) (run : Extent) (gone : Option Extent) → IsExchanged old new bytes run gone → IsLiveRun old gone → content_of new run ≡ bytes
content-new old new bytes run gone x live = stays-released x.more new gone run x.released (placed-apart old x.more bytes run gone x.placed live) ∙ x.placed.content

pub live-new : (old new : Pages) (bytes : List ℕ) (run : Extent) (gone : Option Extent) → IsExchanged old new bytes run gone → IsLiveRun old gone → IsLive new run
live-new old new bytes run gone x live = ap length (content-new old new bytes run gone x live) ∙ sym x.placed.len

pub content-other : (old new : Pages) (bytes : List ℕ) (run : Extent) (gone other : Option Extent) → IsExchanged old new bytes run gone → IsLiveRun old other → AreApartRuns gone other → content_in new other ≡ content_in old other
content-other old new bytes run gone None x live apart = refl
content-other old new bytes run gone (Some other) x live apart = stays-released x.more new gone other x.released apart ∙ content-placed old x.more bytes run other x.placed live

pub live-other : (old new : Pages) (bytes : List ℕ) (run : Extent) (gone other : Option Extent) → IsExchanged old new bytes run gone → IsLiveRun old other → AreApartRuns gone other → IsLiveRun new other
live-other old new bytes run gone None x live apart = tt
live-other old new bytes run gone (Some other) x live apart = ap length (content-other old new bytes run gone (Some other) x live apart) ∙ live

-- the pages of the run that went
gone_pages : (old : Pages) (gone : Option Extent) (n : ℕ) → IsLiveRun old gone → n ≡ pages_for (length (content_in old gone)) → (more new : Pages) → (IsLiveRun more gone) → IsReleased more new gone → taken_pages new + n ≡ taken_pages more
gone_pages old None n live is more new still same = omega (arith, is, ap taken_pages same)
gone_pages old (Some run) n live is more new still given =
    let count : n ≡ pages_for run.len = is ∙ ap pages_for live in
    ap (λ m. taken_pages new + m) count ∙ taken-given more new run still given

pub still-live : (old more : Pages) (bytes : List ℕ) (run : Extent) (gone : Option Extent) → IsPlaced old more bytes run → IsLiveRun old gone → IsLiveRun more gone
still-live old more bytes run None placed live = tt
still-live old more bytes run (Some other) placed live = ap length (content-placed old more bytes run other placed live) ∙ live

pub taken-exchanged : (old new : Pages) (bytes : List ℕ) (run : Extent) (gone : Option Extent) (n : ℕ) → IsExchanged old new bytes run gone → IsLiveRun old gone → n ≡ pages_for (length (content_in old gone)) → taken_pages new + n ≡ taken_pages old + pages_for (length bytes)
taken-exchanged old new bytes run gone n x live is =
    gone_pages old gone n live is x.more new (still-live old x.more bytes run gone x.placed live) x.released ∙ taken-placed old x.more bytes run x.placed

-- ---- a put

abbrev pub with_content : ℕ → Extent → (ℕ → Option Extent) → ℕ → Option Extent
with_content block run runs b = cond (eqb block b) (Some run) (runs b)

module _ (items : List Item) (r : RowItem) (e : Entry) (pages : ℕ) (runs : ℕ → Option Extent) (old new : Pages) (bytes : List ℕ) (run : Extent)
    (reads : entry_of r.entry ≡ Ok e) (kind : eqb e.kind 1 ≡ true) (h : HasContents items pages runs old) (x : IsExchanged old new bytes run (runs e.block))
    (room : r.pages ≡ pages_for (length bytes)) (some : 1 ≤ e.version) (hashed : sha256 bytes ≡ e.content) where
  here : (b : ℕ) → e.block ≡ b → with_content e.block run runs b ≡ Some run
  here b same = ap (λ t. cond t (Some run) (runs b)) (eq-eqb e.block b same)

  there : (b : ℕ) → (e.block ≡ b → ⊥) → with_content e.block run runs b ≡ runs b
  there b other = ap (λ t. cond t (Some run) (runs b)) (ne_eqb e.block b other)

  is_live : IsLive new run
  is_live = live-new old new bytes run (runs e.block) x (h.live e.block)

  reads_as : content_of new run ≡ bytes
  reads_as = content-new old new bytes run (runs e.block) x (h.live e.block)

  stays : (b : ℕ) → (e.block ≡ b → ⊥) → content_in new (runs b) ≡ content_in old (runs b)
  stays b other = content-other old new bytes run (runs e.block) (runs b) x (h.live b) (h.apart e.block b other)

  -- each block reads as before, and the put's as its content
  pub content_put : (b : ℕ) → content_in new (with_content e.block run runs b) ≡ cond (eqb e.block b) bytes (content_in old (runs b))
  content_put b = elim (cases_eq e.block b) [
    | inl same ↦ ap (content_in new) (here b same) ∙ reads_as ∙ ap (λ t. cond t bytes (content_in old (runs b))) (sym (eq-eqb e.block b same))
    | inr other ↦ ap (content_in new) (there b other) ∙ stays b other ∙ ap (λ t. cond t bytes (content_in old (runs b))) (sym (ne_eqb e.block b other))
  ]

  lives : (b : ℕ) → IsLiveRun new (with_content e.block run runs b)
  lives b = elim (cases_eq e.block b) [
    | inl same ↦ subst (IsLiveRun new) (sym (here b same)) is_live
    | inr other ↦ subst (IsLiveRun new) (sym (there b other)) (live-other old new bytes run (runs e.block) (runs b) x (h.live b) (h.apart e.block b other))
  ]

  turned : (a : Option Extent) → AreApartRuns a (Some run) → AreApartRuns (Some run) a
  turned None t = tt
  turned (Some a) t = apart-sym a run t

  aparts : (a b : ℕ) → a ≢ b → AreApartRuns (with_content e.block run runs a) (with_content e.block run runs b)
  aparts a b differ = elim (cases_eq e.block a) [
    | inl at ↦ subst (λ o. AreApartRuns o (with_content e.block run runs b)) (sym (here a at))
        (subst (AreApartRuns (Some run)) (sym (there b (λ q. differ (sym at ∙ q)))) (turned (runs b) (placed-apart old x.more bytes run (runs b) x.placed (h.live b))))
    | inr off ↦ subst (λ o. AreApartRuns o (with_content e.block run runs b)) (sym (there a off)) (elim (cases_eq e.block b) [
      | inl at ↦ subst (AreApartRuns (runs a)) (sym (here b at)) (placed-apart old x.more bytes run (runs a) x.placed (h.live a))
      | inr away ↦ subst (AreApartRuns (runs a)) (sym (there b away)) (h.apart a b differ)
    ])
  ]

  puts_is : (b : ℕ) → puts_block b r ≡ eqb e.block b
  puts_is b = puts_read r e b reads ∙ ap (λ t. t && eqb e.block b) kind

  lasts : (b : ℕ) → last_pages (rows_in (items ++ row_item r ∷ [])) b ≡ cond (eqb e.block b) r.pages (last_pages (rows_in items) b)
  lasts b = ap (λ rows. last_pages rows b) (rows_row items r) ∙ last_push (rows_in items) r b ∙ ap (λ t. cond t r.pages (last_pages (rows_in items) b)) (puts_is b)

  counts : (t : Bool) (b : ℕ) → last_pages (rows_in items) b ≡ pages_for (length (content_in old (runs b))) → cond t r.pages (last_pages (rows_in items) b) ≡ pages_for (length (cond t bytes (content_in old (runs b))))
  counts true b is = room
  counts false b is = is

  any_is : (b : ℕ) → list_any (puts_block b) (rows_in (items ++ row_item r ∷ [])) ≡ (list_any (puts_block b) (rows_in items) || eqb e.block b)
  any_is b = ap (list_any (puts_block b)) (rows_row items r) ∙ any_push (rows_in items) r b ∙ ap (λ t. list_any (puts_block b) (rows_in items) || t) (puts_is b)

  left_none : (t u : Bool) → (t || u) ≡ false → (t ≡ false) × (u ≡ false)
  left_none true u q = absurd cc
  left_none false u q = (refl, q)

  none_yet : (b : ℕ) → list_any (puts_block b) (rows_in (items ++ row_item r ∷ [])) ≡ false → content_in new (with_content e.block run runs b) ≡ []
  none_yet b none =
      let parts = left_none _ _ (sym (any_is b) ∙ none) in
      content_put b ∙ ap (λ t. cond t bytes (content_in old (runs b))) parts.1 ∙ h.unwritten b parts.0

  hashes : (b : ℕ) → IsContentOf (latest_of (items ++ row_item r ∷ []) b) (content_in new (with_content e.block run runs b))
  hashes b = elim (cases_eq e.block b) [
    | inl same ↦
        let version : latest_of (items ++ row_item r ∷ []) b ≡ put_by e = latest_push items r e b reads same ∙ ap (λ t. cond t (put_by e) (latest_of items b)) kind in
        let content : content_in new (with_content e.block run runs b) ≡ bytes = ap (content_in new) (here b same) ∙ reads_as in
        subst (λ (p : Put). IsContentOf p (content_in new (with_content e.block run runs b))) (sym version)
        (subst (IsContentOf (put_by e)) (sym content) (record { at_first = λ none. absurd (omega (arith, none, some)); hashed = λ one. hashed }))
    | inr other ↦
        let content : content_in new (with_content e.block run runs b) ≡ content_in old (runs b) = ap (content_in new) (there b other) ∙ stays b other in
        subst (λ (p : Put). IsContentOf p (content_in new (with_content e.block run runs b))) (sym (latest_other items r e b reads other))
        (subst (IsContentOf (latest_of items b)) (sym content) (h.hashed b))
  ]

  takes : taken_pages new ≡ pages_taken (rows_in (items ++ row_item r ∷ []))
  takes =
      let went : taken_pages new + last_pages (rows_in items) e.block ≡ taken_pages old + pages_for (length bytes) =
      taken-exchanged old new bytes run (runs e.block) (last_pages (rows_in items) e.block) x (h.live e.block) (h.counted e.block) in
      let came : pages_taken (rows_in items ++ r ∷ []) + last_pages (rows_in items) e.block ≡ pages_taken (rows_in items) + r.pages = taken_put (rows_in items) r e reads kind in
      let same : taken_pages new ≡ pages_taken (rows_in items ++ r ∷ []) = omega (arith, went, came, h.taken, room) in
      same ∙ ap pages_taken (sym (rows_row items r))

  pub has_put : HasContents (items ++ row_item r ∷ []) pages (with_content e.block run runs) new
  has_put = record {
    len = length-exchanged old new bytes run (runs e.block) x ∙ h.len;
    live = lives;
    apart = aparts;
    taken = takes;
    counted = λ b. lasts b ∙ counts (eqb e.block b) b (h.counted b) ∙ ap (λ c. pages_for (length c)) (sym (content_put b));
    unwritten = none_yet;
    hashed = hashes;
  }
