-- What a look-up in a shard's maps says.
use Rattle.std.proofs.Common.{◌≡◌, ℕ, List, ◌++◌, length, take, Option, Some, None, sym, ap, subst, ◌∙◌, arith}
use Rattle.std.specs.List.{slice_get}
use Rattle.std.specs.BTreeMap.{BTreeMap, get}
use Rattle.std.specs.Ordering.{nat_cmp}
use Rattle.std.proofs.lemmas.List.{take-append-le, take_all}
use Rattle.cp_core.specs.Calls.{content_at}
use Rattle.cp_core.specs.declared.item.Item.{Item}
use Rattle.cp_pages.specs.Pages.{Pages, IsLive}
use Rattle.cp_pages.specs.Extent.{Extent}
use Rattle.cp_shard.specs.declared.key.Key.{Key}
use Rattle.cp_shard.specs.declared.call.Call.{Call}
use Rattle.cp_shard.specs.declared.standing.Standing.{Standing}
use Rattle.cp_shard.specs.Contents.{contents_of, put_blocks, IsLiveRun, HasContents}
use Rattle.cp_shard.specs.Places.{found_at, IsPlace, IsCallOf}
use Rattle.cp_shard.specs.Standings.{run_or, run_at, content_in}
use Rattle.cp_shard.proofs.Holding.{content_seen}

pub place_none : (store : List ℕ) (items : List Item) (calls : List Call) (k : Key) (o : Option ℕ) → IsPlace store items calls k o → None ≡ o → found_at items k ≡ None
place_none store items calls k None h e = h
place_none store items calls k (Some p) h e = absurd cc

pub place_some : (store : List ℕ) (items : List Item) (calls : List Call) (k : Key) (o : Option ℕ) (p : ℕ) (x : Option Call) → IsPlace store items calls k o → Some p ≡ o → x ≡ slice_get calls p → IsCallOf store items k x
place_some store items calls k None p x h e is = absurd cc
place_some store items calls k (Some q) p x h e is =
    let same : p ≡ q = cc in
    subst (IsCallOf store items k) (sym (is ∙ ap (slice_get calls) same ∙ h.1)) h.2

pub front_of : (out more : List ℕ) (n : ℕ) → n ≡ length out → take n (out ++ more) ≡ out
front_of out more n e = take-append-le n out more (omega (arith, e)) ∙ take_all n out (omega (arith, e))

-- a block's run, by what the map has for it
pub run_none : (standings : BTreeMap ℕ Standing) (b : ℕ) → None ≡ get nat_cmp standings b → run_at standings b ≡ None
run_none standings b e = ap run_or (sym e)

pub run_some : (standings : BTreeMap ℕ Standing) (b : ℕ) (s : Standing) → Some s ≡ get nat_cmp standings b → run_at standings b ≡ s.run
run_some standings b s e = ap run_or (sym e)

-- the content that is seen is that of the block's run
pub content_by : (items : List Item) (pages : ℕ) (runs : ℕ → Option Extent) (pool : Pages) (b : ℕ) (o : Option Extent) (content : List ℕ) → HasContents items pages runs pool → runs b ≡ o → content ≡ content_in pool o
    → content ≡ content_at (contents_of (put_blocks items) (λ b. content_in pool (runs b))) b
content_by items pages runs pool b o content h is reads = reads ∙ ap (content_in pool) (sym is) ∙ sym (content_seen items pages runs pool b h)

pub live_by : (items : List Item) (pages : ℕ) (runs : ℕ → Option Extent) (pool : Pages) (b : ℕ) (run : Extent) → HasContents items pages runs pool → runs b ≡ Some run → IsLive pool run
live_by items pages runs pool b run h is = subst (IsLiveRun pool) is (h.live b)
