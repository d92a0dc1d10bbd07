-- Every event keeps the store honest, and so does every list of events.
use Rattle.std.proofs.Common.{◌≡◌, ℕ, ◌+◌, ◌-◌, ◌<◌, ◌≤◌, Bool, true, false, cond, eqb, leb, List, [], ◌∷◌, ◌++◌, length, Option, Some, None, inl, inr, refl, sym, ap, subst, ◌∙◌, arith}
use Rattle.std.specs.List.{AllByRecursion}
use Rattle.std.proofs.lemmas.List.{length-set, get_or-replicate, get_or_past}
use Rattle.std.proofs.lemmas.Bool.{cases_eq, cases_lt, eqb-true, eqb-false}
use Rattle.cp_core.specs.declared.close_refusal.CloseRefusal.TheVariants as refusal
use Rattle.cp_chain.proofs.Each.{each_nil, nil_is_not}
use Rattle.cp_chain.specs.Legal.{Put, latest}
use Rattle.cp_core.proofs.CallLemmas.{latest_freeze, step_new}
use Rattle.cp_core.proofs.EpochLemmas.{freezes_more, up_to_freeze}
use Rattle.cp_core.proofs.LifeLemmas.{SameBefore, at_each, at_other, at_same, cuts_stay, freezes_grow, items_at, keeps_new, old_or, rows_in-freeze, seals_stay}
use Rattle.cp_core.proofs.ListLemmas.{text_front, text_next}
use Rattle.cp_core.proofs.ShardLemmas.{honest_freeze, honest_nil}
use Rattle.cp_core.specs.Calls.{Effect, content_at, latest_of, shard_step}
use Rattle.cp_core.specs.Calls.Effect.{New, Same}
use Rattle.cp_core.specs.Honest.{Honest, HonestShard, IsSealOf, ListsAgree, RowAt}
use Rattle.cp_core.specs.Kept.{Agree, HaveNext, IsContentOf, Keeps, PhaseFits}
use Rattle.cp_core.specs.Life.{RowItem, freezes, items_of, list_text, row_item, rows_in, rows_of, shard_of}
use Rattle.cp_core.specs.Machine.{Admissible, HasContent, SpellsNext, State, after_call, after_freeze, appended, begun, next_leaf, next_or, opening, run, run_from, step, step_in}
use Rattle.cp_core.specs.Requests.{RequestFits, block_of, store_of}
use Rattle.cp_core.specs.Sealing.{families_at, seal_at}
use Rattle.cp_core.specs.Store.{SpellsFamilies, Store, StoreFits}
use Rattle.cp_core.specs.declared.answer.Answer.{Answer}
use Rattle.cp_core.specs.declared.answer.Answer.TheVariants.{CloseRefused, Done, NotClosed, NotNow, Text}
use Rattle.cp_core.specs.declared.chronicle.Chronicle.{Chronicle}
use Rattle.cp_core.specs.declared.event.Event.{Event}
use Rattle.cp_core.specs.declared.event.Event.TheVariants.{Begin, Call, Freeze, Publish, Read, Seal}
use Rattle.cp_core.specs.declared.item.Item.{Item}
use Rattle.cp_core.specs.declared.item.Item.TheVariants.{Frozen}
use Rattle.cp_core.specs.declared.phase.Phase.{Phase}
use Rattle.cp_core.specs.declared.phase.Phase.TheVariants.{Full, Half, Running, Sealed}
use Rattle.cp_core.specs.declared.request.Request.{Request}
use Rattle.cp_core.specs.declared.seal_item.SealItem.{SealItem}

-- ---- Call

keeps_outcome : (s : Store) (st : State) (pass : ℕ) (request : Request) (o : Effect) → StoreFits s → Keeps s st → store_of request ≡ s.id → RequestFits request → HasContent request
    → shard_step s.id s.pages s.families (items_of st.life (block_of request)) st.contents pass request (next_leaf s st.drawn) ≡ o → Keeps s (after_call st request o).1
keeps_outcome s st pass request (Same answer) small keeps names fits brings e = keeps
keeps_outcome s st pass request (New answer row) small keeps names fits brings e =
    keeps_new s st pass request row small keeps names fits brings answer (step_new s.id s.pages s.families (items_of st.life (block_of request)) st.contents pass request (next_leaf s st.drawn) answer row e)

-- ---- Freeze

no_row : (n : ℕ) (next : List ℕ) (row : RowItem) → row_item row ≡ Frozen n next → ⊥
no_row n next row e = cc

keeps_freeze : (s : Store) (st : State) (e k : ℕ) → Keeps s st → st.phase ≡ Half e k → Keeps s (record st { life = appended st.life k (Frozen e st.kept); phase = after_freeze e k })
keeps_freeze s st e k keeps at =
    record { honest = honest; phase = go (eqb k 15) refl; kept = keeps.kept; drawn = λ j front x a. keeps.drawn j front x (old j front x a); drawn_within = keeps.drawn_within; counted = rows_counted; contents = contents }
  where
    h : Honest s st.life
    h = keeps.honest

    p : PhaseFits s st.life st.kept (Half e k) st.published
    p = subst (λ (q : Phase). PhaseFits s st.life st.kept q st.published) at keeps.phase

    lt : k < 16
    lt = p.2

    more : Chronicle
    more = appended st.life k (Frozen e st.kept)

    now : e ≡ freezes (items_at st.life k) + 1
    now = omega (arith, p.1 k (omega arith) lt)

    here : HonestShard s k (items_at st.life k ++ Frozen e st.kept ∷ [])
    here = honest_freeze s k (items_at st.life k) e st.kept (h.shards k lt) now keeps.kept

    old : (j : ℕ) (front : List Item) (x : RowItem) → RowAt more j front x → RowAt st.life j front x
    old j front x a = elim (old_or st.life k (Frozen e st.kept) j front x h.sixteen lt a) [ inl w ↦ w | inr w ↦ absurd (no_row e st.kept x w.2) ]

    before : (front : List SealItem) (x : SealItem) → IsSealOf s st.life front x → SameBefore st.life more x.epoch
    before front x g = record {
      cuts = cuts_stay st.life k (Frozen e st.kept) x.epoch h.sixteen lt (λ b. up_to_freeze (items_at st.life k) e st.kept b x.epoch);
      frozen = freezes_grow st.life k (Frozen e st.kept) h.sixteen lt (omega (arith, freezes_more (items_at st.life k) e st.kept));
      lists = λ first. at_each st.life k (Frozen e st.kept) (λ i xs. list_text first xs x.epoch ≡ list_text first (items_at st.life i) x.epoch) h.sixteen lt (λ i ok. refl) (text_front first (items_at st.life k) (Frozen e st.kept ∷ []) x.epoch (omega (arith, g.frozen k lt)));
    }

    rows_counted : (j : ℕ) → j < 16 → length (rows_in (items_at more j)) ≤ st.drawn
    rows_counted j in16 = at_each st.life k (Frozen e st.kept) (λ i xs. length (rows_in xs) ≤ st.drawn) h.sixteen lt keeps.counted (omega (arith, rows_in-freeze (items_at st.life k) e st.kept, keeps.counted k lt)) j in16

    contents : (b : ℕ) → IsContentOf (latest_of (items_of more b) b) (content_at st.contents b)
    contents b =
        elim (cases_eq (shard_of b) k) [
          | inl same ↦
              let now : items_of more b ≡ items_at st.life k ++ Frozen e st.kept ∷ [] = ap (items_at more) same ∙ at_same st.life k (Frozen e st.kept) h.sixteen lt in
              let puts : latest_of (items_of more b) b ≡ latest_of (items_of st.life b) b = ap (λ (xs : List Item). latest_of xs b) now ∙ latest_freeze (items_at st.life k) e st.kept b ∙ ap (λ (j : ℕ). latest_of (items_at st.life j) b) (sym same) in
              subst (λ (p : Put). IsContentOf p (content_at st.contents b)) (sym puts) (keeps.contents b)
          | inr ne ↦ subst (λ (xs : List Item). IsContentOf (latest_of xs b) (content_at st.contents b)) (sym (at_other st.life k (Frozen e st.kept) (shard_of b) ne)) (keeps.contents b)
        ]

    -- the freezes of each shard: one more at k
    at_k : freezes (items_at more k) ≡ e
    at_k = ap freezes (at_same st.life k (Frozen e st.kept) h.sixteen lt) ∙ freezes_more (items_at st.life k) e st.kept ∙ sym now

    elsewhere : (j : ℕ) → (j ≡ k → ⊥) → freezes (items_at more j) ≡ freezes (items_at st.life j)
    elsewhere j ne = ap freezes (at_other st.life k (Frozen e st.kept) j ne)

    up_to_k : (j : ℕ) → j < k + 1 → freezes (items_at more j) ≡ e
    up_to_k j below = elim (cases_eq j k) [ inl same ↦ ap (λ (i : ℕ). freezes (items_at more i)) same ∙ at_k | inr ne ↦ elsewhere j ne ∙ p.0 j (omega (arith, below, ne)) ]

    above_k : (j : ℕ) → k + 1 ≤ j → j < 16 → freezes (items_at more j) + 1 ≡ e
    above_k j le in16 = ap (λ (n : ℕ). n + 1) (elsewhere j (omega (arith, le))) ∙ p.1 j (omega (arith, le)) in16

    -- the lists: those up to e as before, and at k the kept one for the next epoch
    earlier : (n : ℕ) → n ≤ e → (j : ℕ) → j < 16 → list_text s.families (items_at more j) n ≡ list_text s.families (items_at st.life j) n
    earlier n le = at_each st.life k (Frozen e st.kept) (λ i xs. list_text s.families xs n ≡ list_text s.families (items_at st.life i) n) h.sixteen lt (λ i ok. refl) (text_front s.families (items_at st.life k) (Frozen e st.kept ∷ []) n (omega (arith, now, le)))

    agreed : Agree s more e
    agreed j in16 = earlier e (omega arith) j in16 ∙ p.6 j in16 ∙ sym (earlier e (omega arith) 0 (omega arith))

    next_up_to : HaveNext s more e (k + 1) st.kept
    next_up_to j below = elim (cases_eq j k) [
      | inl same ↦ ap (λ (i : ℕ). list_text s.families (items_at more i) (e + 1)) same ∙ ap (λ (xs : List Item). list_text s.families xs (e + 1)) (at_same st.life k (Frozen e st.kept) h.sixteen lt) ∙ text_next s.families (items_at st.life k) e st.kept e now
      | inr ne ↦ ap (λ (xs : List Item). list_text s.families xs (e + 1)) (at_other st.life k (Frozen e st.kept) j ne) ∙ p.7 j (omega (arith, below, ne))
    ]

    -- each shard has frozen the epochs before, and those that froze e are the first ones
    before_e : (j : ℕ) → j < 16 → e ≤ freezes (items_at st.life j) + 1
    before_e j in16 = elim (cases_lt j k) [ inl less ↦ omega (arith, p.0 j less) | inr le ↦ omega (arith, p.1 j le in16) ]

    froze : (j : ℕ) → j < 16 → e ≤ freezes (items_at more j) → j < k + 1
    froze j in16 le = elim (cases_lt j (k + 1)) [ inl less ↦ less | inr above ↦ absurd (omega (arith, le, above_k j above in16)) ]

    frozen_to : (j : ℕ) → j < 16 → freezes (items_at more j) ≤ e
    frozen_to j in16 = elim (cases_lt j (k + 1)) [ inl less ↦ omega (arith, up_to_k j less) | inr above ↦ omega (arith, above_k j above in16) ]

    all_agree : (n : ℕ) → ListsAgree s more n
    all_agree n i j i16 j16 ni nj = elim (cases_lt n e) [
      | inl less ↦ earlier (n + 1) (omega (arith, less)) i i16 ∙ h.lists_agree n i j i16 j16 (omega (arith, less, before_e i i16)) (omega (arith, less, before_e j j16)) ∙ sym (earlier (n + 1) (omega (arith, less)) j j16)
      | inr le ↦
          let at : n ≡ e = omega (arith, le, ni, frozen_to i i16) in
          subst (λ (m : ℕ). list_text s.families (items_at more i) (m + 1) ≡ list_text s.families (items_at more j) (m + 1)) (sym at)
          (next_up_to i (froze i i16 (omega (arith, le, ni))) ∙ sym (next_up_to j (froze j j16 (omega (arith, le, nj)))))
    ]

    honest : Honest s more
    honest = record {
      sixteen = length-set _ _ _ ∙ h.sixteen;
      shards = at_each st.life k (Frozen e st.kept) (HonestShard s) h.sixteen lt h.shards here;
      lists_agree = all_agree;
      leaves_differ = λ k₁ front₁ row₁ k₂ front₂ row₂ a b same. h.leaves_differ k₁ front₁ row₁ k₂ front₂ row₂ (old k₁ front₁ row₁ a) (old k₂ front₂ row₂ b) same;
      leaves_below = λ j front x a. h.leaves_below j front x (old j front x a);
      seals = seals_stay s st.life more (λ x. Unit {0}) before st.life.seals h.seals;
      within = h.within;
    }

    go : (b : Bool) → eqb k 15 ≡ b → PhaseFits s more st.kept (cond b (Full e) (Half e (k + 1))) st.published
    go true t = let last : k ≡ 15 = eqb-true _ _ t in (λ j in16. up_to_k j (omega (arith, last, in16)), p.3, p.4, p.5, agreed, λ j in16. next_up_to j (omega (arith, last, in16)))
    go false t = let ne : k ≡ 15 → ⊥ = eqb-false _ _ t in (up_to_k, above_k, omega (arith, ne, lt), p.3, p.4, p.5, agreed, next_up_to)

-- ---- Begin and Publish

in_new_phase : (s : Store) (st : State) (kept : List ℕ) (phase : Phase) (published : ℕ) → Keeps s st → SpellsFamilies kept → PhaseFits s st.life kept phase published → Keeps s (record st { phase = phase; published = published; kept = kept })
in_new_phase s st kept phase published keeps spells p = record { honest = keeps.honest; phase = p; kept = spells; drawn = keeps.drawn; drawn_within = keeps.drawn_within; counted = keeps.counted; contents = keeps.contents }

-- before a closing begins the kept list is the epoch's, in all shards
pub list_now : (s : Store) (st : State) (e : ℕ) → PhaseFits s st.life st.kept (Running e) st.published → (k : ℕ) → k < 16 → list_text s.families (items_at st.life k) e ≡ st.kept
list_now s st e p k lt = ap (λ (n : ℕ). list_text s.families (items_at st.life k) n) (sym p.2) ∙ p.3 k lt

next_spells : (s : Store) (st : State) (e : ℕ) (next : Option (List ℕ)) → Keeps s st → PhaseFits s st.life st.kept (Running e) st.published → SpellsNext next → SpellsFamilies (next_or next (families_at s st.life e))
next_spells s st e (Some next) keeps p ok = ok
next_spells s st e None keeps p ok = subst SpellsFamilies (sym (list_now s st e p 0 (omega arith))) keeps.kept

keeps_begin : (s : Store) (st : State) (e : ℕ) (kept : List ℕ) → Keeps s st → PhaseFits s st.life st.kept (Running e) st.published → (e - 1 ≡ s.closings → ⊥) → PhaseFits s st.life kept (Half e 0) st.published
keeps_begin s st e kept keeps p ne =
    (λ j below. absurd (omega (arith, below)), λ j le in16. p.0 j in16, omega arith, p.1, omega (arith, ne, p.1, keeps.honest.within), p.2, λ k lt. list_now s st e p k lt ∙ sym (list_now s st e p 0 (omega arith)), λ j below. absurd (omega (arith, below)))

-- ---- one event

-- what a seal needs: proved apart
abbrev pub SealKeeps : Store → Type 0
SealKeeps s = (st : State) (e : ℕ) → Keeps s st → st.phase ≡ Full e → Keeps s (record st { life = record st.life { seals = st.life.seals ++ seal_at s st.life e ∷ [] }; phase = Sealed e })

pub keeps_in : (s : Store) (st : State) (event : Event) (p : Phase) → StoreFits s → SealKeeps s → Keeps s st → Admissible s event → st.phase ≡ p → Keeps s (step_in s st event p).1
unfolding step_in
keeps_in s st (Call pass request) p small seals keeps ok at = keeps_outcome s st pass request (shard_step s.id s.pages s.families (items_of st.life (block_of request)) st.contents pass request (next_leaf s st.drawn)) small keeps ok.0 ok.1 ok.2 refl
keeps_in s st (Begin next) (Running e) small seals keeps ok at =
    let p : PhaseFits s st.life st.kept (Running e) st.published = subst (λ (q : Phase). PhaseFits s st.life st.kept q st.published) at keeps.phase in
    go (eqb (e - 1) s.closings) refl p
  where
    go : (b : Bool) → eqb (e - 1) s.closings ≡ b → PhaseFits s st.life st.kept (Running e) st.published → Keeps s (cond {A = Answer × State} b (CloseRefused (refusal.ClosingsOver (e - 1) s.closings), st) (Done, begun s st e next)).1
    go true t p = keeps
    go false t p = let kept = next_or next (families_at s st.life e) in in_new_phase s st kept (Half e 0) st.published keeps (next_spells s st e next keeps p ok) (keeps_begin s st e kept keeps p (eqb-false _ _ t))
keeps_in s st (Freeze k) (Half e j) small seals keeps ok at = go (eqb k j) refl
  where
    go : (b : Bool) → eqb k j ≡ b → Keeps s (cond {A = Answer × State} b (Done, record st { life = appended st.life k (Frozen e st.kept); phase = after_freeze e k }) (NotNow (Half e j), st)).1
    go true t = keeps_freeze s st e k keeps (at ∙ ap (Half e) (sym (eqb-true _ _ t)))
    go false t = keeps
keeps_in s st Seal (Full e) small seals keeps ok at = seals st e keeps at
keeps_in s st Publish (Sealed e) small seals keeps ok at =
    let p : PhaseFits s st.life st.kept (Sealed e) st.published = subst (λ (q : Phase). PhaseFits s st.life st.kept q st.published) at keeps.phase in
    in_new_phase s st st.kept (Running (e + 1)) e keeps keeps.kept (λ k lt. omega (arith, p.0 k lt), omega (arith, p.1), refl, p.4)
keeps_in s st (Read e) p small seals keeps ok at = go (leb e st.published)
  where
    go : (b : Bool) → Keeps s (cond {A = Answer × State} b (Text e, st) (NotClosed st.published, st)).1
    go true = keeps
    go false = keeps
keeps_in s st (Begin next) (Half e j) small seals keeps ok at = keeps
keeps_in s st (Begin next) (Full e) small seals keeps ok at = keeps
keeps_in s st (Begin next) (Sealed e) small seals keeps ok at = keeps
keeps_in s st (Freeze k) (Running e) small seals keeps ok at = keeps
keeps_in s st (Freeze k) (Full e) small seals keeps ok at = keeps
keeps_in s st (Freeze k) (Sealed e) small seals keeps ok at = keeps
keeps_in s st Seal (Running e) small seals keeps ok at = keeps
keeps_in s st Seal (Half e j) small seals keeps ok at = keeps
keeps_in s st Seal (Sealed e) small seals keeps ok at = keeps
keeps_in s st Publish (Running e) small seals keeps ok at = keeps
keeps_in s st Publish (Half e j) small seals keeps ok at = keeps
keeps_in s st Publish (Full e) small seals keeps ok at = keeps

-- ---- every list of events

keeps_all : (s : Store) (st : State) (events : List Event) → StoreFits s → SealKeeps s → Keeps s st → AllByRecursion (Admissible s) events → Keeps s (run_from s st events)
keeps_all s st [] small seals keeps ok = keeps
keeps_all s st (e ∷ es) small seals keeps ok = keeps_all s (step s st e).1 es small seals (keeps_in s st e st.phase small seals keeps ok.0 refl) ok.1

no_shard : (s : Store) (k : ℕ) → items_at (opening s).life k ≡ []
no_shard s k = elim (cases_lt k 16) [ inl lt ↦ get_or-replicate 16 k [] [] lt | inr le ↦ get_or_past (opening s).life.shards k [] le ]

nothing : (b : ℕ) → IsContentOf (latest_of [] b) []
unfolding latest rows_of
nothing b = record { at_first = λ none. refl; hashed = λ some. absurd (omega (arith, some)) }

first_list : (first : List ℕ) → list_text first [] 1 ≡ first
unfolding list_text
first_list first = refl

pub opens : (s : Store) → StoreFits s → Keeps s (opening s)
unfolding content_at
opens s small = record {
  honest = record {
    sixteen = refl;
    shards = λ k lt. subst (HonestShard s k) (sym (no_shard s k)) (honest_nil s k);
    lists_agree = λ n k l k16 l16 nk nl. ap (λ (xs : List Item). list_text s.families xs (n + 1)) (no_shard s k ∙ sym (no_shard s l));
    leaves_differ = λ k₁ front₁ row₁ k₂ front₂ row₂ a b e. absurd (no_rows k₁ front₁ row₁ a);
    leaves_below = λ k front row a. absurd (no_rows k front row a);
    seals = each_nil (IsSealOf s (opening s).life);
    within = omega arith;
  };
  phase = (λ k lt. ap (λ (xs : List Item). freezes xs + 1) (no_shard s k), refl, refl, λ k lt. ap (λ (xs : List Item). list_text s.families xs 1) (no_shard s k) ∙ first_list s.families);
  kept = small.list;
  drawn = λ k front row a. absurd (no_rows k front row a);
  drawn_within = omega arith;
  counted = λ k lt. omega (arith, ap (λ (xs : List Item). length (rows_in xs)) (no_shard s k));
  contents = λ b. subst (λ (xs : List Item). IsContentOf (latest_of xs b) []) (sym (no_shard s (shard_of b))) (nothing b);
}
  where
    no_rows : (k : ℕ) (front : List Item) (row : RowItem) → RowAt (opening s).life k front row → ⊥
    no_rows k front row a = nil_is_not front (row_item row) a.1 (sym (no_shard s k) ∙ a.2)

pub runs_honest : (s : Store) (events : List Event) → StoreFits s → SealKeeps s → AllByRecursion (Admissible s) events → Keeps s (run s events)
runs_honest s events small seals ok = keeps_all s (opening s) events small seals (opens s small) ok
