-- The events of a closing, one after another.
use Rattle.std.proofs.Common.{◌≡◌, ℕ, zero, suc, ◌+◌, ◌-◌, ◌<◌, ◌≤◌, Bool, cond, eqb, List, [], ◌∷◌, ◌++◌, length, get_or, take, Option, Some, Result, Ok, Err, refl, sym, ap, subst, ◌∙◌, inl, inr, arith}
use Rattle.std.proofs.Common.{add-one}
use Rattle.std.specs.Prelude.{IfOk, OnErr}
use Rattle.std.proofs.lemmas.Bool.{cases_eq, eq-eqb, ne_eqb}
use Rattle.std.proofs.lemmas.List.{map-append, length-take-le}
use Rattle.cp_statements.proofs.TextLengths.{length-closing_text}
use Rattle.cp_chain.proofs.Each.{each_at}
use Rattle.cp_core.proofs.EventLemmas.{list_now}
use Rattle.cp_core.proofs.LifeLemmas.{items_at, at_each}
use Rattle.cp_core.proofs.ListLemmas.{text_front}
use Rattle.cp_core.proofs.SealLemmas.{each_keeps}
use Rattle.cp_core.specs.declared.item.Item.TheVariants.{Frozen}
use Rattle.cp_core.specs.Store.{Store, StoreFits}
use Rattle.cp_core.specs.Life.{freeze_item, freezes, items_of, list_text}
use Rattle.cp_core.specs.Requests.{block_of}
use Rattle.cp_core.specs.Calls.{Effect, shard_step}
use Rattle.cp_core.specs.Calls.Effect.{Same, New}
use Rattle.cp_core.specs.Kept.{Keeps, PhaseFits}
use Rattle.cp_core.specs.View.{Standing}
use Rattle.cp_core.specs.Leaves.{numbers_below}
use Rattle.cp_core.specs.Sealing.{families_at, seal_at}
use Rattle.cp_core.specs.Honest.{Honest, IsSealOf, last_of}
use Rattle.cp_core.specs.Machine.{State, step, step_in, run_from, after_freeze, appended, begun, after_call, next_leaf, next_or, SpellsNext}
use Rattle.cp_core.specs.declared.answer.Answer.{Answer}
use Rattle.cp_core.specs.declared.answer.Answer.TheVariants.{CloseRefused, Done, NotNow}
use Rattle.cp_core.specs.declared.chronicle.Chronicle.{Chronicle}
use Rattle.cp_core.specs.declared.close_refusal.CloseRefusal.{CloseRefusal}
use Rattle.cp_core.specs.declared.close_refusal.CloseRefusal.TheVariants as refusal
use Rattle.cp_core.specs.declared.event.Event.{Event}
use Rattle.cp_core.specs.declared.event.Event.TheVariants.{Call, Begin, Freeze, Seal, Publish}
use Rattle.cp_core.specs.declared.phase.Phase.{Phase}
use Rattle.cp_core.specs.declared.phase.Phase.TheVariants.{Running, Half, Full, Sealed}
use Rattle.cp_core.specs.declared.request.Request.{Request}
use Rattle.cp_core.specs.declared.seal_item.SealItem.{SealItem}
use Rattle.cp_closer.specs.Closer.{seal_item}
use Rattle.cp_closer.specs.declared.sealed_text.SealedText.{SealedText}
use Rattle.cp_chain.specs.Log.{log_text}
use Rattle.cp_closer.specs.Laws.{log_at}
use Rattle.cp_store.specs.Closes.{freezes_below, closing_events, IsClosed, Closes}
use Rattle.cp_store.specs.Freezes.{phase_after}
use Rattle.cp_store.proofs.Alikes.{alike_eq}
use Rattle.cp_store.specs.Running.{IsOpen, HasFewLeaves}

-- ---- lists of events

pub run_append : (s : Store) (st : State) (xs ys : List Event) → run_from s st (xs ++ ys) ≡ run_from s (run_from s st xs) ys
run_append s st [] ys = refl
run_append s st (x ∷ xs) ys = run_append s (step s st x).1 xs ys

pub freeze_more : (s : Store) (st : State) (k : ℕ) → run_from s st (freezes_below (k + 1)) ≡ (step s (run_from s st (freezes_below k)) (Freeze k)).1
freeze_more s st k =
    ap (λ (n : ℕ). run_from s st (freezes_below n)) (add-one k) ∙ ap (run_from s st) (map-append Freeze (numbers_below k) (k ∷ [])) ∙ run_append s st (freezes_below k) (Freeze k ∷ [])

pub closing_is : (s : Store) (st : State) (next : Option (List ℕ)) → run_from s st (closing_events next) ≡ (step s (step s (run_from s (step s st (Begin next)).1 (freezes_below 16)) Seal).1 Publish).1
closing_is s st next = run_append s (step s st (Begin next)).1 (freezes_below 16) (Seal ∷ Publish ∷ [])

-- ---- each event in its phase

-- the state after a freeze
abbrev pub frozen : State → ℕ → ℕ → State
frozen st e k = record st { life = appended st.life k (freeze_item (record { epoch = e; next = st.kept })); phase = after_freeze e k }

pub freeze_now : (s : Store) (st : State) (e k : ℕ) → st.phase ≡ Half e k → step s st (Freeze k) ≡ (Done, frozen st e k)
unfolding step_in
freeze_now s st e k at =
    ap (step_in s st (Freeze k)) at
    ∙ ap (λ (b : Bool). cond {A = Answer × State} b (Done, frozen st e k) (NotNow (Half e k), st)) (eq-eqb k k refl)

-- the state after a seal
abbrev pub sealed : Store → State → ℕ → State
sealed s st e = record st { life = record st.life { seals = st.life.seals ++ seal_at s st.life e ∷ [] }; phase = Sealed e }

pub seal_now : (s : Store) (st : State) (e : ℕ) → st.phase ≡ Full e → step s st Seal ≡ (Done, sealed s st e)
unfolding step_in
seal_now s st e at = ap (step_in s st Seal) at

pub publish_now : (s : Store) (st : State) (e : ℕ) → st.phase ≡ Sealed e → step s st Publish ≡ (Done, record st { published = e; phase = Running (e + 1) })
unfolding step_in
publish_now s st e at = ap (step_in s st Publish) at

abbrev begins : Store → State → ℕ → Option (List ℕ) → Bool → Answer × State
begins s st e next b = cond {A = Answer × State} b (CloseRefused (refusal.ClosingsOver (e - 1) s.closings), st) (Done, begun s st e next)

begin_is : (s : Store) (st : State) (e : ℕ) (next : Option (List ℕ)) → st.phase ≡ Running e → step s st (Begin next) ≡ begins s st e next (eqb (e - 1) s.closings)
unfolding step_in
begin_is s st e next at = ap (step_in s st (Begin next)) at

pub begin_over : (s : Store) (st : State) (e : ℕ) (next : Option (List ℕ)) → st.phase ≡ Running e → e - 1 ≡ s.closings → step s st (Begin next) ≡ (CloseRefused (refusal.ClosingsOver (e - 1) s.closings), st)
begin_over s st e next at over = begin_is s st e next at ∙ ap (begins s st e next) (eq-eqb _ _ over)

pub begin_half : (s : Store) (st : State) (e : ℕ) (next : Option (List ℕ)) → st.phase ≡ Running e → (e - 1 ≡ s.closings → ⊥) → step s st (Begin next) ≡ (Done, begun s st e next)
begin_half s st e next at ne = begin_is s st e next at ∙ ap (begins s st e next) (ne_eqb _ _ ne)

-- ---- the phases of a closing

pub half_before : (e k : ℕ) → k < 16 → phase_after e k ≡ Half e k
half_before e k lt = ap (λ (b : Bool). cond b (Full e) (Half e k)) (ne_eqb k 16 (λ h. omega (arith, h, lt)))

pub next_phase : (e k : ℕ) → after_freeze e k ≡ phase_after e (k + 1)
next_phase e k =
    elim (cases_eq k 15) [
      | inl last ↦ ap (λ (b : Bool). cond b (Full e) (Half e (k + 1))) (eq-eqb k 15 last) ∙ sym (ap (λ (b : Bool). cond b (Full e) (Half e (k + 1))) (eq-eqb (k + 1) 16 (omega (arith, last))))
      | inr ne ↦ ap (λ (b : Bool). cond b (Full e) (Half e (k + 1))) (ne_eqb k 15 ne) ∙ sym (ap (λ (b : Bool). cond b (Full e) (Half e (k + 1))) (ne_eqb (k + 1) 16 (λ h. ne (omega (arith, h)))))
    ]

pub freezing : (s : Store) (st : State) (e k : ℕ) → st.phase ≡ Half e 0 → k ≤ 16 → (run_from s st (freezes_below k)).phase ≡ phase_after e k
freezing s st e zero at le = at
freezing s st e (suc k) at le =
    let st' : State = run_from s st (freezes_below k) in
    let before : st'.phase ≡ Half e k = freezing s st e k at (omega (arith, le)) ∙ half_before e k (omega (arith, le)) in
    ap (λ (n : ℕ). (run_from s st (freezes_below n)).phase) (sym (add-one k))
    ∙ ap (λ (x : State). x.phase) (freeze_more s st k)
    ∙ ap (λ (x : Answer × State). x.1.phase) (freeze_now s st' e k before)
    ∙ next_phase e k ∙ ap (phase_after e) (add-one k)

-- ---- the list of the epoch that is closed

-- a freeze leaves it alone
freeze_list : (s : Store) (st : State) (e k : ℕ) → Keeps s st → st.phase ≡ Half e k → k < 16 → families_at s (frozen st e k).life e ≡ families_at s st.life e
freeze_list s st e k keeps at lt =
    let p : PhaseFits s st.life st.kept (Half e k) st.published = subst (λ (x : Phase). PhaseFits s st.life st.kept x st.published) at keeps.phase in
    let count : freezes (items_at st.life k) + 1 ≡ e = p.1 k (omega arith) lt in
    at_each st.life k (Frozen e st.kept) (λ i xs. list_text s.families xs e ≡ list_text s.families (items_at st.life i) e) keeps.honest.sixteen lt (λ i in16. refl)
    (text_front s.families (items_at st.life k) (Frozen e st.kept ∷ []) e (omega (arith, count))) 0 (omega arith)

-- the store keeps what it keeps after the first freezes, and the lists stay
pub record IsFrozenRightly (s : Store) (st : State) (e k : ℕ) : Type 0 where
  pub keeps : Keeps s (run_from s st (freezes_below k))
  pub kept : (run_from s st (freezes_below k)).kept ≡ st.kept
  pub list : families_at s (run_from s st (freezes_below k)).life e ≡ families_at s st.life e

pub freezes_right : (s : Store) (st : State) (e k : ℕ) → StoreFits s → Keeps s st → st.phase ≡ Half e 0 → k ≤ 16 → IsFrozenRightly s st e k
freezes_right s st e zero fits keeps at le = record { keeps = keeps; kept = refl; list = refl }
freezes_right s st e (suc k) fits keeps at le =
    let so_far = freezes_right s st e k fits keeps at (omega (arith, le)) in
    let st' : State = run_from s st (freezes_below k) in
    let before : st'.phase ≡ Half e k = freezing s st e k at (omega (arith, le)) ∙ half_before e k (omega (arith, le)) in
    let now : run_from s st (freezes_below (k + 1)) ≡ frozen st' e k = freeze_more s st k ∙ ap (λ (x : Answer × State). x.1) (freeze_now s st' e k before) in
    let after : Keeps s (step s st' (Freeze k)).1 = each_keeps s st' (Freeze k) fits so_far.keeps (omega (arith, le)) in
    subst (IsFrozenRightly s st e) (add-one k)
    (record {
      keeps = subst (Keeps s) (sym (freeze_more s st k)) after;
      kept = ap (λ (x : State). x.kept) now ∙ so_far.kept;
      list = ap (λ (x : State). families_at s x.life e) now ∙ freeze_list s st' e k so_far.keeps before (omega (arith, le)) ∙ so_far.list;
    })

-- ---- the plain machine's closing

first_of : (p q : Answer × State) → p ≡ q → p.0 ≡ q.0
first_of p q e = ap (λ (x : Answer × State). x.0) e

pub record IsWhole (s : Store) (old new : State) (e : ℕ) (next : Option (List ℕ)) : Type 0 where
  pub begun : (step s old (Begin next)).0 ≡ Done
  pub after : new ≡ run_from s old (closing_events next)
  pub now : new.phase ≡ Running (e + 1)
  pub kept : new.kept ≡ next_or next old.kept
  pub list : families_at s new.life e ≡ old.kept

pub whole : (s : Store) (st₀ st₁ st₂ st₃ st₄ : State) (a₁ a₃ a₄ : Answer) (e : ℕ) (next : Option (List ℕ)) → StoreFits s → Keeps s st₀ → SpellsNext next → st₀.phase ≡ Running e → (a₁, st₁) ≡ step s st₀ (Begin next) → ((why : CloseRefusal) → a₁ ≡ CloseRefused why → ⊥)
    → st₂ ≡ run_from s st₁ (freezes_below 16) → (a₃, st₃) ≡ step s st₂ Seal → (a₄, st₄) ≡ step s st₃ Publish → IsWhole s st₀ st₄ e next
whole s st₀ st₁ st₂ st₃ st₄ a₁ a₃ a₄ e next fits keeps spells at begin not freezes seal publish =
    record { begun = ap (λ (x : Answer × State). x.0) half; after = after; now = phase₄; kept = kept; list = list }
  where
    ne : e - 1 ≡ s.closings → ⊥
    ne over = not (refusal.ClosingsOver (e - 1) s.closings) (first_of (a₁, st₁) _ (begin ∙ begin_over s st₀ e next at over))

    half : step s st₀ (Begin next) ≡ (Done, begun s st₀ e next)
    half = begin_half s st₀ e next at ne

    phase₁ : st₁.phase ≡ Half e 0
    phase₁ = ap (λ (x : Answer × State). x.1.phase) (begin ∙ half)

    phase₂ : st₂.phase ≡ Full e
    phase₂ = ap (λ (x : State). x.phase) freezes ∙ freezing s st₁ e 16 phase₁ (omega arith)

    phase₃ : st₃.phase ≡ Sealed e
    phase₃ = ap (λ (x : Answer × State). x.1.phase) (seal ∙ seal_now s st₂ e phase₂)

    phase₄ : st₄.phase ≡ Running (e + 1)
    phase₄ = ap (λ (x : Answer × State). x.1.phase) (publish ∙ publish_now s st₃ e phase₃)

    after : st₄ ≡ run_from s st₀ (closing_events next)
    after =
        ap (λ (x : Answer × State). x.1) publish ∙ ap (λ (x : State). (step s x Publish).1) (ap (λ (x : Answer × State). x.1) seal)
        ∙ ap (λ (x : State). (step s (step s x Seal).1 Publish).1) freezes
        ∙ ap (λ (x : State). (step s (step s (run_from s x (freezes_below 16)) Seal).1 Publish).1) (ap (λ (x : Answer × State). x.1) begin)
        ∙ sym (closing_is s st₀ next)

    keeps₁ : Keeps s st₁
    keeps₁ = subst (λ (x : Answer × State). Keeps s x.1) (sym begin) (each_keeps s st₀ (Begin next) fits keeps spells)

    is_list : families_at s st₀.life e ≡ st₀.kept
    is_list = list_now s st₀ e (subst (λ (x : Phase). PhaseFits s st₀.life st₀.kept x st₀.published) at keeps.phase) 0 (omega arith)

    kept : st₄.kept ≡ next_or next st₀.kept
    kept =
        ap (λ (x : Answer × State). x.1.kept) (publish ∙ publish_now s st₃ e phase₃)
        ∙ ap (λ (x : Answer × State). x.1.kept) (seal ∙ seal_now s st₂ e phase₂)
        ∙ ap (λ (x : State). x.kept) freezes
        ∙ (freezes_right s st₁ e 16 fits keeps₁ phase₁ (omega arith)).kept
        ∙ ap (λ (x : Answer × State). x.1.kept) (begin ∙ half)
        ∙ ap (next_or next) is_list

    list : families_at s st₄.life e ≡ st₀.kept
    list =
        ap (λ (x : Answer × State). families_at s x.1.life e) (publish ∙ publish_now s st₃ e phase₃)
        ∙ ap (λ (x : Answer × State). families_at s x.1.life e) (seal ∙ seal_now s st₂ e phase₂)
        ∙ ap (λ (x : State). families_at s x.life e) freezes
        ∙ (freezes_right s st₁ e 16 fits keeps₁ phase₁ (omega arith)).list
        ∙ ap (λ (x : Answer × State). families_at s x.1.life e) (begin ∙ half)
        ∙ is_list

pub begin_refused : (s : Store) (st st' : State) (a : Answer) (e : ℕ) (next : Option (List ℕ)) (why : CloseRefusal) → st.phase ≡ Running e → (a, st') ≡ step s st (Begin next) → a ≡ CloseRefused why → (st' ≡ st) × ((step s st (Begin next)).0 ≡ CloseRefused why)
begin_refused s st st' a e next why at begin is =
    elim (cases_eq (e - 1) s.closings) [
      | inl over ↦ (ap (λ (x : Answer × State). x.1) (begin ∙ begin_over s st e next at over), sym (ap (λ (x : Answer × State). x.0) begin) ∙ is)
      | inr ne ↦ let done : Done ≡ CloseRefused why = sym (ap (λ (x : Answer × State). x.0) (begin ∙ begin_half s st e next at ne)) ∙ is in absurd cc
    ]

pub freeze_step : (s s' : Store) (st₀ st st' : State) (a : Answer) (k : ℕ) → s' ≡ s → st ≡ run_from s st₀ (freezes_below k) → (a, st') ≡ step s' st (Freeze k) → st' ≡ run_from s st₀ (freezes_below (k + 1))
freeze_step s s' st₀ st st' a k same so_far stepped =
    ap (λ (x : Answer × State). x.1) stepped ∙ ap (λ (x : Store). (step x st (Freeze k)).1) same ∙ ap (λ (x : State). (step s x (Freeze k)).1) so_far ∙ sym (freeze_more s st₀ k)

-- ---- the last seal

last_is : (xs : List SealItem) (i : ℕ) (d : SealItem) → length xs ≡ suc i → last_of xs ≡ Some (get_or xs i d)
last_is [] i d e = absurd (omega (arith, e))
last_is (x ∷ []) zero d e = refl
last_is (x ∷ []) (suc i) d e = absurd (omega (arith, e))
last_is (x ∷ (y ∷ ys)) zero d e = absurd (omega (arith, e))
last_is (x ∷ (y ∷ ys)) (suc i) d e = last_is (y ∷ ys) i d (omega (arith, e))

-- the seal is the last one of the honest life, where so many epochs are sealed
pub record IsLast (s : Store) (r : Chronicle) (n : ℕ) (x : SealItem) : Type 0 where
  pub seal : IsSealOf s r (take (n - 1) r.seals) x
  pub epoch : x.epoch ≡ n
  pub last : last_of r.seals ≡ Some x

pub last_seal : (s : Store) (r : Chronicle) (n i : ℕ) (x : SealItem) → Honest s r → 1 ≤ n → length r.seals ≡ n → i ≡ n - 1 → x ≡ get_or r.seals i x → IsLast s r n x
last_seal s r n i x h some count at is =
    let seal : IsSealOf s r (take (n - 1) r.seals) x = subst (λ (j : ℕ). IsSealOf s r (take j r.seals) x) at (subst (IsSealOf s r (take i r.seals)) (sym is) (each_at (IsSealOf s r) r.seals h.seals i x (omega (arith, some, count, at)))) in
    record {
      seal = seal;
      epoch = omega (arith, seal.epoch, length-take-le (n - 1) r.seals (omega (arith, count)), some);
      last = last_is r.seals i x (omega (arith, some, count, at)) ∙ ap Some (sym is);
    }

pub seal_length : (s : Store) (r : Chronicle) (n : ℕ) (x : SealItem) → IsLast s r n x → length x.text ≡ 156
seal_length s r n x h = ap length h.seal.text ∙ length-closing_text h.seal.closing h.seal.fits

pub last_sealed : (s : Store) (r : Chronicle) (n : ℕ) (x : SealItem) (t : SealedText) → IsLast s r n x → t.leaf ≡ x.leaf → t.text ≡ x.text → t.table ≡ x.table → last_of r.seals ≡ Some (seal_item n (families_at s r n) t)
last_sealed s r n x t h leaf text table =
    let list : families_at s r n ≡ x.families = ap (families_at s r) (sym h.epoch) ∙ sym (h.seal.families 0 (omega arith)) in
    let same : x ≡ seal_item n (families_at s r n) t = rw (list, ← h.epoch, leaf, text, table) refl in
    h.last ∙ ap Some same

-- ---- a call

after_phase : (st : State) (request : Request) (o : Effect) → (after_call st request o).1.phase ≡ st.phase
after_phase st request (Same answer) = refl
after_phase st request (New answer row) = refl

pub call_phase : (s : Store) (st : State) (pass : ℕ) (request : Request) → (step s st (Call pass request)).1.phase ≡ st.phase
unfolding step_in
call_phase s st pass request = after_phase st request (shard_step s.id s.pages s.families (items_of st.life (block_of request)) st.contents pass request (next_leaf s st.drawn))

after_kept : (st : State) (request : Request) (o : Effect) → (after_call st request o).1.kept ≡ st.kept
after_kept st request (Same answer) = refl
after_kept st request (New answer row) = refl

-- a call leaves the kept list alone
pub call_kept : (s : Store) (st : State) (pass : ℕ) (request : Request) → (step s st (Call pass request)).1.kept ≡ st.kept
unfolding step_in
call_kept s st pass request = after_kept st request (shard_step s.id s.pages s.families (items_of st.life (block_of request)) st.contents pass request (next_leaf s st.drawn))

pub call_open : {E : Type 0} (old new : Standing) (pass : ℕ) (request : Request) (r : Result Answer E) → IsOpen old → IfOk r (λ a. (a, new.state) ≡ step old.store old.state (Call pass request)) → OnErr r (new.state ≡ old.state) → new.store ≡ old.store → IsOpen new
call_open old new pass request (Ok a) is stepped unchanged store =
    record { running = (is.running.0, ap (λ (x : Answer × State). x.1.phase) stepped ∙ call_phase old.store old.state pass request ∙ is.running.1); fits = subst StoreFits (sym store) is.fits; few = subst HasFewLeaves (sym store) is.few }
call_open old new pass request (Err e) is stepped unchanged store =
    record { running = (is.running.0, ap (λ (x : State). x.phase) unchanged ∙ is.running.1); fits = subst StoreFits (sym store) is.fits; few = subst HasFewLeaves (sym store) is.few }

-- ---- the epoch

-- the number of the epoch that is closed next
pub running_epoch : (x : Standing) → IsOpen x → Keeps x.store x.state → x.state.phase ≡ Running (length x.state.life.seals + 1)
running_epoch x is keeps =
    let fits : PhaseFits x.store x.state.life x.state.kept (Running is.running.0) x.state.published = subst (λ (p : Phase). PhaseFits x.store x.state.life x.state.kept p x.state.published) is.running.1 keeps.phase in
    is.running.1 ∙ ap Running (sym fits.1)

pub sealed_count : (x : Standing) (e : ℕ) → Keeps x.store x.state → x.state.phase ≡ Running (e + 1) → length x.state.life.seals ≡ e
sealed_count x e keeps at =
    let fits : PhaseFits x.store x.state.life x.state.kept (Running (e + 1)) x.state.published = subst (λ (p : Phase). PhaseFits x.store x.state.life x.state.kept p x.state.published) at keeps.phase in
    omega (arith, fits.1)

-- ---- the whole closing by the plain machine

standing_is : (x y : Standing) → x.store ≡ y.store → x.state ≡ y.state → x ≡ y
standing_is x y store state = ap (λ (s : Store). record { store = s; state = x.state }) store ∙ ap (λ (st : State). record { store = y.store; state = st }) state

pub close_refused : (old core new : Standing) (a : Answer) (e : ℕ) (next : Option (List ℕ)) (why : CloseRefusal) → old ≡ core → old.state.phase ≡ Running e → (a, new.state) ≡ step core.store core.state (Begin next) → new.store ≡ core.store → a ≡ CloseRefused why
    → (new ≡ old) × ((step old.store old.state (Begin next)).0 ≡ CloseRefused why)
close_refused old core new a e next why same at stepped store is =
    let h = begin_refused core.store core.state new.state a e next why (subst (λ (x : Standing). x.state.phase ≡ Running e) same at) stepped is in
    (standing_is new core store h.0 ∙ sym same, subst (λ (x : Standing). (step x.store x.state (Begin next)).0 ≡ CloseRefused why) (sym same) h.1)

pub record IsDone (old new : Standing) (e : ℕ) (next : Option (List ℕ)) : Type 0 where
  pub store : new.store ≡ old.store
  pub whole : IsWhole old.store old.state new.state e next

pub close_done : (old core x₁ x₂ x₃ x₄ : Standing) (a₁ a₃ a₄ : Answer) (e : ℕ) (next : Option (List ℕ)) → StoreFits old.store → Keeps old.store old.state → SpellsNext next → old ≡ core → old.state.phase ≡ Running e
    → (a₁, x₁.state) ≡ step core.store core.state (Begin next) → x₁.store ≡ core.store → ((why : CloseRefusal) → a₁ ≡ CloseRefused why → ⊥)
    → x₂.store ≡ x₁.store → x₂.state ≡ run_from x₁.store x₁.state (freezes_below 16) → (a₃, x₃.state) ≡ step x₂.store x₂.state Seal → x₃.store ≡ x₂.store → (a₄, x₄.state) ≡ step x₃.store x₃.state Publish → x₄.store ≡ x₃.store → IsDone old x₄ e next
close_done old core x₁ x₂ x₃ x₄ a₁ a₃ a₄ e next fits keeps spells same at begin s₁ not s₂ freezes seal s₃ publish s₄ =
    let t₁ : x₁.store ≡ old.store = s₁ ∙ sym (ap (λ (x : Standing). x.store) same) in
    let t₂ : x₂.store ≡ old.store = s₂ ∙ t₁ in
    let t₃ : x₃.store ≡ old.store = s₃ ∙ t₂ in
    record {
      store = s₄ ∙ t₃;
      whole = whole old.store old.state x₁.state x₂.state x₃.state x₄.state a₁ a₃ a₄ e next fits keeps spells at (begin ∙ ap (λ (x : Standing). step x.store x.state (Begin next)) (sym same)) not
          (freezes ∙ ap (λ (s : Store). run_from s x₁.state (freezes_below 16)) t₁)
          (seal ∙ ap (λ (s : Store). step s x₂.state Seal) t₂)
          (publish ∙ ap (λ (s : Store). step s x₃.state Publish) t₃);
    }

pub done_open : (old new : Standing) (e : ℕ) (next : Option (List ℕ)) → IsDone old new e next → StoreFits old.store → HasFewLeaves old.store → IsOpen new
done_open old new e next done fits few = record { running = (e + 1, done.whole.now); fits = subst StoreFits (sym done.store) fits; few = subst HasFewLeaves (sym done.store) few }

pub done_closed : (old new : Standing) (e : ℕ) (next : Option (List ℕ)) (t : SealedText) → IsDone old new e next → old.state.phase ≡ Running e → last_of new.state.life.seals ≡ Some (seal_item e (families_at new.store new.state.life e) t) → t.log ≡ log_text (log_at new.state.life e) → IsClosed old new next t
done_closed old new e next t done was seal log = record {
  store = done.store;
  begun = done.whole.begun;
  after = alike_eq new.state (run_from old.store old.state (closing_events next)) done.whole.after;
  epoch = e;
  was = was;
  now = done.whole.now;
  kept = done.whole.kept;
  seal = seal ∙ ap (λ (s : Store). Some (seal_item e (families_at s new.state.life e) t)) done.store ∙ ap (λ (x : List ℕ). Some (seal_item e x t)) done.whole.list;
  log = log;
}
