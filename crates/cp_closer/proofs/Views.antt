-- How a closer is seen after each of its calls, and that it keeps what it must.
use Rattle.std.proofs.Common.{◌≡◌, ℕ, suc, ◌+◌, ◌-◌, ◌^◌, ◌<◌, ◌≤◌, List, [], ◌∷◌, ◌++◌, length, take, map, flat_map, Option, Some, None, refl, sym, ap, subst, ◌∙◌, inl, inr, arith, slice_set, vec_len, vec_capacity}
use Rattle.std.specs.List.{AllByRecursion, slice_get, sum_by}
use Rattle.std.proofs.lemmas.List.{append-nil, take_all, take_more_set, map-append, length-append}
use Rattle.std.proofs.lemmas.Grind.{flat_map-append}
use Rattle.std.proofs.lemmas.Bool.{cases_eq, eq-eqb, ne_eqb}
use Rattle.sha2.specs.Sha256.{sha256}
use Rattle.cp_tips.specs.declared.tip.Tip.{Tip}
use Rattle.cp_chain.specs.Log.{log_text}
use Rattle.cp_core.specs.Sealing.{link_after}
use Rattle.cp_core.specs.Machine.{after_freeze, next_or}
use Rattle.cp_core.specs.declared.phase.Phase.{Phase}
use Rattle.cp_core.specs.declared.phase.Phase.TheVariants.{Half, Full, Sealed}
use Rattle.cp_core.specs.Frozen.{Gained, Part, part_view}
use Rattle.cp_core.specs.declared.frozen_part.FrozenPart.{FrozenPart}
use Rattle.cp_core.specs.declared.seal_item.SealItem.{SealItem}
use Rattle.cp_closer.specs.Taken.{put_all, tips_of}
use Rattle.cp_closer.specs.Closer.{CloserState, epoch_of, IsNextBlock, IsNextPart, after_take, log_parts, sealed_now, seal_item, after_seal}
use Rattle.cp_closer.specs.Kept.{taken_in, SealsFit, NextFits, BlockIsSmall, PartIsSmall, IsKept}
use Rattle.cp_closer.specs.Pendings.{HasRoom, item_of, seals_of, sealed_of, IsPending, sealed_under}
use Rattle.cp_closer.specs.Inside.{closer_view, PendingFits, IsRight}
use Rattle.cp_closer.specs.View.{IsPartly}
use Rattle.cp_closer.specs.declared.sealed_text.SealedText.{SealedText}
use Rattle.cp_closer.specs.declared.pending.Heading.{Heading}
use Rattle.cp_closer.specs.declared.pending.Pending.{Pending}
use Rattle.cp_closer.specs.declared.closer.Closer.TheInside.{Inside}
use Rattle.cp_closer.proofs.Puts.{put_all-append}
use Rattle.cp_closer.proofs.Inserts.{Sorted, put_all_sorted, put_again}
use Rattle.cp_closer.proofs.Weights.{still_few, few_entries}

-- ---- the link

pub link_last : (seals : List SealItem) (x : SealItem) → slice_get seals (length seals - 1) ≡ Some x → link_after seals ≡ sha256 x.text
link_last [] x e = absurd (cc)
link_last (y ∷ []) x e = let same : y ≡ x = cc in ap (λ (z : SealItem). sha256 z.text) same
link_last (y ∷ (z ∷ zs)) x e =
    let here : suc (length zs) - 1 ≡ length zs = omega arith in
    let there : suc (length zs) ≡ suc (suc (length zs)) - 1 = omega arith in
    link_last (z ∷ zs) x (ap (slice_get (z ∷ zs)) here ∙ ap (slice_get (y ∷ (z ∷ zs))) there ∙ e)

-- ---- a part

abbrev pub with_part : Inside → FrozenPart → Phase → Inside
with_part a part phase = record { store = a.store; leaves = a.leaves; closings = a.closings; phase = phase; list = a.list; next = a.next; tips = a.tips; parts = slice_set a.parts part.shard part; seals = a.seals; pending = a.pending }

pub part_taken : (a : Inside) (part : FrozenPart) (phase : Phase) → a.phase ≡ Half part.epoch part.shard → phase ≡ after_freeze part.epoch part.shard → taken_in phase ≡ part.shard + 1 → part.shard < length a.parts → closer_view (with_part a part phase) ≡ after_take (closer_view a) (part_view part)
part_taken a part phase turn next more lt =
    let state : Phase → List (ℕ × Tip) → List Part → CloserState = λ p ts ps. record { store = a.store; leaves = a.leaves; closings = a.closings; phase = p; list = a.list; next = next_or a.next a.list; tips = ts; parts = ps; seals = a.seals.items ++ seals_of a.pending; sealed = sealed_of a.pending } in
    let taken : taken_in a.phase ≡ part.shard = ap taken_in turn in
    let old : List Part = map part_view (take (taken_in a.phase) a.parts) in
    let new : List Part = map part_view (take (taken_in phase) (slice_set a.parts part.shard part)) in
    let parts : new ≡ old ++ part_view part ∷ [] =
    ap (λ (n : ℕ). map part_view (take n (slice_set a.parts part.shard part))) more ∙ ap (map part_view) (take_more_set a.parts part.shard part lt) ∙ ap (λ (n : ℕ). map part_view (take n a.parts ++ part ∷ [])) (sym taken)
    ∙ map-append part_view (take (taken_in a.phase) a.parts) (part ∷ []) in
    let tips : put_all a.tips.entries (flat_map tips_of new) ≡ put_all (put_all a.tips.entries (flat_map tips_of old)) (tips_of (part_view part)) =
    ap (λ (ps : List Part). put_all a.tips.entries (flat_map tips_of ps)) parts
    ∙ ap (put_all a.tips.entries) (flat_map-append tips_of old (part_view part ∷ []) ∙ ap (λ (ts : List (ℕ × Tip)). flat_map tips_of old ++ ts) (append-nil (tips_of (part_view part))))
    ∙ put_all-append a.tips.entries (flat_map tips_of old) (tips_of (part_view part)) in
    ap (λ (p : Phase). state p (put_all a.tips.entries (flat_map tips_of new)) new) next
    ∙ ap (λ (ts : List (ℕ × Tip)). state (after_freeze part.epoch part.shard) ts new) tips
    ∙ ap (λ (ps : List Part). state (after_freeze part.epoch part.shard) (put_all (put_all a.tips.entries (flat_map tips_of old)) (tips_of (part_view part))) ps) parts

small_blocks : (tips : List (ℕ × Tip)) (shard : ℕ) (xs : List Gained) → AllByRecursion (IsNextBlock tips shard) xs → AllByRecursion BlockIsSmall xs
small_blocks tips shard [] all = tt
small_blocks tips shard (x ∷ xs) all =
    let one : IsNextBlock tips shard x = all.0 in
    (record { filled = one.filled; short = one.short }, small_blocks tips shard xs all.1)

all_pushed : {X : Type 0} (P : X → Type 0) (xs : List X) (x : X) → AllByRecursion P xs → P x → AllByRecursion P (xs ++ x ∷ [])
all_pushed P [] x all p = (p, tt)
all_pushed P (y ∷ ys) x all p = (all.0, all_pushed P ys x all.1 p)

part_next : (list next : List ℕ) (e k : ℕ) → NextFits list next (after_freeze e k)
part_next list next e k = elim (cases_eq k 15) [ inl last ↦ rw (eq-eqb k 15 last) tt | inr more ↦ rw (ne_eqb k 15 more) tt ]

pub part_kept : (c : CloserState) (part : Part) → IsKept c → Sorted c.tips → IsNextPart c part → SealsFit c.closings (length c.seals) (after_freeze part.epoch part.shard) → IsKept (after_take c part)
part_kept c part kept up next phase = record {
  within = kept.within;
  phase = phase;
  next = part_next c.list c.next part.epoch part.shard;
  parts = all_pushed PartIsSmall c.parts part kept.parts (record { blocks = small_blocks c.tips part.shard part.blocks next.blocks; few = omega (arith, next.few) });
  few = still_few c.tips part up next.ascending next.blocks next.few kept.few;
}

-- the phase behind a part
pub NextPhase : Phase → ℕ → ℕ → Type 0
NextPhase phase e k = (phase ≡ after_freeze e k) × (taken_in phase ≡ k + 1)

pub last_part : (phase : Phase) (e k : ℕ) → k ≡ 15 → phase ≡ Full e → NextPhase phase e k
unfolding NextPhase
last_part phase e k last is = (is ∙ rw (eq-eqb k 15 last) refl, ap taken_in is ∙ omega (arith, last))

pub one_part : (phase : Phase) (e k : ℕ) → (k ≡ 15 → ⊥) → phase ≡ Half e (k + 1) → NextPhase phase e k
unfolding NextPhase
one_part phase e k more is = (is ∙ rw (ne_eqb k 15 more) refl, ap taken_in is)

pub turn_below : (a : Inside) (e k : ℕ) → IsRight a → a.phase ≡ Half e k → k < 16
turn_below a e k right turn = let fits : SealsFit a.closings (length (closer_view a).seals) (Half e k) = subst (SealsFit a.closings (length (closer_view a).seals)) turn right.kept.phase in fits.2

part_phase : (closings seals e k : ℕ) → SealsFit closings seals (Half e k) → SealsFit closings seals (after_freeze e k)
part_phase closings seals e k fits = elim (cases_eq k 15) [
  | inl last ↦ rw (eq-eqb k 15 last) (fits.0, fits.1)
  | inr more ↦ rw (ne_eqb k 15 more) (fits.0, fits.1, omega (arith, fits.2, more))
]

part_pending : (pending : Option Pending) (len capacity e k : ℕ) → pending ≡ None → PendingFits pending len capacity (after_freeze e k)
part_pending pending len capacity e k none = elim (cases_eq k 15) [
  | inl last ↦ rw (eq-eqb k 15 last) none
  | inr more ↦ rw (ne_eqb k 15 more) none
]

pub part_seen : (a : Inside) (part : FrozenPart) (phase : Phase) → a.phase ≡ Half part.epoch part.shard → NextPhase phase part.epoch part.shard → part.shard < length a.parts → closer_view (with_part a part phase) ≡ after_take (closer_view a) (part_view part)
unfolding NextPhase
part_seen a part phase turn next lt = part_taken a part phase turn next.0 next.1 lt

pub part_right : (a : Inside) (part : FrozenPart) (phase : Phase) → IsRight a → IsNextPart (closer_view a) (part_view part) → NextPhase phase part.epoch part.shard → part.shard < length a.parts → IsRight (with_part a part phase)
unfolding NextPhase
part_right a part phase right next after lt =
    let v : CloserState = closer_view a in
    let fits : SealsFit v.closings (length v.seals) (Half part.epoch part.shard) = subst (SealsFit v.closings (length v.seals)) next.turn right.kept.phase in
    let kept : IsKept (after_take v (part_view part)) = part_kept v (part_view part) right.kept (put_all_sorted a.tips.entries (flat_map tips_of (map part_view (take (taken_in a.phase) a.parts))) right.noted) next (part_phase v.closings (length v.seals) part.epoch part.shard fits) in
    let none : a.pending ≡ None = subst (PendingFits a.pending (vec_len a.seals) (vec_capacity a.seals)) next.turn right.pending in
    record {
      kept = subst IsKept (sym (part_taken a part phase next.turn after.0 after.1 lt)) kept;
      noted = right.noted;
      pending = subst (PendingFits a.pending (vec_len a.seals) (vec_capacity a.seals)) (sym after.0) (part_pending a.pending (vec_len a.seals) (vec_capacity a.seals) part.epoch part.shard none);
    }

-- ---- the noted tips

abbrev pub SameBesides : Inside → Inside → Type 0
SameBesides a b = (b.store ≡ a.store) × (b.leaves ≡ a.leaves) × (b.closings ≡ a.closings) × (b.phase ≡ a.phase) × (b.list ≡ a.list) × (b.next ≡ a.next) × (b.parts ≡ a.parts) × (b.pending ≡ a.pending) × (b.seals.items ≡ a.seals.items)

state : List ℕ → ℕ → ℕ → Phase → List ℕ → List ℕ → List (ℕ × Tip) → List Part → List SealItem → Option SealedText → CloserState
state s l c p f n ts ps x o = record { store = s; leaves = l; closings = c; phase = p; list = f; next = n; tips = ts; parts = ps; seals = x; sealed = o }

same_state : (s s' : List ℕ) (l l' c c' : ℕ) (p p' : Phase) (f f' n n' : List ℕ) (t t' : List (ℕ × Tip)) (ps ps' : List Part) (x x' : List SealItem) (o o' : Option SealedText)
    → s ≡ s' → l ≡ l' → c ≡ c' → p ≡ p' → f ≡ f' → n ≡ n' → t ≡ t' → ps ≡ ps' → x ≡ x' → o ≡ o'
    → state s l c p f n t ps x o ≡ state s' l' c' p' f' n' t' ps' x' o'
same_state s s' l l' c c' p p' f f' n n' t t' ps ps' x x' o o' e1 e2 e3 e4 e5 e6 e7 e8 e9 e10 = cc

-- the lists
same_next : (a b : Inside) → b.list ≡ a.list → b.next ≡ a.next → next_or b.next b.list ≡ next_or a.next a.list
same_next a b list next = ap (next_or b.next) list ∙ ap (λ (o : Option (List ℕ)). next_or o a.list) next

pub noted_view : (a b : Inside) → SameBesides a b → Sorted a.tips.entries → IsPartly a.tips.entries (flat_map tips_of (map part_view (take (taken_in a.phase) a.parts))) b.tips.entries → closer_view b ≡ closer_view a
unfolding state
noted_view a b (store, leaves, closings, phase, list, next, parts, pending, seals) up (n, partly) =
    let xs : List (ℕ × Tip) = flat_map tips_of (map part_view (take (taken_in a.phase) a.parts)) in
    let same_parts : map part_view (take (taken_in b.phase) b.parts) ≡ map part_view (take (taken_in a.phase) a.parts) = ap (λ (p : Phase). map part_view (take (taken_in p) b.parts)) phase ∙ ap (λ (ps : List FrozenPart). map part_view (take (taken_in a.phase) ps)) parts in
    let tips : put_all b.tips.entries (flat_map tips_of (map part_view (take (taken_in b.phase) b.parts))) ≡ put_all a.tips.entries xs =
    ap (λ (ps : List Part). put_all b.tips.entries (flat_map tips_of ps)) same_parts ∙ ap (λ (ts : List (ℕ × Tip)). put_all ts xs) partly ∙ put_again a.tips.entries xs n up in
    same_state _ _ _ _ _ _ _ _ _ _ _ _ _ _ _ _ _ _ _ _ store leaves closings phase list (same_next a b list next) tips same_parts
    (ap (λ (x : List SealItem). x ++ seals_of b.pending) seals ∙ ap (λ (p : Option Pending). a.seals.items ++ seals_of p) pending) (ap sealed_of pending)

pub noted_right : (a b : Inside) → SameBesides a b → IsRight a → PendingFits b.pending (vec_len b.seals) (vec_capacity b.seals) b.phase → IsPartly a.tips.entries (flat_map tips_of (map part_view (take (taken_in a.phase) a.parts))) b.tips.entries → IsRight b
noted_right a b same right pending partly = record {
  kept = subst IsKept (sym (noted_view a b same right.noted partly)) right.kept;
  noted = subst Sorted (sym partly.1) (put_all_sorted a.tips.entries (take partly.0 (flat_map tips_of (map part_view (take (taken_in a.phase) a.parts)))) right.noted);
  pending = pending;
}

-- ---- the seal

pub few_noted : (a : Inside) (tips : List (ℕ × Tip)) (parts : List Part) → IsRight a → parts ≡ map part_view (take (taken_in a.phase) a.parts) → tips ≡ put_all a.tips.entries (flat_map tips_of parts) → sum_by (λ e. e.1.count) tips < 2 ^ 64
few_noted a tips parts right same is =
    let view : tips ≡ (closer_view a).tips = is ∙ ap (λ (ps : List Part). put_all a.tips.entries (flat_map tips_of ps)) same in
    omega (arith, few_entries (closer_view a).tips right.kept.few, ap (sum_by (λ (e : ℕ × Tip). e.1.count)) view)

-- what is sealed of an epoch, its tips, its parts and the seals before
made : List ℕ → ℕ → ℕ → List ℕ → ℕ → List (ℕ × Tip) → List Part → List SealItem → SealedText
made store leaves closings families e tips parts seals = sealed_under (record { store = store; leaf = leaves - closings + (e - 1); epoch = e; link = link_after seals }) tips (log_text (record { epoch = e; parts = log_parts parts })) families

made_now : (c : CloserState) → sealed_now c ≡ made c.store c.leaves c.closings c.list (epoch_of c.phase) c.tips c.parts c.seals
unfolding made
made_now c = refl

made_under : (store : List ℕ) (leaves closings : ℕ) (families : List ℕ) (e : ℕ) (tips : List (ℕ × Tip)) (parts : List Part) (seals : List SealItem) (h : Heading) (log : List ℕ)
    → h ≡ record { store = store; leaf = leaves - closings + (e - 1); epoch = e; link = link_after seals } → log ≡ log_text (record { epoch = e; parts = log_parts parts }) → sealed_under h tips log families ≡ made store leaves closings families e tips parts seals
unfolding made
made_under store leaves closings families e tips parts seals h log heading is =
    ap (λ (x : Heading). sealed_under x tips log families) heading ∙ ap (λ (x : List ℕ). sealed_under (record { store = store; leaf = leaves - closings + (e - 1); epoch = e; link = link_after seals }) tips x families) is

item_is : (p : Pending) (e : ℕ) (families : List ℕ) (x : SealedText) → p.epoch ≡ e → p.text ≡ p.sealed.text → p.families ≡ families → p.sealed ≡ x → item_of p ≡ seal_item e families x
item_is p e families x epoch again list sealed =
    ap (λ (n : ℕ). record { epoch = n; leaf = p.sealed.leaf; text = p.text; table = p.sealed.table; families = p.families }) epoch
    ∙ ap (λ (t : List ℕ). record { epoch = e; leaf = p.sealed.leaf; text = t; table = p.sealed.table; families = p.families }) again
    ∙ ap (λ (t : List ℕ). record { epoch = e; leaf = p.sealed.leaf; text = p.sealed.text; table = p.sealed.table; families = t }) list
    ∙ ap (seal_item e families) sealed

pub record SealedFrom (a b : Inside) (e : ℕ) (parts : List Part) (h : Heading) (log : List ℕ) (p : Pending) : Type 0 where
  pub was : a.phase ≡ Full e
  pub heading : h ≡ record { store = a.store; leaf = a.leaves - a.closings + (e - 1); epoch = e; link = link_after a.seals.items }
  pub taken : parts ≡ map part_view (take (taken_in a.phase) a.parts)
  pub tips : b.tips.entries ≡ put_all a.tips.entries (flat_map tips_of parts)
  pub log_is : log ≡ log_text (record { epoch = e; parts = log_parts parts })
  pub is_pending : IsPending h b.tips.entries log a.list p
  pub store : b.store ≡ a.store
  pub leaves : b.leaves ≡ a.leaves
  pub closings : b.closings ≡ a.closings
  pub phase : b.phase ≡ Sealed e
  pub list : b.list ≡ a.list
  pub next : b.next ≡ a.next
  pub seals : b.seals.items ≡ a.seals.items
  pub kept_pending : b.pending ≡ Some p

none_pending : (a : Inside) (e : ℕ) → IsRight a → a.phase ≡ Full e → a.pending ≡ None
none_pending a e right was = subst (PendingFits a.pending (vec_len a.seals) (vec_capacity a.seals)) was right.pending

pub sealed_view : (a b : Inside) (e : ℕ) (parts : List Part) (h : Heading) (log : List ℕ) (p : Pending) → IsRight a → SealedFrom a b e parts h log p → closer_view b ≡ after_seal (closer_view a)
unfolding state
sealed_view a b e parts h log p right f =
    let v : CloserState = closer_view a in
    let epoch : epoch_of a.phase ≡ e = ap epoch_of f.was in
    let all_parts : parts ≡ v.parts = f.taken in
    let tips : b.tips.entries ≡ v.tips = f.tips ∙ ap (λ (ps : List Part). put_all a.tips.entries (flat_map tips_of ps)) all_parts in
    let before : v.seals ≡ a.seals.items = ap (λ (o : Option Pending). a.seals.items ++ seals_of o) (none_pending a e right f.was) ∙ append-nil a.seals.items in
    let under : p.sealed ≡ made a.store a.leaves a.closings a.list e b.tips.entries parts a.seals.items = f.is_pending.sealed ∙ made_under a.store a.leaves a.closings a.list e b.tips.entries parts a.seals.items h log f.heading f.log_is in
    let again : made a.store a.leaves a.closings a.list e b.tips.entries parts a.seals.items ≡ made a.store a.leaves a.closings a.list (epoch_of a.phase) v.tips v.parts v.seals = cc in
    let sealed : p.sealed ≡ sealed_now v = under ∙ again ∙ sym (made_now v) in
    let item : item_of p ≡ seal_item (epoch_of a.phase) a.list (sealed_now v) = item_is p (epoch_of a.phase) a.list (sealed_now v) (f.is_pending.epoch ∙ ap (λ (x : Heading). x.epoch) f.heading ∙ sym epoch) f.is_pending.again f.is_pending.list sealed in
    let none : map part_view (take (taken_in b.phase) b.parts) ≡ [] = ap (λ (x : Phase). map part_view (take (taken_in x) b.parts)) f.phase in
    same_state _ _ _ _ _ _ _ _ _ _ _ _ _ _ _ _ _ _ _ _ f.store f.leaves f.closings (f.phase ∙ ap (λ (n : ℕ). Sealed n) (sym epoch)) f.list (same_next a b f.list f.next)
    (ap (λ (ps : List Part). put_all b.tips.entries (flat_map tips_of ps)) none ∙ tips) none
    (ap (λ (o : Option Pending). b.seals.items ++ seals_of o) f.kept_pending ∙ ap (λ (xs : List SealItem). xs ++ item_of p ∷ []) (f.seals ∙ sym before) ∙ ap (λ (x : SealItem). v.seals ++ x ∷ []) item)
    (ap sealed_of f.kept_pending ∙ ap (λ (x : SealedText). Some x) sealed)

seal_phase : (closings seals : ℕ) (phase : Phase) (e : ℕ) → phase ≡ Full e → SealsFit closings seals phase → SealsFit closings (seals + 1) (Sealed (epoch_of phase))
seal_phase closings seals phase e was fits =
    let full : SealsFit closings seals (Full e) = subst (SealsFit closings seals) was fits in
    subst (λ (n : ℕ). SealsFit closings (seals + 1) (Sealed n)) (sym (ap epoch_of was)) (full.0, omega (arith, full.0), full.1)

pub sealed_right : (a b : Inside) (e : ℕ) (parts : List Part) (h : Heading) (log : List ℕ) (p : Pending) → IsRight a → SealedFrom a b e parts h log p → vec_len b.seals < vec_capacity b.seals → IsRight b
sealed_right a b e parts h log p right f room =
    let v : CloserState = closer_view a in
    let kept : IsKept (after_seal v) = record {
      within = right.kept.within;
      phase = subst (λ (n : ℕ). SealsFit v.closings n (Sealed (epoch_of a.phase))) (sym (length-append v.seals (seal_item (epoch_of v.phase) v.list (sealed_now v) ∷ []))) (seal_phase v.closings (length v.seals) a.phase e f.was right.kept.phase);
      next = tt;
      parts = tt;
      few = right.kept.few;
    } in
    record {
      kept = subst IsKept (sym (sealed_view a b e parts h log p right f)) kept;
      noted = subst Sorted (sym f.tips) (put_all_sorted a.tips.entries (flat_map tips_of parts) right.noted);
      pending = subst (PendingFits b.pending (vec_len b.seals) (vec_capacity b.seals)) (sym f.phase) ((p, f.kept_pending), subst (λ (o : Option Pending). HasRoom o (vec_len b.seals) (vec_capacity b.seals)) (sym f.kept_pending) room);
    }

-- ---- what the closing of a full epoch gives

pub full_parts : (a : Inside) (e : ℕ) → a.phase ≡ Full e → length a.parts ≡ 16 → map part_view a.parts ≡ map part_view (take (taken_in a.phase) a.parts)
full_parts a e was all = ap (map part_view) (sym (ap (λ (x : Phase). take (taken_in x) a.parts) was ∙ take_all 16 a.parts (omega (arith, all))))

pub full_partly : (a : Inside) (e : ℕ) (tips : List (ℕ × Tip)) → a.phase ≡ Full e → length a.parts ≡ 16 → IsPartly a.tips.entries (flat_map tips_of (map part_view a.parts)) tips → IsPartly a.tips.entries (flat_map tips_of (map part_view (take (taken_in a.phase) a.parts))) tips
full_partly a e tips was all partly = subst (λ (ps : List Part). IsPartly a.tips.entries (flat_map tips_of ps) tips) (full_parts a e was all) partly

pub full_small : (a : Inside) (e : ℕ) → IsRight a → a.phase ≡ Full e → length a.parts ≡ 16 → AllByRecursion PartIsSmall (map part_view a.parts) × (length a.parts ≤ 16)
full_small a e right was all = (subst (AllByRecursion PartIsSmall) (sym (full_parts a e was all)) right.kept.parts, omega (arith, all))

-- all of them were put in
pub wholly : (old xs new : List (ℕ × Tip)) → new ≡ put_all old xs → IsPartly old xs new
wholly old xs new is = (length xs, is ∙ ap (put_all old) (sym (take_all (length xs) xs (omega arith))))

pub still_pending : (a : Inside) (e len capacity : ℕ) → IsRight a → a.phase ≡ Full e → PendingFits a.pending len capacity a.phase
still_pending a e len capacity right was = subst (PendingFits a.pending len capacity) (sym was) (none_pending a e right was)
