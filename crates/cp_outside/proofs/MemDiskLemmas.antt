-- One more call of a disk in memory.
use Rattle.std.proofs.Common.{◌≡◌, ◌⊎◌, inl, inr, ℕ, zero, suc, ◌+◌, ◌<◌, ◌≤◌, List, [], ◌∷◌, ◌++◌, length, drop, Result, Ok, Err, OnOk, IfOk, refl, sym, ◌∙◌, ap, subst, arith, length-drop}
use Rattle.std.proofs.lemmas.List.{take_all, take-append-le, drop-append-le, append-nil, length_push}
use Rattle.cp_outside.specs.Disks.{overwritten, IsTorn, Follows, Only, Among, Elapses}
use Rattle.cp_outside.specs.MemDisks.{MadeCall, Looked, Wrote, Synced, size_of, made_one, made_calls, written_by, content_step, image_step, content_after, images_after, images_of, left_since}
use Rattle.cp_outside.specs.MemDiskLaws.{now_left}
use Rattle.cp_outside.specs.declared.disk_call.DiskCall.{DiskCall}
use Rattle.cp_outside.specs.declared.disk_call.DiskCall.TheVariants.{Read, Write, Sync}

-- a call's own bytes, with more behind them
one_more : (call : DiskCall) (bytes more : List ℕ) → size_of call ≤ length bytes → made_one call (bytes ++ more) ≡ made_one call bytes
one_more Read bytes more le = refl
one_more (Write at size) bytes more le = ap (λ (l : List ℕ). Wrote at l) (take-append-le size bytes more le)
one_more Sync bytes more le = refl

-- the record with one more call
pub made_pushed : (calls : List DiskCall) (bytes more : List ℕ) (call : DiskCall) → written_by calls ≡ length bytes
    → made_calls (calls ++ call ∷ []) (bytes ++ more) ≡ made_calls calls bytes ++ made_one call more ∷ []
made_pushed [] [] more call is = refl
made_pushed [] (b ∷ bytes) more call is = absurd (omega (arith, is))
made_pushed (c ∷ calls) bytes more call is =
    let le : size_of c ≤ length bytes = omega (arith, is) in
    let rest : written_by calls ≡ length (drop (size_of c) bytes) = omega (arith, is, length-drop (size_of c) bytes) in
    ap (λ (m : MadeCall). m ∷ made_calls (calls ++ call ∷ []) (drop (size_of c) (bytes ++ more))) (one_more c bytes more le)
    ∙ ap (λ (l : List ℕ). made_one c bytes ∷ made_calls (calls ++ call ∷ []) l) (drop-append-le (size_of c) bytes more le)
    ∙ ap (λ (l : List MadeCall). made_one c bytes ∷ l) (made_pushed calls (drop (size_of c) bytes) more call rest)

pub made_looked : (calls : List DiskCall) (bytes : List ℕ) → written_by calls ≡ length bytes → made_calls (calls ++ Read ∷ []) bytes ≡ made_calls calls bytes ++ Looked ∷ []
made_looked calls bytes is = ap (λ (l : List ℕ). made_calls (calls ++ Read ∷ []) l) (sym (append-nil bytes)) ∙ made_pushed calls bytes [] Read is

pub made_synced : (calls : List DiskCall) (bytes : List ℕ) → written_by calls ≡ length bytes → made_calls (calls ++ Sync ∷ []) bytes ≡ made_calls calls bytes ++ Synced ∷ []
made_synced calls bytes is = ap (λ (l : List ℕ). made_calls (calls ++ Sync ∷ []) l) (sym (append-nil bytes)) ∙ made_pushed calls bytes [] Sync is

pub made_wrote : (calls : List DiskCall) (bytes more : List ℕ) (at : ℕ) → written_by calls ≡ length bytes
    → made_calls (calls ++ Write at (length more) ∷ []) (bytes ++ more) ≡ made_calls calls bytes ++ Wrote at more ∷ []
made_wrote calls bytes more at is =
    made_pushed calls bytes more (Write at (length more)) is
    ∙ ap (λ (l : List ℕ). made_calls calls bytes ++ Wrote at l ∷ []) (take_all (length more) more (omega arith))

pub written_pushed : (calls : List DiskCall) (call : DiskCall) → written_by (calls ++ call ∷ []) ≡ written_by calls + size_of call
written_pushed [] call = omega arith
written_pushed (c ∷ calls) call = omega (arith, written_pushed calls call)

-- what is there, and the images, after one more call
pub content_pushed : (content : List ℕ) (calls : List MadeCall) (call : MadeCall) → content_after content (calls ++ call ∷ []) ≡ content_step (content_after content calls) call
content_pushed content [] call = refl
content_pushed content (c ∷ calls) call = content_pushed (content_step content c) calls call

images_pushed : (content : List ℕ) (images : List ℕ → Type 0) (calls : List MadeCall) (call : MadeCall) (image : List ℕ)
    → images_after content images (calls ++ call ∷ []) image → image_step (content_after content calls) (images_after content images calls) call image
images_pushed content images [] call image left = left
images_pushed content images (c ∷ calls) call image left = images_pushed (content_step content c) (image_step content images c) calls call image left

-- the images at the last moment
last_images : (start : List ℕ) (calls : List MadeCall) (image : List ℕ) → left_since start calls (length calls) image → images_of start calls image
last_images start calls image left = subst (λ (cs : List MadeCall). images_of start cs image) (take_all left.0 calls left.1) left.3

last_step : (start : List ℕ) (calls later : List MadeCall) (call : MadeCall) (image : List ℕ) → later ≡ calls ++ call ∷ []
    → left_since start later (length later) image → image_step (content_after start calls) (images_of start calls) call image
last_step start calls later call image is left =
    images_pushed start (λ image. image ≡ start) calls call image (subst (λ (cs : List MadeCall). images_of start cs image) is (last_images start later image left))

pub looked_among : (start : List ℕ) (calls later : List MadeCall) → later ≡ calls ++ Looked ∷ []
    → Among (left_since start calls (length calls)) (left_since start later (length later))
looked_among start calls later is = λ image left. now_left start calls image (last_step start calls later Looked image is left)

pub wrote_follows : (start : List ℕ) (calls later : List MadeCall) (at : ℕ) (bytes : List ℕ) → later ≡ calls ++ Wrote at bytes ∷ []
    → Follows (IsTorn at bytes) (left_since start calls (length calls)) (left_since start later (length later))
wrote_follows start calls later at bytes is = λ image left.
    let from = last_step start calls later (Wrote at bytes) image is left in
    (from.0, now_left start calls from.0 from.1, from.2)

pub synced_only : (start content : List ℕ) (calls later : List MadeCall) → content ≡ content_after start calls → later ≡ calls ++ Synced ∷ []
    → Only content (left_since start later (length later))
synced_only start content calls later holds is = λ image left. last_step start calls later Synced image is left ∙ sym holds

pub synced_among : (start content : List ℕ) (calls later : List MadeCall) → content ≡ content_after start calls → left_since start calls (length calls) content
    → later ≡ calls ++ Synced ∷ [] → Among (left_since start calls (length calls)) (left_since start later (length later))
synced_among start content calls later holds here is = λ image left.
    subst (λ (c : List ℕ). left_since start calls (length calls) c) (sym (synced_only start content calls later holds is image left)) here

-- time goes on
on_ok : {T E : Type 0} (r : Result T E) {P : Type 0} → P → OnOk r P
on_ok (Ok x) p = p
on_ok (Err e) p = tt

pub lt_or_le : (a b : ℕ) → (a < b) ⊎ (b ≤ a)
lt_or_le a zero = inr (omega arith)
lt_or_le zero (suc b) = inl (omega arith)
lt_or_le (suc a) (suc b) = elim (lt_or_le a b) [ inl lt ↦ inl (omega (arith, lt)) | inr le ↦ inr (omega (arith, le)) ]

module _ (start : List ℕ) (calls : List MadeCall) (call : MadeCall) where
  abbrev more : List MadeCall
  more = calls ++ call ∷ []

  longer : length more ≡ length calls + 1
  longer = length_push calls call

  since_kept : (t : ℕ) (image : List ℕ) → left_since start calls t image → left_since start more t image
  since_kept t image left =
      (left.0, left.1, omega (arith, left.2, longer), subst (λ (cs : List MadeCall). images_of start cs image) (sym (take-append-le left.0 calls (call ∷ []) left.2)) left.3)

  since_adds : (t : ℕ) (image : List ℕ) → left_since start more t image → left_since start calls t image ⊎ left_since start more (length more) image
  since_adds t image left = elim (lt_or_le (length calls) left.0) [
    | inl after ↦ inr (left.0, omega (arith, after, longer), left.2, left.3)
    | inr before ↦ inl (left.0, left.1, before, subst (λ (cs : List MadeCall). images_of start cs image) (take-append-le left.0 calls (call ∷ []) before) left.3)
  ]

  elapses : {T E : Type 0} (r : Result T E) → Elapses (length calls) (length more) (left_since start calls) (left_since start more) r
  elapses r = record {
    later = omega (arith, longer);
    moves_on = on_ok r (omega (arith, longer));
    keeps = λ t image le left. since_kept t image left;
    adds = λ t image le left. since_adds t image left;
  }

pub elapses_to : {T E : Type 0} (start : List ℕ) (calls later : List MadeCall) (call : MadeCall) (r : Result T E) → later ≡ calls ++ call ∷ []
    → Elapses (length calls) (length later) (left_since start calls) (left_since start later) r
elapses_to start calls later call r is =
    subst (λ (cs : List MadeCall). Elapses (length calls) (length cs) (left_since start calls) (left_since start cs) r) (sym is) (elapses start calls call r)

-- the content and the written bytes after one more call
pub replayed_on : (start content content' : List ℕ) (calls later : List MadeCall) (call : MadeCall) → content ≡ content_after start calls → later ≡ calls ++ call ∷ []
    → content' ≡ content_step content call → content' ≡ content_after start later
replayed_on start content content' calls later call holds is step =
    step ∙ ap (λ (l : List ℕ). content_step l call) holds ∙ sym (content_pushed start calls call) ∙ ap (λ (cs : List MadeCall). content_after start cs) (sym is)

-- fewer images before lead to fewer images after
pub images_more : (content : List ℕ) (few many : List ℕ → Type 0) (calls : List MadeCall) → ((image : List ℕ) → few image → many image)
    → (image : List ℕ) → images_after content few calls image → images_after content many calls image
images_more content few many [] also image left = also image left
images_more content few many (Looked ∷ calls) also image left = images_more content (image_step content few Looked) (image_step content many Looked) calls also image left
images_more content few many (Wrote at bytes ∷ calls) also image left =
    images_more (overwritten content at bytes) (image_step content few (Wrote at bytes)) (image_step content many (Wrote at bytes)) calls
    (λ other from. (from.0, also from.0 from.1, from.2)) image left
images_more content few many (Synced ∷ calls) also image left = images_more content (image_step content few Synced) (image_step content many Synced) calls (λ other same. same) image left

-- one call of a replay that tears what was written
pub step_on : (content image content' image' : List ℕ) (call : MadeCall) (calls : List MadeCall) → content' ≡ content_step content call
    → image_step content (λ other. other ≡ image) call image' → (left : List ℕ)
    → images_after content' (λ other. other ≡ image') calls left → images_after content (λ other. other ≡ image) (call ∷ calls) left
step_on content image content' image' call calls content_is image_is left here =
    images_more (content_step content call) (λ other. other ≡ image') (image_step content (λ other. other ≡ image) call) calls
    (λ other same. subst (λ (l : List ℕ). image_step content (λ other. other ≡ image) call l) (sym same) image_is) left
    (subst (λ (c : List ℕ). images_after c (λ other. other ≡ image') calls left) content_is here)

-- and in the loop over the calls
pub rest_on : (calls : List DiskCall) (i : ℕ) (call : DiskCall) (bytes rest : List ℕ) → drop i calls ≡ call ∷ drop (i + 1) calls → rest ≡ drop (size_of call) bytes
    → written_by (drop i calls) ≤ length bytes → written_by (drop (i + 1) calls) ≤ length rest
rest_on calls i call bytes rest next is le = omega (arith, ap written_by next, ap length is, length-drop (size_of call) bytes, le)

pub loop_on : (calls : List DiskCall) (i : ℕ) (call : DiskCall) (content image content' image' bytes rest left : List ℕ) → drop i calls ≡ call ∷ drop (i + 1) calls
    → content' ≡ content_step content (made_one call bytes) → image_step content (λ other. other ≡ image) (made_one call bytes) image' → rest ≡ drop (size_of call) bytes
    → images_after content' (λ other. other ≡ image') (made_calls (drop (i + 1) calls) rest) left
    → images_after content (λ other. other ≡ image) (made_calls (drop i calls) bytes) left
loop_on calls i call content image content' image' bytes rest left next content_is image_is is here =
    subst (λ (cs : List DiskCall). images_after content (λ other. other ≡ image) (made_calls cs bytes) left) (sym next)
    (step_on content image content' image' (made_one call bytes) (made_calls (drop (i + 1) calls) (drop (size_of call) bytes)) content_is image_is left
    (subst (λ (l : List ℕ). images_after content' (λ other. other ≡ image') (made_calls (drop (i + 1) calls) l) left) is here))

-- the image that a crash leaves
pub image_there : (s t b c : List ℕ) (calls more : List DiskCall) (image : List ℕ) → s ≡ t → calls ≡ more → b ≡ c
    → images_of s (made_calls calls b) image → images_of t (made_calls more c) image
image_there s t b c calls more image s_is calls_is b_is left =
    subst (λ (l : List ℕ). images_of l (made_calls more c) image) s_is
    (subst (λ (cs : List DiskCall). images_of s (made_calls cs c) image) calls_is
    (subst (λ (l : List ℕ). images_of s (made_calls calls l) image) b_is left))

pub if_ok_more : {T E : Type 0} (r : Result T E) {P Q : T → Type 0} → IfOk r P → ((x : T) → P x → Q x) → IfOk r Q
if_ok_more (Ok x) p also = also x p
if_ok_more (Err e) p also = tt
