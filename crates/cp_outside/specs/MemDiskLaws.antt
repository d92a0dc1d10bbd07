-- Laws of a disk in memory.
use Rattle.std.specs.Prelude.{◌≡◌, ◌≤◌, ℕ, List, [], ◌∷◌, length, refl}
use Rattle.std.proofs.Common.{sym, arith, subst}
use Rattle.std.proofs.lemmas.List.{take_all}
use Rattle.cp_outside.specs.Disks.{overwritten}
use Rattle.cp_outside.specs.DiskLaws.{torn_whole}
use Rattle.cp_outside.specs.MemDisks.{MadeCall, Looked, Wrote, Synced, image_step, content_after, images_after, images_of, left_since}

-- what is there is one of the images
content_is_image : (content : List ℕ) (images : List ℕ → Type 0) (calls : List MadeCall) → images content → images_after content images calls (content_after content calls)
content_is_image content images [] here = here
content_is_image content images (Looked ∷ calls) here = content_is_image content (image_step content images Looked) calls here
content_is_image content images (Wrote at bytes ∷ calls) here =
    content_is_image (overwritten content at bytes) (image_step content images (Wrote at bytes)) calls (content, here, torn_whole at bytes content)
content_is_image content images (Synced ∷ calls) here = content_is_image content (image_step content images Synced) calls refl

-- at the last moment the images are those after all calls
pub now_left : (start : List ℕ) (calls : List MadeCall) (image : List ℕ) → images_of start calls image → left_since start calls (length calls) image
now_left start calls image left =
    (length calls, omega arith, omega arith, subst (λ (cs : List MadeCall). images_of start cs image) (sym (take_all (length calls) calls (omega arith))) left)

pub seen_is_left : (start content : List ℕ) (calls : List MadeCall) → content ≡ content_after start calls → left_since start calls (length calls) content
seen_is_left start content calls is =
    now_left start calls content (subst (λ (c : List ℕ). images_of start calls c) (sym is) (content_is_image start (λ image. image ≡ start) calls refl))

pub counts_since : (start : List ℕ) (calls : List MadeCall) (t : ℕ) (image : List ℕ) → t ≤ length calls
    → left_since start calls (length calls) image → left_since start calls t image
counts_since start calls t image le left = (left.0, omega (arith, le, left.1), left.2, left.3)
