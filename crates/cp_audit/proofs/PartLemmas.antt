-- What the parts of a log are seen as.
use Rattle.std.proofs.Common.{◌≡◌, ℕ, zero, suc, ◌<◌, List, [], ◌∷◌, ◌++◌, length, get_or, sym, ap, subst, ◌∙◌, arith}
use Rattle.std.specs.Prelude.{map}
use Rattle.std.specs.List.{AllByRecursion}
use Rattle.std.proofs.lemmas.List.{get_or-map}
use Rattle.cp_chain.specs.Frame.{Frame}
use Rattle.cp_chain.specs.Log.{LogPart}
use Rattle.cp_chain.specs.Standing.{reaches}
use Rattle.cp_chain.specs.View.{frame_view}
use Rattle.cp_audit.specs.declared.frames.Frames.{Frames}
use Rattle.cp_audit.specs.declared.part.Part.{Part}
use Rattle.cp_audit.specs.Parts.{part_view, IsFramed, frame_in}
use Rattle.cp_audit.proofs.FaultLemmas.{part_by}

pub pushed : (items : List Part) (part : Part) (block : ℕ) → part.frame.block ≡ block → map part_view items ++ record { block = block; texts = part.segment } ∷ [] ≡ map part_view (items ++ part ∷ [])
pushed [] part block e = ap (λ (b : ℕ). record { block = b; texts = part.segment } ∷ []) (sym e)
pushed (x ∷ xs) part block e = ap (λ (l : List LogPart). part_view x ∷ l) (pushed xs part block e)

pub all_at : {A : Type 0} (P : A → Type 0) (xs : List A) (i : ℕ) (d : A) → AllByRecursion P xs → i < length xs → P (get_or xs i d)
all_at P [] i d all lt = absurd (omega (arith, lt))
all_at P (x ∷ xs) zero d all lt = all.0
all_at P (x ∷ xs) (suc i) d all lt = all_at P xs i d all.1 (omega (arith, lt))

-- a part at its place
pub seen_at : (f : Frames) (parts : List Part) (i : ℕ) (part : Part) → i < length parts → part ≡ get_or parts i part → AllByRecursion (IsFramed f) parts
    → ((part_by (map part_view parts) i).block ≡ part.frame.block) × (reaches (frame_in f (part_by (map part_view parts) i).block) (part_by (map part_view parts) i).texts ≡ reaches (frame_view part.frame) part.segment)
seen_at f parts i part lt is all =
    let e : part_by (map part_view parts) i ≡ part_view part = get_or-map part_view parts i part (record { block = 0; texts = [] }) lt ∙ ap part_view (sym is) in
    let framed : IsFramed f part = subst (IsFramed f) (sym is) (all_at (IsFramed f) parts i part all lt) in
    (ap (λ (p : LogPart). p.block) e, ap (λ (p : LogPart). reaches (frame_in f p.block) p.texts) e ∙ ap (λ (fr : Frame). reaches fr part.segment) (sym framed))
