-- A log that was read ascends by block, whatever numbers its text has.
use Rattle.std.proofs.Common.{◌≡◌, ℕ, zero, suc, Bool, true, false, cond, List, [], ◌∷◌, length, Option, Some, None, Result, Ok, Err, refl, subst}
use Rattle.std.specs.Prelude.{codes}
use Rattle.std.proofs.lemmas.Bool.{and_from}
use Rattle.cp_bytes.specs.Fields.{field_at, ended}
use Rattle.cp_bytes.specs.Fields.Field.{Tag, U32, U64, Epoch}
use Rattle.cp_bytes.proofs.FieldLemmas.{bind_ok, ok_is, ended_ok, at_offset_ok}
use Rattle.cp_chain.specs.Segment.{segment_at}
use Rattle.cp_chain.specs.Log.{LogPart, Log, comes_behind, parts_ascend, log_part_at, log_parts_at, log_of}

where_true : {A : Type 0} (b : Bool) (r : Result A ℕ) (d : ℕ) (y : A) → cond b r (Err d) ≡ Ok y → b ≡ true
where_true true r d y e = refl
where_true false r d y e = absurd cc

log_part_behind : (before : Option ℕ) (bytes : List ℕ) (x : LogPart × List ℕ) → log_part_at before bytes ≡ Ok x → comes_behind before x.0.block ≡ true
unfolding log_part_at
log_part_behind before bytes x e =
    let b = bind_ok (field_at U64 bytes) _ x e in
    let t = bind_ok (cond (comes_behind before b.0.0) (segment_at b.0.1) (Err (length bytes))) _ x b.2 in
    let made : LogPart × List ℕ = (record { block = b.0.0; texts = t.0.0 }, t.0.1) in
    subst (λ (y : LogPart × List ℕ). comes_behind before y.0.block ≡ true) (ok_is made x t.2)
    (where_true (comes_behind before b.0.0) (segment_at b.0.1) (length bytes) t.0 t.1)

log_parts_rise : (n : ℕ) (before : Option ℕ) (bytes : List ℕ) (x : List LogPart × List ℕ) → log_parts_at n before bytes ≡ Ok x → parts_ascend before x.0 ≡ true
unfolding log_parts_at
log_parts_rise zero before bytes x e =
    let made : List LogPart × List ℕ = ([], bytes) in
    subst (λ (y : List LogPart × List ℕ). parts_ascend before y.0 ≡ true) (ok_is made x e) refl
log_parts_rise (suc n) before bytes x e =
    let a = bind_ok (log_part_at before bytes) _ x e in
    let b = bind_ok (log_parts_at n (Some a.0.0.block) a.0.1) _ x a.2 in
    let made : List LogPart × List ℕ = (a.0.0 ∷ b.0.0, b.0.1) in
    subst (λ (y : List LogPart × List ℕ). parts_ascend before y.0 ≡ true) (ok_is made x b.2)
    (and_from _ _ (log_part_behind before bytes a.0 a.1) (log_parts_rise n (Some a.0.0.block) a.0.1 b.0 b.1))

pub log_ascends : (bytes : List ℕ) (l : Log) → log_of bytes ≡ Ok l → parts_ascend None l.parts ≡ true
unfolding log_of
log_ascends bytes l e =
    let w = at_offset_ok bytes _ l e in
    let a = bind_ok (field_at (Tag (codes "CPl1")) bytes) _ l w in
    let b = bind_ok (field_at Epoch a.0.1) _ l a.2 in
    let c = bind_ok (field_at U32 b.0.1) _ l b.2 in
    let p = bind_ok (log_parts_at c.0.0 None c.0.1) _ l c.2 in
    let d = bind_ok (ended p.0) _ l p.2 in
    let made : Log = record { epoch = b.0.0; parts = d.0 } in
    let rising = log_parts_rise c.0.0 None c.0.1 p.0 p.1 in
    subst (λ (y : Log). parts_ascend None y.parts ≡ true) (ok_is made l d.2) (subst (λ (ps : List LogPart). parts_ascend None ps ≡ true) (ended_ok p.0 d.0 d.1).0 rising)
