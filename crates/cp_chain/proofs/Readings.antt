-- The laws of the texts of segments and logs: what was spelled is read, and what is read was spelled so.
use Rattle.std.proofs.Common.{◌≡◌, ℕ, zero, suc, ◌^◌, ◌<◌, ◌≤◌, Bool, true, false, cond, List, [], ◌∷◌, ◌++◌, length, Option, Some, None, Result, Ok, Err, refl, sym, ap, subst, ◌∙◌}
use Rattle.std.specs.Prelude.{codes, flat_map}
use Rattle.std.specs.Int.{w32, w64, to_be_bytes}
use Rattle.std.specs.List.{AllByRecursion}
use Rattle.std.proofs.lemmas.Bool.{and_from, and_parts}
use Rattle.std.proofs.lemmas.List.{append-nil}
use Rattle.cp_bytes.specs.Fields.{IsBytes, field_at, part, part_at, ended}
use Rattle.cp_bytes.specs.Fields.Field.{Tag, U32, U64, Epoch}
use Rattle.cp_bytes.proofs.FieldLemmas.{bind_ok, ok_is, ended_ok, at_offset_ok, Takes, Takes-then, field_takes, field_again}
use Rattle.cp_statements.proofs.Parts.{part_takes, part_again, at_front, whole_again, whole_takes}
use Rattle.cp_chain.specs.Segment.{PartFits, SegmentFits, segment_text, parts_at, segment_at, segment_of}
use Rattle.cp_chain.specs.Log.{LogPart, Log, log_part_text, log_text, comes_behind, parts_ascend, LogPartFits, LogFits, log_part_at, log_parts_at, log_of}

-- ---- segments

parts_again : (ts : List (List ℕ)) (rest : List ℕ) → AllByRecursion PartFits ts → parts_at (length ts) (flat_map part ts ++ rest) ≡ Ok (ts, rest)
unfolding parts_at
parts_again [] rest all = refl
parts_again (t ∷ ts) rest all =
    let a = at_front part_at t (part t) (flat_map part ts) rest (λ more. part_again t more all.0) in
    rw (a, parts_again ts rest all.1) refl

parts_take : (n : ℕ) (bytes : List ℕ) (x : List (List ℕ) × List ℕ) → IsBytes bytes → parts_at n bytes ≡ Ok x → Takes bytes (flat_map part x.0) x.1 × (length x.0 ≡ n) × AllByRecursion PartFits x.0
unfolding parts_at
parts_take zero bytes x fits e =
    let made : List (List ℕ) × List ℕ = ([], bytes) in
    subst (λ (y : List (List ℕ) × List ℕ). Takes bytes (flat_map part y.0) y.1 × (length y.0 ≡ zero) × AllByRecursion PartFits y.0) (ok_is made x e) (record { parts = refl; rest_fits = fits }, refl, tt)
parts_take (suc n) bytes x fits e =
    let a = bind_ok (part_at bytes) _ x e in
    let b = bind_ok (parts_at n a.0.1) _ x a.2 in
    let ta = part_takes bytes a.0 fits a.1 in
    let tb = parts_take n a.0.1 b.0 ta.0.rest_fits b.1 in
    let made : List (List ℕ) × List ℕ = (a.0.0 ∷ b.0.0, b.0.1) in
    subst (λ (y : List (List ℕ) × List ℕ). Takes bytes (flat_map part y.0) y.1 × (length y.0 ≡ suc n) × AllByRecursion PartFits y.0) (ok_is made x b.2)
    (Takes-then bytes (part a.0.0) a.0.1 (flat_map part b.0.0) b.0.1 ta.0 tb.0, ap suc tb.1, (ta.1, tb.2))

pub segment_at_again : (ts : List (List ℕ)) (rest : List ℕ) → SegmentFits ts → segment_at (segment_text ts ++ rest) ≡ Ok (ts, rest)
unfolding segment_at segment_text
segment_at_again ts rest fits =
    let a = at_front (field_at U32) (length ts) (to_be_bytes w32 (length ts)) (flat_map part ts) rest (λ more. field_again U32 (length ts) more fits.0) in
    rw (a, parts_again ts rest fits.1) refl

pub segment_at_takes : (bytes : List ℕ) (x : List (List ℕ) × List ℕ) → IsBytes bytes → segment_at bytes ≡ Ok x → Takes bytes (segment_text x.0) x.1 × SegmentFits x.0
unfolding segment_at segment_text
segment_at_takes bytes x fits e =
    let a = bind_ok (field_at U32 bytes) _ x e in
    let ta = field_takes U32 bytes a.0 fits a.1 in
    let tb = parts_take a.0.0 a.0.1 x ta.0.rest_fits a.2 in
    let both = Takes-then bytes (to_be_bytes w32 a.0.0) a.0.1 (flat_map part x.0) x.1 ta.0 tb.0 in
    (subst (λ (n : ℕ). Takes bytes (to_be_bytes w32 n ++ flat_map part x.0) x.1) (sym tb.1) both, (subst (λ (n : ℕ). n < 2 ^ 32) (sym tb.1) ta.1, tb.2))

pub segment_again : (ts : List (List ℕ)) → SegmentFits ts → segment_of (segment_text ts) ≡ Ok ts
unfolding segment_of
segment_again ts fits = whole_again segment_at ts (segment_text ts) (λ rest. segment_at_again ts rest fits)

pub segment_takes : (bytes : List ℕ) (ts : List (List ℕ)) → IsBytes bytes → segment_of bytes ≡ Ok ts → (bytes ≡ segment_text ts) × SegmentFits ts
unfolding segment_of
segment_takes bytes ts fits e = whole_takes segment_at segment_text SegmentFits bytes ts (λ y. segment_at_takes bytes y fits) e

-- ---- logs

given_then : {A : Type 0} (b : Bool) (r : Result A ℕ) (d : ℕ) (y : A) → cond b r (Err d) ≡ Ok y → (b ≡ true) × (r ≡ Ok y)
given_then true r d y e = (refl, e)
given_then false r d y e = absurd cc

log_part_again : (before : Option ℕ) (p : LogPart) (rest : List ℕ) → comes_behind before p.block ≡ true → LogPartFits p → log_part_at before (log_part_text p ++ rest) ≡ Ok (p, rest)
unfolding log_part_at log_part_text
log_part_again before p rest behind fits =
    let a = at_front (field_at U64) p.block (to_be_bytes w64 p.block) (segment_text p.texts) rest (λ more. field_again U64 p.block more fits.0) in
    let b = segment_at_again p.texts rest fits.1 in
    rw a (rw behind (rw b refl))

log_part_takes : (before : Option ℕ) (bytes : List ℕ) (x : LogPart × List ℕ) → IsBytes bytes → log_part_at before bytes ≡ Ok x → Takes bytes (log_part_text x.0) x.1 × (comes_behind before x.0.block ≡ true) × LogPartFits x.0
unfolding log_part_at log_part_text
log_part_takes before bytes x fits e =
    let b = bind_ok (field_at U64 bytes) _ x e in
    let t = bind_ok (cond (comes_behind before b.0.0) (segment_at b.0.1) (Err (length bytes))) _ x b.2 in
    let g = given_then (comes_behind before b.0.0) (segment_at b.0.1) (length bytes) t.0 t.1 in
    let tb = field_takes U64 bytes b.0 fits b.1 in
    let ts = segment_at_takes b.0.1 t.0 tb.0.rest_fits g.1 in
    let made : LogPart × List ℕ = (record { block = b.0.0; texts = t.0.0 }, t.0.1) in
    subst (λ (y : LogPart × List ℕ). Takes bytes (to_be_bytes w64 y.0.block ++ segment_text y.0.texts) y.1 × (comes_behind before y.0.block ≡ true) × LogPartFits y.0) (ok_is made x t.2)
    (Takes-then bytes (to_be_bytes w64 b.0.0) b.0.1 (segment_text t.0.0) t.0.1 tb.0 ts.0, g.0, (tb.1, ts.1))

log_parts_again : (before : Option ℕ) (parts : List LogPart) (rest : List ℕ) → parts_ascend before parts ≡ true → AllByRecursion LogPartFits parts → log_parts_at (length parts) before (flat_map log_part_text parts ++ rest) ≡ Ok (parts, rest)
unfolding log_parts_at
log_parts_again before [] rest rising all = refl
log_parts_again before (p ∷ parts) rest rising all =
    let w = and_parts (comes_behind before p.block) (parts_ascend (Some p.block) parts) rising in
    let a = at_front (log_part_at before) p (log_part_text p) (flat_map log_part_text parts) rest (λ more. log_part_again before p more w.0 all.0) in
    rw a (rw (log_parts_again (Some p.block) parts rest w.1 all.1) refl)

log_parts_take : (n : ℕ) (before : Option ℕ) (bytes : List ℕ) (x : List LogPart × List ℕ) → IsBytes bytes → log_parts_at n before bytes ≡ Ok x → Takes bytes (flat_map log_part_text x.0) x.1 × (length x.0 ≡ n) × (parts_ascend before x.0 ≡ true) × AllByRecursion LogPartFits x.0
unfolding log_parts_at
log_parts_take zero before bytes x fits e =
    let made : List LogPart × List ℕ = ([], bytes) in
    subst (λ (y : List LogPart × List ℕ). Takes bytes (flat_map log_part_text y.0) y.1 × (length y.0 ≡ zero) × (parts_ascend before y.0 ≡ true) × AllByRecursion LogPartFits y.0) (ok_is made x e) (record { parts = refl; rest_fits = fits }, refl, refl, tt)
log_parts_take (suc n) before bytes x fits e =
    let a = bind_ok (log_part_at before bytes) _ x e in
    let b = bind_ok (log_parts_at n (Some a.0.0.block) a.0.1) _ x a.2 in
    let ta = log_part_takes before bytes a.0 fits a.1 in
    let tb = log_parts_take n (Some a.0.0.block) a.0.1 b.0 ta.0.rest_fits b.1 in
    let made : List LogPart × List ℕ = (a.0.0 ∷ b.0.0, b.0.1) in
    let both = Takes-then bytes (log_part_text a.0.0) a.0.1 (flat_map log_part_text b.0.0) b.0.1 ta.0 tb.0 in
    subst (λ (y : List LogPart × List ℕ). Takes bytes (flat_map log_part_text y.0) y.1 × (length y.0 ≡ suc n) × (parts_ascend before y.0 ≡ true) × AllByRecursion LogPartFits y.0) (ok_is made x b.2)
    (both, ap suc tb.1, and_from _ _ ta.1 tb.2, (ta.2, tb.3))

pub log_again : (l : Log) → LogFits l → log_of (log_text l) ≡ Ok l
unfolding log_of log_text
log_again l fits =
    let parts : List ℕ = flat_map log_part_text l.parts in
    let behind : List ℕ = to_be_bytes w32 (length l.parts) ++ parts in
    let a = field_again (Tag (codes "CPl1")) tt (to_be_bytes w64 l.epoch ++ behind) tt in
    let b = field_again Epoch l.epoch behind fits.0 in
    let c = field_again U32 (length l.parts) parts fits.1 in
    let d : log_parts_at (length l.parts) None parts ≡ Ok (l.parts, []) = ap (log_parts_at (length l.parts) None) (sym (append-nil parts)) ∙ log_parts_again None l.parts [] fits.2 fits.3 in
    rw a (rw b (rw c (rw d refl)))

pub log_takes : (bytes : List ℕ) (l : Log) → IsBytes bytes → log_of bytes ≡ Ok l → (bytes ≡ log_text l) × LogFits l
unfolding log_of log_text
log_takes bytes l fits e =
    let w = at_offset_ok bytes _ l e in
    let a = bind_ok (field_at (Tag (codes "CPl1")) bytes) _ l w in
    let b = bind_ok (field_at Epoch a.0.1) _ l a.2 in
    let c = bind_ok (field_at U32 b.0.1) _ l b.2 in
    let p = bind_ok (log_parts_at c.0.0 None c.0.1) _ l c.2 in
    let d = bind_ok (ended p.0) _ l p.2 in
    let ta = field_takes (Tag (codes "CPl1")) bytes a.0 fits a.1 in
    let tb = field_takes Epoch a.0.1 b.0 ta.0.rest_fits b.1 in
    let tc = field_takes U32 b.0.1 c.0 tb.0.rest_fits c.1 in
    let tp = log_parts_take c.0.0 None c.0.1 p.0 tc.0.rest_fits p.1 in
    let done = ended_ok p.0 d.0 d.1 in
    log_joined bytes a.0.1 b.0.1 c.0.1 b.0.0 c.0.0 p.0 l ta.0 tb.0 tc.0 tp.0 tp.1 done.1 (ap (λ (ps : List LogPart). record { epoch = b.0.0; parts = ps }) done.0 ∙ ok_is _ l d.2) tb.1 tc.1 tp.2 tp.3
  where
    log_joined : (bytes r1 r2 r3 : List ℕ) (epoch n : ℕ) (p : List LogPart × List ℕ) (l : Log) → Takes bytes (codes "CPl1") r1 → Takes r1 (to_be_bytes w64 epoch) r2 → Takes r2 (to_be_bytes w32 n) r3 → Takes r3 (flat_map log_part_text p.0) p.1 → length p.0 ≡ n → p.1 ≡ []
        → record { epoch = epoch; parts = p.0 } ≡ l → ((1 ≤ epoch) × (epoch < 2 ^ 64)) → n < 2 ^ 32 → parts_ascend None p.0 ≡ true → AllByRecursion LogPartFits p.0 → (bytes ≡ log_text l) × LogFits l
    log_joined bytes r1 r2 r3 epoch n p l ta tb tc tp size none is fe fn rising all =
        let made : Log = record { epoch = epoch; parts = p.0 } in
        let x = Takes-then r2 (to_be_bytes w32 n) r3 (flat_map log_part_text p.0) p.1 tc tp in
        let y = Takes-then r1 (to_be_bytes w64 epoch) r2 (to_be_bytes w32 n ++ flat_map log_part_text p.0) p.1 tb x in
        let z = Takes-then bytes (codes "CPl1") r1 (to_be_bytes w64 epoch ++ (to_be_bytes w32 n ++ flat_map log_part_text p.0)) p.1 ta y in
        let whole : bytes ≡ log_text made = z.parts ∙ ap (λ (r : List ℕ). (codes "CPl1" ++ (to_be_bytes w64 epoch ++ (to_be_bytes w32 n ++ flat_map log_part_text p.0))) ++ r) none ∙ append-nil _ ∙ ap (λ (k : ℕ). codes "CPl1" ++ (to_be_bytes w64 epoch ++ (to_be_bytes w32 k ++ flat_map log_part_text p.0))) (sym size) in
        subst (λ (v : Log). (bytes ≡ log_text v) × LogFits v) is (whole, (fe, subst (λ (k : ℕ). k < 2 ^ 32) (sym size) fn, rising, all))
