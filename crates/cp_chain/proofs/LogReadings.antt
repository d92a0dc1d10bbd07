-- Parts of a log in a row: read one by one, from the front.
use Rattle.std.proofs.Common.{◌≡◌, ℕ, zero, suc, ◌+◌, ◌<◌, List, [], ◌∷◌, ◌++◌, Option, Some, None, Result, Ok, Err, refl, sym, ap, subst, ◌∙◌, arith}
use Rattle.std.specs.Prelude.{IsOk}
use Rattle.cp_bytes.proofs.FieldLemmas.{bind_ok, ok_is}
use Rattle.cp_chain.specs.Segment.{first_or_none}
use Rattle.cp_chain.specs.Log.{LogPart, log_part_at, log_parts_at, log_parts_in}
use Rattle.cp_chain.proofs.Parts.{is_read}

abbrev Read : Type 0
Read = Result (List LogPart × List ℕ) ℕ

abbrev read_as : List LogPart → List ℕ → Read
read_as parts rest = Ok (parts, rest)

-- the block of the last part, or else the one before
abbrev pub last_block : Option ℕ → List LogPart → Option ℕ
last_block before [] = before
last_block before (p ∷ ps) = last_block (Some p.block) ps

last_block_push : (before : Option ℕ) (parts : List LogPart) (p : LogPart) → last_block before (parts ++ p ∷ []) ≡ Some p.block
last_block_push before [] p = refl
last_block_push before (q ∷ parts) p = last_block_push (Some q.block) parts p

pub log_none_left : (n : ℕ) (before : Option ℕ) (bytes : List ℕ) → n ≡ 0 → log_parts_in n before bytes ≡ []
unfolding log_parts_in log_parts_at
log_none_left n before bytes e = ap (λ (i : ℕ). log_parts_in i before bytes) e

pub log_none_read : (bytes : List ℕ) → log_parts_at 0 None bytes ≡ Ok (log_parts_in 0 None bytes, bytes)
unfolding log_parts_in log_parts_at
log_none_read bytes = refl

pub log_none_last : (bytes : List ℕ) → None ≡ last_block None (log_parts_in 0 None bytes)
unfolding log_parts_in log_parts_at
log_none_last bytes = refl

ok_value : {A : Type 0} (r : Result A ℕ) → IsOk r → (x : A) × (r ≡ Ok x)
ok_value (Ok x) h = (x, refl)
ok_value (Err e) h = absurd (cc)

-- the first of some parts, and the others behind it
pub record NextLogPart (n m : ℕ) (before : Option ℕ) (bytes : List ℕ) (part : LogPart) (rest : List ℕ) : Type 0 where
  pub others : IsOk (log_parts_at n (Some part.block) rest)
  pub all : log_parts_in m before bytes ≡ part ∷ log_parts_in n (Some part.block) rest

pub next_log_part : (n m : ℕ) (before : Option ℕ) (bytes : List ℕ) (part : LogPart) (rest : List ℕ) → m ≡ n + 1 → IsOk (log_parts_at m before bytes) → log_part_at before bytes ≡ Ok (part, rest) → NextLogPart n m before bytes part rest
unfolding log_parts_at log_parts_in
next_log_part n m before bytes part rest e h read =
    let k : m ≡ suc n = omega (arith, e) in
    let g : IsOk (log_parts_at (suc n) before bytes) = subst (λ (i : ℕ). IsOk (log_parts_at i before bytes)) k h in
    let v = ok_value (log_parts_at (suc n) before bytes) g in
    let a = bind_ok (log_part_at before bytes) _ v.0 v.1 in
    let b = bind_ok (log_parts_at n (Some a.0.0.block) a.0.1) _ v.0 a.2 in
    let same : a.0 ≡ (part, rest) = ok_is a.0 (part, rest) (sym a.1 ∙ read) in
    let behind : log_parts_at n (Some part.block) rest ≡ Ok b.0 = ap (λ (x : LogPart × List ℕ). log_parts_at n (Some x.0.block) x.1) (sym same) ∙ b.1 in
    let whole : log_parts_in (suc n) before bytes ≡ a.0.0 ∷ b.0.0 = ap first_or_none v.1 ∙ ap (λ (x : List LogPart × List ℕ). x.0) (sym (ok_is (a.0.0 ∷ b.0.0, b.0.1) v.0 b.2)) in
    record {
      others = is_read (log_parts_at n (Some part.block) rest) b.0 behind;
      all = ap (λ (i : ℕ). log_parts_in i before bytes) k ∙ whole ∙ ap (λ (x : LogPart × List ℕ). x.0 ∷ b.0.0) same ∙ ap (λ (r : Read). part ∷ first_or_none r) (sym behind);
    }

pub some_log_part : (n : ℕ) (before : Option ℕ) (bytes : List ℕ) (left : ℕ) → 0 < n → IsOk (log_parts_at n before bytes) → log_part_at before bytes ≡ Err left → ⊥
unfolding log_parts_at
some_log_part zero before bytes left lt h read = omega (arith, lt)
some_log_part (suc n) before bytes left lt h read =
    let v = ok_value (log_parts_at (suc n) before bytes) h in
    let a = bind_ok (log_part_at before bytes) _ v.0 v.1 in
    absurd (cc (a.1, read))

-- one part more, or a fault in it
log_parts_more : (i : ℕ) (before : Option ℕ) (bytes : List ℕ) (parts : List LogPart) (rest : List ℕ) (part : LogPart) (behind : List ℕ) → log_parts_at i before bytes ≡ Ok (parts, rest) → log_part_at (last_block before parts) rest ≡ Ok (part, behind) → log_parts_at (i + 1) before bytes ≡ Ok (parts ++ part ∷ [], behind)
unfolding log_parts_at
log_parts_more zero before bytes parts rest part behind e f =
    let same = ok_is ([], bytes) (parts, rest) e in
    let there : log_part_at before bytes ≡ Ok (part, behind) = ap (λ (x : List LogPart × List ℕ). log_part_at (last_block before x.0) x.1) same ∙ f in
    let none : [] ≡ parts = ap (λ (x : List LogPart × List ℕ). x.0) same in
    rw there (ap (λ (l : List LogPart). read_as (l ++ part ∷ []) behind) none)
log_parts_more (suc i) before bytes parts rest part behind e f =
    let a = bind_ok (log_part_at before bytes) _ (parts, rest) e in
    let b = bind_ok (log_parts_at i (Some a.0.0.block) a.0.1) _ (parts, rest) a.2 in
    let same = ok_is (a.0.0 ∷ b.0.0, b.0.1) (parts, rest) b.2 in
    let there : log_part_at (last_block (Some a.0.0.block) b.0.0) b.0.1 ≡ Ok (part, behind) = ap (λ (x : List LogPart × List ℕ). log_part_at (last_block before x.0) x.1) same ∙ f in
    let first : a.0.0 ∷ b.0.0 ≡ parts = ap (λ (x : List LogPart × List ℕ). x.0) same in
    let more = log_parts_more i (Some a.0.0.block) a.0.1 b.0.0 b.0.1 part behind b.1 there in
    let count : suc i + 1 ≡ suc (i + 1) = omega arith in
    ap (λ (n : ℕ). log_parts_at n before bytes) count ∙ rw a.1 (rw more (ap (λ (l : List LogPart). read_as (l ++ part ∷ []) behind) first))

log_parts_fail : (i n : ℕ) (before : Option ℕ) (bytes : List ℕ) (parts : List LogPart) (rest : List ℕ) (left : ℕ) → i < n → log_parts_at i before bytes ≡ Ok (parts, rest) → log_part_at (last_block before parts) rest ≡ Err left → log_parts_at n before bytes ≡ Err left
unfolding log_parts_at
log_parts_fail i zero before bytes parts rest left lt e f = absurd (omega (arith, lt))
log_parts_fail zero (suc n) before bytes parts rest left lt e f =
    let same = ok_is ([], bytes) (parts, rest) e in
    let there : log_part_at before bytes ≡ Err left = ap (λ (x : List LogPart × List ℕ). log_part_at (last_block before x.0) x.1) same ∙ f in
    rw there refl
log_parts_fail (suc i) (suc n) before bytes parts rest left lt e f =
    let a = bind_ok (log_part_at before bytes) _ (parts, rest) e in
    let b = bind_ok (log_parts_at i (Some a.0.0.block) a.0.1) _ (parts, rest) a.2 in
    let same = ok_is (a.0.0 ∷ b.0.0, b.0.1) (parts, rest) b.2 in
    let there : log_part_at (last_block (Some a.0.0.block) b.0.0) b.0.1 ≡ Err left = ap (λ (x : List LogPart × List ℕ). log_part_at (last_block before x.0) x.1) same ∙ f in
    rw a.1 (rw (log_parts_fail i n (Some a.0.0.block) a.0.1 b.0.0 b.0.1 left (omega (arith, lt)) b.1 there) refl)

-- the state of a loop over them
pub record LogRead (i : ℕ) (bytes rest : List ℕ) (before : Option ℕ) : Type 0 where
  pub read : log_parts_at i None bytes ≡ Ok (log_parts_in i None bytes, rest)
  pub last : before ≡ last_block None (log_parts_in i None bytes)

pub log_begins : (bytes : List ℕ) → LogRead 0 bytes bytes None
log_begins bytes = record { read = log_none_read bytes; last = log_none_last bytes }

pub log_goes_on : (i : ℕ) (bytes rest : List ℕ) (before : Option ℕ) (part : LogPart) (behind : List ℕ) → LogRead i bytes rest before → log_part_at before rest ≡ Ok (part, behind) → LogRead (i + 1) bytes behind (Some part.block)
unfolding log_parts_in
log_goes_on i bytes rest before part behind h f =
    let there = ap (λ (b : Option ℕ). log_part_at b rest) (sym h.last) ∙ f in
    let more = log_parts_more i None bytes (log_parts_in i None bytes) rest part behind h.read there in
    let all : log_parts_in (i + 1) None bytes ≡ log_parts_in i None bytes ++ part ∷ [] = ap first_or_none more in
    record {
      read = more ∙ ap (λ (l : List LogPart). read_as l behind) (sym all);
      last = sym (ap (last_block None) all ∙ last_block_push None (log_parts_in i None bytes) part);
    }

pub log_stops : (i n : ℕ) (bytes rest : List ℕ) (before : Option ℕ) (left : ℕ) → i < n → LogRead i bytes rest before → log_part_at before rest ≡ Err left → log_parts_at n None bytes ≡ Err left
log_stops i n bytes rest before left lt h f = log_parts_fail i n None bytes (log_parts_in i None bytes) rest left lt h.read (ap (λ (b : Option ℕ). log_part_at b rest) (sym h.last) ∙ f)
