-- A log by its header and its parts.
use Rattle.std.proofs.Common.{◌≡◌, ℕ, List, [], None, Result, Ok, Err, refl, sym, ap, subst, ◌∙◌}
use Rattle.std.specs.Prelude.{codes, IsErr}
use Rattle.cp_bytes.specs.Fields.{◌>>=◌, field_at, ended, at_offset}
use Rattle.cp_bytes.specs.Fields.Field.{Tag, Epoch, U32}
use Rattle.cp_bytes.proofs.FieldLemmas.{bind_ok, at_offset_ok, ended_ok}
use Rattle.cp_chain.specs.Log.{LogPart, Log, log_parts_at, log_of}
use Rattle.cp_audit.specs.Parts.{header_at}

-- what is read behind the header
pub parts_behind : ℕ × ℕ × List ℕ → Result Log ℕ
parts_behind h = log_parts_at h.1 None h.2 >>= λ parts. (ended parts >>= λ done. Ok (record { epoch = h.0; parts = done }))

pub split : (bytes : List ℕ) → log_of bytes ≡ at_offset bytes (header_at bytes >>= parts_behind)
unfolding log_of header_at parts_behind
split bytes = ap (at_offset bytes) (by_tag (field_at (Tag (codes "CPl1")) bytes))
  where
    by_count : (epoch : ℕ) (r : Result (ℕ × List ℕ) ℕ) → (r >>= λ count. (log_parts_at count.0 None count.1 >>= λ parts. (ended parts >>= λ done. Ok (record { epoch = epoch; parts = done }))))
        ≡ ((r >>= λ count. Ok (epoch, count.0, count.1)) >>= parts_behind)
    by_count epoch (Ok x) = refl
    by_count epoch (Err d) = refl

    by_epoch : (r : Result (ℕ × List ℕ) ℕ) → (r >>= λ epoch. (field_at U32 epoch.1 >>= λ count. (log_parts_at count.0 None count.1 >>= λ parts. (ended parts >>= λ done. Ok (record { epoch = epoch.0; parts = done })))))
        ≡ ((r >>= λ epoch. (field_at U32 epoch.1 >>= λ count. Ok (epoch.0, count.0, count.1))) >>= parts_behind)
    by_epoch (Ok x) = by_count x.0 (field_at U32 x.1)
    by_epoch (Err d) = refl

    by_tag : (r : Result (Unit {0} × List ℕ) ℕ) → (r >>= λ tag. (field_at Epoch tag.1 >>= λ epoch. (field_at U32 epoch.1 >>= λ count. (log_parts_at count.0 None count.1 >>= λ parts. (ended parts >>= λ done. Ok (record { epoch = epoch.0; parts = done }))))))
        ≡ ((r >>= λ tag. (field_at Epoch tag.1 >>= λ epoch. (field_at U32 epoch.1 >>= λ count. Ok (epoch.0, count.0, count.1)))) >>= parts_behind)
    by_tag (Ok x) = by_epoch (field_at Epoch x.1)
    by_tag (Err d) = refl

-- a log has a header of its epoch, parts, and nothing behind them
pub record Parted (bytes : List ℕ) (l : Log) : Type 0 where
  pub header : ℕ × ℕ × List ℕ
  pub header_is : header_at bytes ≡ Ok header
  pub epoch_is : header.0 ≡ l.epoch
  pub rest : List ℕ
  pub parts_are : log_parts_at header.1 None header.2 ≡ Ok (l.parts, rest)
  pub all : rest ≡ []

log_is : (a b : Log) → (let r : Result Log ℕ = Ok a in r) ≡ Ok b → a ≡ b
log_is a b e = cc

pub parted : (bytes : List ℕ) (l : Log) → log_of bytes ≡ Ok l → Parted bytes l
unfolding parts_behind
parted bytes l e =
    let w = at_offset_ok bytes (header_at bytes >>= parts_behind) l (sym (split bytes) ∙ e) in
    let h = bind_ok (header_at bytes) parts_behind l w in
    let p = bind_ok (log_parts_at h.0.1 None h.0.2) _ l h.2 in
    let d = bind_ok (ended p.0) _ l p.2 in
    let n = ended_ok p.0 d.0 d.1 in
    let same : (let made : Log = record { epoch = h.0.0; parts = d.0 } in made) ≡ l = log_is _ l d.2 in
    let parts : p.0.0 ≡ l.parts = n.0 ∙ ap (λ (x : Log). x.parts) same in
    record {
      header = h.0;
      header_is = h.1;
      epoch_is = ap (λ (x : Log). x.epoch) same;
      rest = p.0.1;
      parts_are = p.1 ∙ ap (λ (x : List LogPart). Ok (x, p.0.1)) parts;
      all = n.1;
    }

-- so its parts, where they are there to the end
pub joined : (bytes : List ℕ) (epoch count : ℕ) (rest : List ℕ) (parts : List LogPart) → header_at bytes ≡ Ok (epoch, count, rest) → log_parts_at count None rest ≡ Ok (parts, []) → log_of bytes ≡ Ok (record { epoch = epoch; parts = parts })
unfolding parts_behind
joined bytes epoch count rest parts h p =
    let run : (header_at bytes >>= parts_behind) ≡ Ok (record { epoch = epoch; parts = parts }) = rw h (rw p refl) in
    split bytes ∙ ap (at_offset bytes) run

-- the header is one
pub one_header : (a b : ℕ × ℕ × List ℕ) → (let r : Result (ℕ × ℕ × List ℕ) ℕ = Ok a in r) ≡ Ok b → a ≡ b
one_header a b e = cc

-- no log of the epoch where its parts do not read
pub no_parts : (bytes : List ℕ) (epoch count : ℕ) (rest : List ℕ) → header_at bytes ≡ Ok (epoch, count, rest) → IsErr (log_parts_at count None rest) → (l : Log) → log_of bytes ≡ Ok l → ⊥
no_parts bytes epoch count rest h failed l e =
    let w = parted bytes l e in
    let same : w.header ≡ (epoch, count, rest) = one_header w.header (epoch, count, rest) (sym w.header_is ∙ h) in
    let read : log_parts_at count None rest ≡ Ok (l.parts, w.rest) = subst (λ (x : ℕ × ℕ × List ℕ). log_parts_at x.1 None x.2 ≡ Ok (l.parts, w.rest)) same w.parts_are in
    not_both (log_parts_at count None rest) (l.parts, w.rest) read failed
  where
    not_both : {A : Type 0} (r : Result A ℕ) (x : A) → r ≡ Ok x → IsErr r → ⊥
    not_both (Ok y) x e f = cc
    not_both (Err d) x e f = cc

-- nor where bytes are left behind them
pub bytes_left : (bytes : List ℕ) (epoch count : ℕ) (rest left : List ℕ) (parts : List LogPart) → header_at bytes ≡ Ok (epoch, count, rest) → log_parts_at count None rest ≡ Ok (parts, left) → (left ≡ [] → ⊥) → (l : Log) → log_of bytes ≡ Ok l → ⊥
bytes_left bytes epoch count rest left parts h p some l e =
    let w = parted bytes l e in
    let same : w.header ≡ (epoch, count, rest) = one_header w.header (epoch, count, rest) (sym w.header_is ∙ h) in
    let read : log_parts_at count None rest ≡ Ok (l.parts, w.rest) = subst (λ (x : ℕ × ℕ × List ℕ). log_parts_at x.1 None x.2 ≡ Ok (l.parts, w.rest)) same w.parts_are in
    some (behind_is (l.parts, w.rest) (parts, left) (sym read ∙ p) w.all)
  where
    behind_is : (a b : List LogPart × List ℕ) → (let r : Result (List LogPart × List ℕ) ℕ = Ok a in r) ≡ Ok b → a.1 ≡ [] → b.1 ≡ []
    behind_is a b e f = let same : a ≡ b = cc in ap (λ (x : List LogPart × List ℕ). x.1) (sym same) ∙ f

-- nor where no header of the epoch begins
pub no_header : (bytes : List ℕ) (epoch : ℕ) → ((h : ℕ × ℕ × List ℕ) → header_at bytes ≡ Ok h → h.0 ≡ epoch → ⊥) → (l : Log) → log_of bytes ≡ Ok l → l.epoch ≡ epoch → ⊥
no_header bytes epoch none l e of = let w = parted bytes l e in none w.header w.header_is (w.epoch_is ∙ of)

-- ---- the header, field by field

pub header_of : (bytes a b c : List ℕ) (epoch count : ℕ) → field_at (Tag (codes "CPl1")) bytes ≡ Ok (tt, a) → field_at Epoch a ≡ Ok (epoch, b) → field_at U32 b ≡ Ok (count, c) → header_at bytes ≡ Ok (epoch, count, c)
unfolding header_at
header_of bytes a b c epoch count e f g = rw e (rw f (rw g refl))

pub no_tag : (bytes : List ℕ) (d : ℕ) → field_at (Tag (codes "CPl1")) bytes ≡ Err d → (h : ℕ × ℕ × List ℕ) → header_at bytes ≡ Ok h → ⊥
unfolding header_at
no_tag bytes d e h is = let w = bind_ok (field_at (Tag (codes "CPl1")) bytes) _ h is in let both : (let r : Result (Unit {0} × List ℕ) ℕ = Err d in r) ≡ Ok w.0 = sym e ∙ w.1 in cc

pub no_epoch : (bytes a : List ℕ) (d : ℕ) → field_at (Tag (codes "CPl1")) bytes ≡ Ok (tt, a) → field_at Epoch a ≡ Err d → (h : ℕ × ℕ × List ℕ) → header_at bytes ≡ Ok h → ⊥
unfolding header_at
no_epoch bytes a d e f h is =
    let step : (field_at Epoch a >>= λ epoch. (field_at U32 epoch.1 >>= λ count. Ok (epoch.0, count.0, count.1))) ≡ Ok h = rw e at is in
    let w = bind_ok (field_at Epoch a) _ h step in
    let both : (let r : Result (ℕ × List ℕ) ℕ = Err d in r) ≡ Ok w.0 = sym f ∙ w.1 in
    cc

pub other_epoch : (bytes a b : List ℕ) (of epoch : ℕ) → field_at (Tag (codes "CPl1")) bytes ≡ Ok (tt, a) → field_at Epoch a ≡ Ok (of, b) → (of ≡ epoch → ⊥) → (h : ℕ × ℕ × List ℕ) → header_at bytes ≡ Ok h → h.0 ≡ epoch → ⊥
unfolding header_at
other_epoch bytes a b of epoch e f apart h is same =
    let step : (field_at U32 b >>= λ count. Ok (of, count.0, count.1)) ≡ Ok h = rw f at (rw e at is) in
    let w = bind_ok (field_at U32 b) _ h step in
    let made : ℕ × ℕ × List ℕ = (of, w.0.0, w.0.1) in
    apart (ap (λ (x : ℕ × ℕ × List ℕ). x.0) (one_header made h w.2) ∙ same)

pub no_count : (bytes a b : List ℕ) (of d : ℕ) → field_at (Tag (codes "CPl1")) bytes ≡ Ok (tt, a) → field_at Epoch a ≡ Ok (of, b) → field_at U32 b ≡ Err d → (h : ℕ × ℕ × List ℕ) → header_at bytes ≡ Ok h → ⊥
unfolding header_at
no_count bytes a b of d e f g h is =
    let step : (field_at U32 b >>= λ count. Ok (of, count.0, count.1)) ≡ Ok h = rw f at (rw e at is) in
    let w = bind_ok (field_at U32 b) _ h step in
    let both : (let r : Result (ℕ × List ℕ) ℕ = Err d in r) ≡ Ok w.0 = sym g ∙ w.1 in
    cc
