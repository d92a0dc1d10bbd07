-- The parts of a log, one after another.
use Rattle.std.proofs.Common.{◌≡◌, ℕ, zero, suc, ◌+◌, ◌-◌, ◌<◌, ◌≤◌, true, false, List, [], ◌∷◌, ◌++◌, length, take, Option, Some, None, Result, Ok, Err, refl, sym, ap, subst, ◌∙◌, arith, append_assoc, length-append}
use Rattle.std.specs.Prelude.{IsErr}
use Rattle.std.specs.List.{AllByRecursion}
use Rattle.std.proofs.lemmas.List.{append-nil, take_at}
use Rattle.cp_bytes.specs.Fields.{IsBytes, ◌>>=◌, field_at}
use Rattle.cp_bytes.specs.Fields.Field.{U64}
use Rattle.cp_chain.specs.Log.{LogPart, comes_behind, log_part_at, log_parts_at}
use Rattle.cp_chain.specs.Segment.{segment_text, segment_at}
use Rattle.cp_chain.proofs.Readings.{segment_at_takes}

-- ---- one segment

-- the segment's own bytes
pub record Lies (rest left : List ℕ) (texts : List (List ℕ)) : Type 0 where
  pub within : length left ≤ length rest
  pub spelled : segment_text texts ≡ take (length rest - length left) rest

pub lies : (rest left : List ℕ) (texts : List (List ℕ)) → IsBytes rest → segment_at rest ≡ Ok (texts, left) → Lies rest left texts
lies rest left texts bytes e =
    let w = segment_at_takes rest (texts, left) bytes e in
    let parts : rest ≡ segment_text texts ++ left = w.0.parts in
    let size : length rest ≡ length (segment_text texts) + length left = ap length parts ∙ length-append (segment_text texts) left in
    let front : length rest - length left ≡ length (segment_text texts) = omega (arith, size) in
    record {
      within = omega (arith, size);
      spelled = sym (ap (λ (l : List ℕ). take (length rest - length left) l) parts ∙ take_at (segment_text texts) left (length rest - length left) (sym front));
    }

-- ---- no part

pub no_block : (n : ℕ) (last : Option ℕ) (bytes : List ℕ) (d : ℕ) → field_at U64 bytes ≡ Err d → IsErr (log_parts_at (suc n) last bytes)
unfolding log_parts_at log_part_at
no_block n last bytes d e = rw e refl

pub not_behind : (n : ℕ) (last : Option ℕ) (bytes rest : List ℕ) (block : ℕ) → field_at U64 bytes ≡ Ok (block, rest) → comes_behind last block ≡ false → IsErr (log_parts_at (suc n) last bytes)
unfolding log_parts_at log_part_at
not_behind n last bytes rest block e f = rw e (rw f refl)

err_then : {A B : Type 0} (r : Result A ℕ) (f : A → Result B ℕ) → IsErr r → IsErr (r >>= f)
err_then (Ok x) f h = absurd cc
err_then (Err d) f h = refl

no_segment : (n : ℕ) (last : Option ℕ) (bytes rest : List ℕ) (block : ℕ) → field_at U64 bytes ≡ Ok (block, rest) → comes_behind last block ≡ true → IsErr (segment_at rest) → IsErr (log_parts_at (suc n) last bytes)
unfolding log_parts_at log_part_at
no_segment n last bytes rest block e f h = rw e (rw f (err_then _ _ (err_then (segment_at rest) _ h)))

-- ---- so many parts

-- parts that were read, in front of others
abbrev pub behind : List LogPart → Result (List LogPart × List ℕ) ℕ → Result (List LogPart × List ℕ) ℕ
behind front r = r >>= λ x. Ok (front ++ x.0, x.1)

behind_none : (r : Result (List LogPart × List ℕ) ℕ) → behind [] r ≡ r
behind_none (Ok x) = refl
behind_none (Err d) = refl

behind_err : (front : List LogPart) (r : Result (List LogPart × List ℕ) ℕ) → IsErr r → IsErr (behind front r)
behind_err front (Ok x) h = absurd cc
behind_err front (Err d) h = refl

less_one : (count i : ℕ) → i < count → count - i ≡ suc (count - (i + 1))
less_one count i lt = omega (arith, lt)

pub start : (count : ℕ) (bytes : List ℕ) → log_parts_at count None bytes ≡ behind [] (log_parts_at (count - 0) None bytes)
start count bytes = ap (λ (m : ℕ). log_parts_at m None bytes) (let e : count ≡ count - 0 = omega arith in e) ∙ sym (behind_none (log_parts_at (count - 0) None bytes))

one_more : (n : ℕ) (last : Option ℕ) (bytes rest left : List ℕ) (block : ℕ) (texts : List (List ℕ)) (front : List LogPart) → field_at U64 bytes ≡ Ok (block, rest) → comes_behind last block ≡ true → segment_at rest ≡ Ok (texts, left)
    → behind front (log_parts_at (suc n) last bytes) ≡ behind (front ++ record { block = block; texts = texts } ∷ []) (log_parts_at n (Some block) left)
unfolding log_parts_at log_part_at
one_more n last bytes rest left block texts front e f g = rw e (rw f (rw g (regroup (log_parts_at n (Some block) left))))
  where
    part : LogPart
    part = record { block = block; texts = texts }

    regroup : (r : Result (List LogPart × List ℕ) ℕ) → behind front (r >>= λ others. Ok (part ∷ others.0, others.1)) ≡ behind (front ++ part ∷ []) r
    regroup (Ok x) = ap (λ (l : List LogPart). Ok (l, x.1)) (sym (append_assoc front (part ∷ []) x.0))
    regroup (Err d) = refl

pub turn : (count i : ℕ) (last : Option ℕ) (bytes rest left : List ℕ) (block : ℕ) (texts : List (List ℕ)) (front : List LogPart) → i < count → field_at U64 bytes ≡ Ok (block, rest) → comes_behind last block ≡ true → segment_at rest ≡ Ok (texts, left)
    → behind front (log_parts_at (count - i) last bytes) ≡ behind (front ++ record { block = block; texts = texts } ∷ []) (log_parts_at (count - (i + 1)) (Some block) left)
turn count i last bytes rest left block texts front lt e f g = ap (λ (n : ℕ). behind front (log_parts_at n last bytes)) (less_one count i lt) ∙ one_more (count - (i + 1)) last bytes rest left block texts front e f g

pub stop_block : (count i : ℕ) (last : Option ℕ) (bytes : List ℕ) (front : List LogPart) → i < count → ((n : ℕ) → IsErr (log_parts_at (suc n) last bytes)) → IsErr (behind front (log_parts_at (count - i) last bytes))
stop_block count i last bytes front lt h = behind_err front _ (subst (λ (n : ℕ). IsErr (log_parts_at n last bytes)) (sym (less_one count i lt)) (h (count - (i + 1))))

pub stop_segment : (count i : ℕ) (last : Option ℕ) (bytes rest : List ℕ) (block : ℕ) (front : List LogPart) → i < count → field_at U64 bytes ≡ Ok (block, rest) → comes_behind last block ≡ true → IsErr (segment_at rest) → IsErr (behind front (log_parts_at (count - i) last bytes))
stop_segment count i last bytes rest block front lt e f h = stop_block count i last bytes front lt (λ n. no_segment n last bytes rest block e f h)

pub finish : (count i : ℕ) (last : Option ℕ) (bytes : List ℕ) (front : List LogPart) → count ≤ i → behind front (log_parts_at (count - i) last bytes) ≡ Ok (front, bytes)
unfolding log_parts_at log_part_at
finish count i last bytes front le = ap (λ (n : ℕ). behind front (log_parts_at n last bytes)) (let e : count - i ≡ zero = omega (arith, le) in e) ∙ ap (λ (l : List LogPart). Ok (l, bytes)) (append-nil front)

-- ---- all of them

pub all_push : {A : Type 0} (P : A → Type 0) (xs : List A) (x : A) → AllByRecursion P xs → P x → AllByRecursion P (xs ++ x ∷ [])
all_push P [] x all h = (h, tt)
all_push P (y ∷ ys) x all h = (all.0, all_push P ys x all.1 h)
