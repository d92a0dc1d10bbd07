-- A write over a content that was made long enough by zeros.
use Rattle.std.proofs.Common.{◌≡◌, inl, inr, ℕ, ◌+◌, ◌-◌, ◌<◌, List, ◌++◌, length, take, drop, replicate, sym, ◌∙◌, ap, arith, length-append}
use Rattle.std.proofs.lemmas.List.{take_all, drop_all, take-append-le, take-replicate, append-nil, length-replicate}
use Rattle.std.proofs.Math.Seq.{take-append-add}
use Rattle.cp_outside.specs.Disks.{overwritten}
use Rattle.cp_outside.specs.DiskLaws.{written_parts}
use Rattle.cp_outside.proofs.MemDiskLemmas.{lt_or_le}

module _ (at n : ℕ) (old : List ℕ) where
  abbrev zeros : List ℕ
  zeros = replicate (at + n - length old) 0

  front : take at (old ++ zeros) ≡ take at old ++ replicate (at - length old) 0
  front = elim (lt_or_le at (length old)) [
    | inl lt ↦ let none : at - length old ≡ 0 = omega (arith, lt) in
        take-append-le at old zeros (omega (arith, lt)) ∙ sym (append-nil (take at old)) ∙ ap (λ (k : ℕ). take at old ++ replicate k 0) (sym none)
    | inr le ↦ let whole : length old + (at - length old) ≡ at = omega (arith, le) in
        ap (λ (k : ℕ). take k (old ++ zeros)) (sym whole) ∙ take-append-add old zeros (at - length old)
        ∙ ap (λ (l : List ℕ). old ++ l) (take-replicate (at - length old) (at + n - length old) 0 (omega arith))
        ∙ ap (λ (l : List ℕ). l ++ replicate (at - length old) 0) (sym (take_all at old le))
  ]

  back : drop (at + n) (old ++ zeros) ≡ drop (at + n) old
  back = elim (lt_or_le (at + n) (length old)) [
    | inl lt ↦ let none : at + n - length old ≡ 0 = omega (arith, lt) in
        ap (λ (k : ℕ). drop (at + n) (old ++ replicate k 0)) none ∙ ap (λ (l : List ℕ). drop (at + n) l) (append-nil old)
    | inr le ↦ drop_all (at + n) (old ++ zeros) (omega (arith, le, length-append old zeros, length-replicate {A = ℕ} (at + n - length old) 0)) ∙ sym (drop_all (at + n) old le)
  ]

pub over_grown : (at : ℕ) (bytes old grown new : List ℕ) → 0 < length bytes → grown ≡ old ++ replicate (at + length bytes - length old) 0
    → new ≡ take at grown ++ bytes ++ drop (at + length bytes) grown → new ≡ overwritten old at bytes
over_grown at bytes old grown new some is put =
    put
    ∙ ap (λ (l : List ℕ). take at l ++ bytes ++ drop (at + length bytes) l) is
    ∙ ap (λ (l : List ℕ). l ++ bytes ++ drop (at + length bytes) (old ++ replicate (at + length bytes - length old) 0)) (front at (length bytes) old)
    ∙ ap (λ (l : List ℕ). take at old ++ replicate (at - length old) 0 ++ bytes ++ l) (back at (length bytes) old)
    ∙ sym (written_parts at bytes old some)

-- a whole slice of a vector written back
pub whole_back : (n : ℕ) (items written : List ℕ) → length written ≡ n → length items ≡ n → take n (written ++ drop (length written) items) ≡ written
whole_back n items written size same =
    ap (λ (l : List ℕ). take n (written ++ l)) (drop_all (length written) items (omega (arith, size, same)))
    ∙ ap (λ (l : List ℕ). take n l) (append-nil written)
    ∙ take_all n written (omega (arith, size))
