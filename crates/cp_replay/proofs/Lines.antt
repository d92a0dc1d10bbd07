-- Lines one after another.
use Rattle.std.specs.Prelude.{◌==◌}
use Rattle.std.specs.List.{AllByRecursion}
use Rattle.std.proofs.Common.{false, append_assoc, append-nil, ◌≡◌, ℕ, zero, suc, List, [], ◌∷◌, ◌++◌, length, Some, None, Result, Ok, Err, refl, sym, ap}
use Rattle.cp_replay.specs.Script.{LineFits, lines_of, line_at, before}
use Rattle.cp_replay.specs.declared.line.Line.{Line}

-- lines behind those that were read
abbrev pub behind : List Line → Result (List Line) ℕ → Result (List Line) ℕ
behind front (Ok lines) = Ok (front ++ lines)
behind front (Err left) = Err left

behind_before : (front : List Line) (line : Line) (r : Result (List Line) ℕ) → behind front (before line r) ≡ behind (front ++ line ∷ []) r
behind_before front line (Ok lines) = ap Ok (sym (append_assoc front (line ∷ []) lines))
behind_before front line (Err left) = refl

-- one more line is read
pub next_line : (n m : ℕ) (front : List Line) (rest after : List ℕ) (line : Line) → n ≡ suc m → (length rest == 0) ≡ false → line_at rest ≡ Some (line, after)
    → behind front (lines_of n rest) ≡ behind (front ++ line ∷ []) (lines_of m after)
unfolding lines_of
next_line n m front rest after line more some read = rw more (rw some (rw read (behind_before front line (lines_of m after))))

-- no line is read
pub bad_line : (n : ℕ) (front : List Line) (rest : List ℕ) → (length rest == 0) ≡ false → line_at rest ≡ None → behind front (lines_of n rest) ≡ Err (length rest)
unfolding lines_of
bad_line zero front rest some read = rw some refl
bad_line (suc n) front rest some read = rw some (rw read refl)

-- a line too many
pub no_more : (front : List Line) (rest : List ℕ) → (length rest == 0) ≡ false → behind front (lines_of zero rest) ≡ Err (length rest)
unfolding lines_of
no_more front rest some = rw some refl

-- the end
pub at_the_end : (n : ℕ) (front : List Line) (rest : List ℕ) → length rest ≡ 0 → behind front (lines_of n rest) ≡ Ok front
unfolding lines_of
at_the_end zero front rest e = rw e (ap Ok (append-nil front))
at_the_end (suc n) front rest e = rw e (ap Ok (append-nil front))

pub start : (n : ℕ) (bytes : List ℕ) → lines_of n bytes ≡ behind [] (lines_of n bytes)
start n bytes = same (lines_of n bytes)
  where
    same : (r : Result (List Line) ℕ) → r ≡ behind [] r
    same (Ok lines) = refl
    same (Err left) = refl

-- one more that fits
pub fits_more : (lines : List Line) (line : Line) → AllByRecursion LineFits lines → LineFits line → AllByRecursion LineFits (lines ++ line ∷ [])
fits_more [] line all fits = (fits, tt)
fits_more (x ∷ xs) line all fits = (all.0, fits_more xs line all.1 fits)

pub ruleset lines = (next_line, bad_line, no_more, at_the_end, start)
