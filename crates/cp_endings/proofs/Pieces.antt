-- Pieces that are written one after another.
use Rattle.std.proofs.Common.{ℕ, ◌+◌, List, ◌++◌, length, take, Option, Result, Ok, Err, sym, subst, arith}
use Rattle.std.specs.Io.KnownBytes.{Appends}
use Rattle.std.proofs.KnownBytes.{Appends-trans}
use Rattle.std.proofs.Math.Seq.{take-append-add}
use Rattle.std.proofs.lemmas.List.{take-append-le, length-append}
use Rattle.cp_outside.specs.Causes.{AppendsPart}
use Rattle.cp_outside.specs.declared.failures.Failed.{Failed}
use Rattle.cp_endings.specs.Reports.{Puts}

-- a whole piece, and then a part of the next
prefix_behind : (a b c : Option (List ℕ)) (x y : List ℕ) → Appends a b x → AppendsPart b c y → AppendsPart a c (x ++ y)
prefix_behind a b c x y whole part = (
  length x + part.0,
  omega (arith, part.1, length-append x y),
  subst (λ t. Appends a c t) (sym (take-append-add x y part.0)) (Appends-trans a b c x (take part.0 y) whole part.2),
)

-- a part of a piece is one of the pieces together
prefix_alone : (a b : Option (List ℕ)) (x y : List ℕ) → AppendsPart a b x → AppendsPart a b (x ++ y)
prefix_alone a b x y part = (
  part.0,
  omega (arith, part.1, length-append x y),
  subst (λ t. Appends a b t) (sym (take-append-le part.0 x y (omega (arith, part.1)))) part.2,
)

-- the first piece failed
pub puts_first : (a b : Option (List ℕ)) (p q : ℕ) (failed : Failed) (x y : List ℕ) → Puts a b p q (Err failed) x → Puts a b p q (Err failed) (x ++ y)
puts_first a b p q failed x y puts = record { written = prefix_alone a b x y puts.written; cause = puts.cause }

-- the first piece was written, and the second one may have failed
pub puts_then : (a b c : Option (List ℕ)) (p q r : ℕ) (result : Result (Unit {0}) Failed) (x y : List ℕ) → Puts a b p q (Ok tt) x → Puts b c q r result y → Puts a c p r result (x ++ y)
puts_then a b c p q r (Ok u) x y first second =
    record { written = Appends-trans a b c x y first.written second.written; cause = record { never_falls = omega (arith, first.cause.never_falls, second.cause.never_falls); failed = tt } }
puts_then a b c p q r (Err e) x y first second =
    record { written = prefix_behind a b c x y first.written second.written; cause = record { never_falls = omega (arith, first.cause.never_falls, second.cause.never_falls); failed = omega (arith, first.cause.never_falls, second.cause.failed) } }

pub ruleset pieces = (puts_first, puts_then)
