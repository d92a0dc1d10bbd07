-- A piece more of a file.
use Rattle.std.proofs.Common.{◌≡◌, ℕ, ◌+◌, ◌≤◌, List, ◌++◌, length, take, drop, Option, Some, None, Ok, ap, sym, ◌∙◌, arith, take-add, length-append, length-take-le}
use Rattle.std.specs.Option.{IsSomeAnd}
use Rattle.cp_outside.specs.Folders.{ReadsAt}
use Rattle.cp_outside.specs.WholeFiles.{IsFrontOf}

-- Behind the file's first bytes, its next bytes make a longer front of the file.
pub longer_front : (file : Option (List ℕ)) (old new into : List ℕ) (at n : ℕ) → at ≡ length old → IsFrontOf file old
    → ReadsAt file at into (Ok n) → n ≤ length into → new ≡ old ++ take n into
    → IsSomeAnd file (λ bytes. (new ≡ take (length new) bytes) × (length new ≤ length bytes))
longer_front None old new into at n at_is front given fits new_is = given
longer_front (Some bytes) old new into at n at_is front given fits new_is =
    let size : length new ≡ length old + n = ap length new_is ∙ length-append old (take n into) ∙ ap (λ k. length old + k) (length-take-le n into fits) in
    let piece : take n into ≡ take n (drop (length old) bytes) = given.bytes ∙ ap (λ k. take n (drop k bytes)) at_is in (
      new_is ∙ ap (λ xs. old ++ xs) piece ∙ ap (λ xs. xs ++ take n (drop (length old) bytes)) front.0
          ∙ sym (take-add (length old) n bytes) ∙ ap (λ k. take k bytes) (sym size),
      omega (arith, size, given.within, front.1),
    )
