-- What happens to the runs of a pool's contents.
use Rattle.std.proofs.Common.{◌≡◌, ℕ, zero, suc, ◌<◌, List, [], ◌∷◌, get_or, set, Option, None, refl, sym, ◌∙◌, ap, arith, inl, inr}
use Rattle.std.proofs.lemmas.Bool.{cases_eq}
use Rattle.cp_pages.specs.Extent.{Extent}
use Rattle.cp_pages.specs.Pages.{Kept, Pages, kept_at, IsPlaced, IsGivenBack, with_run}
use Rattle.cp_pages.proofs.Runs.{with_run-empty, with_run-at}

set_twice : {A : Type 0} (xs : List A) (i : ℕ) (x y : A) → set (set xs i x) i y ≡ set xs i y
set_twice [] i x y = refl
set_twice (z ∷ zs) zero x y = refl
set_twice (z ∷ zs) (suc i) x y = ap (λ l. z ∷ l) (set_twice zs i x y)

set_as_is : {A : Type 0} (xs : List A) (i : ℕ) (d : A) → set xs i (get_or xs i d) ≡ xs
set_as_is [] i d = refl
set_as_is (z ∷ zs) zero d = refl
set_as_is (z ∷ zs) (suc i) d = ap (λ l. z ∷ l) (set_as_is zs i d)

-- a content that is given back as soon as it was placed leaves the pool as it was
pub placed_back : (old more new : Pages) (bytes : List ℕ) (run : Extent) → IsPlaced old more bytes run → IsGivenBack more new run → new ≡ old
placed_back old more new bytes run placed given =
    let now : Option Kept = kept_at more run.first in
    elim (cases_eq run.len 0) [
      | inl none ↦ given ∙ with_run-empty more run None none ∙ placed.others ∙ with_run-empty old run now none
      | inr one ↦
          let some : 0 < run.len = omega (arith, one) in
          given ∙ ap (λ pool. with_run pool run None) placed.others ∙ with_run-at (with_run old run now) run None some
          ∙ ap (λ pool. set pool run.first None) (with_run-at old run now some) ∙ set_twice old run.first now None
          ∙ ap (set old run.first) (sym (placed.is_new some)) ∙ set_as_is old run.first None
    ]
