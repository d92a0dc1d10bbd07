-- The rows of a map's entries ascend, since its keys do.
use Rattle.std.proofs.Common.{◌≡◌, ℕ, true, ltb, List, [], ◌∷◌, map, refl, arith}
use Rattle.std.specs.List.{AllByRecursion}
use Rattle.std.specs.List.Sorted.{IsStrictlySortedBy}
use Rattle.std.specs.declared.cmp.Ordering.TheVariants.{Less}
use Rattle.std.specs.Ordering.{nat_cmp}
use Rattle.std.proofs.lemmas.Bool.{and_from}
use Rattle.std.proofs.lemmas.Bool.Decides.{nat_tests}
use Rattle.cp_tips.specs.declared.tip.Tip.{Tip}
use Rattle.cp_tips.specs.Table.{all_above, ascends}
use Rattle.cp_tips.specs.Tips.{rows_of}

above : (block : ℕ) (entries : List (ℕ × Tip)) → AllByRecursion (λ k. nat_cmp block k ≡ Less) (map (λ (e : ℕ × Tip). e.0) entries) → all_above block (rows_of entries) ≡ true
above block [] all = refl
above block (e ∷ entries) all = and_from _ _ (less block e.0 all.0) (above block entries all.1)
  where
    less : (a b : ℕ) → nat_cmp a b ≡ Less → ltb a b ≡ true
    less a b h = grind (arith, nat_tests)

pub rows_ascend : (entries : List (ℕ × Tip)) → IsStrictlySortedBy nat_cmp (map (λ (e : ℕ × Tip). e.0) entries) → ascends (rows_of entries) ≡ true
unfolding IsStrictlySortedBy ascends
rows_ascend [] sorted = refl
rows_ascend (e ∷ entries) sorted = and_from _ _ (above e.0 entries sorted.0) (rows_ascend entries sorted.1)
