-- What holds of each height.
use Rattle.std.proofs.Common.{◌≡◌, ◌%◌, ◌^◌, ◌<◌, ◌≤◌, refl, arith}
use Rattle.lms_tree.specs.Parameters.{levels_of, height_code, height_of_code}
use Rattle.lms_tree.specs.declared.height.Height.{Height}
use Rattle.lms_tree.specs.declared.height.Height.TheVariants.{H5, H10, H15}

pub few_leaves : (h : Height) → 2 ^ levels_of h ≤ 32768
few_leaves H5 = omega arith
few_leaves H10 = omega arith
few_leaves H15 = omega arith

pub some_leaves : (h : Height) → 2 ≤ 2 ^ levels_of h
some_leaves H5 = omega arith
some_leaves H10 = omega arith
some_leaves H15 = omega arith

pub fours_of_leaves : (h : Height) → 2 ^ levels_of h % 4 ≡ 0
fours_of_leaves H5 = refl
fours_of_leaves H10 = refl
fours_of_leaves H15 = refl

pub few_levels : (h : Height) → levels_of h ≤ 15
few_levels H5 = omega arith
few_levels H10 = omega arith
few_levels H15 = omega arith

pub levels_by_code : (h : Height) → height_of_code (height_code h) ≡ levels_of h
levels_by_code H5 = refl
levels_by_code H10 = refl
levels_by_code H15 = refl

pub height_code_fits : (h : Height) → height_code h < 2 ^ 32
height_code_fits H5 = omega arith
height_code_fits H10 = omega arith
height_code_fits H15 = omega arith

pub ruleset heights = (few_leaves, some_leaves, fours_of_leaves, few_levels)
