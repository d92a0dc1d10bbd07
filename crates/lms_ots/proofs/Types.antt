-- What holds of each type's parameters.
use Rattle.std.proofs.Common.{ℕ, ◌+◌, ◌*◌, ◌/◌, ◌^◌, ◌<◌, ◌≤◌, arith}
use Rattle.lms_ots.specs.Parameters.{width_of, code_of, chains_of, sig_len_of, IsWidth}
use Rattle.lms_ots.specs.declared.ots_type.OtsType.{OtsType}
use Rattle.lms_ots.specs.declared.ots_type.OtsType.TheVariants.{W1, W2, W4, W8}

pub is_width : (t : OtsType) → IsWidth (width_of t)
is_width W1 = grind arith
is_width W2 = grind arith
is_width W4 = grind arith
is_width W8 = grind arith

pub few_chains : (t : OtsType) → chains_of t ≤ 265
few_chains W1 = omega arith
few_chains W2 = omega arith
few_chains W4 = omega arith
few_chains W8 = omega arith

pub digit_within : (t : OtsType) (i : ℕ) → i < chains_of t → i * width_of t / 8 < 34
digit_within W1 i h = omega arith
digit_within W2 i h = omega arith
digit_within W4 i h = omega arith
digit_within W8 i h = omega arith

pub part_within : (t : OtsType) (i : ℕ) → i < chains_of t → 68 + 32 * i ≤ sig_len_of t
part_within W1 i h = omega arith
part_within W2 i h = omega arith
part_within W4 i h = omega arith
part_within W8 i h = omega arith

pub ruleset types = (is_width, few_chains, digit_within, part_within)

pub code_fits : (t : OtsType) → code_of t < 2 ^ 32
code_fits W1 = omega arith
code_fits W2 = omega arith
code_fits W4 = omega arith
code_fits W8 = omega arith
