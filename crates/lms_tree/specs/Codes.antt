-- Codes and types give one another back, and codes fit in their four bytes: what it takes for a key's
-- bytes to give its fields back.
use Rattle.std.specs.Prelude.{◌≡◌, ◌^◌, ◌<◌, refl}
use Rattle.std.proofs.Common.{lit<}
use Rattle.lms_ots.specs.declared.ots_type.OtsType.{OtsType}
use Rattle.lms_ots.specs.declared.ots_type.OtsType.TheVariants.{W1, W2, W4, W8}
use Rattle.lms_ots.specs.Parameters.{code_of, ots_of}
use Rattle.lms_tree.specs.declared.lms_type.LmsType.{LmsType}
use Rattle.lms_tree.specs.declared.lms_type.LmsType.TheVariants.{H5, H10, H15, H20, H25}
use Rattle.lms_tree.specs.Parameters.{lms_code_of, lms_of}

pub ots_of-code_of : (t : OtsType) → ots_of (code_of t) ≡ t
ots_of-code_of W1 = refl
ots_of-code_of W2 = refl
ots_of-code_of W4 = refl
ots_of-code_of W8 = refl

pub lms_of-lms_code_of : (t : LmsType) → lms_of (lms_code_of t) ≡ t
lms_of-lms_code_of H5 = refl
lms_of-lms_code_of H10 = refl
lms_of-lms_code_of H15 = refl
lms_of-lms_code_of H20 = refl
lms_of-lms_code_of H25 = refl

pub code_fits : (t : OtsType) → code_of t < 2 ^ 32
code_fits W1 = lit< tt
code_fits W2 = lit< tt
code_fits W4 = lit< tt
code_fits W8 = lit< tt

pub lms_code_fits : (t : LmsType) → lms_code_of t < 2 ^ 32
lms_code_fits H5 = lit< tt
lms_code_fits H10 = lit< tt
lms_code_fits H15 = lit< tt
lms_code_fits H20 = lit< tt
lms_code_fits H25 = lit< tt
