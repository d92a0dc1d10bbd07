-- The parameter sets of LMS over SHA-256 with 32-byte nodes (RFC 8554, 5.1, table 2), and the trees
-- of those for which keys are made here.
use Rattle.std.specs.Prelude.{ℕ, ◌-◌, ◌*◌, Bool, ◌&&◌, ◌==◌, nat_le, if◌then◌else◌}
use Rattle.lms_tree.specs.declared.lms_type.LmsType as types
use Rattle.lms_tree.specs.declared.lms_type.LmsType.TheVariants as lms
use Rattle.lms_tree.specs.declared.height.Height.{Height}
use Rattle.lms_tree.specs.declared.height.Height.TheVariants.{H5, H10, H15}

-- the type code of the IANA registry
abbrev pub lms_code_of : types.LmsType → ℕ
lms_code_of lms.H5 = 5
lms_code_of lms.H10 = 6
lms_code_of lms.H15 = 7
lms_code_of lms.H20 = 8
lms_code_of lms.H25 = 9

-- the number is a type code of the table
abbrev pub is_lms_code : ℕ → Bool
is_lms_code code = nat_le 5 code && nat_le code 9

-- the type with this code, for a code of the table
abbrev pub lms_of : ℕ → types.LmsType
lms_of code = if code == 5 then lms.H5 else if code == 6 then lms.H10 else if code == 7 then lms.H15 else if code == 8 then lms.H20 else lms.H25

-- h, the tree's height, by a code of the table: 5, 10, 15, 20, 25
abbrev pub height_of_code : ℕ → ℕ
height_of_code code = 5 * (code - 4)

-- h
abbrev pub levels_of : Height → ℕ
levels_of H5 = 5
levels_of H10 = 10
levels_of H15 = 15

-- the type code of a tree of this height
abbrev pub height_code : Height → ℕ
height_code H5 = 5
height_code H10 = 6
height_code H15 = 7
