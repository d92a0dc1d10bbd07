-- The parameter sets of LM-OTS over SHA-256 with 32-byte hashes (RFC 8554, 4.1, table 1).
use Rattle.std.specs.Prelude.{◌≡◌, ◌⊎◌, ℕ, ◌+◌, ◌-◌, ◌*◌, ◌^◌, Bool, ◌&&◌, ◌==◌, nat_le, if◌then◌else◌}
use Rattle.lms_ots.specs.declared.ots_type.OtsType.{OtsType}
use Rattle.lms_ots.specs.declared.ots_type.OtsType.TheVariants.{W1, W2, W4, W8}

-- w, the bits of a digit
abbrev pub width_of : OtsType → ℕ
width_of W1 = 1
width_of W2 = 2
width_of W4 = 4
width_of W8 = 8

-- the type code of the IANA registry
abbrev pub code_of : OtsType → ℕ
code_of W1 = 1
code_of W2 = 2
code_of W4 = 3
code_of W8 = 4

-- the number is a type code of the table
abbrev pub is_ots_code : ℕ → Bool
is_ots_code code = nat_le 1 code && nat_le code 4

-- the type with this code, for a code of the table
abbrev pub ots_of : ℕ → OtsType
ots_of code = if code == 1 then W1 else if code == 2 then W2 else if code == 3 then W4 else W8

-- p, the number of chains
abbrev pub chains_of : OtsType → ℕ
chains_of W1 = 265
chains_of W2 = 133
chains_of W4 = 67
chains_of W8 = 34

-- the numbers that w may be
abbrev pub IsWidth : ℕ → Type 0
IsWidth w = (w ≡ 1) ⊎ (w ≡ 2) ⊎ (w ≡ 4) ⊎ (w ≡ 8)

-- ls, the left shift of the checksum, by the width
abbrev pub shift_of : ℕ → ℕ
shift_of w = if w == 1 then 7 else if w == 2 then 6 else if w == 4 then 4 else 0

-- the greatest digit of w bits, which is also the number of steps of a whole chain
abbrev pub max_digit : ℕ → ℕ
max_digit w = 2 ^ w - 1

-- the bytes of a signature: the type code, C and p values of 32 bytes each
abbrev pub sig_len_of : OtsType → ℕ
sig_len_of t = 4 + 32 * (chains_of t + 1)
