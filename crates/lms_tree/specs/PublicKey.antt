-- A public key is its 56 bytes: the LMS code, the LM-OTS code, the identifier I and the root T[1]
-- (RFC 8554, 5.3). Numbers have four bytes, big endian.
use Rattle.std.specs.Prelude.{ℕ, ◌+◌, ◌*◌, List, length, take, drop, Bool, ◌&&◌, ◌==◌, if◌then◌else◌}
use Rattle.std.specs.Int.{w32, from_be_bytes}
use Rattle.lms_ots.specs.Parameters.{is_ots_code, ots_of, sig_len_of}
use Rattle.lms_ots.specs.declared.ots_type.OtsType.{OtsType}
use Rattle.lms_tree.specs.Parameters.{is_lms_code, height_of_code}
use Rattle.lms_tree.specs.declared.key_fault.KeyFault.{KeyFault}
use Rattle.lms_tree.specs.declared.key_fault.KeyFault.TheVariants.{Length, Code}

-- the number of the four bytes from `at` on
abbrev pub number_at : List ℕ → ℕ → ℕ
number_at bytes at = from_be_bytes w32 (take 4 (drop at bytes))

abbrev pub key_lms : List ℕ → ℕ
key_lms key = number_at key 0

abbrev pub key_ots : List ℕ → ℕ
key_ots key = number_at key 4

-- I
abbrev pub key_id : List ℕ → List ℕ
key_id key = take 16 (drop 8 key)

-- T[1]
abbrev pub key_root : List ℕ → List ℕ
key_root key = drop 24 key

-- both codes are of the tables
abbrev pub has_codes : List ℕ → Bool
has_codes key = is_lms_code (key_lms key) && is_ots_code (key_ots key)

-- these bytes are a public key
unfoldable pub key_reads : List ℕ → Bool
key_reads bytes = (length bytes == 56) && has_codes bytes

-- why these bytes aren't one
abbrev pub key_fault : List ℕ → KeyFault
key_fault bytes = if length bytes == 56 then Code (key_lms bytes) (key_ots bytes) else Length (length bytes)

-- the key's one-time type
abbrev pub key_type : List ℕ → OtsType
key_type key = ots_of (key_ots key)

-- the height of the key's tree
abbrev pub key_height : List ℕ → ℕ
key_height key = height_of_code (key_lms key)

-- the length of a signature under the key, which its two codes fix (5.4)
abbrev pub key_sig_len : List ℕ → ℕ
key_sig_len key = 8 + sig_len_of (key_type key) + 32 * key_height key
