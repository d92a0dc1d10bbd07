-- The vault's file (this project's own). Slot 0 stands at 0 and slot 1 at 64, each the key's id (32 bytes) and the number of reserved leaves (8 bytes, big endian). The gate byte stands at 128, and its lowest bit names the current slot. A file of fewer than 129 bytes is blank.
use Rattle.std.specs.Prelude.{◌≡◌, ◌⊎◌, ℕ, ◌-◌, ◌*◌, ◌%◌, List, [], ◌∷◌, ◌++◌, length, take, drop, replicate, slice_index, Option, None, Some, Result, Ok, Err, if◌then◌else◌, nat_lt}
use Rattle.std.specs.Int.{w64, from_be_bytes, to_be_bytes}
use Rattle.std.specs.Str.{bytes_eq}
use Rattle.cp_outside.specs.Disks.{overwritten}
use Rattle.key_vault.specs.declared.faults.LoadFault.{LoadFault}
use Rattle.key_vault.specs.declared.faults.LoadFault.TheVariants.{Blank, OtherKey, Damaged}

-- the lowest bit of the gate byte
abbrev pub gate_of : List ℕ → ℕ
gate_of file = slice_index file 128 % 2

abbrev pub slot_of : ℕ → List ℕ → List ℕ
slot_of k file = take 40 (drop (64 * k) file)

-- the number in a slot
abbrev pub number_at : ℕ → List ℕ → ℕ
number_at k file = from_be_bytes w64 (drop 32 (slot_of k file))

-- the id in the current slot
abbrev pub id_in : List ℕ → List ℕ
id_in file = take 32 (slot_of (gate_of file) file)

-- the reserved number: the one in the current slot, and none in a blank file
unfoldable pub reserved_in : List ℕ → Option ℕ
reserved_in file = if nat_lt (length file) 129 then None else Some (number_at (gate_of file) file)

-- what opening a file for a key with this id and so many leaves gives: the reserved number, or the first cause of a refusal
unfoldable pub opening : List ℕ → ℕ → List ℕ → Result ℕ LoadFault
opening id leaves file =
    if nat_lt (length file) 129 then Err (Blank (length file))
    else if bytes_eq (id_in file) id then (if nat_lt leaves (number_at (gate_of file) file) then Err (Damaged (number_at (gate_of file) file) leaves) else Ok (number_at (gate_of file) file))
    else Err OtherKey

-- the bytes of a slot
abbrev pub slot_bytes : List ℕ → ℕ → List ℕ
slot_bytes id number = id ++ to_be_bytes w64 number

-- both slots of a fresh file, with no leaf reserved
unfoldable pub fresh_slots : List ℕ → List ℕ
fresh_slots id = slot_bytes id 0 ++ replicate 24 0 ++ slot_bytes id 0 ++ replicate 24 0

-- a fresh file
abbrev pub fresh : List ℕ → List ℕ
fresh id = fresh_slots id ++ 0 ∷ []

-- the slot that isn't current
abbrev pub other_slot : List ℕ → ℕ
other_slot file = 1 - gate_of file

-- the file once the other slot has this number, and once the gate byte names that slot
unfoldable pub staged : List ℕ → List ℕ → ℕ → List ℕ
staged file id number = overwritten file (64 * other_slot file) (slot_bytes id number)

unfoldable pub advanced : List ℕ → List ℕ → ℕ → List ℕ
advanced file id number = overwritten (staged file id number) 128 (other_slot file ∷ [])

-- an image of this key's vault that has the one number or the other
abbrev pub HasEither : List ℕ → ℕ → ℕ → List ℕ → Type 0
HasEither id old new image = (id_in image ≡ id) × ((reserved_in image ≡ Some old) ⊎ (reserved_in image ≡ Some new))

-- a blank image, or one of this key's vault with no leaf reserved
abbrev pub HasNone : List ℕ → List ℕ → Type 0
HasNone id image = (reserved_in image ≡ None) ⊎ ((id_in image ≡ id) × (reserved_in image ≡ Some 0))
