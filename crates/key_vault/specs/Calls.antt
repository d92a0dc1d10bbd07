-- What the vault's calls do to the disk (this project's own).
use Rattle.std.specs.Prelude.{◌≡◌, ◌<◌, ◌≤◌, ℕ, ◌+◌, List, length, Some, Result, Ok, Err, IfOk, OnOk, IsErrOf, IsTrue}
use Rattle.cp_outside.specs.Causes.{HasCause, Rose}
use Rattle.cp_outside.specs.Disks.{Only, LeavesOnly}
use Rattle.cp_outside.specs.declared.disk.Disk as disk
use Rattle.key_vault.specs.declared.faults.LoadFault.{LoadFault}
use Rattle.key_vault.specs.declared.faults.LoadFault.TheVariants as load
use Rattle.key_vault.specs.declared.faults.VaultFault.{VaultFault}
use Rattle.key_vault.specs.declared.faults.VaultFault.TheVariants as vault
use Rattle.key_vault.specs.Ranges.{Range}
use Rattle.key_vault.specs.Slots.{gate_of, id_in, reserved_in, opening, fresh, advanced, HasEither, HasNone}

-- An answer of a load is what opening the file gives, unless the disk failed.
abbrev pub IsOpening : List ℕ → ℕ → List ℕ → Result ℕ LoadFault → Type 0
IsOpening id leaves file (Err load.DiskFault) = Unit {0}
IsOpening id leaves file answer = answer ≡ opening id leaves file

-- P, unless the disk failed in a load
abbrev pub UnlessFailed : Result ℕ LoadFault → Type 0 → Type 0
UnlessFailed (Err load.DiskFault) P = Unit {0}
UnlessFailed answer P = P

-- P where a load found a blank file
abbrev pub OnBlank : Result ℕ LoadFault → Type 0 → Type 0
OnBlank (Err (load.Blank n)) P = P
OnBlank answer P = Unit {0}

-- A reservation of n leaves is refused for want of leaves exactly where fewer are left, with these numbers.
abbrev pub RefusesOver : ℕ → ℕ → ℕ → Result Range VaultFault → Type 0
RefusesOver leaves number n (Ok range) = number + n ≤ leaves
RefusesOver leaves number n (Err (vault.Over r l)) = (r ≡ number) × (l ≡ leaves) × (leaves < number + n)
RefusesOver leaves number n (Err vault.DiskFault) = number + n ≤ leaves

-- P where a reservation is refused for want of leaves
abbrev pub OnOver : Result Range VaultFault → Type 0 → Type 0
OnOver (Err (vault.Over r l)) P = P
OnOver answer P = Unit {0}

module _ {K : Type 0} (g : disk.Ghosts K) where
  -- The file on the disk is this key's with this number and this current slot, and a crash leaves it.
  pub record IsSettled (d : K) (id : List ℕ) (number gate : ℕ) : Type 0 where
    pub reserved : reserved_in (g.seen d) ≡ Some number
    pub key : id_in (g.seen d) ≡ id
    pub current : gate_of (g.seen d) ≡ gate
    pub durable : Only (g.seen d) (g.images d (g.moment d))

  -- A load changes nothing, and answers what opening the file gives. Once it has read the file, a crash leaves that file.
  pub record Loads (id : List ℕ) (leaves : ℕ) (old new : K) (answer : Result ℕ LoadFault) : Type 0 where
    pub answer_is : IsTrue (g.tells old) → IsOpening id leaves (g.seen old) answer
    pub seen : IsTrue (g.tells old) → g.seen new ≡ g.seen old
    pub durable : IsTrue (g.tells old) → UnlessFailed answer (Only (g.seen new) (g.images new (g.moment new)))
    pub blank : IsTrue (g.tells old) → OnBlank answer (length (g.seen new) < 129)
    pub any_moment : IsTrue (g.tells old) → LeavesOnly g.moment g.images old new (g.images old (g.moment old))
    pub tells : g.tells new ≡ g.tells old
    pub never_falls : g.faults old ≤ g.faults new
    pub failed : IsErrOf answer load.DiskFault → Rose (g.faults old) (g.faults new)

  -- A formatting makes a fresh file. Where a crash could leave only the blank file, it leaves at any moment a blank file or this key's with no leaf reserved.
  pub record Formats {T E : Type 0} (id : List ℕ) (old new : K) (answer : Result T E) : Type 0 where
    pub file : IsTrue (g.tells old) → OnOk answer (g.seen new ≡ fresh id)
    pub durable : IsTrue (g.tells old) → OnOk answer (Only (g.seen new) (g.images new (g.moment new)))
    pub any_moment : IsTrue (g.tells old) → Only (g.seen old) (g.images old (g.moment old)) → LeavesOnly g.moment g.images old new (HasNone id)
    pub later : IsTrue (g.tells old) → g.moment old ≤ g.moment new
    pub tells : g.tells new ≡ g.tells old
    pub cause : HasCause (g.faults old) (g.faults new) answer

  -- A reservation of n leaves hands out the next n and then has the new number for good. At any moment a crash leaves this key's file with the old number or the new one.
  pub record Reserves (id : List ℕ) (leaves number n : ℕ) (old new : K) (answer : Result Range VaultFault) : Type 0 where
    pub range : IfOk answer (λ r. (r.from ≡ number) × (r.to ≡ number + n))
    pub owner : IfOk answer (λ r. r.key ≡ id)
    pub over : RefusesOver leaves number n answer
    pub untouched : OnOver answer (new ≡ old)
    pub file : IsTrue (g.tells old) → OnOk answer (g.seen new ≡ advanced (g.seen old) id (number + n))
    pub number_is : IsTrue (g.tells old) → OnOk answer (reserved_in (g.seen new) ≡ Some (number + n))
    pub durable : IsTrue (g.tells old) → OnOk answer (Only (g.seen new) (g.images new (g.moment new)))
    pub any_moment : IsTrue (g.tells old) → LeavesOnly g.moment g.images old new (HasEither id number (number + n))
    pub tells : g.tells new ≡ g.tells old
    pub never_falls : g.faults old ≤ g.faults new
    pub failed : IsErrOf answer vault.DiskFault → Rose (g.faults old) (g.faults new)
