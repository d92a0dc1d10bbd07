-- What callers see of a vault: its key, its number and its disk, and of a file apart from its disk also which slot is current.
use Rattle.std.specs.Prelude.{ℕ, List}
use Rattle.std.specs.Borrow.{GName}
use Rattle.cp_outside.specs.declared.disk.Disk as disk
use Rattle.key_vault.specs.declared.file.VaultFile.{VaultFile}
use Rattle.key_vault.specs.declared.vault.Vault.{Vault}

-- the key's id and its number of leaves
abbrev pub file_id : VaultFile → List ℕ
file_id file = file.id

abbrev pub file_leaves : VaultFile → ℕ
file_leaves file = file.leaves

-- how many leaves are reserved, which is the number of the first that isn't
abbrev pub file_number : VaultFile → ℕ
file_number file = file.reserved

-- the current slot
abbrev pub file_gate : VaultFile → ℕ
file_gate file = file.gate

module _ {K : Type 0} {g : disk.Ghosts K} where
  -- the disk as it is now, and the name of the reference to it
  abbrev pub disk_of : Vault K g → K
  disk_of vault = vault.disk.now

  abbrev pub disk_name : Vault K g → GName
  disk_name vault = vault.disk.ghost_name

  -- the key's id and its number of leaves
  abbrev pub vault_id : Vault K g → List ℕ
  vault_id vault = vault.file.id

  abbrev pub vault_leaves : Vault K g → ℕ
  vault_leaves vault = vault.file.leaves

  -- how many leaves are reserved, which is the number of the first that isn't
  abbrev pub vault_number : Vault K g → ℕ
  vault_number vault = vault.file.reserved
