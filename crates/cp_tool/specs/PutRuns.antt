-- How the command `ask-put` ends, over its folder and the vault's disk, and with it all commands (this
-- project's own).
use Rattle.std.specs.Prelude.{ℕ, ◌≡◌, ◌⊎◌, ◌+◌, ◌<◌, ◌≤◌, List, length, Option, Some, Result, Ok, Err, IfOk, IfErr, IsErr, nat_lt, if◌then◌else◌, IsTrue}
use Rattle.sha2.specs.Sha256.{sha256}
use Rattle.cp_bytes.specs.Fields.{◌>>=◌}
use Rattle.cp_outside.specs.Causes.{Rose}
use Rattle.cp_outside.specs.Disks.{Only, LeavesOnly}
use Rattle.cp_outside.specs.declared.disk.Disk as disk
use Rattle.key_vault.specs.Slots.{opening, reserved_in, id_in, fresh, advanced, HasEither, HasNone}
use Rattle.key_vault.specs.declared.faults.LoadFault.{LoadFault}
use Rattle.key_vault.specs.declared.faults.LoadFault.TheVariants.{DiskFault, Blank, OtherKey, Damaged}
use Rattle.lms_tree.specs.Secret.{Secret, public_of, leaves_of}
use Rattle.cp_statements.specs.PutRequest.{PutRequest}
use Rattle.cp_client.specs.Asking.{put_body_text, signed_put}
use Rattle.cp_commands.specs.ClientWords.{PutWords}
use Rattle.cp_commands.specs.Commands.{Command}
use Rattle.cp_commands.specs.Commands.Command.{AskPut}
use Rattle.cp_endings.specs.Endings.{Outcome, short_seed, fault, no_memory}
use Rattle.cp_endings.specs.ClientEndings.{asked_put, over, other_key, damaged}
use Rattle.cp_tool.specs.ClientRuns.{key_in}
use Rattle.cp_endings.specs.ThreeInputs.{Three, three_of}
use Rattle.cp_tool.specs.Runs.{Files, Stops, KeepsAll, KeepsOthers, IsFile, RunEnds}
use Rattle.cp_more.specs.Seeds.{secret_in}

-- ---- the vault

-- how many leaves a vault's file says are reserved: none where it is blank; or why it is refused
abbrev pub number_before : Result ℕ LoadFault → Result ℕ Outcome
number_before (Ok number) = Ok number
number_before (Err DiskFault) = Err fault
number_before (Err (Blank length)) = Ok 0
number_before (Err OtherKey) = Err other_key
number_before (Err (Damaged reserved leaves)) = Err (damaged reserved leaves)

-- the next leaf of a key with this id and so many leaves, or why there is none
abbrev pub leaf_after : ℕ → ℕ → Result ℕ Outcome
leaf_after leaves number = if nat_lt number leaves then Ok number else Err (over number leaves)

unfoldable pub next_leaf : List ℕ → ℕ → List ℕ → Result ℕ Outcome
next_leaf id leaves file = number_before (opening id leaves file) >>= leaf_after leaves

-- an answer of the vault that is no leaf
abbrev pub IsVaultRefusal : Outcome → Type 0
IsVaultRefusal ending =
    (ending ≡ fault) ⊎ (ending ≡ other_key) ⊎ ((reserved : ℕ) × (leaves : ℕ) × (ending ≡ over reserved leaves)) ⊎ ((reserved : ℕ) × (leaves : ℕ) × (ending ≡ damaged reserved leaves))

-- the vault's file that a leaf is drawn from: a blank one is made fresh first
abbrev pub made_from : List ℕ → List ℕ → List ℕ
made_from id file = if nat_lt (length file) 129 then fresh id else file

-- what stands on the disk while a vault is made, which is done of a blank file alone
abbrev pub IsMaking : List ℕ → List ℕ → List ℕ → Type 0
IsMaking id file image = (length file < 129) × HasNone id image

-- What stands on the disk while a leaf is drawn: a vault that is made, or the key's vault with as many
-- leaves reserved as before or one more. Where the vault is refused there is no such image.
abbrev pub IsDrawing : List ℕ → List ℕ → Result ℕ Outcome → List ℕ → Type 0
IsDrawing id file (Ok leaf) image = IsMaking id file image ⊎ HasEither id leaf (leaf + 1) image
IsDrawing id file (Err refusal) image = ⊥

module _ {K : Type 0} (g : disk.Ghosts K) where
  -- the disk holds this key's vault with this number of reserved leaves, and a crash leaves it
  pub record HoldsNumber (d : K) (id : List ℕ) (number : ℕ) : Type 0 where
    pub reserved : reserved_in (g.seen d) ≡ Some number
    pub key : id_in (g.seen d) ≡ id
    pub durable : Only (g.seen d) (g.images d (g.moment d))

  -- One leaf was reserved: the one that the vault's number named, which is then one more. At any moment
  -- a crash leaves what it could leave before, or the vault with the old number or one more. Where the
  -- vault is refused the disk's bytes stay. A fault comes only where the disk's count rose.
  pub record DrawsLeaf (id : List ℕ) (leaves : ℕ) (old new : K) (drawn : Result ℕ Outcome) : Type 0 where
    pub next : IsTrue (g.tells old) → (drawn ≡ next_leaf id leaves (g.seen old)) ⊎ (drawn ≡ Err fault)
    pub reserved : IsTrue (g.tells old) → IfOk drawn (λ leaf. HoldsNumber new id (leaf + 1))
    pub file : IsTrue (g.tells old) → IfOk drawn (λ leaf. g.seen new ≡ advanced (made_from id (g.seen old)) id (leaf + 1))
    pub seen : IsTrue (g.tells old) → (g.seen new ≡ g.seen old) ⊎ IsDrawing id (g.seen old) (next_leaf id leaves (g.seen old)) (g.seen new)
    pub any_moment : IsTrue (g.tells old) → LeavesOnly g.moment g.images old new (λ image. g.images old (g.moment old) image ⊎ IsDrawing id (g.seen old) (next_leaf id leaves (g.seen old)) image)
    pub below : IfOk drawn (λ leaf. leaf < leaves)
    pub why : IfErr drawn IsVaultRefusal
    pub refused : IsTrue (g.tells old) → IsErr (next_leaf id leaves (g.seen old)) → g.seen new ≡ g.seen old
    pub tells : g.tells new ≡ g.tells old
    pub never_falls : g.faults old ≤ g.faults new
    pub failed : drawn ≡ Err fault → Rose (g.faults old) (g.faults new)

-- ---- ask-put: a seed of 48 bytes, the store's key of 56 and a content of at most 64 KiB

-- what is signed, and by which key
pub record PutParts : Type 0 where
  pub secret : Secret
  pub request : PutRequest
  pub content : List ℕ

abbrev pub put_request : PutWords → List ℕ → List ℕ → PutRequest
put_request words store content = record { store = sha256 store; epoch = words.call.epoch; block = words.call.block; client = words.call.client; nonce = words.call.nonce; version = words.version; content = sha256 content }

-- the seed is judged, and then the store's key
abbrev pub put_parts : PutWords → Three → Result PutParts Outcome
put_parts words files = if nat_lt (length files.first) 48 then Err short_seed else (key_in files.second >>= λ store. Ok (record { secret = secret_in words.height words.ots files.first; request = put_request words store files.third; content = files.third }))

abbrev pub put_inputs : PutWords → Option (List ℕ) → Option (List ℕ) → Option (List ℕ) → Result Three Outcome
put_inputs words seed_file store_file content_file =
    three_of seed_file (record { name = words.seed; limit = 48 }) store_file (record { name = words.store; limit = 56 }) content_file (record { name = words.content; limit = 65536 })

-- the put body, signed by this leaf
abbrev pub put_body : PutParts → ℕ → List ℕ
put_body parts leaf = put_body_text (signed_put parts.secret leaf parts.request parts.content)

-- The body signed by the drawn leaf was written; or its write failed, after which the file of its name
-- may hold anything; or memory was wanted before it. Without a leaf nothing is written.
abbrev pub LeafEnds : PutParts → Result ℕ Outcome → List ℕ → Files → Files → Outcome → Type 0
LeafEnds parts (Ok leaf) out old new ending =
    ((ending ≡ asked_put leaf) × (IsTrue old.tells → new.file out ≡ Some (put_body parts leaf))) ⊎ ((ending ≡ fault) × Rose old.write_faults new.write_faults) ⊎ ((ending ≡ no_memory) × KeepsAll old new)
LeafEnds parts (Err refusal) out old new ending = (ending ≡ refusal) × KeepsAll old new

module _ {K : Type 0} (g : disk.Ghosts K) where
  -- A leaf was drawn from the key's vault, whose id is the hash of the key.
  pub record PutDraws (parts : PutParts) (out : List ℕ) (old new : Files) (before after : K) (ending : Outcome) : Type 0 where
    pub drawn : Result ℕ Outcome
    pub draws : DrawsLeaf g (sha256 (public_of parts.secret)) (leaves_of parts.secret) before after drawn
    pub ends : LeafEnds parts drawn out old new ending

  -- An input was refused and neither a file nor the disk was touched, or a leaf was drawn.
  abbrev pub PutEnds : Result PutParts Outcome → List ℕ → Files → Files → K → K → Outcome → Type 0
  PutEnds (Ok parts) out old new before after ending = PutDraws parts out old new before after ending
  PutEnds (Err refusal) out old new before after ending = (ending ≡ refusal) × KeepsAll old new × (after ≡ before)

  -- Either the count of failed reads stays, or the command ended at one with a fault, all files are as
  -- before and no leaf was taken.
  abbrev pub TakesFirst : Files → Files → K → K → Outcome → Type 0
  TakesFirst old new before after ending =
      (new.read_faults ≡ old.read_faults) ⊎ ((ending ≡ fault) × KeepsAll old new × (after ≡ before))

  pub record AskPutEnds (words : PutWords) (old new : Files) (before after : K) (ending : Outcome) : Type 0 where
    pub seed_file : Option (List ℕ)
    pub store_file : Option (List ℕ)
    pub content_file : Option (List ℕ)
    pub seed_is : IsFile old words.seed seed_file
    pub store_is : IsFile old words.store store_file
    pub content_is : IsFile old words.content content_file
    pub ends : PutEnds (put_inputs words seed_file store_file content_file >>= put_parts words) words.out old new before after ending
        ⊎ (Stops old.read_faults new.read_faults ending × KeepsAll old new × (after ≡ before))
    pub others : KeepsOthers words.out old new
    pub reads_first : TakesFirst old new before after ending

  -- ---- all commands: none but `ask-put` touches the vault's disk

  abbrev pub CommandEnds : Option Command → Files → Files → K → K → Outcome → Type 0
  CommandEnds (Some (AskPut words)) old new before after ending = AskPutEnds words old new before after ending
  CommandEnds command old new before after ending = RunEnds command old new ending × (after ≡ before)

-- the command is `ask-put`
abbrev pub IsAskPut : Option Command → Type 0
IsAskPut (Some (AskPut words)) = Unit {0}
IsAskPut command = ⊥
