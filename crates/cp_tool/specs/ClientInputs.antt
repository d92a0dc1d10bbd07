-- What the steps of the client's commands give.
use Rattle.std.specs.Prelude.{ℕ, ◌≡◌, ◌≢◌, ◌⊎◌, ◌≤◌, ◌<◌, List, length, Some, Result, Ok, Err, IfOk, IfErr, IsErr, IsTrue}
use Rattle.sha2.specs.Sha256.{sha256}
use Rattle.cp_outside.specs.Causes.{Rose}
use Rattle.cp_outside.specs.Disks.{LeavesOnly}
use Rattle.cp_outside.specs.declared.disk.Disk as disk
use Rattle.key_vault.specs.Slots.{opening}
use Rattle.lms_tree.specs.PublicKey.{key_reads}
use Rattle.cp_client.specs.Accepting as accepting
use Rattle.cp_client.specs.View.{accepted_view}
use Rattle.cp_client.specs.declared.accepted.Accepted.{Accepted}
use Rattle.cp_commands.specs.ClientWords.{PutWords, AcceptWords}
use Rattle.cp_endings.specs.ClientEndings.{accepted, over, other_key, damaged}
use Rattle.cp_endings.specs.Endings.{Outcome, fault}
use Rattle.cp_endings.specs.Folders.{Files}
use Rattle.cp_endings.specs.ThreeInputs.{Three}
use Rattle.cp_tool.specs.PutRuns.{number_before, put_parts, made_from, IsMaking, IsVaultRefusal}
use Rattle.cp_endings.specs.View.{ending_view}
use Rattle.cp_tool.specs.declared.drawing.DrawnLeaf.{DrawnLeaf}
use Rattle.cp_tool.specs.declared.drawing.NoLeaf.{NoLeaf}
use Rattle.cp_tool.specs.declared.drawing.NoLeaf.TheVariants.{OtherKey, Damaged, Over, DiskFault}
use Rattle.cp_endings.specs.declared.ending.Ending.{Ending}

-- ---- ask-put

-- the store's id, where the seed has its length and the store's key reads, or the refusal
abbrev pub JudgesPut : Three → Result (List ℕ) Ending → Type 0
JudgesPut files (Ok store) = (48 ≤ length files.first) × IsTrue (key_reads files.second) × (store ≡ sha256 files.second)
JudgesPut files (Err ending) = (words : PutWords) → put_parts words files ≡ Err (ending_view ending)

-- why no leaf was drawn, as the command ends then
abbrev pub no_leaf : NoLeaf → Outcome
no_leaf OtherKey = other_key
no_leaf (Damaged reserved leaves) = damaged reserved leaves
no_leaf (Over reserved leaves) = over reserved leaves
no_leaf DiskFault = fault

abbrev pub leaf_drawn : Result DrawnLeaf NoLeaf → Result ℕ Outcome
leaf_drawn (Ok drawn) = Ok drawn.leaf
leaf_drawn (Err why) = Err (no_leaf why)

-- the leaf that was drawn
abbrev pub leaf_answer : Result DrawnLeaf Ending → Result ℕ Outcome
leaf_answer (Ok drawn) = Ok drawn.leaf
leaf_answer (Err ending) = Err (ending_view ending)

module _ {K : Type 0} (g : disk.Ghosts K) where
  -- The vault's number was read, or a blank vault was made. Where the vault is refused, and where it is
  -- not blank, the disk's bytes and images stay.
  pub record OpensVault (id : List ℕ) (leaves : ℕ) (old new : K) (answer : Result ℕ Outcome) : Type 0 where
    pub number : IsTrue (g.tells old) → (answer ≡ number_before (opening id leaves (g.seen old))) ⊎ (answer ≡ Err fault)
    pub made : IsTrue (g.tells old) → IfOk answer (λ n. g.seen new ≡ made_from id (g.seen old))
    pub seen : IsTrue (g.tells old) → (g.seen new ≡ g.seen old) ⊎ IsMaking id (g.seen old) (g.seen new)
    pub any_moment : IsTrue (g.tells old) → LeavesOnly g.moment g.images old new (λ image. g.images old (g.moment old) image ⊎ IsMaking id (g.seen old) image)
    pub within : IfOk answer (λ n. n ≤ leaves)
    pub why : IfErr answer IsVaultRefusal
    pub refused : IsTrue (g.tells old) → IsErr (number_before (opening id leaves (g.seen old))) → g.seen new ≡ g.seen old
    pub full : IsTrue (g.tells old) → (n : ℕ) → 0 < n → number_before (opening id leaves (g.seen old)) ≡ Ok n → g.seen new ≡ g.seen old
    pub tells : g.tells new ≡ g.tells old
    pub never_falls : g.faults old ≤ g.faults new
    pub failed : answer ≡ Err fault → Rose (g.faults old) (g.faults new)

-- ---- accept

abbrev pub GivesAccepted : Result Accepted Ending → Result accepting.Accepted Outcome → Type 0
GivesAccepted (Ok x) answer = answer ≡ Ok (accepted_view x)
GivesAccepted (Err ending) answer = answer ≡ Err (ending_view ending)

-- Both files were written, the content over the envelope where both have one name; or a write failed.
pub record WritesBoth (words : AcceptWords) (envelope content : List ℕ) (new : Files) : Type 0 where
  pub envelope_is : words.out ≢ words.content → new.file words.out ≡ Some envelope
  pub content_is : new.file words.content ≡ Some content

-- A write failed: the envelope's, and the content's file is as before, or the content's, behind the
-- envelope's.
abbrev pub StopsWriting : AcceptWords → List ℕ → Files → Files → Type 0
StopsWriting words envelope old new = words.out ≢ words.content → (new.file words.content ≡ old.file words.content) ⊎ (IsTrue old.tells → new.file words.out ≡ Some envelope)

abbrev pub WritesEnds : AcceptWords → List ℕ → accepting.Accepted → Files → Files → Outcome → Type 0
WritesEnds words envelope x old new ending =
    ((ending ≡ accepted x.attestation) × (IsTrue old.tells → WritesBoth words envelope x.content new)) ⊎ ((ending ≡ fault) × Rose old.write_faults new.write_faults × StopsWriting words envelope old new)
