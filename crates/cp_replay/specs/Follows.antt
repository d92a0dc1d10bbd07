-- A replay as it runs, beside the definition's progress (this project's own).
use Rattle.std.specs.Prelude.{ℕ, ◌+◌, ◌^◌, ◌<◌, ◌≤◌, ◌≡◌, List}
use Rattle.lms_tree.specs.Secret.{Secret, leaves_of}
use Rattle.cp_core.specs.Store.{Store, StoreFits}
use Rattle.cp_core.specs.Kept.{Keeps}
use Rattle.cp_core.specs.declared.answer.Answer.{Answer}
use Rattle.cp_core.specs.declared.answer.Answer.TheVariants.{Booked, CallRefused, CloseRefused, Done, Text, NotClosed, NotNow}
use Rattle.cp_store.specs.Alike.{Alike}
use Rattle.cp_replay.specs.Replay.{Progress, after_lines, at_first, enveloped}
use Rattle.cp_replay.specs.declared.epoch_files.EpochFiles.{EpochFiles}
use Rattle.cp_replay.specs.declared.line.Line.{Line}
use Rattle.cp_closer.specs.declared.sealed_text.SealedText.{SealedText}
use Rattle.cp_replay.specs.declared.running.ReplayRun.{ReplayRun}

-- it stands as the progress tells, with a store that answers alike
pub record Follows (s : Store) (x : ReplayRun) (p : Progress) : Type 0 where
  pub store : x.store.store ≡ s
  pub id : x.id ≡ s.id
  pub list : x.list ≡ p.state.kept
  pub alike : Alike x.store.state p.state
  pub keeps : Keeps s p.state
  pub fits : StoreFits s
  pub named : x.named ≡ p.named
  pub first : 1 ≤ x.named
  pub bounded : x.named < 2 ^ 64
  pub text : x.text.items ≡ p.text
  pub handins : x.handins.items ≡ p.handins
  pub epochs : x.epochs.items ≡ p.epochs

-- it follows some progress
abbrev pub Following : Store → ReplayRun → Type 0
Following s x = (p : Progress) × Follows s x p

-- a leaf of the writer's key
abbrev pub CanSign : Secret → ℕ → Type 0
CanSign writer leaf = leaf < leaves_of writer

-- the store's leaves are the key's
abbrev pub HasLeaves : Store → Secret → Type 0
HasLeaves s key = s.attestations + s.closings ≤ leaves_of key

-- the leaf that signs is one of so many
abbrev pub SignsBelow : ℕ → Answer → Type 0
SignsBelow leaves (Booked b) = b.leaf < leaves
SignsBelow leaves (CallRefused why) = Unit {0}
SignsBelow leaves (CloseRefused why) = Unit {0}
SignsBelow leaves Done = Unit {0}
SignsBelow leaves (Text epoch) = Unit {0}
SignsBelow leaves (NotClosed count) = Unit {0}
SignsBelow leaves (NotNow phase) = Unit {0}

-- ---- between a replay of before and one of afterwards

-- whatever progress the first follows, the second follows what comes of it
abbrev pub FollowsOn : ReplayRun → ReplayRun → (Progress → Progress) → Type 0
FollowsOn old new after = (p : Progress) → Follows old.store.store old p → Follows old.store.store new (after p)

-- from the first line on, the second follows all of the lines
abbrev pub FollowsAll : Secret → Secret → List Line → ReplayRun → ReplayRun → Type 0
FollowsAll key writer lines old new = Follows old.store.store new (after_lines key writer old.store.store 0 (at_first old.store.store) lines)

-- the files of what was sealed, with this text of the epoch's families list
abbrev pub sealed_files : Secret → List ℕ → SealedText → EpochFiles
sealed_files key families x = record { families = families; closing = enveloped key x.leaf x.text; table = x.table; log = x.log }
