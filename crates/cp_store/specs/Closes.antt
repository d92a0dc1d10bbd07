-- What the closing of an epoch is (this project's own).
use Rattle.std.specs.Prelude.{ℕ, ◌+◌, ◌≡◌, List, [], ◌∷◌, ◌++◌, map, Option, Some, Result, Ok, Err}
use Rattle.cp_chain.specs.Log.{log_text}
use Rattle.cp_core.specs.Honest.{last_of}
use Rattle.cp_core.specs.Leaves.{numbers_below}
use Rattle.cp_core.specs.Machine.{next_or, step, run_from}
use Rattle.cp_core.specs.Sealing.{families_at}
use Rattle.cp_core.specs.View.{Standing}
use Rattle.cp_core.specs.declared.answer.Answer.TheVariants.{CloseRefused, Done}
use Rattle.cp_core.specs.declared.close_refusal.CloseRefusal.{CloseRefusal}
use Rattle.cp_core.specs.declared.event.Event.{Event}
use Rattle.cp_core.specs.declared.event.Event.TheVariants.{Begin, Freeze, Seal, Publish}
use Rattle.cp_core.specs.declared.phase.Phase.TheVariants.{Running}
use Rattle.cp_closer.specs.Closer.{seal_item}
use Rattle.cp_closer.specs.Laws.{log_at}
use Rattle.cp_closer.specs.declared.sealed_text.SealedText.{SealedText}
use Rattle.cp_store.specs.Alike.{Alike}

-- the first shards, one after another, end the epoch
abbrev pub freezes_below : ℕ → List Event
freezes_below k = map Freeze (numbers_below k)

-- a whole closing: it begins with the next epoch's families list, if one is named, the sixteen shards end
-- the epoch, it is sealed, and it is published
abbrev pub closing_events : Option (List ℕ) → List Event
closing_events next = Begin next ∷ (freezes_below 16 ++ Seal ∷ Publish ∷ [])

-- what was sealed of the epoch is the last seal of the life, under the epoch's families list
abbrev pub IsLastSeal : Standing → ℕ → SealedText → Type 0
IsLastSeal x epoch sealed = last_of x.state.life.seals ≡ Some (seal_item epoch (families_at x.store x.state.life epoch) sealed)

-- The epoch was closed: the store stands as after the closing's events, the next epoch's families list is
-- the one that was named, or else the epoch's, and what was sealed is the last seal of the life, under the
-- epoch's list, with the log of the epoch.
pub record IsClosed (old new : Standing) (next : Option (List ℕ)) (sealed : SealedText) : Type 0 where
  pub store : new.store ≡ old.store
  pub begun : (step old.store old.state (Begin next)).0 ≡ Done
  pub after : Alike new.state (run_from old.store old.state (closing_events next))
  pub epoch : ℕ
  pub was : old.state.phase ≡ Running epoch
  pub now : new.state.phase ≡ Running (epoch + 1)
  pub kept : new.state.kept ≡ next_or next old.state.kept
  pub seal : last_of new.state.life.seals ≡ Some (seal_item epoch old.state.kept sealed)
  pub log : sealed.log ≡ log_text (log_at new.state.life epoch)

-- A refusal is that of the closing's beginning, and leaves all as it was.
abbrev pub Closes : Standing → Standing → Option (List ℕ) → Result SealedText CloseRefusal → Type 0
Closes old new next (Err why) = (new ≡ old) × ((step old.store old.state (Begin next)).0 ≡ CloseRefused why)
Closes old new next (Ok sealed) = IsClosed old new next sealed
