-- Stores that no call and no closing tells apart (this project's own).
use Rattle.std.specs.Prelude.{ℕ, ◌≡◌, List}
use Rattle.cp_core.specs.Store.{Store}
use Rattle.cp_core.specs.Calls.{content_at}
use Rattle.cp_core.specs.Machine.{State, step, run_from}
use Rattle.cp_core.specs.View.{Standing}
use Rattle.cp_core.specs.declared.answer.Answer.{Answer}
use Rattle.cp_core.specs.declared.event.Event.{Event}

-- One life, phase, kept list and number of leaves, and each block's latest content; older contents may differ.
pub record Alike (a b : State) : Type 0 where
  pub life : a.life ≡ b.life
  pub phase : a.phase ≡ b.phase
  pub published : a.published ≡ b.published
  pub kept : a.kept ≡ b.kept
  pub drawn : a.drawn ≡ b.drawn
  pub contents : (block : ℕ) → content_at a.contents block ≡ content_at b.contents block

-- each event is answered alike, and leaves them alike
abbrev pub StepsAlike : Type 0
StepsAlike = (s : Store) (a b : State) (event : Event) → Alike a b → ((step s a event).0 ≡ (step s b event).0) × Alike (step s a event).1 (step s b event).1

-- so does each list of events
abbrev pub RunsAlike : Type 0
RunsAlike = (s : Store) (a b : State) (events : List Event) → Alike a b → Alike (run_from s a events) (run_from s b events)

-- the answer is the step's
abbrev pub IsAnswer : Standing → Event → Answer → Type 0
IsAnswer old event answer = answer ≡ (step old.store old.state event).0

-- the store stands as after the step
abbrev pub IsAfter : Standing → Event → Standing → Type 0
IsAfter old event new = Alike new.state (step old.store old.state event).1
