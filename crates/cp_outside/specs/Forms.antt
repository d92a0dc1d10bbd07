-- The forms in memory of sources, sinks, connections and doors, and what their calls do (this
-- project's own).
use Rattle.std.specs.Prelude.{◌≡◌, ℕ, ◌+◌, List, [], ◌∷◌, ◌++◌, length, take, min, Option, Some, None, Result, Ok, Err}
use Rattle.cp_outside.specs.Causes.{one_more}
use Rattle.cp_outside.specs.Schedules.{CallPlan, after_call}

-- Bytes that are kept in a room.
pub record Kept : Type 0 where
  pub bytes : List ℕ
  -- how many bytes there may be
  pub room : ℕ

-- A source: the bytes left to be read.
pub record SourceState : Type 0 where
  pub left : List ℕ
  pub plan : CallPlan
  pub faults : ℕ

-- A sink: the bytes held, of which there may be `room`.
pub record SinkState : Type 0 where
  pub held : List ℕ
  pub room : ℕ
  pub plan : CallPlan
  pub faults : ℕ

-- A connection: the bytes left to be read, and those held, of which there may be `room`.
pub record LinkState : Type 0 where
  pub left : List ℕ
  pub held : List ℕ
  pub room : ℕ
  pub plan : CallPlan
  pub read_faults : ℕ
  pub write_faults : ℕ

-- A door: the connections to come, those that ended, and how many are handed out.
pub record DoorState (C : Type 0) : Type 0 where
  pub coming : List C
  pub ended : List C
  pub handed_out : ℕ
  pub plan : CallPlan
  pub faults : ℕ

-- A read gives as many bytes from the front as are left and fit.
pub record GivesFront (old new : List ℕ) (n : ℕ) (into : List ℕ) : Type 0 where
  pub count : n ≡ min (length into) (length old)
  pub moved : old ≡ take n into ++ new

-- What a read makes of a source.
abbrev pub SourceReads : {E : Type 0} → SourceState → SourceState → List ℕ → Result ℕ E → Type 0
SourceReads old new into (Ok n) =
    GivesFront old.left new.left n into
    × (new ≡ record old { left = new.left; plan = after_call old.plan })
SourceReads old new into (Err fault) =
    new ≡ record old { plan = after_call old.plan; faults = one_more old.faults }

-- What a write makes of a sink: it takes the whole piece.
abbrev pub SinkWrites : {E : Type 0} → SinkState → SinkState → List ℕ → Result ℕ E → Type 0
SinkWrites old new piece (Ok n) =
    (n ≡ length piece)
    × (new ≡ record old { held = old.held ++ piece; plan = after_call old.plan })
SinkWrites old new piece (Err fault) =
    new ≡ record old { plan = after_call old.plan; faults = one_more old.faults }

-- What a read makes of a connection.
abbrev pub LinkReads : {E : Type 0} → LinkState → LinkState → List ℕ → Result ℕ E → Type 0
LinkReads old new into (Ok n) =
    GivesFront old.left new.left n into
    × (new ≡ record old { left = new.left; plan = after_call old.plan })
LinkReads old new into (Err fault) =
    new ≡ record old { plan = after_call old.plan; read_faults = one_more old.read_faults }

-- What a write makes of a connection: it takes the whole piece.
abbrev pub LinkWrites : {E : Type 0} → LinkState → LinkState → List ℕ → Result ℕ E → Type 0
LinkWrites old new piece (Ok n) =
    (n ≡ length piece)
    × (new ≡ record old { held = old.held ++ piece; plan = after_call old.plan })
LinkWrites old new piece (Err fault) =
    new ≡ record old { plan = after_call old.plan; write_faults = one_more old.write_faults }

-- What `accept` makes of a door: it hands out the first of the connections to come.
abbrev pub DoorAccepts : {C E : Type 0} → DoorState C → DoorState C → Result (Option C) E → Type 0
DoorAccepts old new (Ok (Some conn)) =
    (old.coming ≡ conn ∷ new.coming)
    × (new ≡ record old { coming = new.coming; handed_out = old.handed_out + 1; plan = after_call old.plan })
DoorAccepts old new (Ok None) = (old.coming ≡ []) × (new ≡ record old { plan = after_call old.plan })
DoorAccepts old new (Err fault) = new ≡ record old { plan = after_call old.plan; faults = one_more old.faults }
