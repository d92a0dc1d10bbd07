-- What contracts see of a gate, its seats and a held value. All of it is this project's own.
use Rattle.std.specs.Prelude.{◌≡◌, ℕ, ◌+◌, suc, List, [], ◌∷◌, map, Option, Some, None, slice_index, slice_set}
use Rattle.atomic_table.specs.Seated.{TableId}
use Rattle.cp_gate.specs.Histories.{longest}

-- a seat: whose table it sits at, the key there, its number, what it has seen of each place, how often it has entered each, and the place in which it is
pub record SeatModel (K I : Type 0) : Type 0 where
  pub table : TableId
  pub key : Option K
  pub number : ℕ
  pub seen : List (List I)
  pub turns : List ℕ
  pub entered : Option ℕ

-- a gate: which table it is, its key, the number of its seats, and the history of each place when it was made
pub record GateModel (K I : Type 0) : Type 0 where
  pub table : TableId
  pub key : K
  pub seats : ℕ
  pub start : List (List I)

-- the histories of the values, from this place on
abbrev pub starts : {T I : Type 0} → (ℕ → T → List I) → ℕ → List T → List (List I)
starts history place [] = []
starts history place (x ∷ xs) = history place x ∷ starts history (suc place) xs

-- a 0 for each
abbrev pub zeros : {A : Type 0} → List A → List ℕ
zeros xs = map (λ _. 0) xs

-- one turn more at a place
abbrev pub turn_more : List ℕ → ℕ → List ℕ
turn_more turns p = slice_set turns p (slice_index turns p + 1)

module _ {K I : Type 0} where
  -- how many places the gate has
  abbrev pub places : GateModel K I → ℕ
  places gate = gate.table.slots

  -- the seat is this gate's
  abbrev pub IsSeatOf : GateModel K I → SeatModel K I → Type 0
  IsSeatOf gate seat = (seat.table ≡ gate.table) × (seat.key ≡ Some gate.key)

  -- the seat as it was dealt: it has seen the start, has had no turn, and is in no place
  abbrev pub IsNewSeatOf : GateModel K I → SeatModel K I → Type 0
  IsNewSeatOf gate seat = IsSeatOf gate seat × (seat.seen ≡ gate.start) × (seat.turns ≡ zeros gate.start) × (seat.entered ≡ None)

  -- the seat in its turn at a place, whose history it has seen
  abbrev pub entering : SeatModel K I → ℕ → List I → SeatModel K I
  entering seat p history = record seat { seen = slice_set seat.seen p history; turns = turn_more seat.turns p; entered = Some p }

  -- the seat after its turn at a place, which it left with this history
  abbrev pub leaving : SeatModel K I → ℕ → List I → SeatModel K I
  leaving seat p history = record seat { seen = slice_set seat.seen p history; entered = None }

  -- the seat that has looked at a place, whose history it has seen
  abbrev pub looking : SeatModel K I → ℕ → List I → SeatModel K I
  looking seat p history = record seat { seen = slice_set seat.seen p history }

  -- the seat that was told what another has seen
  abbrev pub told_of : SeatModel K I → List (List I) → SeatModel K I
  told_of seat seen = record seat { seen = longest seat.seen seen }

-- a value that is out, and its place
pub record HeldModel (T : Type 0) : Type 0 where
  pub value : T
  pub place : ℕ
