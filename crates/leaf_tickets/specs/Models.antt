-- What contracts see of a counter and its seats. All of it is this project's own.
use Rattle.std.specs.Prelude.{◌≡◌, ℕ, ◌+◌, ◌≤◌, ◌==◌, ◌&&◌, nat_le, nat_lt, ◌<◌, All, List, ◌++◌, [], ◌∷◌, count_by, sum_by, if◌then◌else◌, refl}
use Rattle.std.specs.Coded.{Coded, code_by, coded×, coded_ℕ, coded_list}
use Rattle.atomic_table.specs.Seated.{TableId, table_id_coded}
use Rattle.leaf_tickets.specs.declared.leaves_over.LeavesOver.{LeavesOver}

-- a seat: which counter it draws from, the numbers that it has drawn, and the counter that it found last
pub record LeafSeatModel : Type 0 where
  pub counter : TableId
  pub drawn : List ℕ
  pub found : ℕ

abbrev pub leaf_seat_coded : Coded LeafSeatModel
leaf_seat_coded = code_by (TableId × (List ℕ × ℕ)) (coded× table_id_coded (coded× (coded_list coded_ℕ) coded_ℕ)) (λ s. (s.counter, (s.drawn, s.found))) (λ p. record { counter = p.0; drawn = p.1.0; found = p.1.1 }) (λ _. refl)

-- a counter: which one it is, the number at which it began, and how many seats it has
pub record LeavesModel : Type 0 where
  pub counter : TableId
  pub start : ℕ
  pub seats : ℕ

abbrev pub leaves_coded : Coded LeavesModel
leaves_coded = code_by (TableId × (ℕ × ℕ)) (coded× table_id_coded (coded× coded_ℕ coded_ℕ)) (λ s. (s.counter, (s.start, s.seats))) (λ p. record { counter = p.0; start = p.1.0; seats = p.1.1 }) (λ _. refl)

-- the seat draws from this counter
abbrev pub IsSeatOf : LeavesModel → LeafSeatModel → Type 0
IsSeatOf leaves seat = seat.counter ≡ leaves.counter

-- how often the number x stands in the list
abbrev pub times : ℕ → List ℕ → ℕ
times x xs = count_by (λ y. y == x) xs

-- the seats as they are dealt: each is this counter's, has drawn nothing, and found the start
abbrev pub AreDealt : LeavesModel → ℕ → List LeafSeatModel → Type 0
AreDealt leaves start seats = All (λ s. IsSeatOf leaves s × (s.drawn ≡ []) × (s.found ≡ start)) seats

-- a number that the seat may draw: below the limit, not below what the seat found, and not drawn by it before
abbrev pub IsNextFor : LeafSeatModel → ℕ → ℕ → Type 0
IsNextFor seat limit n = (n < limit) × (seat.found ≤ n) × (times n seat.drawn ≡ 0)

-- the refusal of a draw: the counter was found at the limit or above it, and not below what the seat had found
abbrev pub IsOver : LeafSeatModel → ℕ → LeavesOver → Type 0
IsOver seat limit over = (over.limit ≡ limit) × (limit ≤ over.drawn) × (seat.found ≤ over.drawn)

-- the seat that has drawn the number
abbrev pub having_drawn : LeafSeatModel → ℕ → LeafSeatModel
having_drawn seat n = record seat { drawn = seat.drawn ++ n ∷ []; found = n + 1 }

-- 1 where start ≤ x < end, and else 0: how often x stands among the numbers from start on that are below end
abbrev pub once_from : ℕ → ℕ → ℕ → ℕ
once_from start x end = if nat_le start x && nat_lt x end then 1 else 0

-- of these seats, the numbers from start on that are below end are drawn, each once
abbrev pub HaveDrawnOnce : List LeafSeatModel → ℕ → ℕ → Type 0
HaveDrawnOnce seats start end = (x : ℕ) → sum_by (λ s. times x s.drawn) seats ≡ once_from start x end

-- the numbers ascend strictly, from low on, and are below high
unfoldable pub AscendsFrom : ℕ → List ℕ → ℕ → Type 0
AscendsFrom low [] high = low ≤ high
AscendsFrom low (x ∷ xs) high = (low ≤ x) × AscendsFrom (x + 1) xs high

-- the numbers ascend strictly and are below high
abbrev pub Ascends : List ℕ → ℕ → Type 0
Ascends xs high = AscendsFrom 0 xs high
