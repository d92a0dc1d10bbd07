-- The rule of the places, and what each step tells. All of it is this project's own.
use Rattle.std.specs.Prelude.{◌≡◌, ◌⊎◌, ℕ, zero, suc, ◌+◌, ◌*◌, ◌≤◌, ◌<◌, ◌==◌, List, [], ◌∷◌, ◌++◌, map, length, sum_by, if◌then◌else◌, slice_index, slice_set, MatchBool, Option, Some, None}
use mathlib.Core.Option.{some}
use mathlib.Core.Option as maybe
use lib.ListN.{get_elem?}
use Rattle.atomic_table.specs.Table.{State, Me, Step}
use Rattle.cp_gate.specs.declared.view.Identity.{Identity}
use Rattle.cp_gate.specs.declared.view.View.{View}
use Rattle.cp_gate.specs.Histories.{times, once_below, seen_of, StartsWith, OthersAdd, SeatsAdd, longest}
use Rattle.cp_gate.specs.Models.{zeros, turn_more}

-- P of each, one by one
abbrev pub Each : {A : Type 0} → (A → Type 0) → List A → Type 0
Each P [] = Unit {0}
Each P (x ∷ xs) = P x × Each P xs

-- f, but x at the place p
abbrev pub put : {A : Type 0} → (ℕ → A) → ℕ → A → ℕ → A
put f p x q = if q == p then x else f q

module _ {I : Type 0} where
  abbrev pub identity : ℕ → List (List I) → Identity I
  identity number seen = record { number = number; seen = seen }

  -- the numbers of the identities
  abbrev pub numbers : List (Identity I) → List ℕ
  numbers es = map (λ e. e.number) es

  -- what the seat of the first identity has seen
  abbrev pub first_seen : List (Identity I) → List (List I)
  first_seen [] = []
  first_seen (e ∷ es) = e.seen

  -- all identities but the first
  abbrev pub rest : List (Identity I) → List (Identity I)
  rest [] = []
  rest (e ∷ es) = es

  -- the first identity alone
  abbrev pub only : List (Identity I) → List (Identity I)
  only [] = []
  only (e ∷ es) = e ∷ []

  -- the identities of the numbers from k on, n of them, each of which has seen this
  abbrev pub identities_from : List (List I) → ℕ → ℕ → List (Identity I)
  identities_from seen k zero = []
  identities_from seen k (suc n) = identity k seen ∷ identities_from seen (suc k) n

module _ {K I : Type 0} where
  -- a seat with its number
  abbrev pub seated : K → ℕ → List (List I) → List ℕ → Option ℕ → View K I
  seated k number seen turns entered = record { key = Some k; identities = identity number seen ∷ []; notes = []; turns = turns; entered = entered }

  -- a seat that has taken in a note and has not read it
  abbrev pub told : K → ℕ → List (List I) → List (List I) → List ℕ → Option ℕ → View K I
  told k number seen note turns entered = record { key = Some k; identities = identity number seen ∷ []; notes = note ∷ []; turns = turns; entered = entered }

  -- a view that knows nothing
  abbrev pub newcomer : View K I
  newcomer = record { key = None; identities = []; notes = []; turns = []; entered = None }

  -- the first seat, which has all numbers
  abbrev pub first_view : K → ℕ → List (List I) → View K I
  first_view k seats start = record { key = Some k; identities = identities_from start 0 seats; notes = []; turns = zeros start; entered = None }

  -- the numbers from i on, n of them, are still to be dealt
  abbrev pub dealing : K → List (List I) → ℕ → ℕ → View K I
  dealing k start i n = record { key = Some k; identities = identities_from start i n; notes = []; turns = zeros start; entered = None }

  -- what is left where the first number was dealt
  abbrev pub without_first : View K I → View K I
  without_first v = record v { identities = rest v.identities }

  -- the seat to which the first number was dealt
  abbrev pub first_alone : View K I → View K I
  first_alone v = record v { identities = only v.identities }

  -- a note of what a seat has seen
  abbrev pub noted : View K I → View K I
  noted v = record { key = None; identities = []; notes = first_seen v.identities ∷ []; turns = []; entered = None }

  -- a view that has taken in another
  abbrev pub both : View K I → View K I → View K I
  both v w = record v { identities = v.identities ++ w.identities; notes = v.notes ++ w.notes }

module _ {T K I : Type 0} (fits : ℕ → T → Type 0) (history : ℕ → T → List I) (names : I → Option ℕ) (key : K) (places seats : ℕ) (start : List (List I)) where
  abbrev pub V : Type 0
  V = View K I

  abbrev pub Homes : Type 0
  Homes = List (maybe.Option (Option T))

  -- an identity has seen a beginning of each history, and what it has not seen does not name it
  pub record IdentityOk (hist : ℕ → List I) (e : Identity I) : Type 0 where
    pub sized : length e.seen ≡ places
    pub adds : (p : ℕ) → p < places → OthersAdd names e.number (seen_of e.seen p) (hist p)

  -- a note has a beginning of each history
  abbrev pub NoteOk : (ℕ → List I) → List (List I) → Type 0
  NoteOk hist n = (p : ℕ) → p < places → StartsWith (hist p) (seen_of n p)

  -- the value is at home, and stands for the history
  pub record Home (words : List ℕ) (homes : Homes) (hist : ℕ → List I) (p : ℕ) : Type 0 where
    pub value : T
    pub word : slice_index words p ≡ 2 * length (hist p)
    pub there : get_elem? homes p ≡ some (some (Some value))
    pub fit : fits p value
    pub is : history p value ≡ hist p

  -- the value is out with the seat that has entered
  pub record Out (words : List ℕ) (views : List V) (hist : ℕ → List I) (holder : ℕ → ℕ) (p : ℕ) : Type 0 where
    pub view : V
    pub word : slice_index words p ≡ 2 * length (hist p) + 1
    pub there : get_elem? views (holder p) ≡ some view
    pub inside : view.entered ≡ Some p

  -- a place is in either state
  abbrev pub PlaceOk : List ℕ → Homes → List V → (ℕ → List I) → (ℕ → ℕ) → ℕ → Type 0
  PlaceOk words homes views hist holder p = Home words homes hist p ⊎ Out words views hist holder p

  -- the seat has entered the place alone, and has seen the history
  pub record Inside (words : List ℕ) (hist : ℕ → List I) (holder : ℕ → ℕ) (seat : ℕ) (v : V) (p : ℕ) : Type 0 where
    pub place : p < places
    pub word : slice_index words p ≡ 2 * length (hist p) + 1
    pub mine : holder p ≡ seat
    pub all : seen_of (first_seen v.identities) p ≡ hist p

  -- what is true of the view of each seat: its key is the gate's, its identities and notes know beginnings of the histories, and it is alone in the place that it has entered
  pub record ViewOk (words : List ℕ) (hist : ℕ → List I) (holder : ℕ → ℕ) (seat : ℕ) (v : V) : Type 0 where
    pub keyed : (k : K) → v.key ≡ Some k → k ≡ key
    pub identities : Each (IdentityOk hist) v.identities
    pub notes : Each (NoteOk hist) v.notes
    pub inside : (p : ℕ) → v.entered ≡ Some p → Inside words hist holder seat v p
    pub idle : v.identities ≡ [] → v.entered ≡ None

  -- The rule. Each place has a history, and at most one seat is in it at a time. What was added since the start names numbers below the count. The identities are as many as the seats, one for each number.
  pub record InTurn (s : State (Option T) V) : Type 0 where
    pub hist : ℕ → List I
    pub holder : ℕ → ℕ
    pub wide : length s.words ≡ places
    pub deep : length s.homes ≡ places
    pub each_place : (p : ℕ) → p < places → PlaceOk s.words s.homes s.views hist holder p
    pub each_view : (j : ℕ) (v : V) → get_elem? s.views j ≡ some v → ViewOk s.words hist holder j v
    pub grown : (p : ℕ) → p < places → SeatsAdd names seats (seen_of start p) (hist p)
    pub counted : sum_by (λ (v : V). length v.identities) s.views ≡ seats
    pub numbered : (k : ℕ) → sum_by (λ (v : V). times k (numbers v.identities)) s.views ≡ once_below k seats

-- the slots that a seat holds: while it has entered a place it has that one, and the value is out
abbrev pub carried_at : {T : Type 0} → Option ℕ → List (ℕ × Option T)
carried_at None = []
carried_at (Some p) = (p, None) ∷ []

-- a seat with the slots that it holds
abbrev pub Sitting : Type 0 → Type 0 → Type 0 → Type 0
Sitting T K I = Me (Option T) (View K I)

module _ {T K I : Type 0} where
  -- the seat has seen the whole history of the place, which the word counts; while it is in the place, it had seen that before
  abbrev pub Looked : (K → I → Option ℕ) → Step (Option T) → Sitting T K I → ℕ → Sitting T K I → Type 0
  Looked names st m n m' = (k : K) (number : ℕ) (seen : List (List I)) (turns : List ℕ) (entered : Option ℕ) → m.0 ≡ seated k number seen turns entered
      → (h : List I) × (m' ≡ (seated k number (slice_set seen st.word h) turns entered, m.1)) × OthersAdd (names k) number (seen_of seen st.word) h × (2 * length h ≤ n) × (n ≤ 2 * length h + 1) × (entered ≡ Some st.word → h ≡ seen_of seen st.word)

  -- a seat that knows nothing
  abbrev pub Arrived : Step (Option T) → Sitting T K I → ℕ → Sitting T K I → Type 0
  Arrived st m n m' = m'.0 ≡ newcomer

  -- the seat entered where the word was the one expected: the value is out with it, and it has seen the whole history
  abbrev pub Entered : (K → ℕ → T → Type 0) → (K → ℕ → T → List I) → (K → I → Option ℕ) → Step (Option T) → Sitting T K I → ℕ → Sitting T K I → Type 0
  Entered fits history names st m n m' = (k : K) (number : ℕ) (seen : List (List I)) (turns : List ℕ) → m.0 ≡ seated k number seen turns None → MatchBool (n == st.first)
      ((x : T) × (m' ≡ (seated k number (slice_set seen st.word (history k st.word x)) (turn_more turns st.word) (Some st.word), (st.word, Some x) ∷ m.1)) × fits k st.word x × OthersAdd (names k) number (seen_of seen st.word) (history k st.word x))
      (m' ≡ m)

  -- the seat left the place with the value that it put back, and has seen its history
  abbrev pub Left : (K → ℕ → T → List I) → Step (Option T) → Sitting T K I → ℕ → Sitting T K I → Type 0
  Left history st m n m' = (k : K) (number : ℕ) (seen : List (List I)) (turns : List ℕ) (x : T) → m ≡ (seated k number seen turns (Some st.word), (st.word, Some x) ∷ [])
      → m' ≡ (seated k number (slice_set seen st.word (history k st.word x)) turns None, [])

  -- the seat has taken over what its note has more, which is nothing of the place in which it is
  abbrev pub HasRead : (K → I → Option ℕ) → Step (Option T) → Sitting T K I → ℕ → Sitting T K I → Type 0
  HasRead names st m n m' = (k : K) (number : ℕ) (seen note : List (List I)) (turns : List ℕ) (entered : Option ℕ) → m.0 ≡ told k number seen note turns entered
      → (m' ≡ (seated k number (longest seen note) turns entered, m.1))
      × ((p : ℕ) → p < length seen → OthersAdd (names k) number (seen_of seen p) (seen_of (longest seen note) p) × StartsWith (seen_of (longest seen note) p) (seen_of note p) × (entered ≡ Some p → seen_of (longest seen note) p ≡ seen_of seen p))

-- the seat has this key and number, nothing is open in its view, and it has seen and entered so many places
abbrev pub IsSeated : {T K I : Type 0} → K → ℕ → ℕ → Sitting T K I → Type 0
IsSeated key number places me = (me ≡ (seated key number (first_seen me.0.identities) me.0.turns me.0.entered, carried_at me.0.entered))
    × ((p : ℕ) → me.0.entered ≡ Some p → p < places) × (length (first_seen me.0.identities) ≡ places) × (length me.0.turns ≡ places)
