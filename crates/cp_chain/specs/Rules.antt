-- The rules of a segment, and where one is broken (this project's own).
use Rattle.std.specs.Prelude.{ℕ, zero, suc, ◌+◌, ◌<◌, ◌≤◌, ◌≡◌, ◌⊎◌, Bool, true, not, ◌&&◌, List, [], ◌∷◌, length, map, take, get_or, Option, Some, None, nat_lt, ◌==◌, if◌then◌else◌}
use Rattle.cp_statements.specs.Entry.{Entry, entry_of}
use Rattle.cp_families.specs.Writers.{writer}
use Rattle.cp_chain.specs.Frame.{Frame}
use Rattle.cp_chain.specs.Legal.{ok_and, same_put, put_at, put_by, latest, is_call}

pub data Rule : Type 0 where
  Text : Rule  -- 1: the text is an entry
  Block : Rule  -- 2: of the segment's block
  Epoch : Rule  -- 3: of the segment's epoch
  Position : Rule  -- 4: at its position
  Latest : Rule  -- 5: a get has the latest put
  Version : Rule  -- 6: a put has the next version
  Writer : Rule  -- 7: a put is signed by an authorized writer
  Repeat : Rule  -- 8: no entry before it has its client and nonce
  LastTip : Rule  -- 9: the latest put at the end is that of the tip after

abbrev pub number_of : Rule → ℕ
number_of Text = 1
number_of Block = 2
number_of Epoch = 3
number_of Position = 4
number_of Latest = 5
number_of Version = 6
number_of Writer = 7
number_of Repeat = 8
number_of LastTip = 9

abbrev pub rule_of : ℕ → Option Rule
rule_of n = if n == 1 then Some Text else if n == 2 then Some Block else if n == 3 then Some Epoch else if n == 4 then Some Position else if n == 5 then Some Latest
    else if n == 6 then Some Version else if n == 7 then Some Writer else if n == 8 then Some Repeat else if n == 9 then Some LastTip else None

abbrev pub all_rules : List Rule
all_rules = Text ∷ Block ∷ Epoch ∷ Position ∷ Latest ∷ Version ∷ Writer ∷ Repeat ∷ LastTip ∷ []

abbrev pub text_at : List (List ℕ) → ℕ → List ℕ
text_at texts i = get_or texts i []

-- a text of the segment that is an entry with this fault
abbrev pub entry_at_fault : List (List ℕ) → ℕ → (Entry → Bool) → Bool
entry_at_fault texts i fault = nat_lt i (length texts) && ok_and (entry_of (text_at texts i)) fault

-- The rule is broken at this place; for Repeat at the other place too, which is 0 for all others.
unfoldable pub broken : Frame → List (List ℕ) → Rule → ℕ → ℕ → Bool
broken f ts Text i other = (nat_lt i (length ts) && not (ok_and (entry_of (text_at ts i)) (λ e. true))) && (other == 0)
broken f ts Block i other = entry_at_fault ts i (λ e. not (e.block == f.side.block)) && (other == 0)
broken f ts Epoch i other = entry_at_fault ts i (λ e. not (e.epoch == f.side.epoch)) && (other == 0)
broken f ts Position i other = entry_at_fault ts i (λ e. not (e.position == f.side.before.count + i)) && (other == 0)
broken f ts Latest i other = entry_at_fault ts i (λ e. (e.kind == 2) && not (same_put (put_by e) (latest (put_at f.side.before) (take i ts)))) && (other == 0)
broken f ts Version i other = entry_at_fault ts i (λ e. (e.kind == 1) && not (e.version == (latest (put_at f.side.before) (take i ts)).version + 1)) && (other == 0)
broken f ts Writer i other = entry_at_fault ts i (λ e. (e.kind == 1) && not (writer f.side.families f.side.store e)) && (other == 0)
broken f ts Repeat i other = entry_at_fault ts i (λ e. nat_lt other i && is_call e.client e.nonce (text_at ts other))
broken f ts LastTip i other = ((i == length ts) && not (same_put (latest (put_at f.side.before) ts) (put_at f.after))) && (other == 0)

-- ---- the first fault

-- a rule that is broken, with its place and the other place
pub record Found : Type 0 where
  pub rule : Rule
  pub place : ℕ
  pub other : ℕ

-- The fault comes first of another: its place is less, or the same and its rule's number less, or
-- those the same and its other place no greater.
abbrev pub ComesFirst : Found → Rule → ℕ → ℕ → Type 0
ComesFirst x rule i other = (x.place < i) ⊎ ((x.place ≡ i) × ((number_of x.rule < number_of rule) ⊎ ((x.rule ≡ rule) × (x.other ≤ other))))

-- The fault is broken, and comes first of all that are.
pub record IsFirstFault (f : Frame) (ts : List (List ℕ)) (x : Found) : Type 0 where
  pub is_broken : broken f ts x.rule x.place x.other ≡ true
  pub first : (rule : Rule) (i other : ℕ) → broken f ts rule i other ≡ true → ComesFirst x rule i other

abbrev pub or_else : {A : Type 0} → Option A → Option A → Option A
or_else None rest = rest
or_else (Some x) rest = Some x

abbrev pub first_of : {A : Type 0} → List (Option A) → Option A
first_of [] = None
first_of (x ∷ xs) = or_else x (first_of xs)

-- what is found at the first number, of i and so many after it, at which something is
abbrev pub from_on : {A : Type 0} → (ℕ → Option A) → ℕ → ℕ → Option A
from_on try zero i = try i
from_on try (suc n) i = or_else (try i) (from_on try n (i + 1))

abbrev pub found_if : Bool → Found → Option Found
found_if b x = if b then Some x else None

-- the rule at the place, with the least other place
abbrev pub rule_at : Frame → List (List ℕ) → ℕ → Rule → Option Found
rule_at f ts i rule = from_on (λ other. found_if (broken f ts rule i other) (record { rule = rule; place = i; other = other })) i 0

-- the first fault: the least place, then the least rule, then the least other place
unfoldable pub first_fault : Frame → List (List ℕ) → Option Found
first_fault f ts = from_on (λ i. first_of (map (rule_at f ts i) all_rules)) (length ts) 0
