-- The first fault at a place, by what was found there.
use Rattle.std.proofs.Common.{◌≡◌, ℕ, zero, suc, ◌+◌, ◌<◌, Bool, true, false, cond, not, ◌&&◌, eqb, ltb, List, [], ◌∷◌, ◌++◌, length, get_or, take, map, Option, Some, None, Result, Ok, Err, refl, sym, ap, ◌∙◌, arith}
use Rattle.std.specs.Prelude.{IsNone, IfSome, find, option_map, position, unwrap_or}
use Rattle.std.specs.List.{AllByRecursion, position_from}
use Rattle.std.proofs.lemmas.Bool.{lt-ltb, le-ltb, eq-eqb, ne_eqb}
use Rattle.std.proofs.lemmas.Iterator.Adapters.{position_from-zero}
use Rattle.std.proofs.lemmas.List.{take_more, get_or-take, length-take-le}
use Rattle.cp_statements.specs.Entry.{Entry, entry_of}
use Rattle.cp_families.specs.Writers.{writer}
use Rattle.cp_chain.specs.Frame.{Side, Frame}
use Rattle.cp_chain.specs.Legal.{ok_and, Put, same_put, put_at, put_by, put_read, put_in, latest, is_call, Legal}
use Rattle.cp_chain.specs.Rules.{Rule, text_at, entry_at_fault, broken, Found, or_else, first_of, from_on, found_if, rule_at, IsFirstFault, first_fault}
use Rattle.cp_chain.specs.Rules.Rule.{Text, Block, Epoch, Position, Latest, Version, Writer, Repeat, LastTip}
use Rattle.cp_chain.specs.Pass.{fault_at, fault_alone, fault_behind, fault_read, rules_of_one, entry_breaks}
use Rattle.cp_chain.proofs.Found.{none_on}
use Rattle.cp_chain.proofs.Chain.{latest-append, latest-one}
use Rattle.cp_chain.proofs.Firsts.{no_fault_legal, legal_no_fault, first_fault_least}
use Rattle.cp_chain.proofs.Places.{fault_here}

abbrev found : Rule → ℕ → ℕ → Found
found rule i other = record { rule = rule; place = i; other = other }

-- ---- a rule whose other place is 0

pub only_zero : (b : Bool) (rule : Rule) (i n : ℕ) → from_on (λ other. found_if (b && eqb other 0) (found rule i other)) n 0 ≡ found_if b (found rule i 0)
only_zero true rule i zero = refl
only_zero true rule i (suc n) = refl
only_zero false rule i n = none_on (λ other. found_if (false && eqb other 0) (found rule i other)) (λ j. refl) n 0

one_rule : (ts : List (List ℕ)) (i : ℕ) (e : Entry) (p : Entry → Bool) (rule : Rule) → entry_of (text_at ts i) ≡ Ok e → from_on (λ other. found_if (entry_at_fault ts i p && eqb other 0) (found rule i other)) i 0 ≡ found_if (p e) (found rule i 0)
one_rule ts i e p rule read = only_zero (entry_at_fault ts i p) rule i i ∙ ap (λ (b : Bool). found_if b (found rule i 0)) (fault_here ts i e p read)

-- at an entry, each rule that it breaks by itself
alone_at : (f : Frame) (ts : List (List ℕ)) (i : ℕ) (e : Entry) → entry_of (text_at ts i) ≡ Ok e → AllByRecursion (λ r. rule_at f ts i r ≡ found_if (entry_breaks f.side (latest (put_at f.side.before) (take i ts)) i e r) (found r i 0)) rules_of_one
unfolding broken
alone_at f ts i e read = (
  one_rule ts i e (λ e. not (eqb e.block f.side.block)) Block read,
  (
    one_rule ts i e (λ e. not (eqb e.epoch f.side.epoch)) Epoch read,
    (
      one_rule ts i e (λ e. not (eqb e.position (f.side.before.count + i))) Position read,
      (
        one_rule ts i e (λ e. eqb e.kind 2 && not (same_put (put_by e) (latest (put_at f.side.before) (take i ts)))) Latest read,
        (
          one_rule ts i e (λ e. eqb e.kind 1 && not (eqb e.version ((latest (put_at f.side.before) (take i ts)).version + 1))) Version read,
          (one_rule ts i e (λ e. eqb e.kind 1 && not (writer f.side.families f.side.store e)) Writer read, tt),
        ),
      ),
    ),
  ),
)

-- the first of them that is broken comes first
first_of_find : (b : Rule → Bool) (g : Rule → Option Found) (make : Rule → Found) (rules more : List Rule) → AllByRecursion (λ r. g r ≡ found_if (b r) (make r)) rules → first_of (map g (rules ++ more)) ≡ or_else (option_map make (find b rules)) (first_of (map g more))
first_of_find b g make [] more all = refl
first_of_find b g make (r ∷ rules) more all = ap (λ (o : Option Found). or_else o (first_of (map g (rules ++ more)))) all.0 ∙ go (b r) (first_of_find b g make rules more all.1)
  where
    go : (t : Bool) → first_of (map g (rules ++ more)) ≡ or_else (option_map make (find b rules)) (first_of (map g more)) → or_else (found_if t (make r)) (first_of (map g (rules ++ more))) ≡ or_else (option_map make (cond t (Some r) (find b rules))) (first_of (map g more))
    go true others = refl
    go false others = others

-- ---- the repeated call

from_on-same : {A : Type 0} (try other : ℕ → Option A) → ((j : ℕ) → try j ≡ other j) → (n i : ℕ) → from_on try n i ≡ from_on other n i
from_on-same try other h zero i = h i
from_on-same try other h (suc n) i = ap (λ o. or_else o (from_on try n (i + 1))) (h i) ∙ ap (or_else (other i)) (from_on-same try other h n (i + 1))

-- looking for a place among those before i is looking for it in the list
search_is : (p : List ℕ → Bool) (make : ℕ → Found) (ts : List (List ℕ)) (i n j : ℕ) (xs : List (List ℕ)) → j + n ≡ i → length xs ≡ n → ((k : ℕ) → k < n → get_or ts (j + k) [] ≡ get_or xs k [])
    → from_on (λ o. found_if (ltb o i && p (get_or ts o [])) (make o)) n j ≡ option_map make (position_from p j xs)
search_is p make ts i zero j [] e l same = ap (λ (b : Bool). found_if (b && p (get_or ts j [])) (make j)) (le-ltb j i (omega (arith, e)))
search_is p make ts i zero j (x ∷ xs) e l same = absurd (omega (arith, l))
search_is p make ts i (suc n) j [] e l same = absurd (omega (arith, l))
search_is p make ts i (suc n) j (x ∷ xs) e l same =
    let below : ltb j i ≡ true = lt-ltb j i (omega (arith, e)) in
    let zero_on : j + 0 ≡ j = omega arith in
    let here : get_or ts j [] ≡ x = ap (λ (k : ℕ). get_or ts k []) (sym zero_on) ∙ same 0 (omega arith) in
    let more = search_is p make ts i n (j + 1) xs (omega (arith, e)) (omega (arith, l)) (λ k lt. let on : j + 1 + k ≡ j + suc k = omega arith in ap (λ (k : ℕ). get_or ts k []) on ∙ same (suc k) (omega (arith, lt))) in
    ap (λ (b : Bool). or_else (found_if (b && p (get_or ts j [])) (make j)) (from_on (λ o. found_if (ltb o i && p (get_or ts o [])) (make o)) n (j + 1))) below
    ∙ ap (λ (t : List ℕ). or_else (found_if (p t) (make j)) (from_on (λ o. found_if (ltb o i && p (get_or ts o [])) (make o)) n (j + 1))) here
    ∙ ap (or_else (found_if (p x) (make j))) more ∙ go (p x)
  where
    go : (t : Bool) → or_else (found_if t (make j)) (option_map make (position_from p (j + 1) xs)) ≡ option_map make (cond t (Some j) (position_from p (j + 1) xs))
    go true = refl
    go false = refl

repeat_at : (f : Frame) (ts : List (List ℕ)) (i : ℕ) (e : Entry) → i < length ts → entry_of (text_at ts i) ≡ Ok e → rule_at f ts i Repeat ≡ option_map (found Repeat i) (position (is_call e.client e.nonce) (take i ts))
unfolding broken
repeat_at f ts i e lt read =
    from_on-same (λ other. found_if (broken f ts Repeat i other) (found Repeat i other)) (λ other. found_if (ltb other i && is_call e.client e.nonce (get_or ts other [])) (found Repeat i other))
    (λ other. ap (λ (b : Bool). found_if b (found Repeat i other)) (fault_here ts i e (λ e. ltb other i && is_call e.client e.nonce (text_at ts other)) read)) i 0
    ∙ search_is (is_call e.client e.nonce) (found Repeat i) ts i i 0 (take i ts) (omega arith) (length-take-le i ts (omega (arith, lt))) (λ k below. let on : 0 + k ≡ k = omega arith in ap (λ (k : ℕ). get_or ts k []) on ∙ sym (get_or-take i ts k [] below))
    ∙ ap (option_map (found Repeat i)) (sym (position_from-zero (is_call e.client e.nonce) (take i ts)))

-- ---- what is found at a place

pub fault_at_no_entry : (f : Frame) (ts : List (List ℕ)) (i left : ℕ) → i < length ts → entry_of (text_at ts i) ≡ Err left → fault_at f ts i ≡ Some (found Text i 0)
unfolding fault_at broken
fault_at_no_entry f ts i left lt read =
    let none : ok_and (entry_of (text_at ts i)) (λ e. true) ≡ false = ap (λ (r : Result Entry ℕ). ok_and r (λ e. true)) read in
    let here : (ltb i (length ts) && not (ok_and (entry_of (text_at ts i)) (λ e. true))) ≡ true = rw (lt-ltb i (length ts) lt, none) refl in
    let first : rule_at f ts i Text ≡ Some (found Text i 0) =
    only_zero (ltb i (length ts) && not (ok_and (entry_of (text_at ts i)) (λ e. true))) Text i i ∙ ap (λ (b : Bool). found_if b (found Text i 0)) here in
    ap (λ (o : Option Found). or_else o (first_of (map (rule_at f ts i) (rules_of_one ++ Repeat ∷ LastTip ∷ [])))) first

-- where none of the first is found, the others decide
first_none_then : {A B : Type 0} (g : A → Option B) (xs more : List A) → AllByRecursion (λ x. g x ≡ None) xs → first_of (map g (xs ++ more)) ≡ first_of (map g more)
first_none_then g [] more all = refl
first_none_then g (x ∷ xs) more all = ap (λ o. or_else o (first_of (map g (xs ++ more)))) all.0 ∙ first_none_then g xs more all.1

or_none : {A : Type 0} (o : Option A) → or_else o None ≡ o
or_none None = refl
or_none (Some x) = refl

pub fault_at_entry : (f : Frame) (ts : List (List ℕ)) (i : ℕ) (e : Entry) → i < length ts → entry_of (text_at ts i) ≡ Ok e
    → fault_at f ts i ≡ or_else (option_map (λ r. found r i 0) (find (entry_breaks f.side (latest (put_at f.side.before) (take i ts)) i e) rules_of_one)) (option_map (found Repeat i) (position (is_call e.client e.nonce) (take i ts)))
unfolding fault_at broken
fault_at_entry f ts i e lt read =
    let some : ok_and (entry_of (text_at ts i)) (λ e. true) ≡ true = ap (λ (r : Result Entry ℕ). ok_and r (λ e. true)) read in
    let here : (ltb i (length ts) && not (ok_and (entry_of (text_at ts i)) (λ e. true))) ≡ false = rw (lt-ltb i (length ts) lt, some) refl in
    let text : rule_at f ts i Text ≡ None =
    only_zero (ltb i (length ts) && not (ok_and (entry_of (text_at ts i)) (λ e. true))) Text i i ∙ ap (λ (b : Bool). found_if b (found Text i 0)) here in
    let behind : eqb i (length ts) ≡ false = ne_eqb i (length ts) (λ e. omega (arith, e, lt)) in
    let different : Bool = not (same_put (latest (put_at f.side.before) ts) (put_at f.after)) in
    let last : rule_at f ts i LastTip ≡ None =
    only_zero (eqb i (length ts) && different) LastTip i i ∙ ap (λ (b : Bool). found_if (b && different) (found LastTip i 0)) behind in
    let repeated : first_of (map (rule_at f ts i) (Repeat ∷ LastTip ∷ [])) ≡ rule_at f ts i Repeat =
    ap (λ (o : Option Found). or_else (rule_at f ts i Repeat) (or_else o None)) last ∙ or_none (rule_at f ts i Repeat) in
    let alone = option_map (λ r. found r i 0) (find (entry_breaks f.side (latest (put_at f.side.before) (take i ts)) i e) rules_of_one) in
    ap (λ (o : Option Found). or_else o (first_of (map (rule_at f ts i) (rules_of_one ++ Repeat ∷ LastTip ∷ [])))) text
    ∙ first_of_find (entry_breaks f.side (latest (put_at f.side.before) (take i ts)) i e) (rule_at f ts i) (λ r. found r i 0) rules_of_one (Repeat ∷ LastTip ∷ []) (alone_at f ts i e read)
    ∙ ap (or_else alone) (repeated ∙ repeat_at f ts i e lt read)

-- at the end no rule is broken but the last
pub fault_at_end : (f : Frame) (ts : List (List ℕ)) (i : ℕ) → i ≡ length ts → fault_at f ts i ≡ found_if (not (same_put (latest (put_at f.side.before) ts) (put_at f.after))) (found LastTip i 0)
unfolding fault_at broken
fault_at_end f ts i e =
    let past : ltb i (length ts) ≡ false = le-ltb i (length ts) (omega (arith, e)) in
    let none : (p : Entry → Bool) (rule : Rule) → from_on (λ other. found_if (entry_at_fault ts i p && eqb other 0) (found rule i other)) i 0 ≡ None = λ p rule.
    only_zero (entry_at_fault ts i p) rule i i ∙ ap (λ (b : Bool). found_if (b && ok_and (entry_of (text_at ts i)) p) (found rule i 0)) past in
    let text : rule_at f ts i Text ≡ None =
    only_zero (ltb i (length ts) && not (ok_and (entry_of (text_at ts i)) (λ e. true))) Text i i ∙ ap (λ (b : Bool). found_if (b && not (ok_and (entry_of (text_at ts i)) (λ e. true))) (found Text i 0)) past in
    let repeated : rule_at f ts i Repeat ≡ None = from_on-same (λ other. found_if (broken f ts Repeat i other) (found Repeat i other)) (λ other. None)
    (λ other. ap (λ (b : Bool). found_if (b && ok_and (entry_of (text_at ts i)) (λ e. ltb other i && is_call e.client e.nonce (text_at ts other))) (found Repeat i other)) past) i 0 ∙ none_on (λ other. None) (λ j. refl) i 0 in
    let different : Bool = not (same_put (latest (put_at f.side.before) ts) (put_at f.after)) in
    let last : rule_at f ts i LastTip ≡ found_if different (found LastTip i 0) =
    only_zero (eqb i (length ts) && different) LastTip i i ∙ ap (λ (b : Bool). found_if (b && different) (found LastTip i 0)) (eq-eqb i (length ts) e) in
    first_none_then (rule_at f ts i) (Text ∷ rules_of_one ++ Repeat ∷ []) (LastTip ∷ []) (
      text,
      (
        none (λ e. not (eqb e.block f.side.block)) Block,
        (
          none (λ e. not (eqb e.epoch f.side.epoch)) Epoch,
          (
            none (λ e. not (eqb e.position (f.side.before.count + i))) Position,
            (
              none (λ e. eqb e.kind 2 && not (same_put (put_by e) (latest (put_at f.side.before) (take i ts)))) Latest,
              (
                none (λ e. eqb e.kind 1 && not (eqb e.version ((latest (put_at f.side.before) (take i ts)).version + 1))) Version,
                (
                  none (λ e. eqb e.kind 1 && not (writer f.side.families f.side.store e)) Writer,
                  (repeated, tt),
                ),
              ),
            ),
          ),
        ),
      ),
    ) ∙ or_none (rule_at f ts i LastTip) ∙ last

-- ---- the places one after another

pub goes_on : {A : Type 0} (try : ℕ → Option A) (n m i : ℕ) → n ≡ m + 1 → try i ≡ None → from_on try n i ≡ from_on try m (i + 1)
goes_on try n m i e none =
    let k : n ≡ suc m = omega (arith, e) in
    ap (λ (n : ℕ). from_on try n i) k ∙ ap (λ o. or_else o (from_on try m (i + 1))) none

pub stops_at : {A : Type 0} (try : ℕ → Option A) (n i : ℕ) (x : A) → try i ≡ Some x → from_on try n i ≡ Some x
stops_at try zero i x e = e
stops_at try (suc n) i x e = ap (λ o. or_else o (from_on try n (i + 1))) e

pub ends_at : {A : Type 0} (try : ℕ → Option A) (n i : ℕ) → n ≡ 0 → from_on try n i ≡ try i
ends_at try n i e = ap (λ (n : ℕ). from_on try n i) e

pub first_fault-on : (f : Frame) (ts : List (List ℕ)) → first_fault f ts ≡ from_on (fault_at f ts) (length ts) 0
unfolding first_fault fault_at
first_fault-on f ts = refl

-- ---- what the code's search for a rule says

pub find_view : {A B : Type 0} (view : A → B) (p : B → Bool) (xs : List A) → option_map view (find (λ x. p (view x)) xs) ≡ find p (map view xs)
find_view view p [] = refl
find_view view p (x ∷ xs) = go (p (view x)) (find_view view p xs)
  where
    go : (t : Bool) → option_map view (find (λ x. p (view x)) xs) ≡ find p (map view xs) → option_map view (cond t (Some x) (find (λ x. p (view x)) xs)) ≡ cond t (Some (view x)) (find p (map view xs))
    go true others = refl
    go false others = others

-- ---- the step of the pass

-- what was found first, in the order of the rules
at_entry : (f : Frame) (ts : List (List ℕ)) (i : ℕ) (e : Entry) (text : List ℕ) (put : Put) (first : Option Rule) (again : Option ℕ) → i < length ts → text ≡ text_at ts i → entry_of text ≡ Ok e → put ≡ latest (put_at f.side.before) (take i ts)
    → first ≡ find (entry_breaks f.side put i e) rules_of_one → again ≡ position (is_call e.client e.nonce) (take i ts)
    → fault_at f ts i ≡ or_else (option_map (λ r. found r i 0) first) (option_map (found Repeat i) again)
at_entry f ts i e text put first again lt here read carried alone repeated =
    let is : entry_of (text_at ts i) ≡ Ok e = ap entry_of (sym here) ∙ read in
    fault_at_entry f ts i e lt is
    ∙ ap (λ (p : Put). or_else (option_map (λ r. found r i 0) (find (entry_breaks f.side p i e) rules_of_one)) (option_map (found Repeat i) (position (is_call e.client e.nonce) (take i ts)))) (sym carried)
    ∙ ap (λ (o : Option Rule). or_else (option_map (λ r. found r i 0) o) (option_map (found Repeat i) (position (is_call e.client e.nonce) (take i ts)))) (sym alone)
    ∙ ap (λ (o : Option ℕ). or_else (option_map (λ r. found r i 0) first) (option_map (found Repeat i) o)) (sym repeated)

at_no_entry : (f : Frame) (ts : List (List ℕ)) (i left : ℕ) (text : List ℕ) → i < length ts → text ≡ text_at ts i → entry_of text ≡ Err left → fault_at f ts i ≡ Some (found Text i 0)
at_no_entry f ts i left text lt here read = fault_at_no_entry f ts i left lt (ap entry_of (sym here) ∙ read)

pub put_behind : (p put : Put) (ts : List (List ℕ)) (i : ℕ) (e : Entry) (text : List ℕ) → i < length ts → text ≡ text_at ts i → entry_of text ≡ Ok e → put ≡ latest p (take i ts) → unwrap_or (put_read (Ok e)) put ≡ latest p (take (i + 1) ts)
put_behind p put ts i e text lt here read carried =
    let is : put_in (text_at ts i) ≡ put_read (Ok e) = ap put_read (ap entry_of (sym here) ∙ read) in
    ap (unwrap_or (put_read (Ok e))) carried ∙ ap (λ (o : Option Put). unwrap_or o (latest p (take i ts))) (sym is) ∙ sym (latest-one (latest p (take i ts)) (text_at ts i))
    ∙ sym (latest-append p (take i ts) (text_at ts i ∷ [])) ∙ ap (latest p) (sym (take_more ts i [] lt))

-- what an entry breaks by itself
pub alone_at_entry : (s : Side) (put : Put) (i : ℕ) (text : List ℕ) (e : Entry) (first : Option Rule) → entry_of text ≡ Ok e → first ≡ find (entry_breaks s put i e) rules_of_one → fault_alone s put i text ≡ option_map (λ r. found r i 0) first
alone_at_entry s put i text e first read is = ap (fault_read s put i) read ∙ ap (option_map (λ r. found r i 0)) (sym is)

-- what the text breaks by itself comes before a repeated call
pub at_fault_alone : (f : Frame) (ts : List (List ℕ)) (i : ℕ) (text : List ℕ) (put : Put) (x : Found) → i < length ts → text ≡ text_at ts i → put ≡ latest (put_at f.side.before) (take i ts) → fault_alone f.side put i text ≡ Some x → fault_at f ts i ≡ Some x
at_fault_alone f ts i text put x lt here carried alone = go (entry_of text) refl
  where
    go : (r : Result Entry ℕ) → entry_of text ≡ r → fault_at f ts i ≡ Some x
    go (Err left) read = at_no_entry f ts i left text lt here read ∙ ap (fault_read f.side put i) (sym read) ∙ alone
    go (Ok e) read =
        let again = position (is_call e.client e.nonce) (take i ts) in
        at_entry f ts i e text put (find (entry_breaks f.side put i e) rules_of_one) again lt here read carried refl refl
        ∙ ap (λ (o : Option Found). or_else o (option_map (found Repeat i) again)) (ap (fault_read f.side put i) (sym read) ∙ alone)

-- where it breaks none by itself, a repeated call decides
pub at_sound : (f : Frame) (ts : List (List ℕ)) (i : ℕ) (e : Entry) (text : List ℕ) (put : Put) (again : Option ℕ) → i < length ts → text ≡ text_at ts i → entry_of text ≡ Ok e → put ≡ latest (put_at f.side.before) (take i ts)
    → fault_alone f.side put i text ≡ None → again ≡ position (is_call e.client e.nonce) (take i ts) → fault_at f ts i ≡ option_map (found Repeat i) again
at_sound f ts i e text put again lt here read carried alone repeated =
    at_entry f ts i e text put (find (entry_breaks f.side put i e) rules_of_one) again lt here read carried refl repeated
    ∙ ap (λ (o : Option Found). or_else o (option_map (found Repeat i) again)) (ap (fault_read f.side put i) (sym read) ∙ alone)

-- what is found at the end
pub at_last : (f : Frame) (ts : List (List ℕ)) (end : ℕ) (put : Put) → end ≡ length ts → put ≡ latest (put_at f.side.before) ts → fault_behind f put end ≡ fault_at f ts (length ts)
at_last f ts end put last carried = ap (λ (p : Put). fault_behind f p end) carried ∙ ap (fault_behind f (latest (put_at f.side.before) ts)) last ∙ sym (fault_at_end f ts (length ts) refl)

-- ---- the clauses of the first fault

pub none_by_view : {A B : Type 0} (view : A → B) (r : Option A) (P : Type 0) → (option_map view r ≡ None → P) → (P → option_map view r ≡ None) → (IsNone r → P) × (P → IsNone r)
none_by_view view None P there back = (λ n. there refl, λ p. refl)
none_by_view view (Some x) P there back = (λ n. absurd (cc), λ p. absurd (let clash : option_map view (Some x) ≡ None = back p in cc))

pub some_by_view : {A B : Type 0} (view : A → B) (r : Option A) (P : B → Type 0) → ((x : B) → option_map view r ≡ Some x → P x) → IfSome r (λ x. P (view x))
some_by_view view None P h = tt
some_by_view view (Some x) P h = h (view x) refl

-- ---- the clauses of the first fault

pub record Told (f : Frame) (ts : List (List ℕ)) (o : Option Found) : Type 0 where
  pub none : (o ≡ None → Legal f ts) × (Legal f ts → o ≡ None)
  pub least : (x : Found) → o ≡ Some x → IsFirstFault f ts x

pub told : (f : Frame) (ts : List (List ℕ)) (o : Option Found) → o ≡ first_fault f ts → Told f ts o
told f ts o e = record {
  none = (λ n. no_fault_legal f ts (sym e ∙ n), λ legal. e ∙ legal_no_fault f ts legal);
  least = λ x is. first_fault_least f ts x (sym e ∙ is);
}
