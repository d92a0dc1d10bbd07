-- Two tables walked side by side: what may be passed over, and what is found first.
use Rattle.std.proofs.Common.{◌≡◌, ℕ, ◌<◌, ◌≤◌, ◌⊎◌, inl, inr, Bool, true, false, cond, eqb, ltb, List, [], ◌∷◌, Option, Some, None, refl, sym, ap, subst, ◌∙◌, arith}
use Rattle.std.specs.Prelude.{map}
use Rattle.std.proofs.lemmas.Bool.{and_from, and_parts, cases_lt, lt-ltb}
use Rattle.std.proofs.lemmas.Bool.Decides.{nat_tests}
use Rattle.cp_tips.specs.Tip.{Tip}
use Rattle.cp_tips.specs.Table.{TableRow, all_above, ascends, row_in, regressed_tip, regressed_from, regressed, IsFirstRegress, NoneRegressed}
use Rattle.cp_tips.specs.Rows.{row_of, tip_of}
use Rattle.cp_tips.proofs.Searching.{none_below}

-- no other block went back than among what is left of both tables
abbrev pub Left : List TableRow → List TableRow → List TableRow → List TableRow → Type 0
Left before after old new = (b : ℕ) → regressed before after b ≡ regressed old new b

-- what was passed over decides nothing, and what is left ascends
pub record Standing (before after old new : List TableRow) : Type 0 where
  pub left : Left before after old new
  pub old_ascends : ascends old ≡ true
  pub new_ascends : ascends new ≡ true

pub tail_ascends : (r : TableRow) (rs : List TableRow) → ascends (r ∷ rs) ≡ true → ascends rs ≡ true
unfolding ascends
tail_ascends r rs up = (and_parts _ _ up).1

head_below : (r : TableRow) (rs : List TableRow) → ascends (r ∷ rs) ≡ true → all_above r.block rs ≡ true
unfolding ascends
head_below r rs up = (and_parts _ _ up).0

above_less : (a b : ℕ) (rows : List TableRow) → a < b → all_above b rows ≡ true → all_above a rows ≡ true
above_less a b [] lt all = refl
above_less a b (r ∷ rs) lt all = and_from _ _ (further a b r.block lt (and_parts _ _ all).0) (above_less a b rs lt (and_parts _ _ all).1)
  where
    further : (a b c : ℕ) → a < b → ltb b c ≡ true → ltb a c ≡ true
    further a b c p q = grind (arith, nat_tests)

-- all rows of a table that ascends are above what its first is above
above_all : (block : ℕ) (r : TableRow) (rs : List TableRow) → block < r.block → ascends (r ∷ rs) ≡ true → all_above block (r ∷ rs) ≡ true
above_all block r rs lt up = and_from _ _ (lt-ltb block r.block lt) (above_less block r.block rs lt (head_below r rs up))

row_in-other : (r : TableRow) (rs : List TableRow) (b : ℕ) → eqb r.block b ≡ false → row_in (r ∷ rs) b ≡ row_in rs b
row_in-other r rs b apart = ap (λ (t : Bool). cond t (Some r.tip) (row_in rs b)) apart

row_in-same : (r : TableRow) (rs : List TableRow) (b : ℕ) → eqb r.block b ≡ true → row_in (r ∷ rs) b ≡ Some r.tip
row_in-same r rs b same = ap (λ (t : Bool). cond t (Some r.tip) (row_in rs b)) same

-- the two cases of a block and a row
at_block : (a b : ℕ) → ((eqb a b ≡ true) × (a ≡ b)) ⊎ ((eqb a b ≡ false) × ((a < b) ⊎ (b < a)))
at_block a b = go (cases_lt a b) (cases_lt b a)
  where
    apart : (a b : ℕ) → (a ≡ b → ⊥) → eqb a b ≡ false
    apart a b h = grind (arith, nat_tests)

    same : (a b : ℕ) → a ≡ b → eqb a b ≡ true
    same a b h = grind (arith, nat_tests)

    go : ((a < b) ⊎ (b ≤ a)) → ((b < a) ⊎ (a ≤ b)) → ((eqb a b ≡ true) × (a ≡ b)) ⊎ ((eqb a b ≡ false) × ((a < b) ⊎ (b < a)))
    go (inl lt) q = inr (apart a b (λ e. omega (arith, e, lt)), inl lt)
    go (inr le) (inl lt) = inr (apart a b (λ e. omega (arith, e, lt)), inr lt)
    go (inr le) (inr ge) = inl (same a b (omega (arith, le, ge)), omega (arith, le, ge))

-- a row of the table after, below all rows of the table before, may be passed over
pub pass_after : (r s : TableRow) (rs ss : List TableRow) → s.block < r.block → ascends (r ∷ rs) ≡ true → Left (r ∷ rs) (s ∷ ss) (r ∷ rs) ss
unfolding regressed
pass_after r s rs ss lt up b = go (at_block s.block b)
  where
    go : ((eqb s.block b ≡ true) × (s.block ≡ b)) ⊎ ((eqb s.block b ≡ false) × ((s.block < b) ⊎ (b < s.block))) → regressed_from (row_in (r ∷ rs) b) (row_in (s ∷ ss) b) ≡ regressed_from (row_in (r ∷ rs) b) (row_in ss b)
    go (inr other) = ap (λ (o : Option Tip). regressed_from (row_in (r ∷ rs) b) o) (row_in-other s ss b other.0)
    go (inl same) =
        let none : row_in (r ∷ rs) b ≡ None = none_below (r ∷ rs) b r (above_all b r rs (subst (λ (n : ℕ). n < r.block) same.1 lt) up) in
        ap (λ (o : Option Tip). regressed_from o (row_in (s ∷ ss) b)) none ∙ sym (ap (λ (o : Option Tip). regressed_from o (row_in ss b)) none)

-- a row that did not go back may be passed over
pub pass_before : (r s : TableRow) (rs ss : List TableRow) → s.block ≡ r.block → regressed_tip r.tip (Some s.tip) ≡ false → ascends (r ∷ rs) ≡ true → Left (r ∷ rs) (s ∷ ss) rs (s ∷ ss)
unfolding regressed
pass_before r s rs ss e fine up b = go (at_block r.block b)
  where
    go : ((eqb r.block b ≡ true) × (r.block ≡ b)) ⊎ ((eqb r.block b ≡ false) × ((r.block < b) ⊎ (b < r.block))) → regressed_from (row_in (r ∷ rs) b) (row_in (s ∷ ss) b) ≡ regressed_from (row_in rs b) (row_in (s ∷ ss) b)
    go (inr other) = ap (λ (o : Option Tip). regressed_from o (row_in (s ∷ ss) b)) (row_in-other r rs b other.0)
    go (inl same) =
        let here : row_in (s ∷ ss) b ≡ Some s.tip = row_in-same s ss b (ap (λ (n : ℕ). eqb n b) e ∙ same.0) in
        let left : row_in rs b ≡ None = none_below rs b r (subst (λ (n : ℕ). all_above n rs ≡ true) same.1 (head_below r rs up)) in
        rw (row_in-same r rs b same.0, here, left) fine

-- the first row left of the table before decides, where it went back
pub first_is_least : (before after : List TableRow) (r : TableRow) (rs new : List TableRow) → Left before after (r ∷ rs) new → ascends (r ∷ rs) ≡ true → regressed_tip r.tip (row_in new r.block) ≡ true → IsFirstRegress before after r.block
unfolding regressed
first_is_least before after r rs new left up back = record {
  went_back = left r.block ∙ ap (λ (o : Option Tip). regressed_from o (row_in new r.block)) (row_in-same r rs r.block (same r.block)) ∙ back;
  least = λ b lt. left b ∙ ap (λ (o : Option Tip). regressed_from o (row_in new b)) (none_below (r ∷ rs) b r (above_all b r rs lt up));
}
  where
    same : (a : ℕ) → eqb a a ≡ true
    same a = grind (arith, nat_tests)

-- a block that no row of the table after has
pub vanished : (r : TableRow) (s : TableRow) (ss : List TableRow) → r.block < s.block → ascends (s ∷ ss) ≡ true → regressed_tip r.tip (row_in (s ∷ ss) r.block) ≡ true
vanished r s ss lt up = ap (regressed_tip r.tip) (none_below (s ∷ ss) r.block r (above_all r.block s ss lt up))

pub found_back : (r s : TableRow) (ss : List TableRow) → s.block ≡ r.block → regressed_tip r.tip (Some s.tip) ≡ true → regressed_tip r.tip (row_in (s ∷ ss) r.block) ≡ true
found_back r s ss e back = ap (regressed_tip r.tip) (row_in-same s ss r.block (same s.block r.block e)) ∙ back
  where
    same : (a b : ℕ) → a ≡ b → eqb a b ≡ true
    same a b h = grind (arith, nat_tests)

-- nothing is left
pub none_left : (before after new : List TableRow) → Left before after [] new → NoneRegressed before after
unfolding regressed
none_left before after new left b = left b

-- ---- the steps of a loop over the rows where they lie

module _ (before after : List TableRow) (old rs : List (List ℕ)) (r : List ℕ) (old_is : old ≡ r ∷ rs) where
  old_rows : map row_of old ≡ row_of r ∷ map row_of rs
  old_rows = ap (map row_of) old_is

  module _ (new ss : List (List ℕ)) (s : List ℕ) (new_is : new ≡ s ∷ ss) (standing : Standing before after (map row_of old) (map row_of new)) where
    new_rows : map row_of new ≡ row_of s ∷ map row_of ss
    new_rows = ap (map row_of) new_is

    both : Standing before after (row_of r ∷ map row_of rs) (row_of s ∷ map row_of ss)
    both = let here = subst (λ (l : List TableRow). Standing before after l (map row_of new)) old_rows standing in subst (λ (l : List TableRow). Standing before after (row_of r ∷ map row_of rs) l) new_rows here

    pub skips_after : (row_of s).block < (row_of r).block → Standing before after (map row_of old) (map row_of ss)
    skips_after lt =
        let passed : Standing before after (row_of r ∷ map row_of rs) (map row_of ss) = record {
          left = λ b. both.left b ∙ pass_after (row_of r) (row_of s) (map row_of rs) (map row_of ss) lt both.old_ascends b;
          old_ascends = both.old_ascends;
          new_ascends = tail_ascends (row_of s) (map row_of ss) both.new_ascends;
        } in
        subst (λ (l : List TableRow). Standing before after l (map row_of ss)) (sym old_rows) passed

    pub skips_before : (row_of s).block ≡ (row_of r).block → regressed_tip (tip_of r) (Some (tip_of s)) ≡ false → Standing before after (map row_of rs) (map row_of new)
    skips_before e fine =
        let passed : Standing before after (map row_of rs) (row_of s ∷ map row_of ss) = record {
          left = λ b. both.left b ∙ pass_before (row_of r) (row_of s) (map row_of rs) (map row_of ss) e fine both.old_ascends b;
          old_ascends = tail_ascends (row_of r) (map row_of rs) both.old_ascends;
          new_ascends = both.new_ascends;
        } in
        subst (λ (l : List TableRow). Standing before after (map row_of rs) l) (sym new_rows) passed

    pub finds_back : (row_of s).block ≡ (row_of r).block → regressed_tip (tip_of r) (Some (tip_of s)) ≡ true → IsFirstRegress before after (row_of r).block
    finds_back e back = first_is_least before after (row_of r) (map row_of rs) (row_of s ∷ map row_of ss) both.left both.old_ascends (found_back (row_of r) (row_of s) (map row_of ss) e back)

    pub finds_vanished : (row_of r).block < (row_of s).block → IsFirstRegress before after (row_of r).block
    finds_vanished lt = first_is_least before after (row_of r) (map row_of rs) (row_of s ∷ map row_of ss) both.left both.old_ascends (vanished (row_of r) (row_of s) (map row_of ss) lt both.new_ascends)

  -- no row is left of the table after
  pub finds_last : (new : List (List ℕ)) → new ≡ [] → Standing before after (map row_of old) (map row_of new) → IsFirstRegress before after (row_of r).block
  finds_last new none standing =
      let here = subst (λ (l : List TableRow). Standing before after l (map row_of new)) old_rows standing in
      let at_end = subst (λ (l : List (List ℕ)). Standing before after (row_of r ∷ map row_of rs) (map row_of l)) none here in
      first_is_least before after (row_of r) (map row_of rs) [] at_end.left at_end.old_ascends refl

pub finds_none : (before after : List TableRow) (old new : List (List ℕ)) → old ≡ [] → Standing before after (map row_of old) (map row_of new) → NoneRegressed before after
finds_none before after old new none standing = none_left before after (map row_of new) (subst (λ (l : List (List ℕ)). Left before after (map row_of l) (map row_of new)) none standing.left)

pub lt_along : (a b c d : ℕ) → a ≡ c → b ≡ d → a < b → c < d
lt_along a b c d p q h = omega (arith, p, q, h)

pub eq_along : (a b c d : ℕ) → a ≡ c → b ≡ d → a ≡ b → c ≡ d
eq_along a b c d p q h = sym p ∙ h ∙ q
