-- The least block that went back, and tables that are well formed.
use Rattle.std.proofs.Common.{◌≡◌, ℕ, ◌<◌, ◌≤◌, Bool, true, false, cond, eqb, ltb, List, [], ◌∷◌, Option, Some, None, ◌⊎◌, inl, inr, refl, sym, ap, ◌∙◌, arith}
use Rattle.std.specs.Prelude.{filter, MatchOption}
use Rattle.std.specs.List.{AllByRecursion}
use Rattle.std.proofs.lemmas.Bool.{cases_lt, eqb-true, ltb-true, ltb-false, false≢true}
use Rattle.cp_tips.specs.Tip.{Tip}
use Rattle.cp_tips.specs.Table.{TableRow, row_in, regressed_from, regressed, NoneRegressed, IsFirstRegress}
use Rattle.cp_evidence.specs.Material.{least_from, least_of, blocks_in, least_regressed}
use Rattle.cp_evidence.proofs.GivenFacts.{regressed_none}

-- ---- the least of a list

-- the number is in the list
abbrev pub Has : ℕ → List ℕ → Type 0
Has n [] = ⊥
Has n (b ∷ bs) = (b ≡ n) ⊎ Has n bs

least_from_is : (b least : ℕ) (bs : List ℕ) → least ≤ b → AllByRecursion (λ c. least ≤ c) bs → ((b ≡ least) ⊎ Has least bs) → least_from b bs ≡ least
least_from_is b least [] le all (inl e) = e
least_from_is b least [] le all (inr h) = absurd h
least_from_is b least (c ∷ cs) le all at = go (ltb c b) refl at (λ n low is. least_from_is n least cs low all.1 is)
  where
    go : (t : Bool) → ltb c b ≡ t → ((b ≡ least) ⊎ Has least (c ∷ cs)) → ((n : ℕ) → least ≤ n → ((n ≡ least) ⊎ Has least cs) → least_from n cs ≡ least) → least_from (cond t c b) cs ≡ least
    go true lt (inl e) rest = absurd (let less : c < b = ltb-true _ _ lt in let low : least ≤ c = all.0 in omega (arith, less, low, e))
    go true lt (inr (inl e)) rest = rest c all.0 (inl e)
    go true lt (inr (inr h)) rest = rest c all.0 (inr h)
    go false ge (inl e) rest = rest b le (inl e)
    go false ge (inr (inl e)) rest = rest b le (inl (let high : b ≤ c = ltb-false _ _ ge in omega (arith, high, le, e)))
    go false ge (inr (inr h)) rest = rest b le (inr h)

pub least_of_is : (least : ℕ) (bs : List ℕ) → AllByRecursion (λ c. least ≤ c) bs → Has least bs → least_of bs ≡ Some least
least_of_is least [] all h = absurd h
least_of_is least (b ∷ bs) all h = ap (λ (n : ℕ). Some n) (least_from_is b least bs all.0 all.1 h)

-- ---- those that pass a test

pub passing_has : (p : ℕ → Bool) (n : ℕ) (bs : List ℕ) → p n ≡ true → Has n bs → Has n (filter p bs)
passing_has p n [] t h = h
passing_has p n (b ∷ bs) t h = go (p b) refl h (passing_has p n bs t)
  where
    go : (x : Bool) → p b ≡ x → ((b ≡ n) ⊎ Has n bs) → (Has n bs → Has n (filter p bs)) → Has n (cond x (b ∷ filter p bs) (filter p bs))
    go true e (inl is) rest = inl is
    go true e (inr h) rest = inr (rest h)
    go false e (inl is) rest = absurd (false≢true (sym e ∙ ap p is ∙ t))
    go false e (inr h) rest = rest h

pub passing_above : (p : ℕ → Bool) (least : ℕ) → ((c : ℕ) → c < least → p c ≡ false) → (bs : List ℕ) → AllByRecursion (λ c. least ≤ c) (filter p bs)
passing_above p least low [] = tt
passing_above p least low (b ∷ bs) = go (p b) refl (passing_above p least low bs)
  where
    go : (x : Bool) → p b ≡ x → AllByRecursion (λ c. least ≤ c) (filter p bs) → AllByRecursion (λ c. least ≤ c) (cond x (b ∷ filter p bs) (filter p bs))
    go true e rest = (elim (cases_lt b least) [ inl lt ↦ absurd (false≢true (sym (low b lt) ∙ e)) | inr ge ↦ ge ], rest)
    go false e rest = rest

-- ---- blocks of a table

pub row_has : (rows : List TableRow) (b : ℕ) (t : Tip) → row_in rows b ≡ Some t → Has b (blocks_in rows)
row_has [] b t e = absurd cc
row_has (r ∷ rows) b t e = go (eqb r.block b) refl e (row_has rows b t)
  where
    go : (x : Bool) → eqb r.block b ≡ x → cond x (Some r.tip) (row_in rows b) ≡ Some t → (row_in rows b ≡ Some t → Has b (blocks_in rows)) → (r.block ≡ b) ⊎ Has b (blocks_in rows)
    go true is h rest = inl (eqb-true _ _ is)
    go false is h rest = inr (rest h)

back_has : (before after : List TableRow) (b : ℕ) → regressed before after b ≡ true → Has b (blocks_in before)
unfolding regressed
back_has before after b e = go (row_in before b) refl e
  where
    go : (o : Option Tip) → row_in before b ≡ o → regressed_from o (row_in after b) ≡ true → Has b (blocks_in before)
    go None is h = absurd (false≢true h)
    go (Some t) is h = row_has before b t is

-- what the one pass over both tables finds is the least
pub first_is_least : (before after : List TableRow) (found : Option ℕ) → MatchOption found (NoneRegressed before after) (λ b. IsFirstRegress before after b) → found ≡ least_regressed before after
unfolding least_regressed
first_is_least before after None none = sym (regressed_none before after none)
first_is_least before after (Some b) first = sym (least_of_is b (filter (regressed before after) (blocks_in before)) (passing_above (regressed before after) b first.least (blocks_in before)) (passing_has (regressed before after) b (blocks_in before) first.went_back (back_has before after b first.went_back)))
