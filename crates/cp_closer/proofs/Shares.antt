-- Rows of different blocks are different rows.
use Rattle.std.proofs.Common.{◌≡◌, ℕ, suc, ◌+◌, ◌≤◌, Bool, true, false, cond, eqb, List, [], ◌∷◌, length, Result, Ok, Err, refl, sym, subst, arith}
use Rattle.std.specs.Prelude.{filter}
use Rattle.std.proofs.lemmas.Bool.{ne_eqb, eqb-true}
use Rattle.cp_statements.specs.Entry.{Entry, entry_of}
use Rattle.cp_chain.specs.Legal.{ok_and}
use Rattle.cp_core.specs.Life.{RowItem, is_of_block}
use Rattle.cp_core.proofs.TableLemmas.{Above, Rising}

abbrev pub total : {A : Type 0} → (A → ℕ) → List A → ℕ
total f [] = 0
total f (x ∷ xs) = f x + total f xs

total_le : {A : Type 0} (f g : A → ℕ) (xs : List A) → ((x : A) → f x ≤ g x) → total f xs ≤ total g xs
total_le f g [] h = omega arith
total_le f g (x ∷ xs) h = omega (arith, h x, total_le f g xs h)

total_add : {A : Type 0} (f g : A → ℕ) (xs : List A) → total (λ x. f x + g x) xs ≡ total f xs + total g xs
total_add f g [] = refl
total_add f g (x ∷ xs) = omega (arith, total_add f g xs)

total_none : {A : Type 0} (xs : List A) → total (λ (x : A). 0) xs ≡ 0
total_none [] = refl
total_none (x ∷ xs) = omega (arith, total_none xs)

abbrev hit : ℕ → ℕ → ℕ
hit c b = cond (eqb c b) 1 0

no_hit : (c : ℕ) (bs : List ℕ) → Above c bs → total (hit c) bs ≡ 0
no_hit c [] h = refl
no_hit c (b ∷ bs) h = rw (ne_eqb c b (omega (arith, h.0))) (omega (arith, no_hit c bs h.1))

one_hit : (c : ℕ) (bs : List ℕ) → Rising bs → total (hit c) bs ≤ 1
one_hit c [] h = omega arith
one_hit c (b ∷ bs) h = go (eqb c b) refl (one_hit c bs h.1)
  where
    go : (t : Bool) → eqb c b ≡ t → total (hit c) bs ≤ 1 → cond t 1 0 + total (hit c) bs ≤ 1
    go true e rest = let same : c ≡ b = eqb-true _ _ e in omega (arith, no_hit c bs (subst (λ (x : ℕ). Above x bs) (sym same) h.0))
    go false e rest = omega (arith, rest)

-- rows of different blocks are different rows
pub blocks_share : (bs : List ℕ) (rs : List RowItem) → Rising bs → total (λ b. length (filter (is_of_block b) rs)) bs ≤ length rs
blocks_share bs [] up = omega (arith, total_none bs)
blocks_share bs (r ∷ rs) up = go (entry_of r.entry) (blocks_share bs rs up)
  where
    one : (e : Entry) (b : ℕ) → length (cond (eqb e.block b) (r ∷ filter (is_of_block b) rs) (filter (is_of_block b) rs)) ≤ hit e.block b + length (filter (is_of_block b) rs)
    one e b = pick (eqb e.block b)
      where
        pick : (t : Bool) → length (cond t (r ∷ filter (is_of_block b) rs) (filter (is_of_block b) rs)) ≤ cond t 1 0 + length (filter (is_of_block b) rs)
        pick true = omega arith
        pick false = omega arith

    go : (x : Result Entry ℕ) → total (λ b. length (filter (is_of_block b) rs)) bs ≤ length rs → total (λ b. length (cond (ok_and x (λ e. eqb e.block b)) (r ∷ filter (is_of_block b) rs) (filter (is_of_block b) rs))) bs ≤ suc (length rs)
    go (Ok e) rest = omega (arith, rest, one_hit e.block bs up, total_add (hit e.block) (λ b. length (filter (is_of_block b) rs)) bs, total_le (λ b. length (cond (eqb e.block b) (r ∷ filter (is_of_block b) rs) (filter (is_of_block b) rs))) (λ b. hit e.block b + length (filter (is_of_block b) rs)) bs (one e))
    go (Err d) rest = omega (arith, rest)
