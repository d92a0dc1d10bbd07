-- Steps on the words of the places, between which other words stand.
use Rattle.std.proofs.Common.{◌≡◌, ℕ, zero, suc, ◌+◌, ◌<◌, List, [], ◌∷◌, ◌++◌, length, set, replicate, sym, refl, ap, ◌∙◌, subst, arith, length-set, get_or-set_same, get_or-set_other}
use Rattle.std.specs.Prelude.{slice_index}
use Rattle.std.proofs.Math.Seq.{get_or-append_seam}
use Rattle.std.proofs.Math.ListN.{get_or-append}
use Rattle.std.proofs.lemmas.List.{length-append}
use mathlib.Core.Logic.{dite}
use native.Mathlib.Decide.{ℕ_discrete}
use Rattle.atomic_table.specs.Table.{State, Me, Step, step, keeps, Allows, Enters, Splits, Joins, homes_after}
use Rattle.atomic_table.proofs.Lists.{set_again}
use Rattle.cp_gate.specs.Words.{word_of, words_from, of_places, Spaced, AtPlace}

pub length-words_from : (words : List ℕ) (k n : ℕ) → length (words_from words k n) ≡ n
length-words_from words k zero = refl
length-words_from words k (suc n) = ap suc (length-words_from words (suc k) n)

-- the word of a place is where it was
pub word_at : (words : List ℕ) (k n p : ℕ) → p < n → slice_index (words_from words k n) p ≡ slice_index words (word_of (k + p))
word_at words k zero p low = absurd (omega arith)
word_at words k (suc n) zero low = ap (λ (i : ℕ). slice_index words (word_of i)) (let z : k ≡ k + 0 = omega arith in z)
word_at words k (suc n) (suc p) low = word_at words (suc k) n p (omega arith) ∙ ap (λ (i : ℕ). slice_index words (word_of i)) (let z : suc k + p ≡ k + suc p = omega arith in z)

-- a word before them changes none of them
words_before : (words : List ℕ) (k n p x : ℕ) → p < k → words_from (set words (word_of p) x) k n ≡ words_from words k n
words_before words k zero p x low = refl
words_before words k (suc n) p x low = (λ i. get_or-set_other words (word_of p) (word_of k) x 0 (λ (e : word_of k ≡ word_of p). absurd (omega arith)) i ∷ words_before words (suc k) n p x (omega arith) i)

-- nor does a word that is no place's
pub words_beside : (words : List ℕ) (k n p x : ℕ) → words_from (set words (word_of p + 1) x) k n ≡ words_from words k n
words_beside words k zero p x = refl
words_beside words k (suc n) p x = (λ i. get_or-set_other words (word_of p + 1) (word_of k) x 0 (λ (e : word_of k ≡ word_of p + 1). absurd (omega arith)) i ∷ words_beside words (suc k) n p x i)

-- a change of the word of one place changes that one alone
words_set : (words : List ℕ) (k n p x : ℕ) → p < n → word_of (k + p) < length words → words_from (set words (word_of (k + p)) x) k n ≡ set (words_from words k n) p x
words_set words k zero p x low there = absurd (omega arith)
words_set words k (suc n) zero x low there = let z : k ≡ k + 0 = omega arith in
    let t : words_from (set words (word_of k) x) k (suc n) ≡ x ∷ words_from words (suc k) n = (λ i. get_or-set_same words (word_of k) x 0 (omega arith) i ∷ words_before words (suc k) n k x (omega arith) i) in
    subst (λ (j : ℕ). words_from (set words (word_of j) x) k (suc n) ≡ x ∷ words_from words (suc k) n) z t
words_set words k (suc n) (suc p) x low there = let z : suc k + p ≡ k + suc p = omega arith in
    let t : words_from (set words (word_of (suc k + p)) x) k (suc n) ≡ slice_index words (word_of k) ∷ set (words_from words (suc k) n) p x
    = (λ i. get_or-set_other words (word_of (suc k + p)) (word_of k) x 0 (λ (e : word_of k ≡ word_of (suc k + p)). absurd (omega arith)) i ∷ words_set words (suc k) n p x (omega arith) (omega arith) i) in
    subst (λ (j : ℕ). words_from (set words (word_of j) x) k (suc n) ≡ slice_index words (word_of k) ∷ set (words_from words (suc k) n) p x) z t

-- the same from the first place on
pub first_at : (words : List ℕ) (n p : ℕ) → p < n → slice_index (words_from words 0 n) p ≡ slice_index words (word_of p)
first_at words n p low = word_at words 0 n p low ∙ ap (λ (i : ℕ). slice_index words (word_of i)) (let z : 0 + p ≡ p = omega arith in z)

first_set : (words : List ℕ) (n p x : ℕ) → p < n → word_of p < length words → words_from (set words (word_of p) x) 0 n ≡ set (words_from words 0 n) p x
first_set words n p x low there = let z : 0 + p ≡ p = omega arith in subst (λ (j : ℕ). words_from (set words (word_of j) x) 0 n ≡ set (words_from words 0 n) p x) z (words_set words 0 n p x low (omega arith))

module _ {S V : Type 0} (places : ℕ) (rule : State S V → Type 0) where
  -- a step on the word of a place keeps the rule, where it would on the words of the places alone
  pub allows : (slots id p : ℕ) (me : Me S V) (f : ℕ → ℕ) (tells tells' : ℕ → Me S V → Type 0) → p < places → ((n : ℕ) (m : Me S V) → tells n m → tells' n m) → Allows rule slots id me p f tells → Allows (Spaced places rule) slots id me (word_of p) f tells'
  allows slots id p me f tells tells' low more all s r deep at fit = let there : word_of p < length s.words = (let w = r.wide in omega arith) in
      let here : slice_index (words_from s.words 0 places) p ≡ slice_index s.words (word_of p) = first_at s.words places p low in
      let a = all (of_places places s) r.kept deep at (subst (λ (n : ℕ). n < 18446744073709551616) (sym here) fit) in
      let now : set (words_from s.words 0 places) p (f (slice_index (words_from s.words 0 places) p)) ≡ words_from (set s.words (word_of p) (f (slice_index s.words (word_of p)))) 0 places
      = ap (λ (n : ℕ). set (words_from s.words 0 places) p (f n)) here ∙ sym (first_set s.words places p (f (slice_index s.words (word_of p))) low there) in (
        a.0,
        a.1,
        a.2,
        record {
          wide = length-set s.words (word_of p) (f (slice_index s.words (word_of p))) ∙ r.wide;
          kept = subst (λ (ws : List ℕ). rule record { words = ws; homes = homes_after s.homes me.1 a.1; views = set s.views id a.0 }) now a.3;
        },
        more _ _ (subst (λ (n : ℕ). tells n (a.0, Rattle.atomic_table.specs.Table.carried_after me.1 a.1)) here a.4),
      )

  -- the same, where what the step tells speaks of the place
  pub allows_at : (slots id p first second : ℕ) (me : Me S V) (f : ℕ → ℕ) (tells : Step S → Me S V → ℕ → Me S V → Type 0) → p < places → Allows rule slots id me p f (tells (step slots p first second mathlib.Core.Option.none) me)
      → Allows (Spaced places rule) slots id me (word_of p) f (AtPlace tells (step slots (word_of p) first second mathlib.Core.Option.none) me)
  allows_at slots id p first second me f tells low all = allows slots id p me f (tells (step slots p first second mathlib.Core.Option.none) me) (AtPlace tells (step slots (word_of p) first second mathlib.Core.Option.none) me) low
      (λ n m t q e. let same : p ≡ q = omega arith in subst (λ (z : ℕ). tells (step slots z first second mathlib.Core.Option.none) me n m) same t) all

  -- a step on the word behind a place's leaves all as it is
  pub counts : (slots id p : ℕ) (me : Me S V) (f : ℕ → ℕ) → Allows (Spaced places rule) slots id me (word_of p + 1) f (λ n m. m ≡ me)
  counts slots id p me f s r deep at fit = let x : ℕ = f (slice_index s.words (word_of p + 1)) in (
    me.0,
    keeps,
    tt,
    record {
      wide = length-set s.words (word_of p + 1) x ∙ r.wide;
      kept = subst (λ (z : List ℕ × List V). rule record { words = z.0; homes = s.homes; views = z.1 }) (λ i. (sym (words_beside s.words 0 places p x) i, sym (set_again s.views id me.0 at) i)) r.kept;
    },
    refl,
  )

  pub splits : (id : ℕ) (v left right : V) → Splits rule id v left right → Splits (Spaced places rule) id v left right
  splits id v left right all s r at = record { wide = r.wide; kept = all (of_places places s) r.kept at }

  pub joins : (id : ℕ) (v : V) (other : ℕ) (w both spent : V) → Joins rule id v other w both spent → Joins (Spaced places rule) id v other w both spent
  joins id v other w both spent all s r at apart there = record { wide = r.wide; kept = all (of_places places s) r.kept at apart there }

  -- a new seat comes with a load of the first word, of which it tells nothing
  pub comes : (slots : ℕ) (tells : V → Type 0) → 0 < places → Enters rule slots 0 (λ _ w. tells w) → Enters (Spaced places rule) slots 0 (λ _ w. tells w)
  comes slots tells some all s r deep fit = let here : slice_index (words_from s.words 0 places) 0 ≡ slice_index s.words 0 = first_at s.words places 0 some in
      let a = all (of_places places s) r.kept deep (subst (λ (n : ℕ). n < 18446744073709551616) (sym here) fit) in (a.0, record { wide = r.wide; kept = a.1 }, a.2)

-- the words as they are made, one place after another: the word of a place, and zeros behind it
pub words_more : (words more : List ℕ) (i w : ℕ) (P : ℕ → ℕ → Type 0) → length words ≡ word_of i → more ≡ (words ++ w ∷ []) ++ replicate 15 0 → ((p : ℕ) → p < i → P p (slice_index words (word_of p))) → P i w → (p : ℕ) → p < i + 1 → P p (slice_index more (word_of p))
words_more words more i w P len is before here p low = let n = length-append words (w ∷ []) in dite (ℕ_discrete p i)
    (λ e. subst (λ (z : ℕ). P z (slice_index more (word_of z))) (sym e) (subst (P i) (sym (ap (λ (l : List ℕ). slice_index l (word_of i)) is
    ∙ (get_or-append (words ++ w ∷ []) (replicate 15 0) 0 (word_of i) (omega arith) ∙ (ap (λ (k : ℕ). slice_index (words ++ w ∷ []) k) (sym len) ∙ get_or-append_seam words w [] 0)))) here))
    (λ ne. subst (P p) (sym (ap (λ (l : List ℕ). slice_index l (word_of p)) is ∙ (get_or-append (words ++ w ∷ []) (replicate 15 0) 0 (word_of p) (omega arith) ∙ get_or-append words (w ∷ []) 0 (word_of p) (omega arith)))) (before p (omega arith)))
