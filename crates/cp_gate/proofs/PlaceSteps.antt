-- Each step on the word of a place, between which other words stand, keeps the rule.
use Rattle.std.proofs.Common.{◌≡◌, ℕ, ◌+◌, ◌*◌, ◌%◌, ◌<◌, ◌==◌, List, [], ◌∷◌, length, Option, Some, None, subst, arith}
use mathlib.Core.Option.{none}
use prog.Atomic.{either}
use Rattle.atomic_table.specs.Table.{State, Me, step, Allows}
use Rattle.cp_gate.specs.declared.view.View.{View}
use Rattle.cp_gate.specs.Histories.{seen_of, SeatAdds}
use Rattle.cp_gate.specs.Rule.{seated, told, InTurn, Looked, Entered, Left, HasRead}
use Rattle.cp_gate.specs.Words.{word_of, Spaced, AtPlace}
use Rattle.cp_gate.proofs.Words.{allows, allows_at}
use Rattle.cp_gate.proofs.Steps.{looks, enters, leaves, reads}

module _ {T K I : Type 0} (fits : K → ℕ → T → Type 0) (history : K → ℕ → T → List I) (names : K → I → Option ℕ) (key : K) (places seats : ℕ) (start : List (List I)) where
  abbrev M : Type 0
  M = Me (Option T) (View K I)

  abbrev Rule : State (Option T) (View K I) → Type 0
  Rule = InTurn (fits key) (history key) (names key) key places seats start

  pub looks_at : (slots id p : ℕ) (me : M) (k : K) (number : ℕ) (seen : List (List I)) (turns : List ℕ) (entered : Option ℕ) → me.0 ≡ seated k number seen turns entered → p < places
      → Allows (Spaced places Rule) slots id me (word_of p) (λ n. n) (AtPlace (Looked names) (step slots (word_of p) 0 0 none) me)
  looks_at slots id p me k number seen turns entered is low = allows_at places Rule slots id p 0 0 me (λ n. n) (Looked names) low (looks fits history names key places seats start slots id p me k number seen turns entered is low)

  pub enters_at : (slots id p old : ℕ) (m : M) (k : K) (number : ℕ) (seen : List (List I)) (turns : List ℕ) → m ≡ (seated k number seen turns None, []) → p < places → old % 2 ≡ 0
      → Allows (Spaced places Rule) slots id m (word_of p) (λ n. either (n == old) (old + 1) n) (AtPlace (Entered fits history names) (step slots (word_of p) old (old + 1) none) m)
  enters_at slots id p old m k number seen turns is low even = allows_at places Rule slots id p old (old + 1) m (λ n. either (n == old) (old + 1) n) (Entered fits history names) low (enters fits history names key places seats start slots id p old m k number seen turns is low even)

  pub leaves_at : (slots id p new : ℕ) (me : M) (k : K) (m : ℕ) (seen : List (List I)) (turns : List ℕ) (x : T) → p < places → me ≡ (seated k m seen turns (Some p), (p, Some x) ∷ []) → fits k p x → SeatAdds (names k) m (seen_of seen p) (history k p x) → new ≡ 2 * length (history k p x)
      → Allows (Spaced places Rule) slots id me (word_of p) (λ _. new) (λ _. AtPlace (Left history) (step slots (word_of p) new 0 none) me new)
  leaves_at slots id p new me k m seen turns x low is fit own word = allows places Rule slots id p me (λ _. new) (λ _. Left history (step slots p new 0 none) me new) (λ _. AtPlace (Left history) (step slots (word_of p) new 0 none) me new) low
      (λ n m' t q e. let same : p ≡ q = omega arith in subst (λ (z : ℕ). Left history (step slots z new 0 none) me new m') same t)
      (leaves fits history names key places seats start slots id p new me k m seen turns x is fit own word)

  -- a note is read at a load of the first word
  pub reads_first : (slots id : ℕ) (me : M) (k : K) (m : ℕ) (seen note : List (List I)) (turns : List ℕ) (entered : Option ℕ) → 0 < places → me.0 ≡ told k m seen note turns entered
      → Allows (Spaced places Rule) slots id me 0 (λ n. n) (HasRead names (step slots 0 0 0 none) me)
  reads_first slots id me k m seen note turns entered some is = allows places Rule slots id 0 me (λ n. n) (HasRead names (step slots 0 0 0 none) me) (HasRead names (step slots 0 0 0 none) me) some (λ n m' t. t)
      (reads fits history names key places seats start slots id 0 me k m seen note turns entered is)
