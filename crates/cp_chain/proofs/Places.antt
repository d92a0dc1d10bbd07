-- Where a segment does not reach, and where an attestation stands or does not.
use Rattle.std.proofs.Common.{◌≡◌, ℕ, ◌+◌, ◌-◌, ◌<◌, ◌≤◌, Bool, true, false, ◌&&◌, eqb, leb, List, [], ◌∷◌, length, take, Result, Ok, refl, sym, ap, ◌∙◌, inl, inr}
use Rattle.std.specs.Prelude.{bytes_eq, IsErr}
use Rattle.std.proofs.lemmas.Bool.{le-leb, lt-ltb, leb-true, eqb-true, cases_lt, false≢true}
use Rattle.std.proofs.lemmas.List.{take_more, get_or_past}
use Rattle.cp_bytes.specs.Fields.{fields_at, field_at}
use Rattle.cp_bytes.specs.Hashes.{head, head_after}
use Rattle.cp_statements.specs.Entry.{Entry, entry_at, entry_of}
use Rattle.cp_statements.specs.Attestation.{Attestation}
use Rattle.cp_chain.specs.Frame.{Frame}
use Rattle.cp_chain.specs.Legal.{ok_and}
use Rattle.cp_chain.specs.Rules.{text_at, entry_at_fault}
use Rattle.cp_chain.specs.Standing.{reaches, says_the_same, stands}
use Rattle.cp_chain.proofs.Chain.{head_after-append}

-- ---- reaching

pub no_reach : (f : Frame) (texts : List (List ℕ)) → (f.side.before.count + length texts ≡ f.after.count → 1 ≤ length texts → ⊥) → false ≡ reaches f texts
unfolding reaches
no_reach f texts h = go (eqb (f.side.before.count + length texts) f.after.count) (leb 1 (length texts)) refl refl
  where
    go : (a b : Bool) → eqb (f.side.before.count + length texts) f.after.count ≡ a → leb 1 (length texts) ≡ b → false ≡ (a && (b && bytes_eq (head_after f.side.before.head texts) f.after.head))
    go true true p q = absurd (h (eqb-true _ _ p) (leb-true _ _ q))
    go true false p q = refl
    go false b p q = refl

-- ---- standing

-- there is no entry past the end
no_bytes : (p : Entry → Bool) → ok_and (entry_of []) p ≡ false
unfolding entry_of entry_at fields_at field_at
no_bytes p = refl

pub past_end : (texts : List (List ℕ)) (i : ℕ) (p : Entry → Bool) → length texts ≤ i → ok_and (entry_of (text_at texts i)) p ≡ false
past_end texts i p le = ap (λ (t : List ℕ). ok_and (entry_of t) p) (get_or_past texts i [] le) ∙ no_bytes p

third_false : (a b c d : Bool) → c ≡ false → false ≡ (a && (b && (c && d)))
third_false true true c d e = rw e refl
third_false true false c d e = refl
third_false false b c d e = refl

pub none_stands : (f : Frame) (texts : List (List ℕ)) (a : Attestation) → length texts ≤ a.position - f.side.before.count → false ≡ stands f texts a
unfolding stands
none_stands f texts a le = third_false _ _ _ _ (past_end texts (a.position - f.side.before.count) (says_the_same a) le)

all_true : (a b c d x : Bool) → a ≡ true → b ≡ true → c ≡ true → d ≡ true → x ≡ (a && (b && (c && (d && x))))
all_true a b c d x e f g h = rw (e, f, g, h) refl

-- what is left to test where the text at the position says the same, and the head before it fits
pub stands_here : (f : Frame) (texts : List (List ℕ)) (a : Attestation) (e : Entry) (text prev next : List ℕ)
    → f.side.before.count ≤ a.position → a.position < f.after.count → a.position - f.side.before.count < length texts
    → text ≡ text_at texts (a.position - f.side.before.count) → entry_of text ≡ Ok e → says_the_same a e ≡ true
    → prev ≡ head_after f.side.before.head (take (a.position - f.side.before.count) texts) → next ≡ head prev text → bytes_eq a.prev prev ≡ true
    → bytes_eq a.head next ≡ stands f texts a
unfolding stands
stands_here f texts a e text prev next low high within here read same before behind fits =
    let i : ℕ = a.position - f.side.before.count in
    let h : List ℕ = f.side.before.head in
    let says : ok_and (entry_of (text_at texts i)) (says_the_same a) ≡ true = ap (λ (t : List ℕ). ok_and (entry_of t) (says_the_same a)) (sym here) ∙ ap (λ (r : Result Entry ℕ). ok_and r (says_the_same a)) read ∙ same in
    let first : bytes_eq a.prev (head_after h (take i texts)) ≡ true = ap (bytes_eq a.prev) (sym before) ∙ fits in
    let last : next ≡ head_after h (take (i + 1) texts) =
    behind ∙ ap (λ (p : List ℕ). head p text) before ∙ ap (head (head_after h (take i texts))) here
    ∙ sym (head_after-append h (take i texts) (text_at texts i ∷ [])) ∙ ap (head_after h) (sym (take_more texts i [] within)) in
    ap (bytes_eq a.head) last ∙ all_true _ _ _ _ (bytes_eq a.head (head_after h (take (i + 1) texts))) (le-leb _ _ low) (lt-ltb _ _ high) says first

-- ---- entries at places

pub no_entry : (texts : List (List ℕ)) (i : ℕ) → length texts ≤ i → IsErr (entry_of (text_at texts i))
unfolding entry_of entry_at fields_at field_at
no_entry texts i le = rw (get_or_past texts i [] le) refl

-- a place with an entry is within the segment
pub entry_within : (texts : List (List ℕ)) (i : ℕ) (e : Entry) → entry_of (text_at texts i) ≡ Ok e → i < length texts
entry_within texts i e read = elim (cases_lt i (length texts)) [
  | inl lt ↦ lt
  | inr le ↦
      let none = past_end texts i (λ (e : Entry). true) le in
      absurd (false≢true (sym none ∙ ap (λ (r : Result Entry ℕ). ok_and r (λ (e : Entry). true)) read))
]

pub fault_here : (texts : List (List ℕ)) (i : ℕ) (e : Entry) (p : Entry → Bool) → entry_of (text_at texts i) ≡ Ok e → entry_at_fault texts i p ≡ p e
fault_here texts i e p read =
    ap (λ (b : Bool). b && ok_and (entry_of (text_at texts i)) p) (lt-ltb _ _ (entry_within texts i e read)) ∙ ap (λ (r : Result Entry ℕ). ok_and r p) read
