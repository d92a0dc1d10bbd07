-- A pass over envelopes, which keeps the first one of each key.
use Rattle.std.proofs.Common.{◌≡◌, ℕ, ◌+◌, ◌<◌, ◌≤◌, List, [], ◌∷◌, ◌++◌, length, get_or, take, drop, Option, Some, None, Bool, refl, sym, ap, subst, ◌∙◌, append_assoc}
use Rattle.std.specs.Prelude.{map, option_map, Result, Ok, Err, IfOk}
use Rattle.std.specs.Cmp.{IsEquivalence}
use Rattle.std.specs.List.{find}
use Rattle.std.proofs.lemmas.List.{append-nil, drop_all, drop_more, map-append, take_all, take_more}
use Rattle.cp_statements.specs.Envelope.{Envelope}
use Rattle.cp_statements.specs.View.{envelope_view}
use Rattle.cp_statements.specs.declared.envelope.Envelope as code
use Rattle.cp_chain.specs.Rules.{or_else}
use Rattle.cp_evidence.specs.Verdict.{clash, with_later}
use Rattle.cp_audit.specs.Firsts.{differ, KeepsFirsts, other_at, kept_with}
use Rattle.cp_audit.proofs.FirstLemmas.{none_beside, one_beside}

-- ---- a list behind another

else_else : {A : Type 0} (a b c : Option A) → or_else a (or_else b c) ≡ or_else (or_else a b) c
else_else None b c = refl
else_else (Some x) b c = refl

pub clash_then : (wrong : Envelope → Envelope → Bool) (earlier xs ys : List Envelope) → clash wrong earlier (xs ++ ys) ≡ or_else (clash wrong earlier xs) (clash wrong (earlier ++ xs) ys)
clash_then wrong earlier [] ys = ap (λ (l : List Envelope). clash wrong l ys) (sym (append-nil earlier))
clash_then wrong earlier (x ∷ xs) ys =
    let here = with_later x (find (λ z. wrong z x) earlier) in
    ap (or_else here) (clash_then wrong (earlier ++ x ∷ []) xs ys ∙ ap (λ (l : List Envelope). or_else (clash wrong (earlier ++ x ∷ []) xs) (clash wrong l ys)) (append_assoc earlier (x ∷ []) xs))
    ∙ else_else here (clash wrong (earlier ++ x ∷ []) xs) (clash wrong (earlier ++ x ∷ xs) ys)

-- ---- the pass

-- the envelopes before the pass, and those that it passed
abbrev pub passed : List Envelope → List code.Envelope → ℕ → List Envelope
passed earlier xs i = earlier ++ map envelope_view (take i xs)

passed_more : (earlier : List Envelope) (xs : List code.Envelope) (i : ℕ) (d : code.Envelope) → i < length xs → passed earlier xs i ++ envelope_view (get_or xs i d) ∷ [] ≡ passed earlier xs (i + 1)
passed_more earlier xs i d lt =
    append_assoc earlier (map envelope_view (take i xs)) (envelope_view (get_or xs i d) ∷ [])
    ∙ ap (λ (l : List Envelope). earlier ++ l) (sym (map-append envelope_view (take i xs) (get_or xs i d ∷ [])) ∙ ap (map envelope_view) (sym (take_more xs i d lt)))

-- the first ones are kept of those that were passed, and no two of them clash
pub record Passes {K : Type 0} (same : K → K → Bool) (key : Envelope → Option K) (earlier : List Envelope) (xs : List code.Envelope) (i : ℕ) (kept : K → Option Envelope) : Type 0 where
  pub keeps : KeepsFirsts same key (passed earlier xs i) kept
  pub none : clash (differ same key) earlier (map envelope_view xs) ≡ clash (differ same key) (passed earlier xs i) (map envelope_view (drop i xs))

module _ {K : Type 0} (same : K → K → Bool) (laws : IsEquivalence same) (key : Envelope → Option K) where
  pub pass_starts : (earlier : List Envelope) (xs : List code.Envelope) (kept : K → Option Envelope) → KeepsFirsts same key earlier kept → Passes same key earlier xs 0 kept
  pass_starts earlier xs kept keeps = record {
    keeps = subst (λ (l : List Envelope). KeepsFirsts same key l kept) (sym (append-nil earlier)) keeps;
    none = ap (λ (l : List Envelope). clash (differ same key) l (map envelope_view xs)) (sym (append-nil earlier));
  }

  module _ (earlier : List Envelope) (xs : List code.Envelope) (i : ℕ) (kept : K → Option Envelope) (p : Passes same key earlier xs i kept) where
    pub pass_goes_on : (d : code.Envelope) (found : Option code.Envelope) (more : K → Option Envelope) (k : Option K) → i < length xs → k ≡ key (envelope_view (get_or xs i d))
        → found ≡ None → option_map envelope_view found ≡ other_at kept k (envelope_view (get_or xs i d))
        → ((q : K) → more q ≡ kept_with same kept k (envelope_view (get_or xs i d)) q) → Passes same key earlier xs (i + 1) more
    pass_goes_on d found more k lt at none is changed =
        let y = envelope_view (get_or xs i d) in
        let rest = map envelope_view (drop (i + 1) xs) in
        let step = none_beside same laws key y (passed earlier xs i) rest kept more p.keeps (ap (option_map envelope_view) (sym none) ∙ is ∙ ap (λ (o : Option K). other_at kept o y) at) (λ q. changed q ∙ ap (λ (o : Option K). kept_with same kept o y q) at) in
        let there = passed_more earlier xs i d lt in
        record {
          keeps = subst (λ (l : List Envelope). KeepsFirsts same key l more) there step.0;
          none = p.none ∙ ap (λ (l : List code.Envelope). clash (differ same key) (passed earlier xs i) (map envelope_view l)) (drop_more xs i d lt) ∙ step.1 ∙ ap (λ (l : List Envelope). clash (differ same key) l rest) there;
        }

    pub pass_stops : (d : code.Envelope) (found : Option code.Envelope) (f : code.Envelope) (k : Option K) → i < length xs → k ≡ key (envelope_view (get_or xs i d))
        → found ≡ Some f → option_map envelope_view found ≡ other_at kept k (envelope_view (get_or xs i d))
        → Some (envelope_view f, envelope_view (get_or xs i d)) ≡ clash (differ same key) earlier (map envelope_view xs)
    pass_stops d found f k lt at some is =
        let y = envelope_view (get_or xs i d) in
        let rest = map envelope_view (drop (i + 1) xs) in
        sym (p.none ∙ ap (λ (l : List code.Envelope). clash (differ same key) (passed earlier xs i) (map envelope_view l)) (drop_more xs i d lt)
        ∙ one_beside same laws key y (passed earlier xs i) rest kept (envelope_view f) p.keeps (ap (option_map envelope_view) (sym some) ∙ is ∙ ap (λ (o : Option K). other_at kept o y) at))

    pub pass_ends : length xs ≤ i → None ≡ clash (differ same key) earlier (map envelope_view xs)
    pass_ends past = sym (p.none ∙ ap (λ (l : List code.Envelope). clash (differ same key) (passed earlier xs i) (map envelope_view l)) (drop_all i xs past))

    pub all_kept : length xs ≤ i → KeepsFirsts same key (earlier ++ map envelope_view xs) kept
    all_kept past = subst (λ (l : List code.Envelope). KeepsFirsts same key (earlier ++ map envelope_view l) kept) (take_all i xs past) p.keeps

-- ---- answers

pub on_ok : {A E : Type 0} (P Q : A → Type 0) → ((x : A) → P x → Q x) → (r : Result A E) → IfOk r P → IfOk r Q
on_ok P Q h (Ok x) p = h x p
on_ok P Q h (Err e) p = tt
