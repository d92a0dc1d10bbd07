-- The first fault of a segment: none exactly where it is legal, otherwise the least that is broken.
use Rattle.std.proofs.Common.{◌≡◌, ℕ, zero, suc, ◌+◌, ◌<◌, ◌≤◌, Bool, true, false, ◌&&◌, eqb, ltb, List, [], ◌∷◌, length, map, Option, Some, None, Result, inl, inr, refl, sym, ap, subst, ◌∙◌, arith}
use Rattle.std.specs.List.{AllByRecursion}
use Rattle.std.proofs.lemmas.Bool.{and_parts, eqb-true, cases_lt, ltb-true, false≢true}
use Rattle.cp_statements.specs.Entry.{entry_of}
use Rattle.cp_chain.specs.Frame.{Frame}
use Rattle.cp_chain.specs.Legal.{ok_and, is_call, Legal}
use Rattle.cp_chain.specs.Rules.{Rule, number_of, rule_of, all_rules, text_at, broken, Found, ComesFirst, IsFirstFault, first_of, from_on, found_if, rule_at, first_fault}
use Rattle.cp_chain.specs.Rules.Rule.{Text, Block, Epoch, Position, Latest, Version, Writer, Repeat, LastTip}
use Rattle.cp_chain.specs.Laws.{FirstFaultIsLeast}
use Rattle.cp_chain.proofs.Chain.{legal_unbroken}
use Rattle.cp_chain.proofs.Unbroken.{unbroken_legal}
use Rattle.cp_chain.proofs.Found.{some_is, else_some, first_none, none_first, on_none, none_on, found_is, not_found_is, is_not_found, ok_and_true}

-- ---- where a rule can be broken

-- a rule is broken at a place of the segment, and there within others up to the place
within : (i n other : ℕ) (p : Bool) → ((ltb i n && p) && eqb other 0) ≡ true → (i ≤ n) × (other ≤ i)
within i n other p h =
    let w = and_parts (ltb i n && p) (eqb other 0) h in
    let v = and_parts (ltb i n) p w.0 in
    let lt : i < n = ltb-true i n v.0 in
    let z : other ≡ 0 = eqb-true other 0 w.1 in
    (omega (arith, lt), omega (arith, z))

within_end : (i n other : ℕ) (p : Bool) → ((eqb i n && p) && eqb other 0) ≡ true → (i ≤ n) × (other ≤ i)
within_end i n other p h =
    let w = and_parts (eqb i n && p) (eqb other 0) h in
    let v = and_parts (eqb i n) p w.0 in
    let at : i ≡ n = eqb-true i n v.0 in
    let z : other ≡ 0 = eqb-true other 0 w.1 in
    (omega (arith, at), omega (arith, z))

within_two : {A : Type 0} (i n other : ℕ) (r : Result A ℕ) (p : A → Bool) → (ltb i n && ok_and r (λ e. ltb other i && p e)) ≡ true → (i ≤ n) × (other ≤ i)
within_two i n other r p h =
    let w = and_parts (ltb i n) (ok_and r (λ e. ltb other i && p e)) h in
    let lt : i < n = ltb-true i n w.0 in
    let e = ok_and_true r (λ e. ltb other i && p e) w.1 in
    let v = and_parts (ltb other i) (p e.0) e.2 in
    let lo : other < i = ltb-true other i v.0 in
    (omega (arith, lt), omega (arith, lo))

pub broken_within : (f : Frame) (ts : List (List ℕ)) (rule : Rule) (i other : ℕ) → broken f ts rule i other ≡ true → (i ≤ length ts) × (other ≤ i)
unfolding broken
broken_within f ts Text i other h = within i (length ts) other _ h
broken_within f ts Block i other h = within i (length ts) other _ h
broken_within f ts Epoch i other h = within i (length ts) other _ h
broken_within f ts Position i other h = within i (length ts) other _ h
broken_within f ts Latest i other h = within i (length ts) other _ h
broken_within f ts Version i other h = within i (length ts) other _ h
broken_within f ts Writer i other h = within i (length ts) other _ h
broken_within f ts Repeat i other h = within_two i (length ts) other (entry_of (text_at ts i)) (λ e. is_call e.client e.nonce (text_at ts other)) h
broken_within f ts LastTip i other h = within_end i (length ts) other _ h

pub rule_in : (P : Rule → Type 0) → AllByRecursion P all_rules → (r : Rule) → P r
rule_in P a Text = a.0
rule_in P a Block = a.1.0
rule_in P a Epoch = a.1.1.0
rule_in P a Position = a.1.1.1.0
rule_in P a Latest = a.1.1.1.1.0
rule_in P a Version = a.1.1.1.1.1.0
rule_in P a Writer = a.1.1.1.1.1.1.0
rule_in P a Repeat = a.1.1.1.1.1.1.1.0
rule_in P a LastTip = a.1.1.1.1.1.1.1.1.0

pub no_fault_legal : (f : Frame) (ts : List (List ℕ)) → first_fault f ts ≡ None → Legal f ts
unfolding first_fault
no_fault_legal f ts e = unbroken_legal f ts whole
  where
    at : (rule : Rule) (i other : ℕ) → i ≤ length ts → other ≤ i → broken f ts rule i other ≡ false
    at rule i other low small =
        let place = on_none (λ i. first_of (map (rule_at f ts i) all_rules)) (length ts) 0 i e (omega arith) (omega (arith, low)) in
        let one = rule_in (λ r. rule_at f ts i r ≡ None) (first_none (rule_at f ts i) all_rules place) rule in
        not_found_is _ _ (on_none (λ other. found_if (broken f ts rule i other) (record { rule = rule; place = i; other = other })) i 0 other one (omega arith) (omega (arith, small)))

    whole : (rule : Rule) (i other : ℕ) → broken f ts rule i other ≡ false
    whole rule i other = go (broken f ts rule i other) refl
      where
        go : (b : Bool) → broken f ts rule i other ≡ b → b ≡ false
        go true h = let w = broken_within f ts rule i other h in sym h ∙ at rule i other w.0 w.1
        go false h = refl

pub legal_no_fault : (f : Frame) (ts : List (List ℕ)) → Legal f ts → first_fault f ts ≡ None
unfolding first_fault
legal_no_fault f ts legal = none_on (λ i. first_of (map (rule_at f ts i) all_rules)) (λ i. none_first (rule_at f ts i) all_rules (every i all_rules)) (length ts) 0
  where
    not_broken : (rule : Rule) (i other : ℕ) → broken f ts rule i other ≡ false
    not_broken rule i other = go (broken f ts rule i other) refl
      where
        go : (b : Bool) → broken f ts rule i other ≡ b → b ≡ false
        go true h = absurd (legal_unbroken f ts rule i other legal h)
        go false h = refl

    every : (i : ℕ) (rules : List Rule) → AllByRecursion (λ r. rule_at f ts i r ≡ None) rules
    every i [] = tt
    every i (r ∷ rules) = (none_on (λ other. found_if (broken f ts r i other) (record { rule = r; place = i; other = other })) (λ other. is_not_found _ _ (not_broken r i other)) i 0, every i rules)

-- ---- the least place, rule and other place

pub rule_again : (r : Rule) → rule_of (number_of r) ≡ Some r
rule_again Text = refl
rule_again Block = refl
rule_again Epoch = refl
rule_again Position = refl
rule_again Latest = refl
rule_again Version = refl
rule_again Writer = refl
rule_again Repeat = refl
rule_again LastTip = refl

-- the first number at which it is found
on_least : {A : Type 0} (try : ℕ → Option A) (n i : ℕ) (x : A) → from_on try n i ≡ Some x → (j : ℕ) × (try j ≡ Some x) × ((k : ℕ) → i ≤ k → k < j → try k ≡ None)
on_least try zero i x e = (i, e, λ k low high. absurd (omega (arith, low, high)))
on_least try (suc n) i x e =
    elim (else_some (try i) (from_on try n (i + 1)) x e) [
      | inl h ↦ (i, h, λ k low high. absurd (omega (arith, low, high)))
      | inr h ↦
          let r = on_least try n (i + 1) x h.1 in (
            r.0,
            r.1,
            λ k low high. elim (cases_lt i k) [
              | inl lt ↦ r.2 k (omega (arith, lt)) high
              | inr ge ↦ ap try (let same : k ≡ i = omega (arith, low, ge) in same) ∙ h.0
            ],
          )
    ]

number_one : (r : Rule) → 1 ≤ number_of r
number_one Text = omega arith
number_one Block = omega arith
number_one Epoch = omega arith
number_one Position = omega arith
number_one Latest = omega arith
number_one Version = omega arith
number_one Writer = omega arith
number_one Repeat = omega arith
number_one LastTip = omega arith

one_number : (a b : Rule) → number_of a ≡ number_of b → a ≡ b
one_number a b e = let both : (let o : Option Rule = Some a in o) ≡ Some b = sym (rule_again a) ∙ ap rule_of e ∙ rule_again b in some_is a b both

-- rules numbered from n on
abbrev Numbered : ℕ → List Rule → Type 0
Numbered n [] = Unit {0}
Numbered n (r ∷ rs) = (number_of r ≡ n) × Numbered (n + 1) rs

least_rule : (g : Rule → Option Found) (n : ℕ) (rules : List Rule) (x : Found) → Numbered n rules → first_of (map g rules) ≡ Some x → (r : Rule) × (g r ≡ Some x) × ((q : Rule) → n ≤ number_of q → number_of q < number_of r → g q ≡ None)
least_rule g n [] x numbered e = absurd cc
least_rule g n (r ∷ rules) x numbered e =
    elim (else_some (g r) (first_of (map g rules)) x e) [
      | inl h ↦ (r, h, λ q low high. absurd (omega (arith, low, high, numbered.0)))
      | inr h ↦
          let w = least_rule g (n + 1) rules x numbered.1 h.1 in (
            w.0,
            w.1,
            λ q low high. elim (cases_lt n (number_of q)) [
              | inl lt ↦ w.2 q (omega (arith, lt)) high
              | inr ge ↦ ap g (one_number q r (omega (arith, low, ge, numbered.0))) ∙ h.0
            ],
          )
    ]

quiet_rule : (f : Frame) (ts : List (List ℕ)) (i : ℕ) (rule : Rule) (other : ℕ) → rule_at f ts i rule ≡ None → other ≤ i → broken f ts rule i other ≡ false
quiet_rule f ts i rule other e small = not_found_is _ _ (on_none (λ other. found_if (broken f ts rule i other) (record { rule = rule; place = i; other = other })) i 0 other e (omega arith) (omega (arith, small)))

clash_of : {G : Type 0} (b : Bool) → b ≡ true → b ≡ false → G
clash_of b t f = absurd (false≢true (sym f ∙ t))

pub first_fault_least : FirstFaultIsLeast
unfolding first_fault
first_fault_least f ts x e =
    let p = on_least (λ i. first_of (map (rule_at f ts i) all_rules)) (length ts) 0 x e in
    let i₀ : ℕ = p.0 in
    let r = least_rule (rule_at f ts i₀) 1 all_rules x (refl, (refl, (refl, (refl, (refl, (refl, (refl, (refl, (refl, tt))))))))) p.1 in
    let o = on_least (λ other. found_if (broken f ts r.0 i₀ other) (record { rule = r.0; place = i₀; other = other })) i₀ 0 x r.1 in
    let made : Found = record { rule = r.0; place = i₀; other = o.0 } in
    let w = found_is (broken f ts r.0 i₀ o.0) made x o.1 in
    subst (λ (y : Found). IsFirstFault f ts y) w.1
    (record { is_broken = w.0; first = first i₀ r.0 o.0 (λ i lt. p.2 i (omega arith) lt) (λ q lt. r.2 q (number_one q) lt) (λ k lt. not_found_is _ _ (o.2 k (omega arith) lt)) })
  where
    first : (i₀ : ℕ) (r : Rule) (o : ℕ) → ((i : ℕ) → i < i₀ → first_of (map (rule_at f ts i) all_rules) ≡ None) → ((q : Rule) → number_of q < number_of r → rule_at f ts i₀ q ≡ None) → ((k : ℕ) → k < o → broken f ts r i₀ k ≡ false)
        → (rule : Rule) (i other : ℕ) → broken f ts rule i other ≡ true → ComesFirst (record { rule = r; place = i₀; other = o }) rule i other
    first i₀ r o places rules others rule i other b =
        let small = (broken_within f ts rule i other b).1 in
        elim (cases_lt i i₀) [
          | inl lt ↦ clash_of _ b (quiet_rule f ts i rule other (rule_in (λ q. rule_at f ts i q ≡ None) (first_none (rule_at f ts i) all_rules (places i lt)) rule) small)
          | inr ge ↦ elim (cases_lt i₀ i) [
            | inl later ↦ inl later
            | inr le ↦
                let here : i₀ ≡ i = omega (arith, ge, le) in
                let at : broken f ts rule i₀ other ≡ true = ap (λ (k : ℕ). broken f ts rule k other) here ∙ b in
                let near : other ≤ i₀ = omega (arith, small, here) in
                inr (
                  here,
                  elim (cases_lt (number_of rule) (number_of r)) [
                    | inl lt ↦ clash_of _ at (quiet_rule f ts i₀ rule other (rules rule lt) near)
                    | inr geq ↦ elim (cases_lt (number_of r) (number_of rule)) [
                      | inl more ↦ inl more
                      | inr leq ↦
                          let same : r ≡ rule = one_number r rule (omega (arith, geq, leq)) in
                          inr (
                            same,
                            elim (cases_lt other o) [
                              | inl lt ↦ clash_of _ at (subst (λ (q : Rule). broken f ts q i₀ other ≡ false) same (others other lt))
                              | inr up ↦ up
                            ],
                          )
                    ]
                  ],
                )
          ]
        ]
