-- Versions grow along a legal segment, and an equal version is the same put.
use Rattle.std.proofs.Common.{◌≡◌, ℕ, ◌+◌, ◌≤◌, Bool, true, false, cond, eqb, List, [], ◌∷◌, ◌++◌, refl, sym, ap, subst, ◌∙◌, append_assoc, arith}
use Rattle.std.proofs.lemmas.List.{append-nil}
use Rattle.std.proofs.lemmas.Bool.{eqb-true}
use Rattle.cp_chain.proofs.Chain.{latest-append}
use Rattle.cp_chain.proofs.Each.{each_front, each_last, snoc}
use Rattle.cp_chain.specs.Frame.{Side}
use Rattle.cp_chain.specs.Legal.{FollowsText, LegalFrom, Put, latest, put_at, put_by}
use Rattle.cp_core.proofs.CallLemmas.{latest_one}
use Rattle.cp_statements.specs.Entry.{Entry}

-- from one put to a later one
pub record Grows (p q : Put) : Type 0 where
  pub grows : p.version ≤ q.version
  pub same : p.version ≡ q.version → p ≡ q

grows_on : (p q : Put) (e : Entry) (b : Bool) → eqb e.kind 1 ≡ b → (e.kind ≡ 1 → e.version ≡ q.version + 1) → Grows p q → Grows p (cond b (put_by e) q)
grows_on p q e true k next g = let v : e.version ≡ q.version + 1 = next (eqb-true _ _ k) in record { grows = omega (arith, v, g.grows); same = λ h. absurd (omega (arith, h, v, g.grows)) }
grows_on p q e false k next g = g

pub versions_grow : (s : Side) (front back : List (List ℕ)) → LegalFrom s (front ++ back) → Grows (latest (put_at s.before) front) (latest (put_at s.before) (front ++ back))
versions_grow s front back legal = snoc (λ xs. LegalFrom s (front ++ xs) → Grows (latest (put_at s.before) front) (latest (put_at s.before) (front ++ xs))) none step back legal
  where
    none : LegalFrom s (front ++ []) → Grows (latest (put_at s.before) front) (latest (put_at s.before) (front ++ []))
    none legal = subst (λ (l : List (List ℕ)). Grows (latest (put_at s.before) front) (latest (put_at s.before) l)) (sym (append-nil front)) (record { grows = omega arith; same = λ h. refl })

    step : (xs : List (List ℕ)) (x : List ℕ) → (LegalFrom s (front ++ xs) → Grows (latest (put_at s.before) front) (latest (put_at s.before) (front ++ xs))) → LegalFrom s (front ++ (xs ++ x ∷ [])) → Grows (latest (put_at s.before) front) (latest (put_at s.before) (front ++ (xs ++ x ∷ [])))
    step xs x so_far legal =
        let regroup : (front ++ xs) ++ x ∷ [] ≡ front ++ (xs ++ x ∷ []) = append_assoc front xs (x ∷ []) in
        let here : LegalFrom s ((front ++ xs) ++ x ∷ []) = subst (LegalFrom s) (sym regroup) legal in
        let w = each_last (FollowsText s) (front ++ xs) x here in
        let before = so_far (each_front (FollowsText s) (front ++ xs) (x ∷ []) here) in
        let value : latest (put_at s.before) (front ++ (xs ++ x ∷ [])) ≡ cond (eqb w.0.kind 1) (put_by w.0) (latest (put_at s.before) (front ++ xs)) =
        ap (latest (put_at s.before)) (sym regroup) ∙ latest-append (put_at s.before) (front ++ xs) (x ∷ []) ∙ latest_one (latest (put_at s.before) (front ++ xs)) x w.0 w.1 in
        subst (Grows (latest (put_at s.before) front)) (sym value) (grows_on _ _ w.0 (eqb w.0.kind 1) refl w.2.version before)
