-- An honest store is clean: what the audit finds of it would convict it.
use Rattle.std.proofs.Common.{◌≡◌, ℕ, List, [], lit<, length, Option, Some, None, ◌⊎◌, inl, inr, refl, sym, ap, subst, ◌∙◌}
use Rattle.std.specs.Prelude.{Contains}
use Rattle.std.proofs.lemmas.Bool.{false≢true}
use Rattle.sha2.proofs.Facts256.{length-sha256}
use Rattle.lms_tree.proofs.Testing.{verifies-short}
use Rattle.cp_core.specs.Store.{Store}
use Rattle.cp_core.specs.Honest.{Hashed}
use Rattle.cp_core.specs.declared.chronicle.Chronicle.{Chronicle}
use Rattle.cp_evidence.specs.Evidence.{Evidence}
use Rattle.cp_evidence.specs.Presented.{presented}
use Rattle.cp_evidence.specs.Material.{no_envelope}
use Rattle.cp_evidence.specs.Verdict.{guilt}
use Rattle.cp_evidence.specs.AuditLaws.{hashed_by}
use Rattle.cp_evidence.proofs.GivenFacts.{given_facts, came_from}
use Rattle.cp_evidence.proofs.Guilts.{Shows, guilt_shows}
use Rattle.cp_evidence.proofs.CleanLemmas.{none_is_clean}
use Rattle.cp_evidence.proofs.AuditLemmas.{contained_in, all_contained, sources}
use Rattle.cp_guilt.specs.Framing.{WasSigned}
use Rattle.cp_guilt.specs.HonestAudit.{HonestIsClean}
use Rattle.cp_guilt.proofs.NoFraming.{by_kind}

-- the empty envelope verifies under no key
pub nothing_verifies : (s : Store) (r : Chronicle) (key : List ℕ) → WasSigned s r key no_envelope
nothing_verifies s r key signed = absurd (false≢true (sym (verifies-short key [] [] (lit< tt)) ∙ signed))

pub honest_clean : HonestIsClean
honest_clean s r m o hand_ins own e honest holder apart = none_is_clean o hand_ins (given_facts m o e) (go (guilt o hand_ins) refl)
  where
    Q : List ℕ → Type 0
    Q = Contains (hashed_by o hand_ins)

    framed : (ev : Evidence) → Shows m.key (WasSigned s r m.key) Q ev → ⊥
    framed ev shows = by_kind s r m.key ev own (ap length own ∙ length-sha256 m.key) honest shows.all_given (λ a b pa pb d. apart a b (among a pa) (among b pb) d) shows.convicts
      where
        among : (t : List ℕ) → Contains (presented m.key ev) t ⊎ Hashed r t → Contains (hashed_by o hand_ins) t ⊎ Hashed r t
        among t h = elim h [ inl x ↦ inl (contained_in Q (presented m.key ev) t shows.all_hashed x) | inr x ↦ inr x ]

    shown : (ev : Evidence) → guilt o hand_ins ≡ Some ev → Shows m.key (WasSigned s r m.key) Q ev
    shown ev h = subst (λ (k : List ℕ). Shows k (WasSigned s r m.key) Q ev) (came_from m o e).key (guilt_shows o hand_ins (WasSigned s r m.key) Q ev (given_facts m o e) (sources o hand_ins (WasSigned s r m.key) Q (nothing_verifies s r m.key) holder (all_contained (hashed_by o hand_ins))) h)

    go : (g : Option Evidence) → guilt o hand_ins ≡ g → guilt o hand_ins ≡ None
    go None h = h
    go (Some ev) h = absurd (framed ev (shown ev h))
