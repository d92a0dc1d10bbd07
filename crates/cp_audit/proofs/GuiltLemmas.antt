-- The kinds of guilt, one after another.
use Rattle.std.proofs.Common.{◌≡◌, ℕ, List, [], ◌∷◌, ◌++◌, Option, Some, None, Result, refl, sym, ap, subst, ◌∙◌}
use Rattle.std.specs.Global.{Vec}
use Rattle.cp_statements.specs.Envelope.{Envelope}
use Rattle.cp_chain.specs.Rules.{first_of, or_else}
use Rattle.cp_evidence.specs.Evidence.{Evidence}
use Rattle.cp_evidence.specs.Evidence.Evidence.{K5}
use Rattle.cp_evidence.specs.Material.{GivenEpoch, envelope_before}
use Rattle.cp_evidence.specs.Verdict.{by_one, by_two, by_tables, by_log, evidence_if, guilt_by_kind, link_is_wrong}
use Rattle.cp_audit.specs.LogParts.{TablesStand}
use Rattle.cp_audit.specs.Rows.{Writes}
use Rattle.cp_audit.proofs.RowLemmas.{WritesOut}

-- ---- one kind before the others

pub here : (row rest : Option Evidence) (out : Vec ℕ) → WritesOut row out → WritesOut (or_else row rest) out
here row rest out w = (w.0, ap (λ (r : Option Evidence). or_else r rest) w.1, w.2, w.3)

pub there : {E : Type 0} (row rest : Option Evidence) (r : Result (Option (Vec ℕ)) E) → row ≡ None → Writes rest r → Writes (or_else row rest) r
there row rest r none w = rw none w

pub last : {E : Type 0} (row : Option Evidence) (r : Result (Option (Vec ℕ)) E) → Writes row r → Writes (or_else row None) r
last row r w = subst (λ (o : Option Evidence). Writes o r) (sym (same row)) w
  where
    same : (o : Option Evidence) → or_else o None ≡ o
    same None = refl
    same (Some e) = refl

-- ---- groups of kinds

first_append : (xs ys : List (Option Evidence)) → first_of (xs ++ ys) ≡ or_else (first_of xs) (first_of ys)
first_append [] ys = refl
first_append (None ∷ xs) ys = first_append xs ys
first_append (Some e ∷ xs) ys = refl

pub grouped : (o : GivenEpoch) (xs : List Envelope) → first_of (guilt_by_kind o xs) ≡ or_else (first_of (by_one o xs)) (or_else (first_of (by_two o xs)) (or_else (first_of (by_tables o)) (first_of (by_log o xs))))
grouped o xs =
    let three : first_of (by_tables o ++ by_log o xs) ≡ or_else (first_of (by_tables o)) (first_of (by_log o xs)) = first_append (by_tables o) (by_log o xs) in
    let two : first_of (by_two o xs ++ (by_tables o ++ by_log o xs)) ≡ or_else (first_of (by_two o xs)) (or_else (first_of (by_tables o)) (first_of (by_log o xs))) = first_append (by_two o xs) (by_tables o ++ by_log o xs) ∙ ap (or_else (first_of (by_two o xs))) three in
    first_append (by_one o xs) (by_two o xs ++ (by_tables o ++ by_log o xs)) ∙ ap (or_else (first_of (by_one o xs))) two

-- ---- tables that stand

-- they show nothing but a wrong link
pub none_by_tables : (o : GivenEpoch) → TablesStand o → evidence_if (link_is_wrong o) (K5 (record { x = o.closing.envelope; y = envelope_before o.before })) ≡ None → first_of (by_tables o) ≡ None
none_by_tables o stand link = rw (link, stand.before, stand.after, stand.kept) refl
