use Rattle.std.proofs.Common.{◌≡◌, ◌<◌, ◌^◌, List, Some, None, Ok, length, refl, subst, sym, ap, ◌∙◌, arith}
use Rattle.std.specs.Prelude.{map}
use Rattle.cp_bytes.specs.Fields.{IsBytes}
use Rattle.cp_statements.specs.View.{envelope_view}
use Rattle.cp_chain.specs.Rules.{first_of}
use Rattle.cp_evidence.specs.Audited.{audited}
use Rattle.cp_evidence.specs.Material.{parts_or_none}
use Rattle.cp_evidence.specs.Verdict.{guilt_by_kind}
use Rattle.cp_audit.specs.declared.part.Part.{Part}
use Rattle.cp_audit.specs.declared.verdict.Verdict.{Verdict}
use Rattle.cp_audit.specs.Given.{given_view}
use Rattle.cp_audit.specs.LogParts.{AreLogParts}
use Rattle.cp_audit.specs.Parts.{part_view}
use Rattle.cp_audit.specs.Verdicts.{IsAnswer}
use Rattle.cp_audit.specs.View.{material_view}
use Rattle.cp_audit.proofs.LostLemmas.{are_log_parts, few_parts}
use Rattle.cp_audit.proofs.RowLemmas.{WritesOut}
use Rattle.cp_audit.proofs.VerdictLemmas.{not_given, not_read, found_is, is_guilty, convicts_by, reads_by, short_by, is_clean, no_more}
use Rattle.cp_audit.proofs.auditing.audit.Goals as goal

pub returns-in-Err-clause-verdict : goal.returns-in-Err-clause-verdict
returns-in-Err-clause-verdict c = not_given (material_view c.args.material.now) c.args.handins.now c.in-Err.refusal c.in-Err.ensures

pub returns-in-Err-collect-clause-verdict : goal.returns-in-Err-collect-clause-verdict
returns-in-Err-collect-clause-verdict c =
    let o = given_view c.in-Ok.o in
    not_read (material_view c.args.material.now) o o.key c.args.handins.now c.in-Err-collect.refusal c.in-Ok.ensures.0 c.in-Err-collect.ensures

pub guilt-requires : goal.guilt-requires
guilt-requires c =
    let o = given_view c.in-Ok.o in
    subst (AreLogParts o) (sym c.parts-parts.ensures) (are_log_parts (material_view c.args.material.now) o c.in-Ok.o.log refl c.in-Ok.ensures.0 c.in-Ok.ensures.1)

pub returns-in-Ok-Some-clause-verdict : goal.returns-in-Ok-Some-clause-verdict
returns-in-Ok-Some-clause-verdict c =
    let m = material_view c.args.material.now in
    let o = given_view c.in-Ok.o in
    let read = c.in-Ok-collect.ensures in
    let row : WritesOut (first_of (guilt_by_kind o (map envelope_view c.as_slice.result.now))) c.in-Ok-Some.evidence = rw c.in-Ok-Some.field-0-is at c.in-Ok-Some.ensures in
    let found = found_is o read.0 (map envelope_view c.as_slice.result.now) (Some row.0) (ap (map envelope_view) c.as_slice.ensures.value ∙ read.2.verified) row.1 in
    let bytes : IsBytes c.args.handins.now = λ i. omega (arith, c.type_inv.handins i) in (
      row.0,
      is_guilty m o c.args.handins.now read.0 row.0 c.in-Ok.ensures.0 read.1 found,
      c.from_vec.ensures ∙ row.2,
      reads_by m o c.args.handins.now c.from_vec.result read.0 row.0 c.is_material.ensures bytes c.in-Ok.ensures.0 read.1 found (c.from_vec.ensures ∙ row.2) row.3,
    )

pub returns-in-Ok-Some-clause-convicts : goal.returns-in-Ok-Some-clause-convicts
returns-in-Ok-Some-clause-convicts c =
    let m = material_view c.args.material.now in
    let o = given_view c.in-Ok.o in
    let read = c.in-Ok-collect.ensures in
    let row : WritesOut (first_of (guilt_by_kind o (map envelope_view c.as_slice.result.now))) c.in-Ok-Some.evidence = rw c.in-Ok-Some.field-0-is at c.in-Ok-Some.ensures in
    let found = found_is o read.0 (map envelope_view c.as_slice.result.now) (Some row.0) (ap (map envelope_view) c.as_slice.ensures.value ∙ read.2.verified) row.1 in
    let bytes : IsBytes c.args.handins.now = λ i. omega (arith, c.type_inv.handins i) in
    convicts_by m o c.args.handins.now c.from_vec.result read.0 row.0 c.is_material.ensures bytes c.in-Ok.ensures.0 read.1 found (c.from_vec.ensures ∙ row.2) row.3

pub returns-in-Ok-Some-clause-is_short : goal.returns-in-Ok-Some-clause-is_short
returns-in-Ok-Some-clause-is_short c =
    let m = material_view c.args.material.now in
    let o = given_view c.in-Ok.o in
    let read = c.in-Ok-collect.ensures in
    let row : WritesOut (first_of (guilt_by_kind o (map envelope_view c.as_slice.result.now))) c.in-Ok-Some.evidence = rw c.in-Ok-Some.field-0-is at c.in-Ok-Some.ensures in
    let found = found_is o read.0 (map envelope_view c.as_slice.result.now) (Some row.0) (ap (map envelope_view) c.as_slice.ensures.value ∙ read.2.verified) row.1 in
    let bytes : IsBytes c.args.handins.now = λ i. omega (arith, c.type_inv.handins i) in
    short_by m o c.args.handins.now c.from_vec.result read.0 row.0 c.is_material.ensures bytes c.in-Ok.ensures.0 read.1 found (c.from_vec.ensures ∙ row.2)

pub clean-requires-clause-few : goal.clean-requires-clause-few
clean-requires-clause-few c =
    subst (λ (ps : List Part). length ps < 2 ^ 32) (sym c.parts-parts.ensures) (few_parts (material_view c.args.material.now) (given_view c.in-Ok.o) c.in-Ok.o.log refl c.in-Ok.ensures.0 c.is_material.ensures.log)

pub clean-requires-clause-all : goal.clean-requires-clause-all
clean-requires-clause-all c = no_more (given_view c.in-Ok.o).key c.in-Ok-collect.ensures.0 c.in-Ok-collect.found c.in-Ok-collect.ensures.2

pub returns-in-Ok-None-clause-verdict : goal.returns-in-Ok-None-clause-verdict
returns-in-Ok-None-clause-verdict c =
    let m = material_view c.args.material.now in
    let o = given_view c.in-Ok.o in
    let read = c.in-Ok-collect.ensures in
    let none : first_of (guilt_by_kind o (map envelope_view c.as_slice.result.now)) ≡ None = rw c.in-Ok-None.field-0-is at c.in-Ok-None.ensures in
    let found = found_is o read.0 (map envelope_view c.as_slice.result.now) None (ap (map envelope_view) c.as_slice.ensures.value ∙ read.2.verified) none in
    let are = are_log_parts m o c.in-Ok.o.log refl c.in-Ok.ensures.0 c.in-Ok.ensures.1 in
    let parts : map part_view c.parts-parts.result.now ≡ parts_or_none o.log = ap (map part_view) c.parts-parts.ensures ∙ are.are in
    let clean = is_clean m o c.args.handins.now read.0 (map envelope_view c.in-Ok-collect.found.verified.items) c.in-Ok-collect.found.count c.in-Ok.ensures.0 read.1 found read.2.verified read.2.count in
    subst (λ (v : Verdict). IsAnswer (audited m c.args.handins.now) (Ok v)) (sym c.clean.ensures) (rw parts clean)
