use Rattle.std.proofs.Common.{None, Some, ◌++◌, List, ℕ, ap, ◌∙◌}
use Rattle.cp_evidence.specs.Verdict.{has_wrong_head}
use Rattle.sha2.specs.Sha256.{sha256}
use Rattle.cp_statements.specs.View.{envelope_view}
use Rattle.cp_evidence.specs.Evidence.{evidence_text}
use Rattle.cp_evidence.specs.Evidence.Evidence.{K9}
use Rattle.cp_audit.proofs.RowLemmas.{row_by}
use Rattle.cp_audit.proofs.alone.wrong_head.Goals as goal

pub returns-in_default : goal.returns-in_default
returns-in_default c = row_by K9 (has_wrong_head (sha256 c.args.store.now.key)) c.args.xs.now None c.in_default.ensures

pub returns : goal.returns
returns c = (
  K9 (envelope_view c.in-Some.x),
  row_by K9 (has_wrong_head (sha256 c.args.store.now.key)) c.args.xs.now (Some c.in-Some.x) c.in-Some.ensures,
  c.in_ok-write_k9.ensures.written ∙ ap (λ (l : List ℕ). l ++ evidence_text (K9 (envelope_view c.in-Some.x))) c.new-out.ensures.items,
  tt,
)
