use Rattle.std.proofs.Common.{◌∙◌}
use Rattle.cp_statements.specs.View.{attestation_view}
use Rattle.cp_chain.specs.View.{frame_view}
use Rattle.cp_audit.proofs.HeadLemmas.{stands_by_place}
use Rattle.cp_audit.proofs.part.Part.stands.Goals as goal

pub returns : goal.returns
returns c = c.stands_at.ensures ∙ stands_by_place (frame_view c.args.self.now.frame) c.args.self.now.segment (attestation_view c.args.a.now) c.if-a-self.false c.if-a-self-2.false
