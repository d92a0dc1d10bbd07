use Rattle.cp_evidence.proofs.Laid.{kept_through}
use Rattle.cp_evidence.proofs.layout.push_parts.Goals as goal

pub returns-in_err-push_part-clause-kept : goal.returns-in_err-push_part-clause-kept
returns-in_err-push_part-clause-kept c = kept_through c.args.out.now.items c.loop-part.out.items c.push_part.new.out.items _ c.loop-part.invariant c.push_part.ensures.kept
