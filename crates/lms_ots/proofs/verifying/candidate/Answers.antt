use Rattle.lms_ots.proofs.StepLemmas.{candidate_ends-none, candidate_ends-more}
use Rattle.lms_ots.proofs.verifying.candidate.Goals as goal

pub chains-init : goal.chains-init
chains-init c = rw (candidate_ends-none, ← c.tagged.ensures) c.new_with_prefix-hasher.ensures

pub chains-preserved : goal.chains-preserved
chains-preserved c = rw (candidate_ends-more _ _ _ _ _ _ _ _ c.chain_end.ensures) (c.update.ensures _ c.chains.invariant)
