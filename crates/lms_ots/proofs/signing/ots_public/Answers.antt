use Rattle.lms_ots.proofs.Signed.{public_ends-none, public_ends-more}
use Rattle.lms_ots.proofs.signing.ots_public.Goals as goal

pub chains-init : goal.chains-init
chains-init c = rw (public_ends-none, ← c.tagged.ensures) c.new_with_prefix-hasher.ensures

pub chains-preserved : goal.chains-preserved
chains-preserved c = rw (public_ends-more _ _ _ _ _ _ _ c.last.ensures) (c.update.ensures _ c.chains.invariant)
