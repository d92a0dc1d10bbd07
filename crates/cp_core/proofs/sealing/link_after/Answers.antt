use Rattle.std.proofs.Common.{ap, ◌∙◌, arith}
use Rattle.sha2.specs.Sha256.{sha256}
use Rattle.cp_core.proofs.LinkLemmas.{link_last}
use Rattle.cp_core.proofs.sealing.link_after.Goals as goal

pub returns-in-len1-up : goal.returns-in-len1-up
returns-in-len1-up c = c.digest.ensures ∙ ap sha256 c.as_slice.ensures ∙ link_last c.args.seals.now _ c.last-item.result (omega (arith, c.in-len1-up.len_at_least)) c.last-item.is
