use Rattle.std.proofs.Common.{◌∙◌, ap, sym}
use Rattle.sha2.specs.Sha256.{sha256}
use Rattle.cp_closer.proofs.Views.{link_last}
use Rattle.cp_closer.proofs.closer.link.Goals as goal

pub returns-in-Some : goal.returns-in-Some
returns-in-Some c = c.digest.ensures ∙ ap sha256 c.as_slice.ensures ∙ sym (link_last c.args.seals.now c.in-Some.seal.now (sym c.in-Some.ensures.value))
