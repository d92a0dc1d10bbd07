use Rattle.cp_core.proofs.CallLemmas.{writer_is}
use Rattle.cp_core.proofs.laws.writer_is_signed.Goals as goal

pub returns : goal.returns
returns c = writer_is
