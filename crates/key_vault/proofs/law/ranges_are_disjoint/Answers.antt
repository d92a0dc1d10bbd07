use Rattle.key_vault.proofs.RunLemmas.{run_is_disjoint}
use Rattle.key_vault.proofs.law.ranges_are_disjoint.Goals as goal

pub returns : goal.returns
returns g c = λ id leaves start events told run. run_is_disjoint g.K.Disk id leaves g.met.K.Disk.seen_is_image g.met.K.Disk.counts_now start events told run
