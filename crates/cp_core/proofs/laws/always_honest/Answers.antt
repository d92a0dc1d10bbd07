use Rattle.cp_core.proofs.EventLemmas.{opens}
use Rattle.cp_core.proofs.SealLemmas.{core_is_honest, each_keeps}
use Rattle.cp_core.proofs.laws.always_honest.Goals as goal

pub returns-clause-every_list : goal.returns-clause-every_list
returns-clause-every_list c = core_is_honest

pub returns-clause-each_event : goal.returns-clause-each_event
returns-clause-each_event c = each_keeps

pub returns-clause-opening : goal.returns-clause-opening
returns-clause-opening c s small = opens s small
