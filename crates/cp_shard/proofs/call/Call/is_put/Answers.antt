use Rattle.std.proofs.Common.{sym}
use Rattle.cp_shard.proofs.Texts.{get_is_no_put}
use Rattle.cp_shard.proofs.call.Call.is_put.Goals as goal

pub returns-in-Get : goal.returns-in-Get
returns-in-Get c = rw c.in-Get.is (sym (get_is_no_put _ _))
