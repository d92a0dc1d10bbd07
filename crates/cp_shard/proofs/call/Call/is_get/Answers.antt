use Rattle.std.proofs.Common.{sym}
use Rattle.cp_shard.proofs.Texts.{put_is_no_get}
use Rattle.cp_shard.proofs.call.Call.is_get.Goals as goal

pub returns-in-Put : goal.returns-in-Put
returns-in-Put c = rw c.in-Put.is (sym (put_is_no_get _ _))
