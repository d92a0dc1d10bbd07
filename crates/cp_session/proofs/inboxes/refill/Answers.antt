use Rattle.std.proofs.Common.{◌-◌}
use Rattle.cp_session.proofs.InboxLemmas.{room_grows}
use Rattle.cp_session.proofs.inboxes.refill.Goals as goal

pub returns-in-Ok-clause-grows : goal.returns-in-Ok-clause-grows
returns-in-Ok-clause-grows g c = room_grows _ c.move_to_front.new.room c.read_behind.new.room (c.args.stop - c.args.start) c.in-Ok.n _ _ c.move_to_front.ensures c.in-Ok.ensures.kept c.in-Ok.ensures.bytes.0
