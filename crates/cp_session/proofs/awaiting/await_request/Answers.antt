use Rattle.std.proofs.Common.{◌∙◌, ap, Ok}
use Rattle.cp_session.proofs.FrontLemmas.{request_small, unfinished_is, whole_is}
use Rattle.cp_session.proofs.awaiting.await_request.Goals as goal

pub await_bytes-requires : goal.await_bytes-requires
await_bytes-requires g c = request_small c.args.inbox.now c.args.request c.requires

pub returns-then-whole-clause-front : goal.returns-then-whole-clause-front
returns-then-whole-clause-front g c = whole_is c.args.inbox.now c.await_bytes.new.inbox c.args.request c.requires c.in-Ok.ensures.grows.kept (c.await_bytes.ensures.whole (c.in-Ok.is ∙ ap Ok c.if-whole.true))

pub returns-else-whole-clause-front : goal.returns-else-whole-clause-front
returns-else-whole-clause-front g c = unfinished_is c.args.inbox.now c.await_bytes.new.inbox c.args.request c.requires c.in-Ok.ensures.grows.kept (c.await_bytes.ensures.cut (c.in-Ok.is ∙ ap Ok c.if-whole.false)).0

pub returns-in-Err-clause-err : goal.returns-in-Err-clause-err
returns-in-Err-clause-err g c = unfinished_is c.args.inbox.now c.await_bytes.new.inbox c.args.request c.requires c.in-Err.ensures.grows.kept c.in-Err.ensures.err
