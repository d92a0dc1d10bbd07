use Rattle.std.proofs.Common.{arith}
use Rattle.cp_http.specs.Reading.{head_content}
use Rattle.cp_session.proofs.FrontLemmas.{head_small, rejected_is}
use Rattle.cp_session.proofs.judging.request_behind.Goals as goal

pub overflow_add-stop : goal.overflow_add-stop
overflow_add-stop c = omega (arith, head_small c.args.bytes.now c.args.end (head_content c.args.head.now) c.requires, c.in-Ok.ensures.body, c.unwrap_or-body.ensures)

pub returns-in-Err : goal.returns-in-Err
returns-in-Err c = rejected_is c.args.bytes.now c.args.end (head_content c.args.head.now) c.in-Err.rejection c.requires c.in-Err.ensures
