use Rattle.std.proofs.Common.{arith, sym, length-take-le}
use Rattle.cp_http.specs.Reading.{head_content}
use Rattle.cp_session.proofs.FrontLemmas.{end_holds, end_some, head_is, bad_is}
use Rattle.cp_session.proofs.judging.request_of.Goals as goal

pub slice_bounds-parse_head-end : goal.slice_bounds-parse_head-end
slice_bounds-parse_head-end c = sym (length-take-le c.args.end c.args.bytes.now (end_holds c.args.bytes.now c.args.end c.requires))

pub parse_head-requires : goal.parse_head-requires
parse_head-requires c = omega (arith, end_some c.args.bytes.now c.args.end c.requires, length-take-le c.args.end c.args.bytes.now (end_holds c.args.bytes.now c.args.end c.requires))

pub request_behind-requires : goal.request_behind-requires
request_behind-requires c = head_is c.args.bytes.now c.args.end (head_content c.in-Some.head) c.requires c.in-Some.ensures

pub returns-in-None : goal.returns-in-None
returns-in-None c = bad_is c.args.bytes.now c.args.end c.requires c.in-None.ensures
