use Rattle.std.proofs.Common.{◌≡◌, ◌++◌, List, ℕ, length, subst, ◌∙◌}
use Rattle.cp_outside.specs.Causes.{AppendsPart}
use Rattle.cp_http.specs.Responses.{response_head}
use Rattle.cp_session.proofs.TrafficLemmas.{part_sent}
use Rattle.cp_session.proofs.sending.send.Goals as goal

pub returns-in-Err-clause-bytes : goal.returns-in-Err-clause-bytes
returns-in-Err-clause-bytes g c =
    let head_is : c.as_slice.result.now ≡ response_head c.args.status c.args.allow (length c.args.body.now) c.args.last = c.as_slice.ensures ∙ c.response_head-head.ensures.text in
    subst (λ (h : List ℕ). AppendsPart (g.C.Endpoint.held c.args.conn.now) (g.C.Endpoint.held c.put_all-2.new.sink) (h ++ c.args.body.now)) head_is
    (part_sent _ _ _ c.as_slice.result.now c.args.body.now c.in-Ok.ensures.bytes c.in-Err.ensures.bytes)
