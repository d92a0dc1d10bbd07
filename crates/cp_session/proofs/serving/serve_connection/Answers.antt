use Rattle.std.proofs.Common.{rules, tests, ◌≡◌, ◌≢◌, ◌==◌, ◌||◌, ℕ, List, [], Ok, ◌+◌, ◌-◌, Bool, true, false, refl, ap, sym, ◌∙◌, subst, arith, Result}
use Rattle.std.specs.List.{slice_range}
use Rattle.std.specs.Io.KnownBytes.{Appends}
use Rattle.std.proofs.KnownBytes.{Appends-trans}
use Rattle.cp_outside.specs.Causes.{AppendsPart}
use Rattle.cp_session.specs.declared.refusals.Refusal.{Refusal}
use Rattle.cp_session.specs.declared.fronts.Front.{Front}
use Rattle.cp_session.specs.Responses.{reply_response}
use Rattle.cp_session.specs.Replies.{reply_of, IsSized}
use Rattle.cp_session.specs.Fronts.{FrontIs, IsRequest}
use Rattle.cp_session.proofs.TalkLemmas.{Talk, left_some, talk_starts, wanted, heard, over_waiting, over_rejected, fault_rejected, answered, over_answered, fault_answered}
use Rattle.cp_session.proofs.serving.serve_connection.Goals as goal

pub returns-in_default-clause-served : goal.returns-in_default-clause-served
returns-in_default-clause-served g c = wanted g.K.Desk.replies c.args.desk.now (g.C.Endpoint.left c.args.conn.now) (g.C.Endpoint.held c.args.conn.now)

pub loop-front-init : goal.loop-front-init
loop-front-init g c = record {
  some = omega arith;
  most = omega arith;
  bound = omega arith;
  talk = subst (λ (b : List ℕ). Talk g.K.Desk.replies c.args.desk.now c.args.desk.now (g.C.Endpoint.left c.args.conn.now) (g.C.Endpoint.left c.args.conn.now) (g.C.Endpoint.held c.args.conn.now) (g.C.Endpoint.held c.args.conn.now) 10000 0 b) (sym c.in-Ok.ensures)
      (talk_starts g.K.Desk.replies c.args.desk.now (g.C.Endpoint.left c.args.conn.now) (g.C.Endpoint.held c.args.conn.now));
  reads = omega arith;
  writes = omega arith;
}

pub returns-in_default-next_front-clause-served : goal.returns-in_default-next_front-clause-served
returns-in_default-next_front-clause-served g c =
    let talk = heard _ _ _ _ _ _ _ (c.loop-front.left - 1) c.loop-front.left _ _ c.next_front.new.inbox _ _ (omega (arith, c.loop-front.invariant.some)) c.loop-front.invariant.talk c.in_default-next_front.ensures.grows c.in_default-next_front.ensures.held in
    over_waiting _ _ _ _ _ _ _ _ _ _ _ talk c.in_default-next_front.ensures.err (λ xs read out n r w. (refl, w, tt))

pub returns-then-is_empty-clause-served : goal.returns-then-is_empty-clause-served
returns-then-is_empty-clause-served g c =
    let talk = heard _ _ _ _ _ _ _ (c.loop-front.left - 1) c.loop-front.left _ _ c.next_front.new.inbox _ _ (omega (arith, c.loop-front.invariant.some)) c.loop-front.invariant.talk c.in-Ok-next_front.ensures.grows c.in-Ok-next_front.ensures.held in
    let none : c.next_front.new.inbox ≡ [] = let e = c.is_empty.ensures in let t = c.if-is_empty.true in search (tests, rules, e.0) in
    over_waiting _ _ _ _ _ _ _ _ _ _ _ talk (subst (λ (f : Front). FrontIs c.next_front.new.inbox f) c.in-Waiting.is c.in-Ok-next_front.ensures.front)
    (λ xs read out n r w. (refl, w, (none, c.in-Ok-next_front.ensures.end (ap Ok c.in-Waiting.is), omega (arith, n, c.loop-front.invariant.some))))

pub returns-in-Waiting-clause-served : goal.returns-in-Waiting-clause-served
returns-in-Waiting-clause-served g c =
    let talk = heard _ _ _ _ _ _ _ (c.loop-front.left - 1) c.loop-front.left _ _ c.next_front.new.inbox _ _ (omega (arith, c.loop-front.invariant.some)) c.loop-front.invariant.talk c.in-Ok-next_front.ensures.grows c.in-Ok-next_front.ensures.held in
    let some : c.next_front.new.inbox ≢ [] = λ e. let h = c.is_empty.ensures in let t = c.if-is_empty.false in let y = h.1 e in search (tests, rules) in
    over_waiting _ _ _ _ _ _ _ _ _ _ _ talk (subst (λ (f : Front). FrontIs c.next_front.new.inbox f) c.in-Waiting.is c.in-Ok-next_front.ensures.front)
    (λ xs read out n r w. (refl, w, (some, c.in-Ok-next_front.ensures.end (ap Ok c.in-Waiting.is)), ap (λ k. c.loop-front.taken + k) c.len.ensures.value ∙ sym r))

pub returns-in_default-send_rejection-clause-served : goal.returns-in_default-send_rejection-clause-served
returns-in_default-send_rejection-clause-served g c =
    let talk = heard _ _ _ _ _ _ _ (c.loop-front.left - 1) c.loop-front.left _ _ c.next_front.new.inbox _ _ (omega (arith, c.loop-front.invariant.some)) c.loop-front.invariant.talk c.in-Ok-next_front.ensures.grows c.in-Ok-next_front.ensures.held in
    fault_rejected _ _ _ _ _ _ _ _ _ _ c.in-Rejected.rejection _ _ talk (subst (λ (f : Front). FrontIs c.next_front.new.inbox f) c.in-Rejected.is c.in-Ok-next_front.ensures.front) c.in_default-send_rejection.ensures.left c.in_default-send_rejection.ensures.bytes

pub returns-in-Rejected-clause-served : goal.returns-in-Rejected-clause-served
returns-in-Rejected-clause-served g c =
    let talk = heard _ _ _ _ _ _ _ (c.loop-front.left - 1) c.loop-front.left _ _ c.next_front.new.inbox _ _ (omega (arith, c.loop-front.invariant.some)) c.loop-front.invariant.talk c.in-Ok-next_front.ensures.grows c.in-Ok-next_front.ensures.held in
    over_rejected _ _ _ _ _ _ _ _ _ _ _ c.in-Rejected.rejection _ _ talk (subst (λ (f : Front). FrontIs c.next_front.new.inbox f) c.in-Rejected.is c.in-Ok-next_front.ensures.front) c.in-Ok-send_rejection.ensures.left
    (λ xs read out n w a. (refl, Appends-trans _ _ _ _ _ w c.in-Ok-send_rejection.ensures.bytes, omega (arith, n, c.loop-front.invariant.some)))

pub returns-in_default-send_reply-clause-served : goal.returns-in_default-send_reply-clause-served
returns-in_default-send_reply-clause-served g c =
    let talk = heard _ _ _ _ _ _ _ (c.loop-front.left - 1) c.loop-front.left _ _ c.next_front.new.inbox _ _ (omega (arith, c.loop-front.invariant.some)) c.loop-front.invariant.talk c.in-Ok-next_front.ensures.grows c.in-Ok-next_front.ensures.held in
    let y : Result (List ℕ) Refusal = reply_of c.ask-outcome.result c.ask-outcome.new.reply.items in
    let step : g.K.Desk.replies c.loop-front.desk c.in-Asked.request.route (slice_range c.next_front.new.inbox c.in-Asked.request.start c.in-Asked.request.stop) y c.ask-outcome.new.desk =
    subst (λ (b : List ℕ). g.K.Desk.replies c.loop-front.desk c.in-Asked.request.route (slice_range b c.in-Asked.request.start c.in-Asked.request.stop) y c.ask-outcome.new.desk) c.as_slice.ensures c.ask-outcome.ensures in
    let sized : IsSized y = subst (λ (b : List ℕ). IsSized (reply_of c.ask-outcome.result b)) c.as_slice-in-Asked.ensures.value c.in_default-send_reply.ensures.sized in
    let sent : AppendsPart (g.C.Endpoint.held c.next_front.new.conn) (g.C.Endpoint.held c.send_reply.new.conn) (reply_response y c.is_last-last.result) =
    subst (λ (b : List ℕ). AppendsPart (g.C.Endpoint.held c.next_front.new.conn) (g.C.Endpoint.held c.send_reply.new.conn) (reply_response (reply_of c.ask-outcome.result b) c.is_last-last.result)) c.as_slice-in-Asked.ensures.value c.in_default-send_reply.ensures.bytes in
    fault_answered _ _ _ _ _ _ _ _ _ _ c.in-Asked.request c.is_last-last.result y _ _ _ sized talk (subst (λ (f : Front). FrontIs c.next_front.new.inbox f) c.in-Asked.is c.in-Ok-next_front.ensures.front)
    c.is_last-last.ensures step c.in_default-send_reply.ensures.left sent

pub returns-then-last-clause-served : goal.returns-then-last-clause-served
returns-then-last-clause-served g c =
    let talk = heard _ _ _ _ _ _ _ (c.loop-front.left - 1) c.loop-front.left _ _ c.next_front.new.inbox _ _ (omega (arith, c.loop-front.invariant.some)) c.loop-front.invariant.talk c.in-Ok-next_front.ensures.grows c.in-Ok-next_front.ensures.held in
    let y : Result (List ℕ) Refusal = reply_of c.ask-outcome.result c.ask-outcome.new.reply.items in
    let step : g.K.Desk.replies c.loop-front.desk c.in-Asked.request.route (slice_range c.next_front.new.inbox c.in-Asked.request.start c.in-Asked.request.stop) y c.ask-outcome.new.desk =
    subst (λ (b : List ℕ). g.K.Desk.replies c.loop-front.desk c.in-Asked.request.route (slice_range b c.in-Asked.request.start c.in-Asked.request.stop) y c.ask-outcome.new.desk) c.as_slice.ensures c.ask-outcome.ensures in
    let sized : IsSized y = subst (λ (b : List ℕ). IsSized (reply_of c.ask-outcome.result b)) c.as_slice-in-Asked.ensures.value c.in-Ok-send_reply.ensures.sized in
    let sent : Appends (g.C.Endpoint.held c.next_front.new.conn) (g.C.Endpoint.held c.send_reply.new.conn) (reply_response y true) =
    subst (λ (l : Bool). Appends (g.C.Endpoint.held c.next_front.new.conn) (g.C.Endpoint.held c.send_reply.new.conn) (reply_response y l)) c.if-last.true
    (subst (λ (b : List ℕ). Appends (g.C.Endpoint.held c.next_front.new.conn) (g.C.Endpoint.held c.send_reply.new.conn) (reply_response (reply_of c.ask-outcome.result b) c.is_last-last.result)) c.as_slice-in-Asked.ensures.value c.in-Ok-send_reply.ensures.bytes) in
    over_answered _ _ _ _ _ _ _ _ _ _ c.in-Asked.request y _ _ _ _ sized talk (subst (λ (f : Front). FrontIs c.next_front.new.inbox f) c.in-Asked.is c.in-Ok-next_front.ensures.front)
    (sym c.is_last-last.ensures ∙ c.if-last.true) step c.in-Ok-send_reply.ensures.left
    (λ xs x read out of n w a. (refl, Appends-trans _ _ _ _ _ w sent, omega (arith, n, c.loop-front.invariant.some)))

pub loop-front-preserved : goal.loop-front-preserved
loop-front-preserved g c =
    let talk = heard _ _ _ _ _ _ _ (c.loop-front.left - 1) c.loop-front.left _ _ c.next_front.new.inbox _ _ (omega (arith, c.loop-front.invariant.some)) c.loop-front.invariant.talk c.in-Ok-next_front.ensures.grows c.in-Ok-next_front.ensures.held in
    let y : Result (List ℕ) Refusal = reply_of c.ask-outcome.result c.ask-outcome.new.reply.items in
    let step : g.K.Desk.replies c.loop-front.desk c.in-Asked.request.route (slice_range c.next_front.new.inbox c.in-Asked.request.start c.in-Asked.request.stop) y c.ask-outcome.new.desk =
    subst (λ (b : List ℕ). g.K.Desk.replies c.loop-front.desk c.in-Asked.request.route (slice_range b c.in-Asked.request.start c.in-Asked.request.stop) y c.ask-outcome.new.desk) c.as_slice.ensures c.ask-outcome.ensures in
    let sized : IsSized y = subst (λ (b : List ℕ). IsSized (reply_of c.ask-outcome.result b)) c.as_slice-in-Asked.ensures.value c.in-Ok-send_reply.ensures.sized in
    let sent : Appends (g.C.Endpoint.held c.next_front.new.conn) (g.C.Endpoint.held c.send_reply.new.conn) (reply_response y false) =
    subst (λ (l : Bool). Appends (g.C.Endpoint.held c.next_front.new.conn) (g.C.Endpoint.held c.send_reply.new.conn) (reply_response y l)) c.if-last.false
    (subst (λ (b : List ℕ). Appends (g.C.Endpoint.held c.next_front.new.conn) (g.C.Endpoint.held c.send_reply.new.conn) (reply_response (reply_of c.ask-outcome.result b) c.is_last-last.result)) c.as_slice-in-Asked.ensures.value c.in-Ok-send_reply.ensures.bytes) in
    let stays : (c.in-Asked.request.close || c.loop-front.left - 1 == 0) ≡ false = sym c.is_last-last.ensures ∙ c.if-last.false in
    let request : IsRequest c.next_front.new.inbox c.in-Asked.request = (subst (λ (f : Front). FrontIs c.next_front.new.inbox f) c.in-Asked.is c.in-Ok-next_front.ensures.front) in
    let more = answered _ _ _ _ _ _ _ _ _ _ c.in-Asked.request y _ _ _ sized talk request stays step c.in-Ok-send_reply.ensures.left sent in
    record {
      some = left_some (c.loop-front.left - 1) c.in-Asked.request.close stays;
      most = omega (arith, c.loop-front.invariant.most);
      bound = omega (arith, c.loop-front.invariant.bound, c.loop-front.invariant.some, c.loop-front.invariant.most, request.within, c.drop_front.ensures.bound);
      talk = subst (λ (b : List ℕ). Talk g.K.Desk.replies c.args.desk.now c.ask-outcome.new.desk (g.C.Endpoint.left c.args.conn.now) (g.C.Endpoint.left c.send_reply.new.conn) (g.C.Endpoint.held c.args.conn.now) (g.C.Endpoint.held c.send_reply.new.conn) (c.loop-front.left - 1) (c.loop-front.taken + c.in-Asked.request.stop) b) (sym c.drop_front.ensures.value) more;
      reads = omega (arith, c.loop-front.invariant.reads, c.in-Ok-next_front.ensures.cause.never_falls, c.in-Ok-send_reply.ensures.read_faults);
      writes = omega (arith, c.loop-front.invariant.writes, c.in-Ok-send_reply.ensures.cause.never_falls, c.in-Ok-next_front.ensures.write_faults);
    }
