-- A session goes on by one exchange, or ends.
use Rattle.std.proofs.Common.{◌≡◌, ℕ, suc, ◌==◌, ◌||◌, Bool, true, false, List, [], ◌∷◌, ◌++◌, take, drop, refl, ap, sym, ◌∙◌, subst, append_assoc, Result}
use Rattle.std.proofs.lemmas.List.{append-nil}
use Rattle.std.specs.List.{slice_range}
use Rattle.cp_session.specs.declared.refusals.Refusal.{Refusal}
use Rattle.cp_session.specs.declared.rejections.Rejection.{Rejection}
use Rattle.cp_session.specs.declared.requests.Request.{Request}
use Rattle.cp_session.specs.declared.fronts.Front.TheVariants.{Waiting, Rejected, Asked}
use Rattle.cp_session.specs.Replies.{IsSized}
use Rattle.cp_session.specs.Responses.{reply_response, rejection_response}
use Rattle.cp_session.specs.Fronts.{FrontIs, IsRequest, IsRejected}
use Rattle.cp_session.specs.Sessions.{Exchange, Session, Turn, Ending, waits, last, rejected}
use Rattle.cp_session.proofs.FrontLemmas.{StillThere, still_there}

-- the exchange of a request with this reply
abbrev pub exchange : List ℕ → Request → Result (List ℕ) Refusal → Exchange
exchange b request reply = record { route = request.route; body = slice_range b request.start request.stop; reply = reply }

-- whatever is answered next, all of it is answered
abbrev pub Continues : ℕ → ℕ → List ℕ → List Exchange → List ℕ → Type 0
Continues total left used xs out = (more : List ℕ) (ys : List Exchange) (rest : List ℕ) (end : Ending)
    → Session left more ys rest end → Session total (used ++ more) (xs ++ ys) (out ++ rest) end

pub starts : (n : ℕ) → Continues n n [] [] []
starts n more ys rest end s = s

pub goes_on : (total left : ℕ) (used b : List ℕ) (xs : List Exchange) (out : List ℕ) (request : Request) (reply : Result (List ℕ) Refusal)
    → IsSized reply → Continues total (suc left) used xs out → IsRequest b request → (request.close || left == 0) ≡ false
    → Continues total left (used ++ take request.stop b) (xs ++ exchange b request reply ∷ []) (out ++ reply_response reply false)
unfolding Session
goes_on total left used b xs out request reply sized so_far is stays more ys rest end session =
    let x : Exchange = exchange b request reply in
    let there : StillThere b more request = still_there b more request is in
    let all : List ℕ = take request.stop b ++ more in
    let turn : Turn (Session left) (request.close || left == 0) request.route (slice_range (take request.stop b ++ more) request.start request.stop) (drop request.stop (take request.stop b ++ more)) (x ∷ ys) (reply_response reply false ++ rest) end = record {
      reply = reply;
      sized = sized;
      more = ys;
      rest = rest;
      exchanges = ap (λ (body : List ℕ). record { route = request.route; body = body; reply = reply } ∷ ys) (sym there.body);
      written = ap (λ (l : Bool). reply_response reply l ++ rest) (sym stays);
      ends = λ shut. absurd (let bad : true ≡ false = sym shut ∙ stays in cc);
      goes_on = λ _. subst (λ (m : List ℕ). Session left m ys rest end) (sym there.after) session;
    } in
    let whole : Session total (used ++ (take request.stop b ++ more)) (xs ++ (x ∷ ys)) (out ++ (reply_response reply false ++ rest)) end = so_far (take request.stop b ++ more) (x ∷ ys) (reply_response reply false ++ rest) end (Asked request, there.there, turn) in
    rw (append_assoc used (take request.stop b) more, append_assoc xs (x ∷ []) ys, append_assoc out (reply_response reply false) rest) whole

pub ends_last : (total left : ℕ) (used b after : List ℕ) (xs : List Exchange) (out : List ℕ) (request : Request) (reply : Result (List ℕ) Refusal)
    → IsSized reply → Continues total (suc left) used xs out → IsRequest b request → (request.close || left == 0) ≡ true
    → Session total (used ++ (take request.stop b ++ after)) (xs ++ exchange b request reply ∷ []) (out ++ reply_response reply true) last
unfolding Session
ends_last total left used b after xs out request reply sized so_far is shut =
    let x : Exchange = exchange b request reply in
    let there : StillThere b after request = still_there b after request is in
    let turn : Turn (Session left) (request.close || left == 0) request.route (slice_range (take request.stop b ++ after) request.start request.stop) (drop request.stop (take request.stop b ++ after)) (x ∷ []) (reply_response reply true) last = record {
      reply = reply;
      sized = sized;
      more = [];
      rest = [];
      exchanges = ap (λ (body : List ℕ). record { route = request.route; body = body; reply = reply } ∷ []) (sym there.body);
      written = sym (append-nil (reply_response reply true)) ∙ ap (λ (l : Bool). reply_response reply l ++ []) (sym shut);
      ends = λ _. (refl, refl, refl);
      goes_on = λ stays. absurd (let bad : true ≡ false = sym shut ∙ stays in cc);
    } in
    so_far (take request.stop b ++ after) (x ∷ []) (reply_response reply true) last (Asked request, there.there, turn)

pub ends_rejected : (total left : ℕ) (used b : List ℕ) (xs : List Exchange) (out : List ℕ) (rejection : Rejection)
    → Continues total (suc left) used xs out → IsRejected b rejection → Session total (used ++ b) xs (out ++ rejection_response rejection) rejected
unfolding Session
ends_rejected total left used b xs out rejection so_far is =
    subst (λ (ys : List Exchange). Session total (used ++ b) ys (out ++ rejection_response rejection) rejected) (append-nil xs)
    (so_far b [] (rejection_response rejection) rejected (Rejected rejection, is, (refl, refl, refl)))

pub ends_waiting : (total left : ℕ) (used b : List ℕ) (xs : List Exchange) (out : List ℕ)
    → Continues total (suc left) used xs out → FrontIs b Waiting → Session total (used ++ b) xs out (waits b)
unfolding Session
ends_waiting total left used b xs out so_far waiting =
    subst (λ (ys : List Exchange). Session total (used ++ b) ys out (waits b)) (append-nil xs)
    (subst (λ (o : List ℕ). Session total (used ++ b) (xs ++ []) o (waits b)) (append-nil out)
    (so_far b [] [] (waits b) (Waiting, waiting, (refl, refl, refl))))
