-- A session so far.
use Rattle.std.proofs.Common.{◌≡◌, ℕ, suc, zero, ◌+◌, ◌-◌, ◌<◌, ◌==◌, ◌||◌, Bool, true, false, List, [], ◌∷◌, ◌++◌, length, take, drop, refl, ap, sym, ◌∙◌, subst, inl, arith, append_assoc, length-append, Option, Result, Err}
use Rattle.std.specs.List.{slice_range}
use Rattle.std.specs.Io.KnownBytes.{Appends, Consumes}
use Rattle.std.proofs.KnownBytes.{Consumes-nil, Consumes-trans, Appends-nil, Appends-trans}
use Rattle.std.proofs.lemmas.Grind.{flat_map-append}
use Rattle.std.proofs.lemmas.List.{append-nil, take-append-drop, length-take-le}
use Rattle.cp_outside.specs.Causes.{AppendsPart}
use Rattle.cp_session.specs.declared.routes.Route.{Route}
use Rattle.cp_session.specs.declared.refusals.Refusal.{Refusal}
use Rattle.cp_session.specs.declared.rejections.Rejection.{Rejection}
use Rattle.cp_session.specs.declared.requests.Request.{Request}
use Rattle.cp_session.specs.declared.fronts.Front.TheVariants.{Waiting}
use Rattle.cp_session.specs.declared.session_ends.SessionEnd.{SessionEnd}
use Rattle.cp_session.specs.declared.session_ends.SessionEnd.TheVariants.{WriteFault, OutOfMemory}
use Rattle.cp_session.specs.Replies.{IsSized}
use Rattle.cp_session.specs.Responses.{reply_response, rejection_response}
use Rattle.cp_session.specs.Fronts.{FrontIs, IsRequest, IsRejected}
use Rattle.cp_session.specs.Sessions.{Exchange, Leads, Session, Ending, waits, last, rejected}
use Rattle.cp_session.specs.Traffic.{Grows}
use Rattle.cp_session.specs.Endings.{IsServed, Outcome, CutOff, IsLastResponse, responses_of}
use Rattle.cp_session.proofs.FrontLemmas.{window_empty}
use Rattle.cp_session.proofs.SessionLemmas.{Continues, exchange, starts, goes_on, ends_last, ends_rejected, ends_waiting}

leads_more : {D : Type 0} (Step : D → Route → List ℕ → Result (List ℕ) Refusal → D → Type 0) (old mid new : D) (xs : List Exchange) (x : Exchange)
    → Leads Step old xs mid → Step mid x.route x.body x.reply new → Leads Step old (xs ++ x ∷ []) new
leads_more {D} Step old mid new [] x so_far step = (new, subst (λ (d : D). Step d x.route x.body x.reply new) so_far step, refl)
leads_more Step old mid new (y ∷ ys) x so_far step = (so_far.0, so_far.1, leads_more Step so_far.0 mid new ys x so_far.2 step)

-- So many requests may still come, and the inbox holds these bytes; so many were used up.
pub record Talk {D : Type 0} (Step : D → Route → List ℕ → Result (List ℕ) Refusal → D → Type 0) (old new : D)
    (left_old left_new held_old held_new : Option (List ℕ)) (left taken : ℕ) (inbox : List ℕ) : Type 0 where
  pub used : List ℕ
  pub exchanges : List Exchange
  pub out : List ℕ
  pub consumed : Consumes left_old left_new (used ++ inbox)
  pub written : Appends held_old held_new out
  pub leads : Leads Step old exchanges new
  pub answers : out ≡ responses_of exchanges
  pub size : length used ≡ taken
  pub count : length exchanges + left ≡ 10000
  pub so_far : Continues 10000 left used exchanges out

-- the responses with one more
one_response_more : (xs : List Exchange) (x : Exchange) (out : List ℕ) → out ≡ responses_of xs → out ++ reply_response x.reply false ≡ responses_of (xs ++ x ∷ [])
one_response_more xs x out is =
    ap (λ (o : List ℕ). o ++ reply_response x.reply false) is
    ∙ sym (flat_map-append (λ (y : Exchange). reply_response y.reply false) xs (x ∷ []) ∙ ap (λ (o : List ℕ). responses_of xs ++ o) (append-nil (reply_response x.reply false)))

-- a part of the last response, behind those to these exchanges
cut_off : (a b c : Option (List ℕ)) (answered xs : List Exchange) (out response : List ℕ) (end : Ending) → Appends a b out → out ≡ responses_of answered → AppendsPart b c response
    → IsLastResponse answered xs response end → CutOff a c xs end
cut_off a b c answered xs out response end whole is part next = record {
  answered = answered;
  response = response;
  is_last = next;
  n = part.0;
  short = part.1;
  written = subst (λ (o : List ℕ). Appends a c (o ++ take part.0 response)) is (Appends-trans a b c out (take part.0 response) whole part.2);
}

pub left_some : (left : ℕ) (close : Bool) → (close || left == 0) ≡ false → 0 < left
left_some zero true e = absurd (cc)
left_some zero false e = absurd (cc)
left_some (suc n) close e = omega arith

nothing_waits : FrontIs [] Waiting
nothing_waits = inl (omega arith, λ k h. omega (arith, h.within, window_empty))

module _ {D : Type 0} (Step : D → Route → List ℕ → Result (List ℕ) Refusal → D → Type 0) (d0 d1 : D) (l0 l1 h0 h1 : Option (List ℕ)) where
  -- after a piece more
  pub heard : (left before taken : ℕ) (inbox more : List ℕ) (l2 h2 : Option (List ℕ)) → before ≡ suc left → Talk Step d0 d1 l0 l1 h0 h1 before taken inbox
      → Grows inbox more l1 l2 → h2 ≡ h1 → Talk Step d0 d1 l0 l2 h0 h2 (suc left) taken more
  heard left before taken inbox more l2 h2 is talk grows same = record {
    used = talk.used;
    exchanges = talk.exchanges;
    out = talk.out;
    consumed = subst (λ (b : List ℕ). Consumes l0 l2 b) (append_assoc talk.used inbox (drop (length inbox) more) ∙ ap (λ (b : List ℕ). talk.used ++ b) (sym grows.kept))
        (Consumes-trans l0 l1 l2 (talk.used ++ inbox) (drop (length inbox) more) talk.consumed grows.consumed);
    written = subst (λ (h : Option (List ℕ)). Appends h0 h talk.out) (sym same) talk.written;
    leads = talk.leads;
    answers = talk.answers;
    size = talk.size;
    count = ap (λ n. length talk.exchanges + n) (sym is) ∙ talk.count;
    so_far = subst (λ (n : ℕ). Continues 10000 n talk.used talk.exchanges talk.out) is talk.so_far;
  }

  -- nothing whole is left
  pub over_waiting : (left taken : ℕ) (inbox : List ℕ) (result : Result ℕ SessionEnd) → Talk Step d0 d1 l0 l1 h0 h1 (suc left) taken inbox → FrontIs inbox Waiting
      → ((xs : List Exchange) (read out : List ℕ) → length xs + suc left ≡ 10000 → length read ≡ taken + length inbox → Appends h0 h1 out → Outcome result l1 h0 h1 read xs out [] (waits inbox))
      → IsServed Step d0 d1 l0 l1 h0 h1 result
  over_waiting left taken inbox result talk waiting outcome = record {
    read = talk.used ++ inbox;
    used = talk.used ++ inbox;
    rest = [];
    exchanges = talk.exchanges;
    out = talk.out;
    end = waits inbox;
    consumed = talk.consumed;
    split = sym (append-nil (talk.used ++ inbox));
    session = ends_waiting 10000 left talk.used inbox talk.exchanges talk.out talk.so_far waiting;
    leads = talk.leads;
    outcome = outcome talk.exchanges (talk.used ++ inbox) talk.out talk.count (length-append talk.used inbox ∙ ap (λ n. n + length inbox) talk.size) talk.written;
  }

  -- the last response tells a rejection
  pub over_rejected : (left taken : ℕ) (inbox : List ℕ) (result : Result ℕ SessionEnd) (rejection : Rejection) (h2 l2 : Option (List ℕ)) → Talk Step d0 d1 l0 l1 h0 h1 (suc left) taken inbox → IsRejected inbox rejection → l2 ≡ l1
      → ((xs : List Exchange) (read out : List ℕ) → length xs + suc left ≡ 10000 → Appends h0 h1 out → out ≡ responses_of xs → Outcome result l2 h0 h2 read xs (out ++ rejection_response rejection) [] rejected)
      → IsServed Step d0 d1 l0 l2 h0 h2 result
  over_rejected left taken inbox result rejection h2 l2 talk is same outcome = record {
    read = talk.used ++ inbox;
    used = talk.used ++ inbox;
    rest = [];
    exchanges = talk.exchanges;
    out = talk.out ++ rejection_response rejection;
    end = rejected;
    consumed = subst (λ (l : Option (List ℕ)). Consumes l0 l (talk.used ++ inbox)) (sym same) talk.consumed;
    split = sym (append-nil (talk.used ++ inbox));
    session = ends_rejected 10000 left talk.used inbox talk.exchanges talk.out rejection talk.so_far is;
    leads = talk.leads;
    outcome = outcome talk.exchanges (talk.used ++ inbox) talk.out talk.count talk.written talk.answers;
  }

  -- one exchange more, and the session goes on
  pub answered : (left taken : ℕ) (inbox : List ℕ) (request : Request) (reply : Result (List ℕ) Refusal) (d2 : D) (l2 h2 : Option (List ℕ))
      → IsSized reply → Talk Step d0 d1 l0 l1 h0 h1 (suc left) taken inbox → IsRequest inbox request → (request.close || left == 0) ≡ false
      → Step d1 request.route (slice_range inbox request.start request.stop) reply d2 → l2 ≡ l1 → Appends h1 h2 (reply_response reply false)
      → Talk Step d0 d2 l0 l2 h0 h2 left (taken + request.stop) (drop request.stop inbox)
  answered left taken inbox request reply d2 l2 h2 sized talk is stays step same written =
      let x : Exchange = exchange inbox request reply in
      record {
        used = talk.used ++ take request.stop inbox;
        exchanges = talk.exchanges ++ x ∷ [];
        out = talk.out ++ reply_response reply false;
        consumed = subst (λ (b : List ℕ). Consumes l0 l2 b) (sym (append_assoc talk.used (take request.stop inbox) (drop request.stop inbox) ∙ ap (λ (b : List ℕ). talk.used ++ b) (take-append-drop request.stop inbox)))
            (subst (λ (l : Option (List ℕ)). Consumes l0 l (talk.used ++ inbox)) (sym same) talk.consumed);
        written = Appends-trans h0 h1 h2 talk.out (reply_response reply false) talk.written written;
        leads = leads_more Step d0 d1 d2 talk.exchanges x talk.leads step;
        answers = one_response_more talk.exchanges x talk.out talk.answers;
        size = length-append talk.used (take request.stop inbox) ∙ ap (λ n. n + length (take request.stop inbox)) talk.size ∙ ap (λ n. taken + n) (length-take-le request.stop inbox is.within);
        count = ap (λ n. n + left) (length-append talk.exchanges (x ∷ [])) ∙ omega (arith, talk.count);
        so_far = goes_on 10000 left talk.used inbox talk.exchanges talk.out request reply sized talk.so_far is stays;
      }

  -- the last exchange
  pub over_answered : (left taken : ℕ) (inbox : List ℕ) (request : Request) (reply : Result (List ℕ) Refusal) (d2 : D) (l2 h2 : Option (List ℕ)) (result : Result ℕ SessionEnd)
      → IsSized reply → Talk Step d0 d1 l0 l1 h0 h1 (suc left) taken inbox → IsRequest inbox request → (request.close || left == 0) ≡ true
      → Step d1 request.route (slice_range inbox request.start request.stop) reply d2 → l2 ≡ l1
      → ((xs : List Exchange) (x : Exchange) (read out : List ℕ) → x.reply ≡ reply → length (xs ++ x ∷ []) + left ≡ 10000 → Appends h0 h1 out → out ≡ responses_of xs
      → Outcome result l2 h0 h2 read (xs ++ x ∷ []) (out ++ reply_response reply true) [] last)
      → IsServed Step d0 d2 l0 l2 h0 h2 result
  over_answered left taken inbox request reply d2 l2 h2 result sized talk is shut step same outcome =
      let x : Exchange = exchange inbox request reply in
      record {
        read = talk.used ++ inbox;
        used = talk.used ++ inbox;
        rest = [];
        exchanges = talk.exchanges ++ x ∷ [];
        out = talk.out ++ reply_response reply true;
        end = last;
        consumed = subst (λ (l : Option (List ℕ)). Consumes l0 l (talk.used ++ inbox)) (sym same) talk.consumed;
        split = sym (append-nil (talk.used ++ inbox));
        session = subst (λ (b : List ℕ). Session 10000 (talk.used ++ b) (talk.exchanges ++ x ∷ []) (talk.out ++ reply_response reply true) last) (take-append-drop request.stop inbox)
            (ends_last 10000 left talk.used inbox (drop request.stop inbox) talk.exchanges talk.out request reply sized talk.so_far is shut);
        leads = leads_more Step d0 d1 d2 talk.exchanges x talk.leads step;
        outcome = outcome talk.exchanges x (talk.used ++ inbox) talk.out refl (ap (λ n. n + left) (length-append talk.exchanges (x ∷ [])) ∙ omega (arith, talk.count)) talk.written talk.answers;
      }

-- nothing was read or written
pub wanted : {D : Type 0} (Step : D → Route → List ℕ → Result (List ℕ) Refusal → D → Type 0) (d : D) (l h : Option (List ℕ)) → IsServed Step d d l l h h (Err OutOfMemory)
wanted Step d l h = record {
  read = [];
  used = [];
  rest = [];
  exchanges = [];
  out = [];
  end = waits [];
  consumed = Consumes-nil l;
  split = refl;
  session = ends_waiting 10000 9999 [] [] [] [] (starts 10000) nothing_waits;
  leads = refl;
  outcome = (refl, Appends-nil h);
}

pub fault_rejected : {D : Type 0} (Step : D → Route → List ℕ → Result (List ℕ) Refusal → D → Type 0) (d0 d1 : D) (l0 l1 h0 h1 : Option (List ℕ)) (left taken : ℕ) (inbox : List ℕ) (rejection : Rejection) (h2 l2 : Option (List ℕ))
    → Talk Step d0 d1 l0 l1 h0 h1 (suc left) taken inbox → IsRejected inbox rejection → l2 ≡ l1 → AppendsPart h1 h2 (rejection_response rejection) → IsServed Step d0 d1 l0 l2 h0 h2 (Err WriteFault)
fault_rejected Step d0 d1 l0 l1 h0 h1 left taken inbox rejection h2 l2 talk is same front =
    over_rejected Step d0 d1 l0 l1 h0 h1 left taken inbox (Err WriteFault) rejection h2 l2 talk is same (λ xs read out n w a. cut_off h0 h1 h2 xs xs out (rejection_response rejection) rejected w a front (refl, (rejection, refl)))

-- the session of the requests up to this one, whose response was written in part
pub fault_answered : {D : Type 0} (Step : D → Route → List ℕ → Result (List ℕ) Refusal → D → Type 0) (d0 d1 : D) (l0 l1 h0 h1 : Option (List ℕ)) (left taken : ℕ) (inbox : List ℕ) (request : Request) (final : Bool) (reply : Result (List ℕ) Refusal) (d2 : D) (l2 h2 : Option (List ℕ))
    → IsSized reply → Talk Step d0 d1 l0 l1 h0 h1 (suc left) taken inbox → IsRequest inbox request → final ≡ (request.close || left == 0)
    → Step d1 request.route (slice_range inbox request.start request.stop) reply d2 → l2 ≡ l1 → AppendsPart h1 h2 (reply_response reply final) → IsServed Step d0 d2 l0 l2 h0 h2 (Err WriteFault)
fault_answered Step d0 d1 l0 l1 h0 h1 left taken inbox request true reply d2 l2 h2 sized talk is final_is step same front =
    over_answered Step d0 d1 l0 l1 h0 h1 left taken inbox request reply d2 l2 h2 (Err WriteFault) sized talk is (sym final_is) step same
    (λ xs x read out of n w a. cut_off h0 h1 h2 xs (xs ++ x ∷ []) out (reply_response reply true) last w a front (x, refl, ap (λ (r : Result (List ℕ) Refusal). reply_response r true) (sym of)))
fault_answered Step d0 d1 l0 l1 h0 h1 left taken inbox request false reply d2 l2 h2 sized talk is final_is step same front =
    let x : Exchange = exchange inbox request reply in
    let some : 0 < left = left_some left request.close (sym final_is) in
    let later : Continues 10000 left (talk.used ++ take request.stop inbox) (talk.exchanges ++ x ∷ []) (talk.out ++ reply_response reply false) = goes_on 10000 left talk.used inbox talk.exchanges talk.out request reply sized talk.so_far is (sym final_is) in
    record {
      read = talk.used ++ inbox;
      used = talk.used ++ take request.stop inbox;
      rest = drop request.stop inbox;
      exchanges = talk.exchanges ++ x ∷ [];
      out = talk.out ++ reply_response reply false;
      end = waits [];
      consumed = subst (λ (l : Option (List ℕ)). Consumes l0 l (talk.used ++ inbox)) (sym same) talk.consumed;
      split = sym (append_assoc talk.used (take request.stop inbox) (drop request.stop inbox) ∙ ap (λ (b : List ℕ). talk.used ++ b) (take-append-drop request.stop inbox));
      session = subst (λ (u : List ℕ). Session 10000 u (talk.exchanges ++ x ∷ []) (talk.out ++ reply_response reply false) (waits [])) (append-nil (talk.used ++ take request.stop inbox))
          (ends_waiting 10000 (left - 1) (talk.used ++ take request.stop inbox) [] (talk.exchanges ++ x ∷ []) (talk.out ++ reply_response reply false)
          (subst (λ (n : ℕ). Continues 10000 n (talk.used ++ take request.stop inbox) (talk.exchanges ++ x ∷ []) (talk.out ++ reply_response reply false)) (omega arith) later) nothing_waits);
      leads = leads_more Step d0 d1 d2 talk.exchanges x talk.leads step;
      outcome = cut_off h0 h1 h2 talk.exchanges (talk.exchanges ++ x ∷ []) talk.out (reply_response reply false) (waits []) talk.written talk.answers front (x, refl, refl);
    }

pub talk_starts : {D : Type 0} (Step : D → Route → List ℕ → Result (List ℕ) Refusal → D → Type 0) (d : D) (l h : Option (List ℕ)) → Talk Step d d l l h h 10000 0 []
talk_starts Step d l h = record {
  used = [];
  exchanges = [];
  out = [];
  consumed = Consumes-nil l;
  written = Appends-nil h;
  leads = refl;
  answers = refl;
  size = refl;
  count = refl;
  so_far = starts 10000;
}
