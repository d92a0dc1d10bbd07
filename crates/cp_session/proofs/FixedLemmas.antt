-- The bytes fix what stands at the front, and so the session.
use Rattle.std.proofs.Common.{◌≡◌, ◌≢◌, ℕ, suc, zero, ◌+◌, ◌==◌, ◌||◌, Bool, true, false, if◌then◌else◌, List, ◌∷◌, ◌++◌, take, drop, map, refl, ap, sym, ◌∙◌, subst, arith, inl, inr, Option, IsSome, Result, Ok, Err}
use Rattle.std.specs.List.{slice_range}
use Rattle.std.proofs.lemmas.Bool.{cases_order}
use Rattle.cp_http.proofs.HeadLemmas.{one_content}
use Rattle.cp_http.specs.Heads.{HeadContent, HasNoBreak, EndsAfter, window, HoldsHead, HoldsNoHead, HasHead, HasBadHead, IsPartial, IsTooLong}
use Rattle.cp_session.specs.declared.routes.Route.{Route}
use Rattle.cp_session.specs.declared.refusals.Refusal.{Refusal}
use Rattle.cp_session.specs.declared.rejections.Rejection.{Rejection}
use Rattle.cp_session.specs.declared.rejections.Rejection.TheVariants.{BadHead, HeadTooLong, NoRoute, MethodNotAllowed, NoLength, BodyTooLong}
use Rattle.cp_session.specs.declared.requests.Request.{Request}
use Rattle.cp_session.specs.declared.fronts.Front.{Front}
use Rattle.cp_session.specs.declared.fronts.Front.TheVariants.{Waiting, Rejected, Asked}
use Rattle.cp_session.specs.Routes.{IsRoute, takes_body, method_of, allow_of}
use Rattle.cp_http.specs.declared.allows.Allow.{Allow}
use Rattle.cp_session.specs.Fronts.{body_length, GivesLength, AsksFor, HasOtherMethod, LacksLength, HasLongBody, IsRejectedHead, IsChecked, HasRejectedHead, IsRejected, HasHeadOf, IsRequest, FrontIs}
use Rattle.cp_session.specs.Responses.{reply_response}
use Rattle.cp_session.specs.Sessions.{Exchange, Session, Goes, Turn, Ending}
use Rattle.cp_session.specs.Laws.{question_of, answer_of, IsSameSession}
use Rattle.cp_session.proofs.RouteLemmas.{one_route}

one_end : (b : List ℕ) (n m : ℕ) → EndsAfter b n → EndsAfter b m → n ≡ m
one_end b n m h k = elim (cases_order h.start k.start) [
  | inl same ↦ h.after ∙ ap (λ s. s + 4) same ∙ sym k.after
  | inr more ↦ elim more [ inl before ↦ absurd (k.earliest h.start before h.here) | inr after ↦ absurd (h.earliest k.start after k.here) ]
]

no_end : (b : List ℕ) (n : ℕ) → EndsAfter b n → ¬ HasNoBreak b
no_end b n h none = none h.start h.here

-- the head at the front, and what it says
pub record SameHead (n m : ℕ) (c d : HeadContent) : Type 0 where
  pub ends : n ≡ m
  pub contents : c ≡ d

one_head : (b : List ℕ) (n m : ℕ) (c d : HeadContent) → HasHead b n c → HasHead b m d → SameHead n m c d
one_head b n m c d h k =
    let ends : n ≡ m = one_end (window b) n m h.0 k.0 in
    record { ends = ends; contents = one_content (take m (window b)) c d (subst (λ (i : ℕ). HoldsHead (take i (window b)) c) ends h.1) k.1 }

not_both : (b : List ℕ) (n : ℕ) (c : HeadContent) → HasHead b n c → ¬ HasBadHead b
not_both b n c h bad =
    let same : bad.0 ≡ n = one_end (window b) bad.0 n bad.1 h.0 in
    (subst (λ (i : ℕ). HoldsNoHead (take i (window b))) same bad.2).never h.1.0 h.1.1

-- a route's method and allowance
no_method : (c : HeadContent) (r s : Route) → HasOtherMethod c r → IsRoute c.path s → c.method ≢ method_of s
no_method c r s h k same = h.method (same ∙ ap method_of (one_route c.path s r k h.path))

not_checked : (c : HeadContent) (r : Route) (x : Rejection) → AsksFor c r → ¬ IsRejectedHead c x
not_checked c r NoRoute h k = k.never r h.path
not_checked c r (MethodNotAllowed a) h k = no_method c k.0 r k.1 h.path h.method
not_checked c r NoLength h k =
    let lacks = subst (λ (s : Route). LacksLength c s) (one_route c.path k.0 r k.1.path h.path) k.1 in
    let some : false ≡ true = subst (λ (n : Option ℕ). IsSome n) lacks.none (h.length lacks.takes) in cc
not_checked c r BodyTooLong h k = omega (arith, h.body, k.1.over)
not_checked c r BadHead h k = k
not_checked c r HeadTooLong h k = k

-- a POST lacks its length, and another request has it
lacks_both : (c : HeadContent) (r s : Route) → LacksLength c r → ¬ HasLongBody c s
lacks_both c r s h k = let some : false ≡ true = subst (λ (n : Option ℕ). IsSome n) h.none (subst (λ (t : Route). GivesLength c t) (one_route c.path s r k.path h.path) k.length h.takes) in cc

one_rejection : (c : HeadContent) (x y : Rejection) → IsRejectedHead c x → IsRejectedHead c y → x ≡ y
one_rejection c BadHead y h k = absurd h
one_rejection c HeadTooLong y h k = absurd h
one_rejection c NoRoute BadHead h k = absurd k
one_rejection c NoRoute HeadTooLong h k = absurd k
one_rejection c NoRoute NoRoute h k = refl
one_rejection c NoRoute (MethodNotAllowed a) h k = absurd (h.never k.0 k.1.path)
one_rejection c NoRoute NoLength h k = absurd (h.never k.0 k.1.path)
one_rejection c NoRoute BodyTooLong h k = absurd (h.never k.0 k.1.path)
one_rejection c (MethodNotAllowed a) BadHead h k = absurd k
one_rejection c (MethodNotAllowed a) HeadTooLong h k = absurd k
one_rejection c (MethodNotAllowed a) NoRoute h k = absurd (k.never h.0 h.1.path)
one_rejection c (MethodNotAllowed a) (MethodNotAllowed b) h k = ap (λ (x : Allow). MethodNotAllowed x) (h.2 ∙ ap allow_of (one_route c.path h.0 k.0 h.1.path k.1.path) ∙ sym k.2)
one_rejection c (MethodNotAllowed a) NoLength h k = absurd (no_method c h.0 k.0 h.1 k.1.path k.1.method)
one_rejection c (MethodNotAllowed a) BodyTooLong h k = absurd (no_method c h.0 k.0 h.1 k.1.path k.1.method)
one_rejection c NoLength BadHead h k = absurd k
one_rejection c NoLength HeadTooLong h k = absurd k
one_rejection c NoLength NoRoute h k = absurd (k.never h.0 h.1.path)
one_rejection c NoLength (MethodNotAllowed a) h k = absurd (no_method c k.0 h.0 k.1 h.1.path h.1.method)
one_rejection c NoLength NoLength h k = refl
one_rejection c NoLength BodyTooLong h k = absurd (lacks_both c h.0 k.0 h.1 k.1)
one_rejection c BodyTooLong BadHead h k = absurd k
one_rejection c BodyTooLong HeadTooLong h k = absurd k
one_rejection c BodyTooLong NoRoute h k = absurd (k.never h.0 h.1.path)
one_rejection c BodyTooLong (MethodNotAllowed a) h k = absurd (no_method c k.0 h.0 k.1 h.1.path h.1.method)
one_rejection c BodyTooLong NoLength h k = absurd (lacks_both c k.0 h.0 k.1 h.1)
one_rejection c BodyTooLong BodyTooLong h k = refl

-- what a head comes to, which is one thing
one_check : (c : HeadContent) (x y : Result Route Rejection) → IsChecked c x → IsChecked c y → x ≡ y
one_check c (Ok r) (Ok s) h k = ap (λ (x : Route). Ok x) (one_route c.path r s h.path k.path)
one_check c (Ok r) (Err x) h k = absurd (not_checked c r x h k)
one_check c (Err x) (Ok r) h k = absurd (not_checked c r x k h)
one_check c (Err x) (Err y) h k = ap (λ (r : Rejection). Err r) (one_rejection c x y h k)

-- what is rejected, by the reason
pub data Reason (b : List ℕ) (x : Rejection) : Type 0 where
  too_long : x ≡ HeadTooLong → IsTooLong b → Reason b x
  bad : x ≡ BadHead → HasBadHead b → Reason b x
  by_head : HasRejectedHead b x → Reason b x

reason_of : (b : List ℕ) (x : Rejection) → IsRejected b x → Reason b x
reason_of b BadHead h = bad refl h
reason_of b HeadTooLong h = too_long refl h
reason_of b NoRoute h = by_head h
reason_of b (MethodNotAllowed a) h = by_head h
reason_of b NoLength h = by_head h
reason_of b BodyTooLong h = by_head h

no_break_head : (b : List ℕ) (n : ℕ) (c : HeadContent) → HasNoBreak (window b) → ¬ HasHead b n c
no_break_head b n c none h = no_end (window b) n h.0 none

no_break_bad : (b : List ℕ) → HasNoBreak (window b) → ¬ HasBadHead b
no_break_bad b none h = no_end (window b) h.0 h.1 none

head_checked : (b : List ℕ) (x : Rejection) (r : Request) → HasRejectedHead b x → ¬ HasHeadOf b r
head_checked b x r h k =
    let same = one_head b h.end k.end h.content k.content h.head k.head in
    not_checked k.content r.route x k.asks (subst (λ (c : HeadContent). IsRejectedHead c x) same.contents h.rejected)

one_rejected_head : (b : List ℕ) (x y : Rejection) → HasRejectedHead b x → HasRejectedHead b y → x ≡ y
one_rejected_head b x y h k =
    let same = one_head b h.end k.end h.content k.content h.head k.head in
    one_rejection k.content x y (subst (λ (c : HeadContent). IsRejectedHead c x) same.contents h.rejected) k.rejected

one_reason : (b : List ℕ) (x y : Rejection) → Reason b x → Reason b y → x ≡ y
one_reason b x y (too_long e h) (too_long f k) = e ∙ sym f
one_reason b x y (too_long e h) (bad f k) = absurd (no_break_bad b h.1 k)
one_reason b x y (too_long e h) (by_head k) = absurd (no_break_head b k.end k.content h.1 k.head)
one_reason b x y (bad e h) (too_long f k) = absurd (no_break_bad b k.1 h)
one_reason b x y (bad e h) (bad f k) = e ∙ sym f
one_reason b x y (bad e h) (by_head k) = absurd (not_both b k.end k.content k.head h)
one_reason b x y (by_head h) (too_long f k) = absurd (no_break_head b h.end h.content k.1 h.head)
one_reason b x y (by_head h) (bad f k) = absurd (not_both b h.end h.content h.head k)
one_reason b x y (by_head h) (by_head k) = one_rejected_head b x y h k

no_request : (b : List ℕ) (x : Rejection) (r : Request) → Reason b x → ¬ HasHeadOf b r
no_request b x r (too_long e h) k = no_break_head b k.end k.content h.1 k.head
no_request b x r (bad e h) k = not_both b k.end k.content k.head h
no_request b x r (by_head h) k = head_checked b x r h k

not_partial : (b : List ℕ) (x : Rejection) → Reason b x → ¬ IsPartial b
not_partial b x (too_long e h) p = omega (arith, h.0, p.0)
not_partial b x (bad e h) p = no_break_bad b p.1 h
not_partial b x (by_head h) p = no_break_head b h.end h.content p.1 h.head

starts_same : (takes : Bool) (n m stop other : ℕ) → n ≡ m → stop ≡ other → (if takes then n else stop) ≡ (if takes then m else other)
starts_same true n m stop other e f = e
starts_same false n m stop other e f = f

abbrev request_at : Route → ℕ → ℕ → Bool → Request
request_at route start stop close = record { route = route; start = start; stop = stop; close = close }

one_request : (b : List ℕ) (r s : Request) → HasHeadOf b r → HasHeadOf b s → r ≡ s
one_request b r s h k =
    let same = one_head b h.end k.end h.content k.content h.head k.head in
    let route : r.route ≡ s.route = one_route k.content.path r.route s.route (subst (λ (c : HeadContent). IsRoute c.path r.route) same.contents h.asks.path) k.asks.path in
    let stop : r.stop ≡ s.stop = h.stop_is ∙ ap (λ n. n + body_length h.content) same.ends ∙ ap (λ (c : HeadContent). k.end + body_length c) same.contents ∙ sym k.stop_is in
    let start : r.start ≡ s.start = h.start_is ∙ starts_same (takes_body r.route) h.end k.end r.stop s.stop same.ends stop
    ∙ ap (λ (t : Route). if takes_body t then k.end else s.stop) route ∙ sym k.start_is in
    let close : r.close ≡ s.close = h.close_is ∙ ap (λ (c : HeadContent). c.close) same.contents ∙ sym k.close_is in
    ap (λ t. request_at t r.start r.stop r.close) route
    ∙ ap (λ n. request_at s.route n r.stop r.close) start
    ∙ ap (λ n. request_at s.route s.start n r.close) stop
    ∙ ap (λ t. request_at s.route s.start s.stop t) close

no_wait_request : (b : List ℕ) (r : Request) → FrontIs b Waiting → ¬ IsRequest b r
no_wait_request b r (inl partial) k = no_break_head b k.head.end k.head.content partial.1 k.head.head
no_wait_request b r (inr unfinished) k =
    let same : unfinished.request.stop ≡ r.stop = ap (λ (t : Request). t.stop) (one_request b unfinished.request r unfinished.head k.head) in
    omega (arith, same, unfinished.short, k.within)

no_wait_rejected : (b : List ℕ) (x : Rejection) → FrontIs b Waiting → ¬ Reason b x
no_wait_rejected b x (inl partial) k = not_partial b x k partial
no_wait_rejected b x (inr unfinished) k = no_request b x unfinished.request k unfinished.head

-- one thing stands at the front
pub one_front : (b : List ℕ) (f g : Front) → FrontIs b f → FrontIs b g → f ≡ g
one_front b Waiting Waiting h k = refl
one_front b Waiting (Rejected y) h k = absurd (no_wait_rejected b y h (reason_of b y k))
one_front b Waiting (Asked s) h k = absurd (no_wait_request b s h k)
one_front b (Rejected x) Waiting h k = absurd (no_wait_rejected b x k (reason_of b x h))
one_front b (Rejected x) (Rejected y) h k = ap (λ (r : Rejection). Rejected r) (one_reason b x y (reason_of b x h) (reason_of b y k))
one_front b (Rejected x) (Asked s) h k = absurd (no_request b x s (reason_of b x h) k.head)
one_front b (Asked r) Waiting h k = absurd (no_wait_request b r k h)
one_front b (Asked r) (Rejected y) h k = absurd (no_request b y r (reason_of b y k) h.head)
one_front b (Asked r) (Asked s) h k = ap (λ (t : Request). Asked t) (one_request b r s h.head k.head)

-- two sessions behind one request
abbrev pub Fixes : (List ℕ → List Exchange → List ℕ → Ending → Type 0) → List ℕ → Type 0
Fixes next after = (xs ys : List Exchange) (out other : List ℕ) (end stop : Ending) → next after xs out end → next after ys other stop → IsSameSession xs ys out other end stop

-- the rests of two sessions are the same
rests_same : (next : List ℕ → List Exchange → List ℕ → Ending → Type 0) (final : Bool) (route : Route) (body after : List ℕ) → Fixes next after
    → (xs ys : List Exchange) (out other : List ℕ) (end stop : Ending) (s : Turn next final route body after xs out end) (t : Turn next final route body after ys other stop)
    → IsSameSession s.more t.more s.rest t.rest end stop
rests_same next true route body after fixes xs ys out other end stop s t =
    let a = s.ends refl in
    let b = t.ends refl in
    record { questions = ap (map question_of) (a.0 ∙ sym b.0); ending = a.2 ∙ sym b.2; written = λ _. a.1 ∙ sym b.1 }
rests_same next false route body after fixes xs ys out other end stop s t = fixes s.more t.more s.rest t.rest end stop (s.goes_on refl) (t.goes_on refl)

turns_same : (next : List ℕ → List Exchange → List ℕ → Ending → Type 0) (final : Bool) (route : Route) (body after : List ℕ) → Fixes next after
    → (xs ys : List Exchange) (out other : List ℕ) (end stop : Ending) (s : Turn next final route body after xs out end) (t : Turn next final route body after ys other stop)
    → IsSameSession xs ys out other end stop
turns_same next final route body after fixes xs ys out other end stop s t =
    let rests = rests_same next final route body after fixes xs ys out other end stop s t in
    record {
      questions = ap (map question_of) s.exchanges ∙ ap (λ (qs : List (Route × List ℕ)). (route, body) ∷ qs) rests.questions ∙ sym (ap (map question_of) t.exchanges);
      ending = rests.ending;
      written = λ answers.
          let both : s.reply ∷ map answer_of s.more ≡ t.reply ∷ map answer_of t.more = sym (ap (map answer_of) s.exchanges) ∙ answers ∙ ap (map answer_of) t.exchanges in
          let reply : s.reply ≡ t.reply = cc in
          let more : map answer_of s.more ≡ map answer_of t.more = cc in
          s.written ∙ ap (λ (r : Result (List ℕ) Refusal). reply_response r final ++ s.rest) reply ∙ ap (λ (rest : List ℕ). reply_response t.reply final ++ rest) (rests.written more) ∙ sym t.written;
    }

goes_same : (next : List ℕ → List Exchange → List ℕ → Ending → Type 0) (final : Bool) (b : List ℕ) (f : Front) → ((after : List ℕ) → Fixes next after)
    → (xs ys : List Exchange) (out other : List ℕ) (end stop : Ending) → Goes next final b f xs out end → Goes next final b f ys other stop → IsSameSession xs ys out other end stop
goes_same next final b Waiting fixes xs ys out other end stop s t =
    record { questions = ap (map question_of) (s.0 ∙ sym t.0); ending = s.2 ∙ sym t.2; written = λ _. s.1 ∙ sym t.1 }
goes_same next final b (Rejected x) fixes xs ys out other end stop s t =
    record { questions = ap (map question_of) (s.0 ∙ sym t.0); ending = s.2 ∙ sym t.2; written = λ _. s.1 ∙ sym t.1 }
goes_same next final b (Asked r) fixes xs ys out other end stop s t =
    turns_same next (r.close || final) r.route (slice_range b r.start r.stop) (drop r.stop b) (fixes (drop r.stop b)) xs ys out other end stop s t

pub session_same : (n : ℕ) (b : List ℕ) → Fixes (Session n) b
unfolding Session
session_same zero b xs ys out other end stop s t = absurd s
session_same (suc left) b xs ys out other end stop s t =
    goes_same (Session left) (left == 0) b s.0 (λ after. session_same left after) xs ys out other end stop s.2
    (subst (λ (f : Front). Goes (Session left) (left == 0) b f ys other stop) (sym (one_front b s.0 t.0 s.1 t.1)) t.2)
