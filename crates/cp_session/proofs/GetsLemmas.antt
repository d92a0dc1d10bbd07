-- The bytes that a connection got tell the replies to it.
use Rattle.std.proofs.Common.{◌≡◌, ◌≢◌, ℕ, suc, zero, ◌<◌, ◌==◌, ◌||◌, Bool, true, false, List, [], ◌∷◌, ◌++◌, length, take, drop, map, refl, ap, sym, ◌∙◌, subst, arith, append_assoc, length-append, Some, Result}
use Rattle.std.specs.List.{AllByRecursion, slice_range}
use Rattle.std.proofs.lemmas.List.{append-nil, append_cancel_left, take-append-drop, length-drop}
use Rattle.cp_session.specs.declared.routes.Route.{Route}
use Rattle.cp_session.specs.declared.refusals.Refusal.{Refusal}
use Rattle.cp_session.specs.declared.rejections.Rejection.{Rejection}
use Rattle.cp_session.specs.declared.fronts.Front.{Front}
use Rattle.cp_session.specs.declared.fronts.Front.TheVariants.{Waiting, Rejected, Asked}
use Rattle.cp_session.specs.Replies.{IsSized}
use Rattle.cp_session.specs.Responses.{reply_response, rejection_response}
use Rattle.cp_session.specs.Sessions.{Exchange, Session, Goes, Turn, Ending, waits, last, rejected}
use Rattle.cp_session.specs.Endings.{IsLastResponse, responses_of}
use Rattle.cp_session.specs.Laws.{answer_of}
use Rattle.cp_session.specs.Gets.{Gets, whole, cut}
use Rattle.cp_session.proofs.ReplyLemmas.{IsSameReply, replies_same, reply_apart, reply_never_empty}

abbrev AreSized : List Exchange → Type 0
AreSized xs = AllByRecursion (λ x. IsSized x.reply) xs

-- no whole response that tells a reply stands at the front
abbrev TellsNone : List ℕ → Type 0
TellsNone out = (r : Result (List ℕ) Refusal) (k : Bool) (p : List ℕ) → IsSized r → out ≢ reply_response r k ++ p

-- these bytes tell the replies of these exchanges, and no further one
Tells : List Exchange → List ℕ → Type 0
Tells [] out = TellsNone out
Tells (x ∷ xs) out = (k : Bool) × (rest : List ℕ) × IsSized x.reply × (out ≡ reply_response x.reply k ++ rest) × Tells xs rest

tells_same : (xs ys : List Exchange) (out : List ℕ) → Tells xs out → Tells ys out → map answer_of xs ≡ map answer_of ys
unfolding Tells
tells_same [] [] out s t = refl
tells_same [] (y ∷ ys) out s t = absurd (s y.reply t.0 t.1 t.2 t.3)
tells_same (x ∷ xs) [] out s t = absurd (t x.reply s.0 s.1 s.2 s.3)
tells_same (x ∷ xs) (y ∷ ys) out s t =
    let is : IsSameReply x.reply y.reply s.1 t.1 = replies_same x.reply y.reply s.0 t.0 s.1 t.1 s.2 t.2 (sym s.3 ∙ t.3) in
    let more : map answer_of xs ≡ map answer_of ys = tells_same xs ys t.1 (subst (λ (rest : List ℕ). Tells xs rest) is.behind s.4) t.4 in
    ap (λ (r : Result (List ℕ) Refusal). r ∷ map answer_of xs) is.reply ∙ ap (λ (rs : List (Result (List ℕ) Refusal)). y.reply ∷ rs) more

nothing_tells : TellsNone []
nothing_tells r k p sized same = reply_never_empty r k p same

rejection_tells : (x : Rejection) → TellsNone (rejection_response x)
rejection_tells x r k p sized same = reply_apart r x k p [] sized (sym same ∙ sym (append-nil (rejection_response x)))

-- two sessions behind a request
abbrev TellsAll : (List ℕ → List Exchange → List ℕ → Ending → Type 0) → Type 0
TellsAll next = (bytes : List ℕ) (xs : List Exchange) (out : List ℕ) (end : Ending) → next bytes xs out end → AreSized xs → Tells xs out

none_tells : (xs : List Exchange) (out : List ℕ) → xs ≡ [] → TellsNone out → Tells xs out
unfolding Tells
none_tells xs out none is = subst (λ (ys : List Exchange). Tells ys out) (sym none) is

rest_tells : (next : List ℕ → List Exchange → List ℕ → Ending → Type 0) → TellsAll next → (final : Bool) (route : Route) (body after : List ℕ) (xs : List Exchange) (out : List ℕ) (end : Ending)
    → (t : Turn next final route body after xs out end) → AreSized t.more → Tells t.more t.rest
rest_tells next all true route body after xs out end t sized =
    let is = t.ends refl in none_tells t.more t.rest is.0 (subst (λ (o : List ℕ). TellsNone o) (sym is.1) nothing_tells)
rest_tells next all false route body after xs out end t sized = all after t.more t.rest end (t.goes_on refl) sized

turn_tells : (next : List ℕ → List Exchange → List ℕ → Ending → Type 0) → TellsAll next → (final : Bool) (route : Route) (body after : List ℕ) (xs : List Exchange) (out : List ℕ) (end : Ending)
    → Turn next final route body after xs out end → AreSized xs → Tells xs out
unfolding Tells
turn_tells next all final route body after xs out end t sized =
    let x : Exchange = record { route = route; body = body; reply = t.reply } in
    let both : AreSized (x ∷ t.more) = subst (λ (ys : List Exchange). AreSized ys) t.exchanges sized in
    subst (λ (ys : List Exchange). Tells ys out) (sym t.exchanges) (final, t.rest, both.0, t.written, rest_tells next all final route body after xs out end t both.1)

goes_tells : (next : List ℕ → List Exchange → List ℕ → Ending → Type 0) → TellsAll next → (final : Bool) (bytes : List ℕ) (f : Front) (xs : List Exchange) (out : List ℕ) (end : Ending)
    → Goes next final bytes f xs out end → AreSized xs → Tells xs out
goes_tells next all final bytes Waiting xs out end g sized = none_tells xs out g.0 (subst (λ (o : List ℕ). TellsNone o) (sym g.1) nothing_tells)
goes_tells next all final bytes (Rejected x) xs out end g sized = none_tells xs out g.0 (subst (λ (o : List ℕ). TellsNone o) (sym g.1) (rejection_tells x))
goes_tells next all final bytes (Asked r) xs out end g sized =
    turn_tells next all (r.close || final) r.route (slice_range bytes r.start r.stop) (drop r.stop bytes) xs out end g sized

session_tells : (n : ℕ) → TellsAll (Session n)
unfolding Session
session_tells zero bytes xs out end s sized = absurd s
session_tells (suc left) bytes xs out end s sized = goes_tells (Session left) (session_tells left) (left == 0) bytes s.0 xs out end s.2 sized

-- no response that tells a reply stands at the front of this one, but for itself
abbrev EndsThere : List ℕ → Type 0
EndsThere w = (r : Result (List ℕ) Refusal) (k : Bool) (p : List ℕ) → IsSized r → w ++ [] ≡ reply_response r k ++ p → [] ≡ p

part_tells : (w : List ℕ) (n : ℕ) → n < length w → EndsThere w → TellsNone (take n w)
part_tells w n short ends r k p sized same =
    let all : w ++ [] ≡ reply_response r k ++ (p ++ drop n w) =
    append-nil w ∙ sym (take-append-drop n w) ∙ ap (λ (t : List ℕ). t ++ drop n w) same ∙ append_assoc (reply_response r k) p (drop n w) in
    let none : 0 ≡ length (p ++ drop n w) = ap (λ (t : List ℕ). length t) (ends r k (p ++ drop n w) sized all) in
    omega (arith, none, length-append p (drop n w), length-drop n w, short)

-- a response that is the last of those written, and the exchanges before
record IsBehind (answered : List Exchange) (response : List ℕ) : Type 0 where
  pub ends : EndsThere response
  pub sized : AreSized answered

sized_front : (xs : List Exchange) (x : Exchange) → AreSized (xs ++ x ∷ []) → AreSized xs × IsSized x.reply
sized_front [] x h = (tt, h.0)
sized_front (y ∷ xs) x h = let more = sized_front xs x h.1 in ((h.0, more.0), more.1)

reply_behind : (answered all : List Exchange) (response : List ℕ) (x : Exchange) (final : Bool) → all ≡ answered ++ x ∷ [] → response ≡ reply_response x.reply final → AreSized all → IsBehind answered response
reply_behind answered all response x final split is sized =
    let both = sized_front answered x (subst (λ (xs : List Exchange). AreSized xs) split sized) in
    record {
      ends = λ r k p h same. (replies_same x.reply r final k [] p both.1 h (ap (λ (w : List ℕ). w ++ []) (sym is) ∙ same)).behind;
      sized = both.0;
    }

last_behind : (answered all : List Exchange) (response : List ℕ) (end : Ending) → IsLastResponse answered all response end → AreSized all → IsBehind answered response
last_behind answered all response (waits bytes) h sized = reply_behind answered all response h.0 false h.1 h.2 sized
last_behind answered all response last h sized = reply_behind answered all response h.0 true h.1 h.2 sized
last_behind answered all response rejected h sized = record {
  ends = λ r k p s same. absurd (reply_apart r h.1.0 k p [] s (sym same ∙ ap (λ (w : List ℕ). w ++ []) h.1.1));
  sized = subst (λ (xs : List Exchange). AreSized xs) h.0 sized;
}

cut_tells : (xs : List Exchange) (part : List ℕ) → AreSized xs → TellsNone part → Tells xs (responses_of xs ++ part)
unfolding Tells
cut_tells [] part sized none = none
cut_tells (x ∷ xs) part sized none =
    (false, responses_of xs ++ part, sized.0, append_assoc (reply_response x.reply false) (responses_of xs) part, cut_tells xs part sized.1 none)

-- the replies of a session have the machine's values
abbrev SizesAll : (List ℕ → List Exchange → List ℕ → Ending → Type 0) → Type 0
SizesAll next = (bytes : List ℕ) (xs : List Exchange) (out : List ℕ) (end : Ending) → next bytes xs out end → AreSized xs

none_sized : (xs : List Exchange) → xs ≡ [] → AreSized xs
none_sized xs none = subst (λ (ys : List Exchange). AreSized ys) (sym none) tt

rest_sized : (next : List ℕ → List Exchange → List ℕ → Ending → Type 0) → SizesAll next → (final : Bool) (route : Route) (body after : List ℕ) (xs : List Exchange) (out : List ℕ) (end : Ending)
    → (t : Turn next final route body after xs out end) → AreSized t.more
rest_sized next all true route body after xs out end t = none_sized t.more (t.ends refl).0
rest_sized next all false route body after xs out end t = all after t.more t.rest end (t.goes_on refl)

goes_sized : (next : List ℕ → List Exchange → List ℕ → Ending → Type 0) → SizesAll next → (final : Bool) (bytes : List ℕ) (f : Front) (xs : List Exchange) (out : List ℕ) (end : Ending)
    → Goes next final bytes f xs out end → AreSized xs
goes_sized next all final bytes Waiting xs out end g = none_sized xs g.0
goes_sized next all final bytes (Rejected x) xs out end g = none_sized xs g.0
goes_sized next all final bytes (Asked r) xs out end g =
    subst (λ (ys : List Exchange). AreSized ys) (sym g.exchanges)
    (g.sized, rest_sized next all (r.close || final) r.route (slice_range bytes r.start r.stop) (drop r.stop bytes) xs out end g)

session_sized : (n : ℕ) → SizesAll (Session n)
unfolding Session
session_sized zero bytes xs out end s = absurd s
session_sized (suc left) bytes xs out end s = goes_sized (Session left) (session_sized left) (left == 0) bytes s.0 xs out end s.2

-- what was got behind the bytes held before
record GotBehind (held got : List ℕ) (xs : List Exchange) : Type 0 where
  pub out : List ℕ
  pub is : got ≡ held ++ out
  pub tells : Tells xs out

got_behind : (held got : List ℕ) (xs : List Exchange) → Gets (Some held) (Some got) xs → GotBehind held got xs
got_behind held got xs (whole n bytes out end s appends) =
    record { out = out; is = appends; tells = session_tells n bytes xs out end s (session_sized n bytes xs out end s) }
got_behind held got xs (cut n bytes out all end s c is) =
    let behind : IsBehind c.answered c.response = last_behind c.answered all c.response end c.is_last (session_sized n bytes all out end s) in
    record {
      out = responses_of c.answered ++ take c.n c.response;
      is = c.written;
      tells = subst (λ (ys : List Exchange). Tells ys (responses_of c.answered ++ take c.n c.response)) (sym is)
          (cut_tells c.answered (take c.n c.response) behind.sized (part_tells c.response c.n c.short behind.ends));
    }

pub replies_fixed : (held got : List ℕ) (xs ys : List Exchange) → Gets (Some held) (Some got) xs → Gets (Some held) (Some got) ys → map answer_of xs ≡ map answer_of ys
replies_fixed held got xs ys s t =
    let one = got_behind held got xs s in
    let other = got_behind held got ys t in
    let same : other.out ≡ one.out = append_cancel_left held other.out one.out (sym other.is ∙ one.is) in
    tells_same xs ys one.out one.tells (subst (λ (out : List ℕ). Tells ys out) same other.tells)
