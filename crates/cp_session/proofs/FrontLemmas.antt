-- What stands at the front stands there still, whatever comes behind it.
use Rattle.std.proofs.Common.{◌≡◌, ℕ, ◌+◌, ◌-◌, ◌<◌, ◌≤◌, Bool, true, false, if◌then◌else◌, List, [], ◌++◌, length, take, drop, get_or, ap, sym, ◌∙◌, subst, arith, length-append, inl, inr}
use Rattle.std.specs.List.{slice_index, slice_range}
use Rattle.std.proofs.lemmas.List.{get_or-take, take-append-le, drop-append-le, take-take, length-take, length-take-le, length-drop, same_lists, places}
use Rattle.std.proofs.Math.Seq.{drop-append_seam}
use Rattle.cp_http.specs.Heads.{HeadContent, IsBreak, HasNoBreak, NoBreakBelow, EndsAfter, head_limit, window, HoldsHead, HoldsNoHead, HasHead, HasBadHead}
use Rattle.cp_http.proofs.HeadLemmas.{limit_is}
use Rattle.cp_session.specs.declared.rejections.Rejection.{Rejection}
use Rattle.cp_session.specs.declared.rejections.Rejection.TheVariants.{BadHead, HeadTooLong, NoRoute, MethodNotAllowed, NoLength, BodyTooLong}
use Rattle.cp_session.specs.declared.requests.Request.{Request}
use Rattle.cp_session.specs.declared.fronts.Front.TheVariants.{Waiting}
use Rattle.cp_session.specs.Routes.{takes_body}
use Rattle.cp_session.specs.Fronts.{HasHeadOf, IsRequest, FrontIs, IsRejected, IsRejectedHead}

pub break_same : (a b : List ℕ) (n k : ℕ) → k + 4 ≤ n → n ≤ length b → take n a ≡ take n b → IsBreak a k → IsBreak b k
break_same a b n k fits within same h =
    let at : (i : ℕ) → i < n → slice_index b i ≡ slice_index a i = λ i lt. sym (get_or-take n b i 0 lt) ∙ ap (λ (xs : List ℕ). get_or xs i 0) (sym same) ∙ get_or-take n a i 0 lt in
    record {
      within = omega arith;
      first = at k (omega arith) ∙ h.first;
      second = at (k + 1) (omega arith) ∙ h.second;
      third = at (k + 2) (omega arith) ∙ h.third;
      fourth = at (k + 3) (omega arith) ∙ h.fourth;
    }

ends_same : (a b : List ℕ) (n : ℕ) → n ≤ length a → n ≤ length b → take n a ≡ take n b → EndsAfter a n → EndsAfter b n
ends_same a b n within_a within_b same h = record {
  start = h.start;
  here = break_same a b n h.start (omega (arith, h.after)) within_b same h.here;
  earliest = λ k lt other. h.earliest k lt (break_same b a n k (omega (arith, h.after, lt)) within_a (sym same) other);
  after = h.after;
}

-- the window's front is the bytes' front
pub front_of_window : (b : List ℕ) (n : ℕ) → n ≤ head_limit → take n (window b) ≡ take n b
unfolding window
front_of_window b n fits = take-take n head_limit b fits

window_short : (b : List ℕ) → length (window b) ≤ head_limit
unfolding window
window_short b = omega (arith, length-take head_limit b)

pub window_empty : length (window []) ≡ 0
unfolding window
window_empty = omega (arith, length-take {A = ℕ} head_limit [])

window_holds : (b : List ℕ) (n : ℕ) → n ≤ head_limit → n ≤ length b → n ≤ length (window b)
unfolding window
window_holds b n fits within = omega (arith, length-take head_limit b)

window_within : (b : List ℕ) → length (window b) ≤ length b
unfolding window
window_within b = omega (arith, length-take head_limit b)

end_within : (b : List ℕ) (n : ℕ) → EndsAfter (window b) n → n ≤ length (window b)
end_within b n ends = omega (arith, ends.after, ends.here.within)

-- a head is short, lies within the bytes and has its four last bytes
pub end_small : (b : List ℕ) (n : ℕ) → EndsAfter (window b) n → n ≤ 16384
end_small b n ends = omega (arith, end_within b n ends, window_short b, limit_is)

pub end_holds : (b : List ℕ) (n : ℕ) → EndsAfter (window b) n → n ≤ length b
end_holds b n ends = omega (arith, end_within b n ends, window_within b)

pub end_some : (b : List ℕ) (n : ℕ) → EndsAfter (window b) n → 4 ≤ n
end_some b n ends = omega (arith, ends.after)

pub end_front : (b : List ℕ) (n : ℕ) → EndsAfter (window b) n → take n b ≡ take n (window b)
end_front b n ends = sym (front_of_window b n (omega (arith, end_within b n ends, window_short b)))

pub head_is : (b : List ℕ) (n : ℕ) (content : HeadContent) → EndsAfter (window b) n → HoldsHead (take n b) content → HasHead b n content
head_is b n content ends holds = (ends, subst (λ (t : List ℕ). HoldsHead t content) (end_front b n ends) holds)

pub bad_is : (b : List ℕ) (n : ℕ) → EndsAfter (window b) n → HoldsNoHead (take n b) → HasBadHead b
bad_is b n ends holds = (n, ends, subst (λ (t : List ℕ). HoldsNoHead t) (end_front b n ends) holds)

pub rejected_is : (b : List ℕ) (n : ℕ) (content : HeadContent) (rejection : Rejection) → HasHead b n content → IsRejectedHead content rejection → IsRejected b rejection
rejected_is b n content (MethodNotAllowed a) h r = record { end = n; content = content; head = h; rejected = r }
rejected_is b n content NoRoute h r = record { end = n; content = content; head = h; rejected = r }
rejected_is b n content NoLength h r = record { end = n; content = content; head = h; rejected = r }
rejected_is b n content BodyTooLong h r = record { end = n; content = content; head = h; rejected = r }
rejected_is b n content BadHead h r = absurd r
rejected_is b n content HeadTooLong h r = absurd r

pub head_small : (b : List ℕ) (n : ℕ) (content : HeadContent) → HasHead b n content → n ≤ 16384
head_small b n content h = end_small b n h.0

pub ruleset heads = (head_small, rejected_is)

-- the longest request
pub request_small : (b : List ℕ) (request : Request) → HasHeadOf b request → request.stop ≤ 147456
request_small b request h = omega (arith, h.stop_is, h.asks.body, head_small b h.end h.content h.head)

pub waiting_short : (b : List ℕ) → FrontIs b Waiting → length b < 147456
waiting_short b (inl partial) = omega (arith, partial.0)
waiting_short b (inr unfinished) = omega (arith, unfinished.short, request_small b unfinished.request unfinished.head)

-- where more bytes come, none of the old places but the last three can begin an end
pub none_below : (old new : List ℕ) → length old < 16384 → new ≡ old ++ drop (length old) new → HasNoBreak (window old) → NoBreakBelow (window new) (length old - 3)
none_below old new short grown none k lt h =
    let fits : length old ≤ head_limit = omega (arith, limit_is) in
    let longer : length old ≤ length new = omega (arith, ap length grown, length-append old (drop (length old) new)) in
    let same : take (length old) (window new) ≡ take (length old) (window old) =
    front_of_window new (length old) fits ∙ ap (λ (xs : List ℕ). take (length old) xs) grown ∙ take-append-le (length old) old (drop (length old) new) (omega arith) ∙ sym (front_of_window old (length old) fits) in
    none k (break_same (window new) (window old) (length old) k (omega arith) (window_holds old (length old) fits (omega arith)) same h)

pub below_within : (old new : List ℕ) → length old < 16384 → new ≡ old ++ drop (length old) new → length old - 3 ≤ length (window new)
below_within old new short grown =
    let longer : length old ≤ length new = omega (arith, ap length grown, length-append old (drop (length old) new)) in
    omega (arith, window_holds new (length old) (omega (arith, limit_is)) longer)

head_same : (a b : List ℕ) (n : ℕ) (content : HeadContent) → n ≤ length b → take n a ≡ take n b → HasHead a n content → HasHead b n content
head_same a b n content within same h =
    let in_a : n ≤ length (window a) = end_within a n h.0 in
    let small : n ≤ head_limit = omega (arith, in_a, window_short a) in
    let fronts : take n (window a) ≡ take n (window b) = front_of_window a n small ∙ same ∙ sym (front_of_window b n small) in
    (ends_same (window a) (window b) n in_a (window_holds b n small within) fronts h.0, subst (λ (t : List ℕ). HoldsHead t content) fronts h.1)

-- a head stands there still where bytes come behind it
pub head_stays : (a b : List ℕ) (request : Request) → b ≡ a ++ drop (length a) b → HasHeadOf a request → HasHeadOf b request
head_stays a b request grown h =
    let within : h.end ≤ length a = end_holds a h.end h.head.0 in
    let longer : length a ≤ length b = omega (arith, ap length grown, length-append a (drop (length a) b)) in
    let same : take h.end a ≡ take h.end b = sym (ap (λ (xs : List ℕ). take h.end xs) grown ∙ take-append-le h.end a (drop (length a) b) within) in
    record {
      end = h.end;
      content = h.content;
      head = head_same a b h.end h.content (omega arith) same h.head;
      asks = h.asks;
      stop_is = h.stop_is;
      start_is = h.start_is;
      close_is = h.close_is;
    }

pub whole_is : (a b : List ℕ) (request : Request) → HasHeadOf a request → b ≡ a ++ drop (length a) b → request.stop ≤ length b → IsRequest b request
whole_is a b request h grown within = record { head = head_stays a b request grown h; within = within }

pub unfinished_is : (a b : List ℕ) (request : Request) → HasHeadOf a request → b ≡ a ++ drop (length a) b → length b < request.stop → FrontIs b Waiting
unfinished_is a b request h grown short = inr (record { request = request; head = head_stays a b request grown h; short = short })

start_within : (takes : Bool) (start stop end : ℕ) → end ≤ stop → start ≡ (if takes then end else stop) → start ≤ stop
start_within true start stop end le is = omega arith
start_within false start stop end le is = omega arith

-- a body lies within its request
pub body_within : (b : List ℕ) (request : Request) → HasHeadOf b request → request.start ≤ request.stop
body_within b request h = start_within (takes_body request.route) request.start request.stop h.end (omega (arith, h.stop_is)) h.start_is

take-drop-take : (b : List ℕ) (start stop : ℕ) → start ≤ stop → take (stop - start) (drop start (take stop b)) ≡ take (stop - start) (drop start b)
take-drop-take b start stop le =
    let whole : start + (stop - start) ≡ stop = omega arith in
    same_lists _ _ (omega (arith, length-take {A = ℕ}, length-drop {A = ℕ})) (λ k d lt. grind (arith, places))

-- a request at the front, and other bytes behind it
pub record StillThere (b more : List ℕ) (request : Request) : Type 0 where
  pub there : IsRequest (take request.stop b ++ more) request
  pub body : slice_range (take request.stop b ++ more) request.start request.stop ≡ slice_range b request.start request.stop
  pub after : drop request.stop (take request.stop b ++ more) ≡ more

pub still_there : (b more : List ℕ) (request : Request) → IsRequest b request → StillThere b more request
still_there b more request h =
    let start = request.start in
    let stop = request.stop in
    let size : length (take stop b) ≡ stop = length-take-le stop b h.within in
    let seam : stop ≤ length (take stop b) = omega arith in
    let end_in : h.head.end ≤ stop = omega (arith, h.head.stop_is) in
    let same : take h.head.end b ≡ take h.head.end (take stop b ++ more) = sym (take-append-le h.head.end (take stop b) more (omega arith) ∙ take-take h.head.end stop b end_in) in
    let total : length (take stop b ++ more) ≡ stop + length more = length-append (take stop b) more ∙ ap (λ n. n + length more) size in
    let start_in : start ≤ stop = body_within b request h.head in
    record {
      there = record {
        head = record {
          end = h.head.end;
          content = h.head.content;
          head = head_same b (take stop b ++ more) h.head.end h.head.content (omega arith) same h.head.head;
          asks = h.head.asks;
          stop_is = h.head.stop_is;
          start_is = h.head.start_is;
          close_is = h.head.close_is;
        };
        within = omega arith;
      };
      body = ap (λ (xs : List ℕ). take (stop - start) xs) (drop-append-le start (take stop b) more (omega arith))
          ∙ take-append-le (stop - start) (drop start (take stop b)) more (omega (arith, length-drop start (take stop b)))
          ∙ take-drop-take b start stop start_in;
      after = ap (λ n. drop n (take stop b ++ more)) (sym size) ∙ drop-append_seam (take stop b) more;
    }
