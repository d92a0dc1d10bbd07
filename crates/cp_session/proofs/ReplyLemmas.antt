-- A response tells its reply: the status and the body fix the body of a 200, or the refusal with its numbers.
use Rattle.std.proofs.Common.{◌≡◌, ◌≢◌, ℕ, ◌+◌, ◌*◌, ◌^◌, ◌<◌, ◌≤◌, ◌==◌, Bool, true, if◌then◌else◌, List, [], ◌∷◌, ◌++◌, length, codes, decimal, get_or, refl, ap, sym, ◌∙◌, subst, arith, append_assoc, length-append, Result, Ok, Err}
use Rattle.std.proofs.lemmas.Fmt.{length-decimal-le}
use Rattle.std.proofs.lemmas.List.{append_cancel_left}
use Rattle.cp_http.specs.declared.allows.Allow.TheVariants.{Nothing}
use Rattle.cp_session.specs.declared.refusals.Refusal.{Refusal}
use Rattle.cp_session.specs.declared.refusals.Refusal.TheVariants.{Malformed, WrongStore, NotAWriter, BadSignature, ContentMismatch, NotClosed, NoVerdict, WrongEpoch, NonceUsed, Overtaken, StaleVersion, ContentTooLong, LeavesOver, ClosingsOver, PoolFull, BoxFull, OutOfMemory}
use Rattle.cp_session.specs.declared.rejections.Rejection.{Rejection}
use Rattle.cp_session.specs.declared.rejections.Rejection.TheVariants.{BadHead, HeadTooLong, NoRoute, MethodNotAllowed, NoLength, BodyTooLong}
use Rattle.cp_session.specs.Refusals.{status_of, text_of, numbers_of}
use Rattle.cp_session.specs.Rejections.{status_of as rejection_status, allow_in, body_of}
use Rattle.cp_session.specs.Replies.{IsSized}
use Rattle.cp_session.specs.Responses.{reply_response, rejection_response}
use Rattle.cp_session.proofs.ResponseLemmas.{number_end, never_empty, responses_same}

-- the body of the response that tells a refusal
abbrev line_of : Refusal → List ℕ
line_of r = text_of r ++ codes "\n"

-- a number that tells the refusals' names apart, by two letters of each
key : List ℕ → ℕ
key t = get_or t 2 0 * 3 + get_or t 8 0

-- the refusal whose name has the key, with these numbers
refusal_at : ℕ → ℕ → ℕ → Refusal
refusal_at k a b =
    if k == 424 then Malformed a else (
    if k == 447 then WrongStore else (
    if k == 449 then NotAWriter a b else (
    if k == 416 then BadSignature else (
    if k == 435 then ContentMismatch else (
    if k == 448 then NotClosed a else (
    if k == 374 then NoVerdict a else (
    if k == 432 then WrongEpoch a else (
    if k == 430 then NonceUsed a else (
    if k == 413 then Overtaken a else (
    if k == 406 then StaleVersion a else (
    if k == 441 then ContentTooLong a else (
    if k == 392 then LeavesOver a b else (
    if k == 412 then ClosingsOver a b else (
    if k == 365 then PoolFull a b else (
    if k == 464 then BoxFull a else (
    OutOfMemory))))))))))))))))

rebuilt : (r : Refusal) → refusal_at (key (line_of r)) (get_or (numbers_of r) 0 0) (get_or (numbers_of r) 1 0) ≡ r
unfolding text_of key refusal_at
rebuilt (Malformed at) = refl
rebuilt WrongStore = refl
rebuilt (NotAWriter family client) = refl
rebuilt BadSignature = refl
rebuilt ContentMismatch = refl
rebuilt (NotClosed count) = refl
rebuilt (NoVerdict count) = refl
rebuilt (WrongEpoch current) = refl
rebuilt (NonceUsed position) = refl
rebuilt (Overtaken latest) = refl
rebuilt (StaleVersion latest) = refl
rebuilt (ContentTooLong size) = refl
rebuilt (LeavesOver drawn limit) = refl
rebuilt (ClosingsOver sealed limit) = refl
rebuilt (PoolFull free need) = refl
rebuilt (BoxFull held) = refl
rebuilt OutOfMemory = refl

one_number : (name : List ℕ) (a b : ℕ) → a < 2 ^ 64 → b < 2 ^ 64 → name ++ decimal a ++ (10 ∷ []) ≡ name ++ decimal b ++ (10 ∷ []) → a ≡ b
one_number name a b small smaller same =
    (number_end a b 10 10 [] [] small smaller (omega arith) (omega arith)
    (append_cancel_left name (decimal a ++ (10 ∷ [])) (decimal b ++ (10 ∷ [])) (sym (append_assoc name (decimal a) (10 ∷ [])) ∙ same ∙ append_assoc name (decimal b) (10 ∷ [])))).0

grouped : (name a mid b : List ℕ) (m : ℕ) → name ++ a ++ (m ∷ mid) ++ b ++ (10 ∷ []) ≡ name ++ (a ++ (m ∷ (mid ++ (b ++ (10 ∷ [])))))
grouped name a mid b m = simp (append_assoc) refl

two_numbers : (name mid : List ℕ) (a b c d : ℕ) → a < 2 ^ 64 → b < 2 ^ 64 → c < 2 ^ 64 → d < 2 ^ 64
    → name ++ decimal a ++ (32 ∷ mid) ++ decimal b ++ (10 ∷ []) ≡ name ++ decimal c ++ (32 ∷ mid) ++ decimal d ++ (10 ∷ []) → (a ≡ c) × (b ≡ d)
two_numbers name mid a b c d sa sb sc sd same =
    let tails = append_cancel_left name (decimal a ++ (32 ∷ (mid ++ (decimal b ++ (10 ∷ []))))) (decimal c ++ (32 ∷ (mid ++ (decimal d ++ (10 ∷ [])))))
    (sym (grouped name (decimal a) mid (decimal b) 32) ∙ same ∙ grouped name (decimal c) mid (decimal d) 32) in
    let front = number_end a c 32 32 (mid ++ (decimal b ++ (10 ∷ []))) (mid ++ (decimal d ++ (10 ∷ []))) sa sc (omega arith) (omega arith) tails in
    let back = append_cancel_left (32 ∷ mid) (decimal b ++ (10 ∷ [])) (decimal d ++ (10 ∷ [])) front.1 in
    (front.0, (number_end b d 10 10 [] [] sb sd (omega arith) (omega arith) back).0)

-- the same name with other numbers
same_at : (r : Refusal) (a b : ℕ) → IsSized (Err r) → IsSized (Err (refusal_at (key (line_of r)) a b)) → line_of r ≡ line_of (refusal_at (key (line_of r)) a b)
    → r ≡ refusal_at (key (line_of r)) a b
unfolding text_of key refusal_at
same_at (Malformed at) a b p q h = ap (λ n. Malformed n) (one_number (codes "Malformed at=") at a p.0 q.0 h)
same_at WrongStore a b p q h = refl
same_at (NotAWriter family client) a b p q h =
    let both = two_numbers (codes "NotAWriter family=") (codes "client=") family client a b p.0 p.1.0 q.0 q.1.0 h in
    ap (λ n. NotAWriter n client) both.0 ∙ ap (λ n. NotAWriter a n) both.1
same_at BadSignature a b p q h = refl
same_at ContentMismatch a b p q h = refl
same_at (NotClosed count) a b p q h = ap (λ n. NotClosed n) (one_number (codes "NotClosed count=") count a p.0 q.0 h)
same_at (NoVerdict count) a b p q h = ap (λ n. NoVerdict n) (one_number (codes "NoVerdict count=") count a p.0 q.0 h)
same_at (WrongEpoch current) a b p q h = ap (λ n. WrongEpoch n) (one_number (codes "WrongEpoch current=") current a p.0 q.0 h)
same_at (NonceUsed position) a b p q h = ap (λ n. NonceUsed n) (one_number (codes "NonceUsed position=") position a p.0 q.0 h)
same_at (Overtaken latest) a b p q h = ap (λ n. Overtaken n) (one_number (codes "Overtaken latest=") latest a p.0 q.0 h)
same_at (StaleVersion latest) a b p q h = ap (λ n. StaleVersion n) (one_number (codes "StaleVersion latest=") latest a p.0 q.0 h)
same_at (ContentTooLong size) a b p q h = ap (λ n. ContentTooLong n) (one_number (codes "ContentTooLong length=") size a p.0 q.0 h)
same_at (LeavesOver drawn limit) a b p q h =
    let both = two_numbers (codes "LeavesOver drawn=") (codes "limit=") drawn limit a b p.0 p.1.0 q.0 q.1.0 h in
    ap (λ n. LeavesOver n limit) both.0 ∙ ap (λ n. LeavesOver a n) both.1
same_at (ClosingsOver sealed limit) a b p q h =
    let both = two_numbers (codes "ClosingsOver sealed=") (codes "limit=") sealed limit a b p.0 p.1.0 q.0 q.1.0 h in
    ap (λ n. ClosingsOver n limit) both.0 ∙ ap (λ n. ClosingsOver a n) both.1
same_at (PoolFull free need) a b p q h =
    let both = two_numbers (codes "PoolFull free=") (codes "need=") free need a b p.0 p.1.0 q.0 q.1.0 h in
    ap (λ n. PoolFull n need) both.0 ∙ ap (λ n. PoolFull a n) both.1
same_at (BoxFull held) a b p q h = ap (λ n. BoxFull n) (one_number (codes "BoxFull held=") held a p.0 q.0 h)
same_at OutOfMemory a b p q h = refl

refusals_same : (r s : Refusal) → IsSized (Err r) → IsSized (Err s) → line_of r ≡ line_of s → r ≡ s
refusals_same r s p q h =
    let is : refusal_at (key (line_of r)) (get_or (numbers_of s) 0 0) (get_or (numbers_of s) 1 0) ≡ s =
    ap (λ (t : List ℕ). refusal_at (key t) (get_or (numbers_of s) 0 0) (get_or (numbers_of s) 1 0)) h ∙ rebuilt s in
    same_at r (get_or (numbers_of s) 0 0) (get_or (numbers_of s) 1 0) p (subst (λ (x : Refusal). IsSized (Err x)) (sym is) q) (h ∙ ap (λ (x : Refusal). line_of x) (sym is)) ∙ is

one_short : (name : List ℕ) (a : ℕ) → length name ≤ 40 → a < 2 ^ 64 → length (name ++ decimal a ++ (10 ∷ [])) < 2 ^ 64
one_short name a short small =
    omega (arith, length-append (name ++ decimal a) (10 ∷ []), length-append name (decimal a), length-decimal-le 20 a (omega arith) (omega arith) small, short)

two_short : (name mid : List ℕ) (a b : ℕ) → length name ≤ 40 → length mid ≤ 40 → a < 2 ^ 64 → b < 2 ^ 64 → length (name ++ decimal a ++ mid ++ decimal b ++ (10 ∷ [])) < 2 ^ 64
two_short name mid a b short shorter small smaller =
    omega (
      arith,
      length-append (name ++ decimal a ++ mid ++ decimal b) (10 ∷ []),
      length-append (name ++ decimal a ++ mid) (decimal b),
      length-append (name ++ decimal a) mid,
      length-append name (decimal a),
      length-decimal-le 20 a (omega arith) (omega arith) small,
      length-decimal-le 20 b (omega arith) (omega arith) smaller,
      short,
      shorter,
    )

line_short : (r : Refusal) → IsSized (Err r) → length (line_of r) < 2 ^ 64
unfolding text_of
line_short (Malformed at) p = one_short (codes "Malformed at=") at (omega arith) p.0
line_short WrongStore p = omega arith
line_short (NotAWriter family client) p = two_short (codes "NotAWriter family=") (codes " client=") family client (omega arith) (omega arith) p.0 p.1.0
line_short BadSignature p = omega arith
line_short ContentMismatch p = omega arith
line_short (NotClosed count) p = one_short (codes "NotClosed count=") count (omega arith) p.0
line_short (NoVerdict count) p = one_short (codes "NoVerdict count=") count (omega arith) p.0
line_short (WrongEpoch current) p = one_short (codes "WrongEpoch current=") current (omega arith) p.0
line_short (NonceUsed position) p = one_short (codes "NonceUsed position=") position (omega arith) p.0
line_short (Overtaken latest) p = one_short (codes "Overtaken latest=") latest (omega arith) p.0
line_short (StaleVersion latest) p = one_short (codes "StaleVersion latest=") latest (omega arith) p.0
line_short (ContentTooLong size) p = one_short (codes "ContentTooLong length=") size (omega arith) p.0
line_short (LeavesOver drawn limit) p = two_short (codes "LeavesOver drawn=") (codes " limit=") drawn limit (omega arith) (omega arith) p.0 p.1.0
line_short (ClosingsOver sealed limit) p = two_short (codes "ClosingsOver sealed=") (codes " limit=") sealed limit (omega arith) (omega arith) p.0 p.1.0
line_short (PoolFull free need) p = two_short (codes "PoolFull free=") (codes " need=") free need (omega arith) (omega arith) p.0 p.1.0
line_short (BoxFull held) p = one_short (codes "BoxFull held=") held (omega arith) p.0
line_short OutOfMemory p = omega arith

-- a refusal's status is known, and not that of a reply with a body
status_known : (r : Refusal) → (200 < status_of r) × (status_of r < 600)
status_known (Malformed at) = (omega arith, omega arith)
status_known WrongStore = (omega arith, omega arith)
status_known (NotAWriter family client) = (omega arith, omega arith)
status_known BadSignature = (omega arith, omega arith)
status_known ContentMismatch = (omega arith, omega arith)
status_known (NotClosed count) = (omega arith, omega arith)
status_known (NoVerdict count) = (omega arith, omega arith)
status_known (WrongEpoch current) = (omega arith, omega arith)
status_known (NonceUsed position) = (omega arith, omega arith)
status_known (Overtaken latest) = (omega arith, omega arith)
status_known (StaleVersion latest) = (omega arith, omega arith)
status_known (ContentTooLong size) = (omega arith, omega arith)
status_known (LeavesOver drawn limit) = (omega arith, omega arith)
status_known (ClosingsOver sealed limit) = (omega arith, omega arith)
status_known (PoolFull free need) = (omega arith, omega arith)
status_known (BoxFull held) = (omega arith, omega arith)
status_known OutOfMemory = (omega arith, omega arith)

rejection_known : (x : Rejection) → (200 < rejection_status x) × (rejection_status x < 600) × (length (body_of x) < 600)
rejection_known BadHead = (omega arith, omega arith, omega arith)
rejection_known HeadTooLong = (omega arith, omega arith, omega arith)
rejection_known NoRoute = (omega arith, omega arith, omega arith)
rejection_known (MethodNotAllowed a) = (omega arith, omega arith, omega arith)
rejection_known NoLength = (omega arith, omega arith, omega arith)
rejection_known BodyTooLong = (omega arith, omega arith, omega arith)

-- no rejection has the body of a refusal
other_line : (x : Rejection) (a b : ℕ) → line_of (refusal_at (key (body_of x)) a b) ≢ body_of x
unfolding text_of key refusal_at
other_line BadHead a b same = let first = ap (λ (t : List ℕ). get_or t 0 0) same in omega (arith, first)
other_line HeadTooLong a b same = let first = ap (λ (t : List ℕ). get_or t 0 0) same in omega (arith, first)
other_line NoRoute a b same = let first = ap (λ (t : List ℕ). get_or t 0 0) same in omega (arith, first)
other_line (MethodNotAllowed m) a b same = let first = ap (λ (t : List ℕ). get_or t 0 0) same in omega (arith, first)
other_line NoLength a b same = let first = ap (λ (t : List ℕ). get_or t 0 0) same in omega (arith, first)
other_line BodyTooLong a b same = let first = ap (λ (t : List ℕ). get_or t 0 0) same in omega (arith, first)

line_apart : (r : Refusal) (x : Rejection) → line_of r ≢ body_of x
line_apart r x same =
    let is : refusal_at (key (body_of x)) (get_or (numbers_of r) 0 0) (get_or (numbers_of r) 1 0) ≡ r =
    ap (λ (t : List ℕ). refusal_at (key t) (get_or (numbers_of r) 0 0) (get_or (numbers_of r) 1 0)) (sym same) ∙ rebuilt r in
    other_line x (get_or (numbers_of r) 0 0) (get_or (numbers_of r) 1 0) (ap (λ (y : Refusal). line_of y) is ∙ same)

-- two replies are the same, and so is what stands behind their responses
pub record IsSameReply (r s : Result (List ℕ) Refusal) (p q : List ℕ) : Type 0 where
  pub reply : r ≡ s
  pub behind : p ≡ q

pub replies_same : (r s : Result (List ℕ) Refusal) (k l : Bool) (p q : List ℕ) → IsSized r → IsSized s → reply_response r k ++ p ≡ reply_response s l ++ q → IsSameReply r s p q
unfolding reply_response
replies_same (Ok x) (Ok y) k l p q h g same =
    let is = responses_same 200 200 Nothing Nothing x y k l p q (omega arith) (omega arith) h g same in
    record { reply = ap (λ (b : List ℕ). Ok b) is.body; behind = is.behind }
replies_same (Ok x) (Err s) k l p q h g same =
    let known = status_known s in
    let is = responses_same 200 (status_of s) Nothing Nothing x (line_of s) k l p q (omega arith) (omega (arith, known.1)) h (line_short s g) same in
    absurd (omega (arith, is.status, known.0))
replies_same (Err r) (Ok y) k l p q h g same =
    let known = status_known r in
    let is = responses_same (status_of r) 200 Nothing Nothing (line_of r) y k l p q (omega (arith, known.1)) (omega arith) (line_short r h) g same in
    absurd (omega (arith, is.status, known.0))
replies_same (Err r) (Err s) k l p q h g same =
    let is = responses_same (status_of r) (status_of s) Nothing Nothing (line_of r) (line_of s) k l p q (omega (arith, (status_known r).1)) (omega (arith, (status_known s).1)) (line_short r h) (line_short s g) same in
    record { reply = ap (λ (x : Refusal). Err x) (refusals_same r s h g is.body); behind = is.behind }

-- no response tells a reply and a rejection
pub reply_apart : (r : Result (List ℕ) Refusal) (x : Rejection) (k : Bool) (p q : List ℕ) → IsSized r → reply_response r k ++ p ≢ rejection_response x ++ q
unfolding reply_response
reply_apart (Ok y) x k p q h same =
    let known = rejection_known x in
    let is = responses_same 200 (rejection_status x) Nothing (allow_in x) y (body_of x) k true p q (omega arith) (omega (arith, known.1)) h (omega (arith, known.2)) same in
    omega (arith, is.status, known.0)
reply_apart (Err r) x k p q h same =
    let known = rejection_known x in
    let is = responses_same (status_of r) (rejection_status x) Nothing (allow_in x) (line_of r) (body_of x) k true p q (omega (arith, (status_known r).1)) (omega (arith, known.1)) (line_short r h) (omega (arith, known.2)) same in
    line_apart r x is.body

-- the response to a reply has a first byte
pub reply_never_empty : (r : Result (List ℕ) Refusal) (k : Bool) (p : List ℕ) → [] ≢ reply_response r k ++ p
unfolding reply_response
reply_never_empty (Ok x) k p = never_empty 200 Nothing x k p
reply_never_empty (Err r) k p = never_empty (status_of r) Nothing (line_of r) k p
