-- A response tells where it ends, its status, its body and whether it is the last.
use Rattle.std.proofs.Common.{◌≡◌, ◌≢◌, ℕ, ◌+◌, ◌%◌, ◌^◌, ◌<◌, ◌==◌, Bool, true, false, if◌then◌else◌, List, [], ◌∷◌, ◌++◌, length, take, drop, codes, decimal, get_or, refl, ap, sym, ◌∙◌, arith, append_assoc}
use Rattle.std.proofs.lemmas.Fmt.{decimal_injective, decimal_by_steps}
use Rattle.std.proofs.lemmas.List.{append_cancel_left}
use Rattle.std.proofs.Math.Seq.{take-append_seam, drop-append_seam}
use Rattle.cp_http.specs.Statuses.{phrase, type_line, last_line}
use Rattle.cp_http.specs.Responses.{allow_line, response_head, response}
use Rattle.cp_http.specs.declared.allows.Allow.{Allow}
use Rattle.cp_http.specs.declared.allows.Allow.TheVariants.{Nothing, Get, Post}

-- each byte is a digit or more
IsOver47 : List ℕ → Type 0
IsOver47 [] = Unit {0}
IsOver47 (b ∷ bytes) = (47 < b) × IsOver47 bytes

one_over : (ds : List ℕ) (d : ℕ) → IsOver47 ds → 47 < d → IsOver47 (ds ++ d ∷ [])
unfolding IsOver47
one_over [] d h over = (over, tt)
one_over (b ∷ ds) d h over = (h.0, one_over ds d h.1 over)

decimal_over : (n : ℕ) → n < 2 ^ 64 → IsOver47 (decimal n)
unfolding IsOver47
decimal_over n small = decimal_by_steps (λ m ds. IsOver47 ds) (λ m below. (omega arith, tt)) (λ m ds ten h. one_over ds (48 + m % 10) h (omega arith)) n small

-- what stands before the first byte below the digits, and what stands from there on
digits_end : (xs ys a b : List ℕ) (c d : ℕ) → IsOver47 xs → IsOver47 ys → c < 48 → d < 48 → xs ++ c ∷ a ≡ ys ++ d ∷ b → (xs ≡ ys) × (c ∷ a ≡ d ∷ b)
unfolding IsOver47
digits_end [] [] a b c d p q low lower h = (refl, h)
digits_end [] (y ∷ ys) a b c d p q low lower h = absurd (let same : c ≡ y = cc in omega (arith, same, q.0, low))
digits_end (x ∷ xs) [] a b c d p q low lower h = absurd (let same : x ≡ d = cc in omega (arith, same, p.0, lower))
digits_end (x ∷ xs) (y ∷ ys) a b c d p q low lower h =
    let tails : xs ++ c ∷ a ≡ ys ++ d ∷ b = cc in
    let heads : x ≡ y = cc in
    let more = digits_end xs ys a b c d p.1 q.1 low lower tails in
    (ap (λ n. n ∷ xs) heads ∙ ap (λ t. y ∷ t) more.0, more.1)

-- a number, and what stands behind its digits
pub number_end : (m n c d : ℕ) (a b : List ℕ) → m < 2 ^ 64 → n < 2 ^ 64 → c < 48 → d < 48 → decimal m ++ c ∷ a ≡ decimal n ++ d ∷ b → (m ≡ n) × (c ∷ a ≡ d ∷ b)
number_end m n c d a b small smaller low lower h =
    let both = digits_end (decimal m) (decimal n) a b c d (decimal_over m small) (decimal_over n smaller) low lower h in
    (decimal_injective m n small smaller both.0, both.1)

-- pieces of the same length at the front
pieces_same : (x y p q : List ℕ) → length x ≡ length y → x ++ p ≡ y ++ q → (x ≡ y) × (p ≡ q)
pieces_same x y p q len same = (
  sym (take-append_seam x p) ∙ ap (take (length x)) same ∙ ap (λ n. take n (y ++ q)) len ∙ take-append_seam y q,
  sym (drop-append_seam x p) ∙ ap (drop (length x)) same ∙ ap (λ n. drop n (y ++ q)) len ∙ drop-append_seam y q,
)

-- the method of an allowing line, by what stands at its place
allow_at : List ℕ → Allow
allow_at t = if get_or t 0 0 == 65 then (if get_or t 7 0 == 71 then Get else Post) else Nothing

allow_read : (a : Allow) (t : List ℕ) → allow_at (allow_line a ++ (codes "Content-Length: " ++ t)) ≡ a
unfolding allow_at allow_line
allow_read Nothing t = refl
allow_read Get t = refl
allow_read Post t = refl

-- whether it is the last, by what stands at the line's place
last_at : List ℕ → Bool
last_at t = get_or t 0 0 == 67

last_read : (k : Bool) (t : List ℕ) → last_at (last_line k ++ (13 ∷ 10 ∷ t)) ≡ k
unfolding last_at last_line
last_read true t = refl
last_read false t = refl

-- the parts of a response from its length on, and what stands behind it
from_length : List ℕ → Bool → List ℕ → List ℕ
from_length x k p = decimal (length x) ++ (13 ∷ 10 ∷ (last_line k ++ (13 ∷ 10 ∷ (x ++ p))))

-- and from its status on
from_status : ℕ → Allow → List ℕ → Bool → List ℕ → List ℕ
from_status s a x k p = decimal s ++ (32 ∷ (phrase s ++ (13 ∷ 10 ∷ (type_line s ++ (allow_line a ++ (codes "Content-Length: " ++ from_length x k p))))))

regrouped : (h d sp ph r t a c n l x p : List ℕ) → ((h ++ d ++ sp ++ ph ++ r) ++ t ++ a ++ (c ++ n ++ r) ++ l ++ r ++ x) ++ p
    ≡ h ++ (d ++ (sp ++ (ph ++ (r ++ (t ++ (a ++ (c ++ (n ++ (r ++ (l ++ (r ++ (x ++ p))))))))))))
regrouped h d sp ph r t a c n l x p = simp (append_assoc) refl

in_parts : (s : ℕ) (a : Allow) (x : List ℕ) (k : Bool) (p : List ℕ) → response s a x k ++ p ≡ codes "HTTP/1.1 " ++ from_status s a x k p
unfolding response_head from_status from_length
in_parts s a x k p = regrouped (codes "HTTP/1.1 ") (decimal s) (codes " ") (phrase s) (13 ∷ 10 ∷ []) (type_line s) (allow_line a) (codes "Content-Length: ") (decimal (length x)) (last_line k) x p

-- a response has a first byte
pub never_empty : (s : ℕ) (a : Allow) (x : List ℕ) (k : Bool) (p : List ℕ) → [] ≢ response s a x k ++ p
never_empty s a x k p same = let first = ap (λ (t : List ℕ). get_or t 0 0) (same ∙ in_parts s a x k p) in omega (arith, first)

-- two responses with something behind each are the same, and so is what stands behind them
pub record IsSameResponse (s t : ℕ) (x y : List ℕ) (k l : Bool) (p q : List ℕ) : Type 0 where
  pub status : s ≡ t
  pub body : x ≡ y
  pub final : k ≡ l
  pub behind : p ≡ q

pub responses_same : (s t : ℕ) (a b : Allow) (x y : List ℕ) (k l : Bool) (p q : List ℕ) → s < 2 ^ 64 → t < 2 ^ 64 → length x < 2 ^ 64 → length y < 2 ^ 64
    → response s a x k ++ p ≡ response t b y l ++ q → IsSameResponse s t x y k l p q
unfolding from_status from_length
responses_same s t a b x y k l p q small smaller short shorter same =
    let fronts : codes "HTTP/1.1 " ++ from_status s a x k p ≡ codes "HTTP/1.1 " ++ from_status t b y l q = sym (in_parts s a x k p) ∙ same ∙ in_parts t b y l q in
    let status = number_end s t 32 32 (phrase s ++ (13 ∷ 10 ∷ (type_line s ++ (allow_line a ++ (codes "Content-Length: " ++ from_length x k p)))))
    (phrase t ++ (13 ∷ 10 ∷ (type_line t ++ (allow_line b ++ (codes "Content-Length: " ++ from_length y l q))))) small smaller (omega arith) (omega arith)
    (append_cancel_left (codes "HTTP/1.1 ") (from_status s a x k p) (from_status t b y l q) fronts) in
    let typed = append_cancel_left (32 ∷ []) (phrase s ++ (13 ∷ 10 ∷ (type_line s ++ (allow_line a ++ (codes "Content-Length: " ++ from_length x k p)))))
    (phrase s ++ (13 ∷ 10 ∷ (type_line s ++ (allow_line b ++ (codes "Content-Length: " ++ from_length y l q)))))
    (status.1 ∙ ap (λ n. 32 ∷ (phrase n ++ (13 ∷ 10 ∷ (type_line n ++ (allow_line b ++ (codes "Content-Length: " ++ from_length y l q)))))) (sym status.0)) in
    let allowed : allow_line a ++ (codes "Content-Length: " ++ from_length x k p) ≡ allow_line b ++ (codes "Content-Length: " ++ from_length y l q) =
    append_cancel_left (type_line s) _ _ (append_cancel_left (13 ∷ 10 ∷ []) _ _ (append_cancel_left (phrase s) _ _ typed)) in
    let allow : a ≡ b = sym (allow_read a (from_length x k p)) ∙ ap allow_at allowed ∙ allow_read b (from_length y l q) in
    let sized : codes "Content-Length: " ++ from_length x k p ≡ codes "Content-Length: " ++ from_length y l q =
    append_cancel_left (allow_line a) _ _ (allowed ∙ ap (λ m. allow_line m ++ (codes "Content-Length: " ++ from_length y l q)) (sym allow)) in
    let size = number_end (length x) (length y) 13 13 (10 ∷ (last_line k ++ (13 ∷ 10 ∷ (x ++ p)))) (10 ∷ (last_line l ++ (13 ∷ 10 ∷ (y ++ q)))) short shorter (omega arith) (omega arith)
    (append_cancel_left (codes "Content-Length: ") (from_length x k p) (from_length y l q) sized) in
    let ended : last_line k ++ (13 ∷ 10 ∷ (x ++ p)) ≡ last_line l ++ (13 ∷ 10 ∷ (y ++ q)) = append_cancel_left (13 ∷ 10 ∷ []) _ _ size.1 in
    let final : k ≡ l = sym (last_read k (x ++ p)) ∙ ap last_at ended ∙ last_read l (y ++ q) in
    let bodies : x ++ p ≡ y ++ q =
    append_cancel_left (13 ∷ 10 ∷ []) _ _ (append_cancel_left (last_line k) _ _ (ended ∙ ap (λ m. last_line m ++ (13 ∷ 10 ∷ (y ++ q))) (sym final))) in
    let pieces = pieces_same x y p q size.0 bodies in
    record { status = status.0; body = pieces.0; final = final; behind = pieces.1 }
