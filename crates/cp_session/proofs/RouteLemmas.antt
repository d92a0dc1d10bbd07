-- Paths, the epochs in them, and the one route that a path names.
use Rattle.std.proofs.Common.{◌≡◌, ◌≢◌, ℕ, ◌+◌, ◌%◌, ◌<◌, ◌^◌, List, [], ◌∷◌, ◌++◌, codes, decimal, Result, Ok, Err, refl, ap, sym, ◌∙◌, arith, get_or, ◌==◌, if◌then◌else◌}
use Rattle.std.specs.Str.Parse.{ParsesUnsigned}
use Rattle.std.proofs.lemmas.Fmt.{parse-decimal, decimal_injective, decimal_by_steps}
use Rattle.std.proofs.lemmas.List.{append_cancel_left, append_cancel_right}
use Rattle.cp_session.specs.declared.routes.Route.{Route}
use Rattle.cp_session.specs.declared.routes.Route.TheVariants.{Key, Put, Get, Close, Part, HandIn, Verdict}
use Rattle.cp_session.specs.declared.part_names.PartName.{PartName}
use Rattle.cp_session.specs.declared.part_names.PartName.TheVariants.{Closing, Table, Log, Families}
use Rattle.cp_session.specs.Routes.{IsEpoch, IsRoute, IsNoPlainPath, IsNoRoute, IsPartPath, IsVerdictPath, part_end}

pub no_epoch : {E : Type 0} (text : List ℕ) (r : Result ℕ E) (e : E) → ParsesUnsigned 64 10 text r → r ≡ Err e → (n : ℕ) → IsEpoch n → text ≢ decimal n
no_epoch text r e parses err n is same = let ok : r ≡ Ok n = parse-decimal 64 n text r is.1 is.1 same parses in let bad : Ok n ≡ Err e = sym ok ∙ err in cc

pub other_epoch : {E : Type 0} (text : List ℕ) (r : Result ℕ E) (m : ℕ) → ParsesUnsigned 64 10 text r → r ≡ Ok m → text ≢ decimal m → (n : ℕ) → IsEpoch n → text ≢ decimal n
other_epoch text r m parses got not n is same =
    let ok : r ≡ Ok n = parse-decimal 64 n text r is.1 is.1 same parses in
    let both : Ok n ≡ Ok m = sym ok ∙ got in
    let eq : n ≡ m = cc in not (same ∙ ap decimal eq)

pub zero_epoch : {E : Type 0} (text : List ℕ) (r : Result ℕ E) (m : ℕ) → ParsesUnsigned 64 10 text r → r ≡ Ok m → m ≡ 0 → (n : ℕ) → IsEpoch n → text ≢ decimal n
zero_epoch text r m parses got zero_is n is same =
    let ok : r ≡ Ok n = parse-decimal 64 n text r is.1 is.1 same parses in
    let both : Ok n ≡ Ok m = sym ok ∙ got in
    let eq : n ≡ m = cc in omega (arith, is.0, eq, zero_is)

pub ruleset epochs = (no_epoch, other_epoch, zero_epoch)

pub no_prefix : (path prefix suffix : List ℕ) → ((rest : List ℕ) → path ≢ prefix ++ rest) → (e : ℕ) → ¬ (IsEpoch e × (path ≡ prefix ++ (decimal e ++ suffix)))
no_prefix path prefix suffix none e is = none (decimal e ++ suffix) is.1

pub no_suffix : (path prefix text suffix : List ℕ) → path ≡ prefix ++ text → ((rest : List ℕ) → text ≢ rest ++ suffix) → (e : ℕ) → ¬ (IsEpoch e × (path ≡ prefix ++ (decimal e ++ suffix)))
no_suffix path prefix text suffix is_path none e is = none (decimal e) (append_cancel_left prefix text (decimal e ++ suffix) (sym is_path ∙ is.1))

pub no_number : (path prefix text suffix number : List ℕ) → path ≡ prefix ++ text → text ≡ number ++ suffix → ((e : ℕ) → IsEpoch e → number ≢ decimal e) → (e : ℕ) → ¬ (IsEpoch e × (path ≡ prefix ++ (decimal e ++ suffix)))
no_number path prefix text suffix number is_path is_text none e is =
    none e is.0 (append_cancel_right number (decimal e) suffix (sym is_text ∙ append_cancel_left prefix text (decimal e ++ suffix) (sym is_path ∙ is.1)))

pub no_last_number : (path prefix number : List ℕ) → path ≡ prefix ++ number → ((e : ℕ) → IsEpoch e → number ≢ decimal e) → (e : ℕ) → ¬ (IsEpoch e × (path ≡ prefix ++ decimal e))
no_last_number path prefix number is_path none e is = none e is.0 (append_cancel_left prefix number (decimal e) (sym is_path ∙ is.1))

never_for : (path : List ℕ) → IsNoPlainPath path → ((e : ℕ) → ¬ IsVerdictPath path e)
    → ((e : ℕ) → ¬ IsPartPath path Closing e) → ((e : ℕ) → ¬ IsPartPath path Table e) → ((e : ℕ) → ¬ IsPartPath path Log e) → ((e : ℕ) → ¬ IsPartPath path Families e)
    → (r : Route) → ¬ IsRoute path r
unfolding IsRoute
never_for path plain v c t l f Key h = plain.key h
never_for path plain v c t l f Put h = plain.put h
never_for path plain v c t l f Get h = plain.get h
never_for path plain v c t l f Close h = plain.close h
never_for path plain v c t l f HandIn h = plain.handin h
never_for path plain v c t l f (Verdict e) h = v e h
never_for path plain v c t l f (Part e Closing) h = c e h
never_for path plain v c t l f (Part e Table) h = t e h
never_for path plain v c t l f (Part e Log) h = l e h
never_for path plain v c t l f (Part e Families) h = f e h

pub no_route : (path : List ℕ) → IsNoPlainPath path → ((e : ℕ) → ¬ IsVerdictPath path e)
    → ((e : ℕ) → ¬ IsPartPath path Closing e) → ((e : ℕ) → ¬ IsPartPath path Table e) → ((e : ℕ) → ¬ IsPartPath path Log e) → ((e : ℕ) → ¬ IsPartPath path Families e)
    → IsNoRoute path
no_route path plain v c t l f = record { never = never_for path plain v c t l f }

pub ruleset routes = (no_route)

-- no byte is a slash
HasNoSlash : List ℕ → Type 0
HasNoSlash [] = Unit {0}
HasNoSlash (b ∷ bytes) = (b ≢ 47) × HasNoSlash bytes

no_slash_more : (ds : List ℕ) (d : ℕ) → HasNoSlash ds → d ≢ 47 → HasNoSlash (ds ++ d ∷ [])
unfolding HasNoSlash
no_slash_more [] d h other = (other, tt)
no_slash_more (b ∷ ds) d h other = (h.0, no_slash_more ds d h.1 other)

decimal_no_slash : (e : ℕ) → e < 2 ^ 64 → HasNoSlash (decimal e)
unfolding HasNoSlash
decimal_no_slash e small = decimal_by_steps (λ n ds. HasNoSlash ds) (λ n below. (λ is. omega arith, tt)) (λ n ds over h. no_slash_more ds (48 + n % 10) h (λ is. omega arith)) e small

-- what stands before the first slash and what stands behind it
split_once : (xs ys a b : List ℕ) → HasNoSlash xs → HasNoSlash ys → xs ++ 47 ∷ a ≡ ys ++ 47 ∷ b → (xs ≡ ys) × (a ≡ b)
unfolding HasNoSlash
split_once [] [] a b p q h = (refl, cc)
split_once [] (y ∷ ys) a b p q h = absurd (q.0 (let same : 47 ≡ y = cc in sym same))
split_once (x ∷ xs) [] a b p q h = absurd (p.0 (let same : x ≡ 47 = cc in same))
split_once (x ∷ xs) (y ∷ ys) a b p q h =
    let tails : xs ++ 47 ∷ a ≡ ys ++ 47 ∷ b = cc in
    let heads : x ≡ y = cc in
    let more = split_once xs ys a b p.1 q.1 tails in
    (ap (λ d. d ∷ xs) heads ∙ ap (λ t. y ∷ t) more.0, more.1)

-- the name of a part, behind the slash
name_of : PartName → List ℕ
name_of Closing = codes "closing"
name_of Table = codes "table"
name_of Log = codes "log"
name_of Families = codes "families"

end_name : (part : PartName) → part_end part ≡ 47 ∷ name_of part
unfolding name_of
end_name Closing = refl
end_name Table = refl
end_name Log = refl
end_name Families = refl

-- the part whose name begins with a letter
part_at : ℕ → PartName
part_at n = if n == 99 then Closing else (if n == 116 then Table else (if n == 108 then Log else Families))

part_named : (part : PartName) → part_at (get_or (name_of part) 0 0) ≡ part
unfolding name_of part_at
part_named Closing = refl
part_named Table = refl
part_named Log = refl
part_named Families = refl

one_part : (path : List ℕ) (p q : PartName) (e f : ℕ) → IsPartPath path p e → IsPartPath path q f → (e ≡ f) × (p ≡ q)
one_part path p q e f h k =
    let same : decimal e ++ part_end p ≡ decimal f ++ part_end q = append_cancel_left (codes "/v1/epoch/") _ _ (sym h.1 ∙ k.1) in
    let ends : decimal e ++ 47 ∷ name_of p ≡ decimal f ++ 47 ∷ name_of q = ap (λ t. decimal e ++ t) (sym (end_name p)) ∙ same ∙ ap (λ t. decimal f ++ t) (end_name q) in
    let both = split_once (decimal e) (decimal f) (name_of p) (name_of q) (decimal_no_slash e h.0.1) (decimal_no_slash f k.0.1) ends in
    (decimal_injective e f h.0.1 k.0.1 both.0, sym (part_named p) ∙ ap (λ (name : List ℕ). part_at (get_or name 0 0)) both.1 ∙ part_named q)

one_verdict : (path : List ℕ) (e f : ℕ) → IsVerdictPath path e → IsVerdictPath path f → e ≡ f
one_verdict path e f h k = decimal_injective e f h.0.1 k.0.1 (append_cancel_left (codes "/v1/verdict/") _ _ (sym h.1 ∙ k.1))

-- the first letter of a route's path behind the version
letter : Route → ℕ
letter Key = 107
letter Put = 112
letter Get = 103
letter Close = 99
letter (Part e part) = 101
letter HandIn = 104
letter (Verdict e) = 118

letter_in : (path : List ℕ) (route : Route) → IsRoute path route → get_or path 4 0 ≡ letter route
unfolding IsRoute letter
letter_in path Key h = ap (λ (p : List ℕ). get_or p 4 0) h
letter_in path Put h = ap (λ (p : List ℕ). get_or p 4 0) h
letter_in path Get h = ap (λ (p : List ℕ). get_or p 4 0) h
letter_in path Close h = ap (λ (p : List ℕ). get_or p 4 0) h
letter_in path (Part e part) h = ap (λ (p : List ℕ). get_or p 4 0) h.1
letter_in path HandIn h = ap (λ (p : List ℕ). get_or p 4 0) h
letter_in path (Verdict e) h = ap (λ (p : List ℕ). get_or p 4 0) h.1

-- the route without an epoch whose path has this letter, or the other route
plain_at : ℕ → Route → Route
plain_at n other = if n == 107 then Key else (if n == 112 then Put else (if n == 103 then Get else (if n == 99 then Close else (if n == 104 then HandIn else other))))

plain_itself : (route : Route) → plain_at (letter route) route ≡ route
unfolding letter plain_at
plain_itself Key = refl
plain_itself Put = refl
plain_itself Get = refl
plain_itself Close = refl
plain_itself (Part e part) = refl
plain_itself HandIn = refl
plain_itself (Verdict e) = refl

as_plain : (path : List ℕ) (route other : Route) → IsRoute path route → IsRoute path other → other ≡ plain_at (letter route) other
as_plain path route other h k = sym (plain_itself other) ∙ ap (λ n. plain_at n other) (sym (letter_in path other k) ∙ letter_in path route h)

other_letter : (path : List ℕ) (route other : Route) → IsRoute path route → IsRoute path other → letter route ≢ letter other → route ≡ other
other_letter path route other h k differ = absurd (differ (sym (letter_in path route h) ∙ letter_in path other k))

-- a path names one route at most
pub one_route : (path : List ℕ) (route other : Route) → IsRoute path route → IsRoute path other → route ≡ other
unfolding letter plain_at IsRoute
one_route path Key other h k = sym (as_plain path Key other h k)
one_route path Put other h k = sym (as_plain path Put other h k)
one_route path Get other h k = sym (as_plain path Get other h k)
one_route path Close other h k = sym (as_plain path Close other h k)
one_route path HandIn other h k = sym (as_plain path HandIn other h k)
one_route path (Part e p) Key h k = as_plain path Key (Part e p) k h
one_route path (Part e p) Put h k = as_plain path Put (Part e p) k h
one_route path (Part e p) Get h k = as_plain path Get (Part e p) k h
one_route path (Part e p) Close h k = as_plain path Close (Part e p) k h
one_route path (Part e p) HandIn h k = as_plain path HandIn (Part e p) k h
one_route path (Part e p) (Part f q) h k = let both = one_part path p q e f h k in ap (λ n. Part n p) both.0 ∙ ap (λ (part : PartName). Part f part) both.1
one_route path (Part e p) (Verdict f) h k = other_letter path (Part e p) (Verdict f) h k (λ is. omega (arith, is))
one_route path (Verdict e) Key h k = as_plain path Key (Verdict e) k h
one_route path (Verdict e) Put h k = as_plain path Put (Verdict e) k h
one_route path (Verdict e) Get h k = as_plain path Get (Verdict e) k h
one_route path (Verdict e) Close h k = as_plain path Close (Verdict e) k h
one_route path (Verdict e) HandIn h k = as_plain path HandIn (Verdict e) k h
one_route path (Verdict e) (Part f q) h k = other_letter path (Verdict e) (Part f q) h k (λ is. omega (arith, is))
one_route path (Verdict e) (Verdict f) h k = ap (λ n. Verdict n) (one_verdict path e f h k)
