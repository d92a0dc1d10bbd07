-- Indexes of the calls of the texts that were passed over.
use Rattle.std.proofs.Common.{◌≡◌, ℕ, ◌+◌, ◌<◌, Bool, true, false, cond, ◌&&◌, eqb, List, [], ◌∷◌, ◌++◌, length, take, Option, Some, None, Ok, Result, refl, sym, ap, ◌∙◌, arith}
use Rattle.std.specs.Prelude.{position}
use Rattle.std.specs.BTreeMap.{BTreeMap, IsEmpty, get, is_at}
use Rattle.std.specs.List.{position_from}
use Rattle.std.specs.Map.{lookup}
use Rattle.std.specs.declared.cmp.Ordering.{Ordering}
use Rattle.std.specs.Ordering.{nat_cmp, ordering_then, is_eq}
use Rattle.std.proofs.lemmas.Bool.{and_parts, eqb-true}
use Rattle.std.proofs.lemmas.Iterator.Adapters.{position_from-zero}
use Rattle.std.proofs.lemmas.List.{take_more, length-take-le}
use Rattle.cp_statements.specs.Entry.{Entry, entry_of}
use Rattle.cp_chain.specs.Index.{IsIndex, call_cmp}
use Rattle.cp_chain.specs.Legal.{is_call, ok_and}
use Rattle.cp_chain.specs.Rules.{or_else, text_at}
use Rattle.cp_chain.specs.declared.indexed.Call.{Call}

-- ---- positions in a longer list

position_from-append : (p : List ℕ → Bool) (i n : ℕ) (xs : List (List ℕ)) (x : List ℕ) → i + length xs ≡ n → position_from p i (xs ++ x ∷ []) ≡ or_else (position_from p i xs) (cond (p x) (Some n) None)
position_from-append p i n [] x e = ap (λ (k : ℕ). cond (p x) (Some k) None) (omega (arith, e))
position_from-append p i n (y ∷ xs) x e = go (p y) (position_from-append p (i + 1) n xs x (omega (arith, e)))
  where
    go : (b : Bool) → position_from p (i + 1) (xs ++ x ∷ []) ≡ or_else (position_from p (i + 1) xs) (cond (p x) (Some n) None)
        → cond b (Some i) (position_from p (i + 1) (xs ++ x ∷ [])) ≡ or_else (cond b (Some i) (position_from p (i + 1) xs)) (cond (p x) (Some n) None)
    go true more = refl
    go false more = more

position_more : (p : List ℕ → Bool) (ts : List (List ℕ)) (i : ℕ) → i < length ts → position p (take (i + 1) ts) ≡ or_else (position p (take i ts)) (cond (p (text_at ts i)) (Some i) None)
position_more p ts i lt =
    ap (position p) (take_more ts i [] lt) ∙ position_from-zero p (take i ts ++ text_at ts i ∷ [])
    ∙ position_from-append p 0 i (take i ts) (text_at ts i) (omega (arith, length-take-le i ts (omega (arith, lt))))
    ∙ ap (λ (o : Option ℕ). or_else o (cond (p (text_at ts i)) (Some i) None)) (sym (position_from-zero p (take i ts)))

-- ---- the keys

abbrev pub call_of : Entry → Call
call_of e = record { client = e.client; nonce = e.nonce }

is_eq_nat : (a b : ℕ) → is_eq (nat_cmp a b) ≡ eqb a b
is_eq_nat a b = grind arith

is_eq_then : (a b : Ordering) → is_eq (ordering_then a b) ≡ is_eq a && is_eq b
is_eq_then a b = grind arith

at_call : (e : Entry) (k : Call) → is_at (call_cmp (call_of e)) k ≡ (eqb e.client k.client && eqb e.nonce k.nonce)
at_call e k = is_eq_then (nat_cmp e.client k.client) (nat_cmp e.nonce k.nonce) ∙ ap (λ (t : Bool). t && is_eq (nat_cmp e.nonce k.nonce)) (is_eq_nat e.client k.client) ∙ ap (λ (t : Bool). eqb e.client k.client && t) (is_eq_nat e.nonce k.nonce)

-- ---- the index

pub index_none : (calls : BTreeMap Call ℕ) → IsEmpty calls → IsIndex [] calls
index_none calls empty k = ap (λ (es : List (Call × ℕ)). lookup (is_at (call_cmp k)) es) empty

-- with one more text, an entry whose call is new
pub index_more : (ts : List (List ℕ)) (i : ℕ) (text : List ℕ) (e : Entry) (old new : BTreeMap Call ℕ) → i < length ts → text ≡ text_at ts i → entry_of text ≡ Ok e → IsIndex (take i ts) old
    → None ≡ position (is_call e.client e.nonce) (take i ts) → ((k : Call) → get call_cmp new k ≡ cond (is_at (call_cmp (call_of e)) k) (Some i) (get call_cmp old k)) → IsIndex (take (i + 1) ts) new
index_more ts i text e old new lt here read index absent kept k =
    kept k ∙ ap (λ (b : Bool). cond b (Some i) (get call_cmp old k)) (at_call e k) ∙ go (eqb e.client k.client && eqb e.nonce k.nonce) refl
    ∙ ap (λ (b : Bool). or_else (position (is_call k.client k.nonce) (take i ts)) (cond b (Some i) None)) (sym is) ∙ sym (position_more (is_call k.client k.nonce) ts i lt)
  where
    is : is_call k.client k.nonce (text_at ts i) ≡ (eqb e.client k.client && eqb e.nonce k.nonce)
    is = ap (λ (r : Result Entry ℕ). ok_and r (λ e. eqb e.client k.client && eqb e.nonce k.nonce)) (ap entry_of (sym here) ∙ read)

    or_none : (o : Option ℕ) → o ≡ or_else o None
    or_none None = refl
    or_none (Some x) = refl

    go : (b : Bool) → (eqb e.client k.client && eqb e.nonce k.nonce) ≡ b → cond b (Some i) (get call_cmp old k) ≡ or_else (position (is_call k.client k.nonce) (take i ts)) (cond b (Some i) None)
    go true t =
        let parts = and_parts (eqb e.client k.client) (eqb e.nonce k.nonce) t in
        let client : e.client ≡ k.client = eqb-true _ _ parts.0 in
        let nonce : e.nonce ≡ k.nonce = eqb-true _ _ parts.1 in
        let still : None ≡ position (is_call k.client k.nonce) (take i ts) = absent ∙ ap (λ (c : ℕ). position (is_call c e.nonce) (take i ts)) client ∙ ap (λ (n : ℕ). position (is_call k.client n) (take i ts)) nonce in
        ap (λ (o : Option ℕ). or_else o (Some i)) still
    go false t = index k ∙ or_none (position (is_call k.client k.nonce) (take i ts))
