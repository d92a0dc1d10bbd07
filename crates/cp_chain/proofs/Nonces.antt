-- Greatest nonces of the texts that were passed over.
use Rattle.std.proofs.Common.{◌≡◌, ℕ, ◌+◌, ◌<◌, ◌≤◌, Bool, true, false, cond, ◌&&◌, eqb, List, [], ◌∷◌, ◌++◌, length, take, Some, None, Ok, refl, sym, ap, subst, ◌∙◌, arith}
use Rattle.std.specs.Prelude.{position}
use Rattle.std.specs.List.{position_from}
use Rattle.std.proofs.lemmas.Bool.{and_parts, eqb-true}
use Rattle.std.proofs.lemmas.Iterator.Adapters.{position_from-zero}
use Rattle.std.proofs.lemmas.List.{take_more}
use Rattle.cp_statements.specs.Entry.{Entry, entry_of}
use Rattle.cp_chain.specs.Legal.{is_call}
use Rattle.cp_chain.specs.Pass.{NoncesWithin}
use Rattle.cp_chain.specs.Rules.{text_at}
use Rattle.cp_chain.proofs.Found.{ok_and_true}

-- a call with a greater nonce is not among them
none_from : (client nonce top i : ℕ) (xs : List (List ℕ)) → top < nonce → NoncesWithin top xs → position_from (is_call client nonce) i xs ≡ None
none_from client nonce top i [] lt all = refl
none_from client nonce top i (x ∷ xs) lt all = go (is_call client nonce x) refl (none_from client nonce top (i + 1) xs lt all.1)
  where
    go : (b : Bool) → is_call client nonce x ≡ b → position_from (is_call client nonce) (i + 1) xs ≡ None → cond b (Some i) (position_from (is_call client nonce) (i + 1) xs) ≡ None
    go true e more =
        let r = ok_and_true (entry_of x) (λ e. eqb e.client client && eqb e.nonce nonce) e in
        let n : r.0.nonce ≡ nonce = eqb-true _ _ (and_parts (eqb r.0.client client) (eqb r.0.nonce nonce) r.2).1 in
        absurd (omega (arith, lt, n, all.0 r.0 r.1))
    go false e more = more

pub new_nonce : (client nonce top : ℕ) (xs : List (List ℕ)) → top < nonce → NoncesWithin top xs → None ≡ position (is_call client nonce) xs
new_nonce client nonce top xs lt all = sym (position_from-zero (is_call client nonce) xs ∙ none_from client nonce top 0 xs lt all)

-- one text more
within_one : (xs : List (List ℕ)) (top more : ℕ) (text : List ℕ) (e : Entry) → top ≤ more → e.nonce ≤ more → entry_of text ≡ Ok e → NoncesWithin top xs → NoncesWithin more (xs ++ text ∷ [])
within_one [] top more text e le here read all = (λ d is. let same : e ≡ d = cc in subst (λ (d : Entry). d.nonce ≤ more) same here, tt)
within_one (x ∷ xs) top more text e le here read all = (λ d is. omega (arith, le, all.0 d is), within_one xs top more text e le here read all.1)

pub nonces_more : (ts : List (List ℕ)) (i top more : ℕ) (text : List ℕ) (e : Entry) → i < length ts → text ≡ text_at ts i → entry_of text ≡ Ok e → top ≤ more → e.nonce ≤ more → NoncesWithin top (take i ts) → NoncesWithin more (take (i + 1) ts)
nonces_more ts i top more text e lt at read le here all =
    subst (NoncesWithin more) (sym (take_more ts i [] lt)) (within_one (take i ts) top more (text_at ts i) e le here (ap entry_of (sym at) ∙ read) all)
