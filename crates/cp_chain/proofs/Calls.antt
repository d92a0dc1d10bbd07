-- Where the text of a call has its client and nonce.
use Rattle.std.proofs.Common.{◌≡◌, ℕ, ◌-◌, ◌<◌, Bool, true, false, ◌&&◌, eqb, List, ◌++◌, length, take, drop, refl, sym, ap, ◌∙◌, arith, length-append, length-drop}
use Rattle.std.specs.Int.{w32, w64, to_be_bytes}
use Rattle.std.specs.List.{starts_with}
use Rattle.std.proofs.lemmas.Bool.{and_parts, eqb-true, false≢true}
use Rattle.std.proofs.lemmas.Bool.Decides.{Decides-eqb}
use Rattle.std.proofs.lemmas.List.{take_all}
use Rattle.std.proofs.lemmas.Slice.Eq.{starts_is}
use Rattle.cp_bytes.specs.Fields.{IsBytes, spell}
use Rattle.cp_statements.specs.Entry.{Entry, entry_of, entry_text}
use Rattle.cp_statements.proofs.Entries.{entry_takes}
use Rattle.cp_chain.specs.Legal.{is_call}
use Rattle.cp_chain.proofs.Found.{ok_and_true}

pub record StandsAt (i : ℕ) (piece text : List ℕ) : Type 0 where
  pub rest : List ℕ
  pub there : drop i text ≡ piece ++ rest

pub record CallStands (client nonce : ℕ) (text : List ℕ) : Type 0 where
  pub first : StandsAt 29 (to_be_bytes w32 client) text
  pub second : StandsAt 33 (to_be_bytes w64 nonce) text

entry_stands : (e : Entry) → CallStands e.client e.nonce (entry_text e)
unfolding entry_text spell
entry_stands e = record {
  first = record { rest = drop 33 (entry_text e); there = refl };
  second = record { rest = drop 41 (entry_text e); there = refl };
}

call_stands : (client nonce : ℕ) (text : List ℕ) → IsBytes text → is_call client nonce text ≡ true → CallStands client nonce text
call_stands client nonce text bytes h =
    let r = ok_and_true (entry_of text) (λ e. eqb e.client client && eqb e.nonce nonce) h in
    let b = and_parts (eqb r.0.client client) (eqb r.0.nonce nonce) r.2 in
    let c : r.0.client ≡ client = eqb-true _ _ b.0 in
    let n : r.0.nonce ≡ nonce = eqb-true _ _ b.1 in
    let is : text ≡ entry_text r.0 = (entry_takes text r.0 bytes r.1).0 in
    let s = entry_stands r.0 in
    record {
      first = record { rest = s.first.rest; there = ap (drop 29) is ∙ s.first.there ∙ ap (λ (i : ℕ). to_be_bytes w32 i ++ s.first.rest) c };
      second = record { rest = s.second.rest; there = ap (drop 33) is ∙ s.second.there ∙ ap (λ (i : ℕ). to_be_bytes w64 i ++ s.second.rest) n };
    }

-- ---- texts that are no entry of the call

no_call : (client nonce : ℕ) (text : List ℕ) → (is_call client nonce text ≡ true → ⊥) → false ≡ is_call client nonce text
no_call client nonce text h = go (is_call client nonce text) h
  where
    go : (b : Bool) → (b ≡ true → ⊥) → false ≡ b
    go true h = absurd (h refl)
    go false h = refl

pub too_short : (client nonce : ℕ) (text : List ℕ) → IsBytes text → length text < 41 → false ≡ is_call client nonce text
too_short client nonce text bytes lt = no_call client nonce text (λ e.
    let s = (call_stands client nonce text bytes e).second in
    omega (arith, lt, length-drop 33 text, ap length s.there, length-append (to_be_bytes w64 nonce) s.rest))

-- a test of the bytes from a place on that fails
not_there : (i : ℕ) (piece text : List ℕ) (b : Bool) → b ≡ starts_with eqb (take (length text - i) (drop i text)) piece → b ≡ false → StandsAt i piece text → ⊥
not_there i piece text b is f s =
    let whole : take (length text - i) (drop i text) ≡ drop i text = take_all (length text - i) (drop i text) (omega (arith, length-drop i text)) in
    let t = (starts_is Decides-eqb (take (length text - i) (drop i text)) piece b is).1 s.rest (whole ∙ s.there) in
    false≢true (sym f ∙ t)

pub other_client : (client nonce : ℕ) (text piece : List ℕ) (b : Bool) → IsBytes text → piece ≡ to_be_bytes w32 client → b ≡ starts_with eqb (take (length text - 29) (drop 29 text)) piece → b ≡ false → false ≡ is_call client nonce text
other_client client nonce text piece b bytes spelled is f = no_call client nonce text (λ e.
    let s = (call_stands client nonce text bytes e).first in
    not_there 29 piece text b is f (record { rest = s.rest; there = s.there ∙ ap (λ (l : List ℕ). l ++ s.rest) (sym spelled) }))

pub other_nonce : (client nonce : ℕ) (text piece : List ℕ) (b : Bool) → IsBytes text → piece ≡ to_be_bytes w64 nonce → b ≡ starts_with eqb (take (length text - 33) (drop 33 text)) piece → b ≡ false → false ≡ is_call client nonce text
other_nonce client nonce text piece b bytes spelled is f = no_call client nonce text (λ e.
    let s = (call_stands client nonce text bytes e).second in
    not_there 33 piece text b is f (record { rest = s.rest; there = s.there ∙ ap (λ (l : List ℕ). l ++ s.rest) (sym spelled) }))
