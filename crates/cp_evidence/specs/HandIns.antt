-- Hand-ins: envelopes, one after another to the end (this project's own).
use Rattle.std.specs.Prelude.{ℕ, zero, suc, List, [], ◌∷◌, length, Result, Ok, Err, ◌==◌, if◌then◌else◌, flat_map}
use Rattle.std.specs.List.{AllByRecursion}
use Rattle.cp_bytes.specs.Fields.{◌>>=◌, at_offset}
use Rattle.cp_statements.specs.Envelope.{Envelope, EnvelopeFits, envelope_text, envelope_at}

abbrev pub HandInsFit : List Envelope → Type 0
HandInsFit xs = AllByRecursion EnvelopeFits xs

-- their bytes
unfoldable pub hand_ins_text : List Envelope → List ℕ
hand_ins_text xs = flat_map envelope_text xs

-- envelopes to the end; the number bounds the recursion, and the number of bytes is enough
unfoldable pub envelopes_at : ℕ → List ℕ → Result (List Envelope) ℕ
envelopes_at zero bytes = if length bytes == 0 then Ok [] else Err (length bytes)
envelopes_at (suc n) bytes = if length bytes == 0 then Ok [] else (do
  first ← envelope_at bytes
  others ← envelopes_at n first.1
  Ok (first.0 ∷ others))

-- what all of the bytes spell, or the offset of the first byte that does not fit
unfoldable pub hand_ins_of : List ℕ → Result (List Envelope) ℕ
hand_ins_of bytes = at_offset bytes (envelopes_at (length bytes) bytes)
