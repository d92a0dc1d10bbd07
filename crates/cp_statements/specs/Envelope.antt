-- Envelopes: a text and its signature (this project's own).
use Rattle.std.specs.Prelude.{ℕ, ◌<◌, ◌^◌, List, ◌++◌, length, take, Option, Some, None, Result, Ok, nat_lt, if◌then◌else◌}
use Rattle.std.specs.Int.{w32, from_be_bytes}
use Rattle.cp_bytes.specs.Fields.{◌>>=◌, part, part_at, ended, at_offset}

pub record Envelope : Type 0 where
  pub text : List ℕ
  pub signature : List ℕ

-- its bytes
unfoldable pub envelope_text : Envelope → List ℕ
envelope_text x = part x.text ++ part x.signature

-- its parts are short enough to have a length of four bytes
abbrev pub EnvelopeFits : Envelope → Type 0
EnvelopeFits x = (length x.text < 2 ^ 32) × (length x.signature < 2 ^ 32)

-- the envelope at the front and the bytes after it, or how many bytes were left
unfoldable pub envelope_at : List ℕ → Result (Envelope × List ℕ) ℕ
envelope_at bytes = do
  text ← part_at bytes
  signature ← part_at text.1
  Ok (record { text = text.0; signature = signature.0 }, signature.1)

-- all of the bytes, or the offset of the first byte that does not fit
unfoldable pub envelope_of : List ℕ → Result Envelope ℕ
envelope_of bytes = at_offset bytes (envelope_at bytes >>= ended)

-- the leaf that a signature names: its first four bytes (RFC 8554, section 5.4)
abbrev pub leaf_named : List ℕ → Option ℕ
leaf_named signature = if nat_lt (length signature) 4 then None else Some (from_be_bytes w32 (take 4 signature))
