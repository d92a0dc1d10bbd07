-- Scripts: which bytes spell one, and its lines (this project's own).
use Rattle.std.specs.Prelude.{ℕ, zero, suc, ◌+◌, ◌-◌, ◌^◌, ◌<◌, ◌≤◌, Bool, List, [], ◌∷◌, length, take, drop, Option, Some, None, Result, Ok, Err, ◌==◌, if◌then◌else◌, bytes_eq, codes}
use Rattle.std.specs.List.{AllByRecursion, position}
use Rattle.cp_bytes.specs.Fields.{at_offset}
use Rattle.cp_words.specs.Options.{◌>>=◌}
use Rattle.cp_replay.specs.Words.{with_rest, words_in, number_at, content_at, only}
use Rattle.cp_replay.specs.declared.line.Line.{Line}
use Rattle.cp_replay.specs.declared.line.Line.TheVariants.{Put, Get, Close, CloseWithout, At}

-- ---- one line

unfoldable pub put_of : List (List ℕ) → Option Line
put_of words = do
  client ← number_at 0 (2 ^ 32 - 1) words
  block ← number_at 0 (2 ^ 64 - 1) client.1
  nonce ← number_at 0 (2 ^ 64 - 1) block.1
  version ← number_at 0 (2 ^ 64 - 1) nonce.1
  content ← content_at version.1
  only (Put client.0 block.0 nonce.0 version.0 content.0) content.1

unfoldable pub get_of : List (List ℕ) → Option Line
get_of words = do
  client ← number_at 0 (2 ^ 32 - 1) words
  block ← number_at 0 (2 ^ 64 - 1) client.1
  nonce ← number_at 0 (2 ^ 64 - 1) block.1
  only (Get client.0 block.0 nonce.0) nonce.1

unfoldable pub at_of : List (List ℕ) → Option Line
at_of words = do
  epoch ← number_at 1 (2 ^ 64 - 1) words
  only (At epoch.0) epoch.1

unfoldable pub without_of : List (List ℕ) → Option Line
without_of words = do
  client ← number_at 0 (2 ^ 32 - 1) words
  only (CloseWithout client.0) client.1

unfoldable pub close_of : List (List ℕ) → Option Line
close_of [] = Some Close
close_of (word ∷ words) = if bytes_eq word (codes "without") then without_of words else None

-- the line of these words: the first one names what it is
abbrev pub line_of_words : List (List ℕ) → Option Line
line_of_words [] = None
line_of_words (name ∷ words) =
    if bytes_eq name (codes "put") then put_of words
    else if bytes_eq name (codes "get") then get_of words
    else if bytes_eq name (codes "close") then close_of words
    else if bytes_eq name (codes "at") then at_of words
    else None

-- the line that the bytes before its end spell
unfoldable pub line_of : List ℕ → Option Line
line_of text = line_of_words (words_in text)

-- ---- lines

-- the line feed
abbrev pub is_line_end : ℕ → Bool
is_line_end byte = byte == 10

abbrev pub line_until : List ℕ → Option ℕ → Option (Line × List ℕ)
line_until bytes None = None
line_until bytes (Some end) = with_rest (drop (end + 1) bytes) (line_of (take end bytes))

-- the line at the front, which a line feed ends, and the bytes after it
unfoldable pub line_at : List ℕ → Option (Line × List ℕ)
line_at bytes = line_until bytes (position is_line_end bytes)

-- a line before others, unless they are refused
abbrev pub before : Line → Result (List Line) ℕ → Result (List Line) ℕ
before line (Ok lines) = Ok (line ∷ lines)
before line (Err left) = Err left

-- the line at the front and the others, or how many bytes were left where there is none
abbrev pub line_and : List ℕ → Option (Line × List ℕ) → (List ℕ → Result (List Line) ℕ) → Result (List Line) ℕ
line_and bytes None others = Err (length bytes)
line_and bytes (Some first) others = before first.0 (others first.1)

-- all of the bytes as at most so many lines, or how many bytes were left where the first bad line begins
unfoldable pub lines_of : ℕ → List ℕ → Result (List Line) ℕ
lines_of zero bytes = if length bytes == 0 then Ok [] else Err (length bytes)
lines_of (suc n) bytes = if length bytes == 0 then Ok [] else line_and bytes (line_at bytes) (lines_of n)

-- a script has at most 1,000 lines
abbrev pub most_lines : ℕ
most_lines = 1000

-- the lines that all of the bytes spell, or the offset of the first byte of the first bad line
unfoldable pub script_of : List ℕ → Result (List Line) ℕ
script_of bytes = at_offset bytes (lines_of most_lines bytes)

-- ---- what was read

-- each value may stand in its field
abbrev pub LineFits : Line → Type 0
LineFits (Put client block nonce version content) = (client < 2 ^ 32) × (block < 2 ^ 64) × (nonce < 2 ^ 64) × (version < 2 ^ 64) × (length content ≤ 65536)
LineFits (Get client block nonce) = (client < 2 ^ 32) × (block < 2 ^ 64) × (nonce < 2 ^ 64)
LineFits Close = Unit {0}
LineFits (CloseWithout client) = client < 2 ^ 32
LineFits (At epoch) = (1 ≤ epoch) × (epoch < 2 ^ 64)

pub record ScriptFits (lines : List Line) : Type 0 where
  pub few : length lines ≤ most_lines
  pub each : AllByRecursion LineFits lines
