-- What stands at the front of the bytes where the head of a request is due (RFC 9112, sections 2 to 6, in this project's profile).
use Rattle.std.specs.Prelude.{◌≡◌, ◌≢◌, ℕ, ◌+◌, ◌-◌, ◌<◌, ◌≤◌, Bool, List, [], length, take, map, codes, slice_index, Option}
use Rattle.std.specs.List.{list_any}
use Rattle.httparse.specs.Grammar.{RequestHead, ReadsRequest}
use Rattle.httparse.specs.Spans.{name_and_value}
use Rattle.cp_http.specs.Fields.{values_of, length_in, HasGoodLength, has_close}

-- the longest head, in bytes; it stands behind a word, since `take 16384` computes long
unfoldable pub head_limit : ℕ
head_limit = 16384

-- the bytes in which a head must end
unfoldable pub window : List ℕ → List ℕ
window bytes = take head_limit bytes

-- the four bytes `\r\n\r\n` stand there
pub record IsBreak (bytes : List ℕ) (i : ℕ) : Type 0 where
  pub within : i + 4 ≤ length bytes
  pub first : slice_index bytes i ≡ 13
  pub second : slice_index bytes (i + 1) ≡ 10
  pub third : slice_index bytes (i + 2) ≡ 13
  pub fourth : slice_index bytes (i + 3) ≡ 10

-- no `\r\n\r\n` begins below that place
abbrev pub NoBreakBelow : List ℕ → ℕ → Type 0
NoBreakBelow bytes limit = (k : ℕ) → k < limit → ¬ IsBreak bytes k

-- the bytes hold no `\r\n\r\n`
abbrev pub HasNoBreak : List ℕ → Type 0
HasNoBreak bytes = (k : ℕ) → ¬ IsBreak bytes k

-- the first `\r\n\r\n` ends after n bytes
pub record EndsAfter (bytes : List ℕ) (n : ℕ) : Type 0 where
  pub start : ℕ
  pub here : IsBreak bytes start
  pub earliest : NoBreakBelow bytes start
  pub after : n ≡ start + 4

-- a line feed stands there, and no carriage return right before it
abbrev pub IsBareFeed : List ℕ → ℕ → Type 0
IsBareFeed text k = (0 < k) × (k < length text) × (slice_index text k ≡ 10) × (slice_index text (k - 1) ≢ 13)

-- the names and values of a head's fields, in order
abbrev pub fields_of : RequestHead → List (List ℕ × List ℕ)
fields_of head = map name_and_value head.fields

-- The text as a whole is this head of httparse's grammar (RFC 9112, sections 2.1, 3 and 5), and the profile takes it:
-- HTTP/1.1, at most 64 fields, a body by Content-Length alone. The first byte, each line's end and the bounds are this project's own.
pub record IsAccepted (text : List ℕ) (head : RequestHead) : Type 0 where
  pub no_return : slice_index text 0 ≢ 13
  pub no_feed : slice_index text 0 ≢ 10
  pub no_bare_feed : (k : ℕ) → ¬ IsBareFeed text k
  pub reads : ReadsRequest text head []
  pub version : head.minor ≡ 1
  pub few : length head.fields ≤ 64
  pub whole : values_of (codes "transfer-encoding") (fields_of head) ≡ []
  pub lengths : HasGoodLength (values_of (codes "content-length") (fields_of head))

-- what a head says: the method and the target of its request line, the length of the body, and whether the connection ends
pub record HeadContent : Type 0 where
  pub method : List ℕ
  pub path : List ℕ
  pub length : Option ℕ
  pub close : Bool

-- what this head says
abbrev pub content_of : RequestHead → HeadContent
content_of head = record {
  method = head.method;
  path = head.target;
  length = length_in (values_of (codes "content-length") (fields_of head));
  close = list_any has_close (values_of (codes "connection") (fields_of head));
}

-- the text is a head that the profile takes, and says this
abbrev pub HoldsHead : List ℕ → HeadContent → Type 0
HoldsHead text content = (head : RequestHead) × IsAccepted text head × (content ≡ content_of head)

-- the text is no head that the profile takes
pub record HoldsNoHead (text : List ℕ) : Type 0 where
  pub never : (head : RequestHead) → ¬ IsAccepted text head

-- fewer bytes than the longest head has, and no end of a head
abbrev pub IsPartial : List ℕ → Type 0
IsPartial bytes = (length bytes < 16384) × HasNoBreak (window bytes)

-- as many bytes as the longest head has, and no end of a head in the first of them
abbrev pub IsTooLong : List ℕ → Type 0
IsTooLong bytes = (16384 ≤ length bytes) × HasNoBreak (window bytes)

-- the end of a head is there, and the bytes up to it are no head that the profile takes
abbrev pub HasBadHead : List ℕ → Type 0
HasBadHead bytes = (n : ℕ) × EndsAfter (window bytes) n × HoldsNoHead (take n (window bytes))

-- the first n bytes are a head that says this
abbrev pub HasHead : List ℕ → ℕ → HeadContent → Type 0
HasHead bytes n content = EndsAfter (window bytes) n × HoldsHead (take n (window bytes)) content
