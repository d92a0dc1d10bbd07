-- Responses (RFC 9112, section 4, with the fields that this project's have, in this order).
use Rattle.std.specs.Prelude.{ℕ, Bool, List, [], ◌++◌, codes, length}
use Rattle.httparse.specs.Ascii.{crlf_bytes}
use Rattle.cp_http.specs.Statuses.{status_line, type_line, length_line, last_line}
use Rattle.cp_http.specs.declared.allows.Allow.{Allow}
use Rattle.cp_http.specs.declared.allows.Allow.TheVariants.{Nothing, Get, Post}

-- the method that the path has (RFC 9110, section 10.2.1)
unfoldable pub allow_line : Allow → List ℕ
allow_line Nothing = []
allow_line Get = codes "Allow: GET" ++ crlf_bytes
allow_line Post = codes "Allow: POST" ++ crlf_bytes

-- a response up to its body of n bytes
unfoldable pub response_head : ℕ → Allow → ℕ → Bool → List ℕ
response_head status allow n last = status_line status ++ type_line status ++ allow_line allow ++ length_line n ++ last_line last ++ crlf_bytes

-- a response
abbrev pub response : ℕ → Allow → List ℕ → Bool → List ℕ
response status allow body last = response_head status allow (length body) last ++ body
