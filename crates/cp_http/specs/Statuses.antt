-- The lines of a response's head that its status and its body decide (RFC 9112, section 4, and RFC 9110, sections 8.3 and 8.6).
use Rattle.std.specs.Prelude.{◌≡◌, ◌⊎◌, ℕ, ◌==◌, Bool, List, [], ◌++◌, codes, decimal, unwrap_or, if◌then◌else◌}
use Rattle.http.specs.StatusCode.{reason_phrase}
use Rattle.httparse.specs.Ascii.{crlf_bytes}

-- a status of this project's responses
abbrev pub IsStatus : ℕ → Type 0
IsStatus s = (s ≡ 200) ⊎ (s ≡ 400) ⊎ (s ≡ 404) ⊎ (s ≡ 405) ⊎ (s ≡ 409) ⊎ (s ≡ 413) ⊎ (s ≡ 503) ⊎ (s ≡ 507)

-- the canonical phrase of a status (RFC 9110, section 15, as the crate `http` has them)
unfoldable pub phrase : ℕ → List ℕ
phrase s = unwrap_or (reason_phrase s) []

-- the status line (RFC 9112, section 4)
abbrev pub status_line : ℕ → List ℕ
status_line s = codes "HTTP/1.1 " ++ decimal s ++ codes " " ++ phrase s ++ crlf_bytes

-- the type of the body (RFC 9110, section 8.3)
unfoldable pub type_line : ℕ → List ℕ
type_line s = if s == 200 then codes "Content-Type: application/octet-stream" ++ crlf_bytes else codes "Content-Type: text/plain" ++ crlf_bytes

-- the length of the body (RFC 9110, section 8.6)
abbrev pub length_line : ℕ → List ℕ
length_line n = codes "Content-Length: " ++ decimal n ++ crlf_bytes

-- whether the connection ends with this response (RFC 9112, section 9.6)
unfoldable pub last_line : Bool → List ℕ
last_line last = if last then codes "Connection: close" ++ crlf_bytes else []
