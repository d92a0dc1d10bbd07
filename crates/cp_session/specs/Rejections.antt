-- Rejections of a session: their statuses and bodies (this project's own).
use Rattle.std.specs.Prelude.{ℕ, List, [], codes}
use Rattle.cp_http.specs.declared.allows.Allow.{Allow}
use Rattle.cp_http.specs.declared.allows.Allow.TheVariants.{Nothing}
use Rattle.cp_session.specs.declared.rejections.Rejection.{Rejection}
use Rattle.cp_session.specs.declared.rejections.Rejection.TheVariants.{BadHead, HeadTooLong, NoRoute, MethodNotAllowed, NoLength, BodyTooLong}

-- the status of a rejection (RFC 9110, section 15)
abbrev pub status_of : Rejection → ℕ
status_of BadHead = 400
status_of HeadTooLong = 413
status_of NoRoute = 404
status_of (MethodNotAllowed allow) = 405
status_of NoLength = 400
status_of BodyTooLong = 413

-- the method that the response allows (RFC 9110, section 15.5.6)
abbrev pub allow_in : Rejection → Allow
allow_in BadHead = Nothing
allow_in HeadTooLong = Nothing
allow_in NoRoute = Nothing
allow_in (MethodNotAllowed allow) = allow
allow_in NoLength = Nothing
allow_in BodyTooLong = Nothing

-- the body of the response: the rejection's name, or nothing for another method
abbrev pub body_of : Rejection → List ℕ
body_of BadHead = codes "BadHead\n"
body_of HeadTooLong = codes "HeadTooLong\n"
body_of NoRoute = codes "NoRoute\n"
body_of (MethodNotAllowed allow) = []
body_of NoLength = codes "NoLength\n"
body_of BodyTooLong = codes "BodyTooLong\n"
