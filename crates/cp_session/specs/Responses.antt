-- The responses of a session (this project's own).
use Rattle.std.specs.Prelude.{ℕ, Bool, true, List, ◌++◌, codes, Result, Ok, Err}
use Rattle.cp_http.specs.Responses.{response}
use Rattle.cp_http.specs.declared.allows.Allow.TheVariants.{Nothing}
use Rattle.cp_session.specs.declared.refusals.Refusal.{Refusal}
use Rattle.cp_session.specs.declared.rejections.Rejection.{Rejection}
use Rattle.cp_session.specs.Refusals.{status_of, text_of}
use Rattle.cp_session.specs.Rejections.{status_of as rejection_status, allow_in, body_of}

-- the response that tells a reply: its bytes, or the refusal's text on a line
unfoldable pub reply_response : Result (List ℕ) Refusal → Bool → List ℕ
reply_response (Ok body) last = response 200 Nothing body last
reply_response (Err refusal) last = response (status_of refusal) Nothing (text_of refusal ++ codes "\n") last

-- the response that tells a rejection, which is the last
abbrev pub rejection_response : Rejection → List ℕ
rejection_response rejection = response (rejection_status rejection) (allow_in rejection) (body_of rejection) true
