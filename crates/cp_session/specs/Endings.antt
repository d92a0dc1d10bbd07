-- What a whole call of a session comes to (this project's own).
use Rattle.std.specs.Prelude.{◌≡◌, ◌≢◌, ◌+◌, ◌<◌, ℕ, Bool, true, false, List, [], ◌∷◌, ◌++◌, length, take, flat_map, Option, Result, Ok, Err}
use Rattle.std.specs.Io.KnownBytes.{Appends, Consumes, IsAtEnd}
use Rattle.cp_session.specs.declared.routes.Route.{Route}
use Rattle.cp_session.specs.declared.refusals.Refusal.{Refusal}
use Rattle.cp_session.specs.declared.rejections.Rejection.{Rejection}
use Rattle.cp_session.specs.declared.session_ends.SessionEnd.{SessionEnd}
use Rattle.cp_session.specs.declared.session_ends.SessionEnd.TheVariants.{Truncated, ReadFault, WriteFault, OutOfMemory}
use Rattle.cp_session.specs.Responses.{reply_response, rejection_response}
use Rattle.cp_session.specs.Sessions.{Exchange, Leads, Session, Ending, waits, last, rejected}

-- the clean end of the input, before the first byte of a head, or the last response; so many requests were answered
abbrev pub EndsWell : Option (List ℕ) → ℕ → ℕ → Ending → Type 0
EndsWell left n exchanges (waits bytes) = (bytes ≡ []) × IsAtEnd left × (n ≡ exchanges)
EndsWell left n exchanges last = n ≡ exchanges
EndsWell left n exchanges rejected = n ≡ exchanges + 1

-- the input ended inside a request
abbrev pub EndsInside : Option (List ℕ) → Ending → Type 0
EndsInside left (waits bytes) = (bytes ≢ []) × IsAtEnd left
EndsInside left last = ⊥
EndsInside left rejected = ⊥

-- all whole requests were answered, and none was the last
abbrev pub EndsWaiting : Ending → Type 0
EndsWaiting (waits bytes) = Unit {0}
EndsWaiting last = ⊥
EndsWaiting rejected = ⊥

-- the responses to these exchanges, of which none is the last
abbrev pub responses_of : List Exchange → List ℕ
responses_of xs = flat_map (λ x. reply_response x.reply false) xs

-- The desk got one exchange more than these, and this is the response to it.
abbrev pub IsNextResponse : Bool → List Exchange → List Exchange → List ℕ → Type 0
IsNextResponse final answered xs response =
    (x : Exchange) × (xs ≡ answered ++ x ∷ []) × (response ≡ reply_response x.reply final)

-- The response that the session ends with, behind those to these exchanges: the desk got one exchange
-- more, or no more and the next was rejected.
abbrev pub IsLastResponse : List Exchange → List Exchange → List ℕ → Ending → Type 0
IsLastResponse answered xs response (waits bytes) = IsNextResponse false answered xs response
IsLastResponse answered xs response last = IsNextResponse true answered xs response
IsLastResponse answered xs response rejected =
    (xs ≡ answered) × ((rejection : Rejection) × (response ≡ rejection_response rejection))

-- A write failed: the responses to all exchanges before were written whole, and of the last response a
-- part. The desk got no request behind it.
pub record CutOff (before after : Option (List ℕ)) (xs : List Exchange) (end : Ending) : Type 0 where
  pub answered : List Exchange
  pub response : List ℕ
  pub is_last : IsLastResponse answered xs response end
  pub n : ℕ
  pub short : n < length response
  pub written : Appends before after (responses_of answered ++ take n response)

-- What the answer says of the bytes held before and after, of those read and of the session of those that were used. Behind
-- a write that failed there may be bytes that were read and not used; of that session the last response was written in part.
abbrev pub Outcome : Result ℕ SessionEnd → Option (List ℕ) → Option (List ℕ) → Option (List ℕ) → List ℕ → List Exchange → List ℕ → List ℕ → Ending → Type 0
Outcome (Ok n) left before after read xs out rest end = (rest ≡ []) × Appends before after out × EndsWell left n (length xs) end
Outcome (Err (Truncated taken)) left before after read xs out rest end = (rest ≡ []) × Appends before after out × EndsInside left end × (taken ≡ length read)
Outcome (Err ReadFault) left before after read xs out rest end = (rest ≡ []) × Appends before after out × EndsWaiting end
Outcome (Err WriteFault) left before after read xs out rest end = CutOff before after xs end
Outcome (Err OutOfMemory) left before after read xs out rest end = (read ≡ []) × Appends before after []

-- These bytes were read. Those used of them and these exchanges have the session of the bytes out, and the exchanges lead the
-- desk from its state before to that after.
pub record IsServed {D : Type 0} (Step : D → Route → List ℕ → Result (List ℕ) Refusal → D → Type 0) (old new : D)
    (left_old left_new held_old held_new : Option (List ℕ)) (result : Result ℕ SessionEnd) : Type 0 where
  pub read : List ℕ
  pub used : List ℕ
  pub rest : List ℕ
  pub exchanges : List Exchange
  pub out : List ℕ
  pub end : Ending
  pub consumed : Consumes left_old left_new read
  pub split : read ≡ used ++ rest
  pub session : Session 10000 used exchanges out end
  pub leads : Leads Step old exchanges new
  pub outcome : Outcome result left_new held_old held_new read exchanges out rest end
