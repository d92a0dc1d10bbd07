-- What a connection gets fixes what its desk replied (this project's own).
use Rattle.std.specs.Prelude.{◌≡◌, ℕ, List, map, Option, Some}
use Rattle.std.specs.Io.KnownBytes.{Appends}
use Rattle.cp_session.specs.Sessions.{Exchange, Session, Ending}
use Rattle.cp_session.specs.Endings.{CutOff}
use Rattle.cp_session.specs.Laws.{answer_of}

-- A connection got the whole responses to these exchanges: it got a session's bytes, or those of a
-- session whose write failed inside the response behind them.
pub data Gets (before after : Option (List ℕ)) (xs : List Exchange) : Type 0 where
  whole : (n : ℕ) (bytes out : List ℕ) (end : Ending)
      → Session n bytes xs out end → Appends before after out → Gets before after xs
  cut : (n : ℕ) (bytes out : List ℕ) (all : List Exchange) (end : Ending)
      → Session n bytes all out end → (c : CutOff before after all end) → xs ≡ c.answered
      → Gets before after xs

-- The bytes that were written fix the replies, whatever the connections sent and however their
-- sessions ended: where two connections got the same bytes, their desks replied the same, each body
-- and each refusal with its numbers.
abbrev pub RepliesAreFixed : Type 0
RepliesAreFixed = (held got : List ℕ) (xs ys : List Exchange)
    → Gets (Some held) (Some got) xs → Gets (Some held) (Some got) ys
    → map answer_of xs ≡ map answer_of ys
