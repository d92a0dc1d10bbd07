-- What fixes a session (this project's own).
use Rattle.std.specs.Prelude.{◌≡◌, ℕ, List, map, Result}
use Rattle.cp_session.specs.declared.routes.Route.{Route}
use Rattle.cp_session.specs.declared.refusals.Refusal.{Refusal}
use Rattle.cp_session.specs.Sessions.{Exchange, Session, Ending}

-- what the desk got
abbrev pub question_of : Exchange → Route × List ℕ
question_of x = (x.route, x.body)

-- what the desk replied
abbrev pub answer_of : Exchange → Result (List ℕ) Refusal
answer_of x = x.reply

-- Two sessions ask the desk the same and end alike; where it replies the same, they write the same.
pub record IsSameSession (xs ys : List Exchange) (out other : List ℕ) (end stop : Ending) : Type 0 where
  pub questions : map question_of xs ≡ map question_of ys
  pub ending : end ≡ stop
  pub written : map answer_of xs ≡ map answer_of ys → out ≡ other

-- The bytes that a connection sent fix what its desk is asked and how its session ends, and with the replies they fix what
-- it gets.
abbrev pub SessionIsFixed : Type 0
SessionIsFixed = (n : ℕ) (bytes : List ℕ) (xs ys : List Exchange) (out other : List ℕ) (end stop : Ending)
    → Session n bytes xs out end → Session n bytes ys other stop → IsSameSession xs ys out other end stop
