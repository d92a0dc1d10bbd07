-- The session of a connection: what it writes for the bytes that it reads and the desk's replies (this project's own).
use Rattle.std.specs.Prelude.{◌≡◌, ℕ, suc, zero, ◌==◌, ◌||◌, Bool, true, false, List, [], ◌∷◌, ◌++◌, drop, slice_range, Result}
use Rattle.cp_session.specs.Replies.{IsSized}
use Rattle.cp_session.specs.Responses.{reply_response, rejection_response}
use Rattle.cp_session.specs.Fronts.{FrontIs}
use Rattle.cp_session.specs.declared.routes.Route.{Route}
use Rattle.cp_session.specs.declared.refusals.Refusal.{Refusal}
use Rattle.cp_session.specs.declared.fronts.Front.{Front}
use Rattle.cp_session.specs.declared.fronts.Front.TheVariants.{Waiting, Rejected, Asked}

-- a request that a desk got, and its reply
pub record Exchange : Type 0 where
  pub route : Route
  pub body : List ℕ
  pub reply : Result (List ℕ) Refusal

-- by these exchanges, one after the other, the desk may come from one state to the other
abbrev pub Leads : {D : Type 0} → (D → Route → List ℕ → Result (List ℕ) Refusal → D → Type 0) → D → List Exchange → D → Type 0
Leads Step old [] new = new ≡ old
Leads {D} Step old (x ∷ xs) new = (mid : D) × Step old x.route x.body x.reply mid × Leads Step mid xs new

-- how a session ends: it waits for more behind these bytes, or its last response tells a reply, or a rejection
pub data Ending : Type 0 where
  waits : List ℕ → Ending
  last rejected : Ending

-- one exchange, whose reply has the machine's values, and then the end, or what goes on behind the request
pub record Turn (next : List ℕ → List Exchange → List ℕ → Ending → Type 0) (final : Bool) (route : Route) (body after : List ℕ) (xs : List Exchange) (out : List ℕ) (end : Ending) : Type 0 where
  pub reply : Result (List ℕ) Refusal
  pub sized : IsSized reply
  pub more : List Exchange
  pub rest : List ℕ
  pub exchanges : xs ≡ record { route = route; body = body; reply = reply } ∷ more
  pub written : out ≡ reply_response reply final ++ rest
  pub ends : final ≡ true → (more ≡ []) × (rest ≡ []) × (end ≡ last)
  pub goes_on : final ≡ false → next after more rest end

-- what the front of the bytes comes to
abbrev pub Goes : (List ℕ → List Exchange → List ℕ → Ending → Type 0) → Bool → List ℕ → Front → List Exchange → List ℕ → Ending → Type 0
Goes next final bytes Waiting xs out end = (xs ≡ []) × (out ≡ []) × (end ≡ waits bytes)
Goes next final bytes (Rejected rejection) xs out end = (xs ≡ []) × (out ≡ rejection_response rejection) × (end ≡ rejected)
Goes next final bytes (Asked request) xs out end =
    Turn next (request.close || final) request.route (slice_range bytes request.start request.stop) (drop request.stop bytes) xs out end

-- With so many requests at most, a connection that sent these bytes, of which a desk got these exchanges, gets these bytes.
-- The response to a request that asks for the end of the connection is the last, and so is that to the last request of all.
unfoldable pub Session : ℕ → List ℕ → List Exchange → List ℕ → Ending → Type 0
Session zero bytes xs out end = ⊥
Session (suc left) bytes xs out end = (front : Front) × FrontIs bytes front × Goes (Session left) (left == 0) bytes front xs out end
