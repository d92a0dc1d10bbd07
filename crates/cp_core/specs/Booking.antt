-- What a call that has an entry is answered (this project's own).
use Rattle.std.specs.Prelude.{ℕ, List}

pub record Booking : Type 0 where
  pub leaf : ℕ  -- the number of the leaf that signs the text
  pub text : List ℕ  -- the attestation's
  pub content : List ℕ  -- a get's; empty at a put
