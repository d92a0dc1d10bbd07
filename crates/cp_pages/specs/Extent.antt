-- What a contract sees of a run. This project's own.
use Rattle.std.specs.Prelude.{ℕ}

-- the page where a content begins, and the content's length in bytes
pub record Extent : Type 0 where
  pub first : ℕ
  pub len : ℕ
