-- Readings that may fail, one after another (this project's own).
use Rattle.std.specs.Prelude.{Option, Some, None}

-- a step after a step: the first one that fails decides
infixl 10 ◌>>=◌
abbrev pub ◌>>=◌ : {A B : Type 0} → Option A → (A → Option B) → Option B
(Some x) >>= f = f x
None >>= f = None
