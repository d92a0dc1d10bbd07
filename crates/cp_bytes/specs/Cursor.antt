-- What is left of a text that is read from its front.
use Rattle.std.specs.Prelude.{ℕ, ◌-◌, List, length}

pub record Cursor : Type 0 where
  pub total : ℕ  -- the length of the whole text
  pub rest : List ℕ  -- what is left of it

-- the beginning of a text
abbrev pub start : List ℕ → Cursor
start bytes = record { total = length bytes; rest = bytes }

-- the offset of what is left, from the text's first byte
abbrev pub offset_of : Cursor → ℕ
offset_of c = c.total - length c.rest
