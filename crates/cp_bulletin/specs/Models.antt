-- What contracts see of a board and a reader. All of it is this project's own.
use Rattle.std.specs.Prelude.{ℕ, List}
use Rattle.cp_bulletin.specs.declared.contents.Contents.{Contents}
use Rattle.cp_bulletin.specs.Texts.{StartsWith}

-- a board: the published texts, and the one that a refused call has left to be published, if any
pub record BoardModel : Type 0 where
  pub texts : List Contents
  pub refused : List Contents

-- a reader: the texts that it has, those at their front that it has met on its board, and how many it has room for
pub record ReaderModel : Type 0 where
  pub texts : List Contents
  pub met : List Contents
  pub room : ℕ

-- the reader is this board's: what it has met is a beginning of what the board has published
abbrev pub IsReaderOf : BoardModel → ReaderModel → Type 0
IsReaderOf board reader = StartsWith board.texts reader.met
