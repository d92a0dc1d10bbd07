-- The families list of a script, and a list less a client (this project's own).
use Rattle.std.specs.Prelude.{ℕ, Bool, not, ◌&&◌, ◌||◌, ◌≡◌, List, [], ◌∷◌, map, flat_map, filter, nat_lt, ◌==◌, if◌then◌else◌}
use Rattle.cp_families.specs.Families.{FamiliesFit, FamilyRow, families_of, families_text, family_text}
use Rattle.cp_core.specs.Store.{or_nil}
use Rattle.cp_families.specs.Writers.{family_of}
use Rattle.cp_replay.specs.declared.line.Line.{Line}
use Rattle.cp_replay.specs.declared.line.Line.TheVariants.{Put, Get, Close, CloseWithout, At}
use Rattle.cp_replay.specs.declared.writer.Writer.{Writer}

-- by family, and then by client
abbrev pub is_before : Writer → Writer → Bool
is_before a b = nat_lt a.family b.family || ((a.family == b.family) && nat_lt a.client b.client)

abbrev pub is_same : Writer → Writer → Bool
is_same a b = (a.family == b.family) && (a.client == b.client)

-- one more in its place, unless it is there
unfoldable pub with_writer : List Writer → Writer → List Writer
with_writer [] w = w ∷ []
with_writer (x ∷ xs) w = if is_before x w then x ∷ with_writer xs w else (if is_same x w then x ∷ xs else w ∷ (x ∷ xs))

-- with the client of a put in the block's family
abbrev pub with_line : List Writer → Line → List Writer
with_line ws (Put client block nonce version content) = with_writer ws (record { family = family_of block; client = client })
with_line ws (Get client block nonce) = ws
with_line ws Close = ws
with_line ws (CloseWithout client) = ws
with_line ws (At epoch) = ws

unfoldable pub with_lines : List Writer → List Line → List Writer
with_lines ws [] = ws
with_lines ws (line ∷ lines) = with_lines (with_line ws line) lines

-- the key's row for each, ascending
abbrev pub row_for : List ℕ → Writer → FamilyRow
row_for key w = record { family = w.family; client = w.client; key = key }

unfoldable pub rows_for : List ℕ → List Line → List FamilyRow
rows_for key lines = map (row_for key) (with_lines [] lines)

-- the texts of these rows
abbrev pub rows_text : List ℕ → List Writer → List ℕ
rows_text key ws = flat_map family_text (map (row_for key) ws)

-- the bytes are the text of these rows, which make a list
pub record IsListOf (bytes : List ℕ) (rows : List FamilyRow) : Type 0 where
  pub text : bytes ≡ families_text rows
  pub fits : FamiliesFit rows

-- ---- a list less a client

abbrev pub is_other : ℕ → Writer → Bool
is_other client w = not (w.client == client)

-- the text of the list that this text spells, less all rows of the client
unfoldable pub list_without : ℕ → List ℕ → List ℕ
list_without client text = families_text (filter (λ r. not (r.client == client)) (or_nil (families_of text)))
