-- Files that are written one after another, and a folder after them (this project's own).
use Rattle.std.specs.Prelude.{ℕ, ◌≡◌, ◌≢◌, List, [], ◌∷◌, ◌++◌, Option, Some, bytes_eq, if◌then◌else◌, IsTrue}
use Rattle.cp_endings.specs.Folders.{Files}

-- a file that is written: its name and its bytes
pub record FileWrite : Type 0 where
  pub name : List ℕ
  pub bytes : List ℕ

abbrev pub write_of : List ℕ → List ℕ → FileWrite
write_of name bytes = record { name = name; bytes = bytes }

-- the content of the file of this name after these writes, one after another
unfoldable pub content_after : List ℕ → Option (List ℕ) → List FileWrite → Option (List ℕ)
content_after name content [] = content
content_after name content (w ∷ ws) = content_after name (if bytes_eq name w.name then Some w.bytes else content) ws

-- all of them were done, and no other file changed
abbrev pub WritesAll : List FileWrite → Files → Files → Type 0
WritesAll writes old new = IsTrue old.tells → (name : List ℕ) → new.file name ≡ content_after name (old.file name) writes

-- Those before one were done, which failed, after which the file of its name may hold anything. No
-- other file changed.
pub record StopsAt (writes : List FileWrite) (old new : Files) : Type 0 where
  pub done : List FileWrite
  pub failed : FileWrite
  pub left : List FileWrite
  pub split : writes ≡ done ++ failed ∷ left
  pub files : IsTrue old.tells → (name : List ℕ) → name ≢ failed.name → new.file name ≡ content_after name (old.file name) done
