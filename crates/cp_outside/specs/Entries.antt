-- The writes that stand in a log (this project's own).
use Rattle.std.specs.Prelude.{ℕ, ◌-◌, ◌≤◌, List, take, drop, map}
use Rattle.cp_outside.specs.MemFolders.{Written}
use Rattle.cp_outside.specs.declared.entries.Entry.{Entry}

-- The write of an entry.
abbrev pub write_in : List ℕ → Entry → Written
write_in bytes entry = record {
  name = take (entry.middle - entry.start) (drop entry.start bytes);
  content = take (entry.end - entry.middle) (drop entry.middle bytes);
}

abbrev pub content_in : List ℕ → Entry → List ℕ
content_in bytes entry = (write_in bytes entry).content

-- The writes of all entries.
abbrev pub writes_in : List ℕ → List Entry → List Written
writes_in bytes entries = map (write_in bytes) entries

-- The entry's parts lie among so many bytes.
pub record IsWithin (n : ℕ) (entry : Entry) : Type 0 where
  pub name : entry.start ≤ entry.middle
  pub content : entry.middle ≤ entry.end
  pub all : entry.end ≤ n
