-- What is true of a log (this project's own).
use Rattle.std.specs.Prelude.{◌≡◌, ◌+◌, ◌*◌, ◌/◌, ◌≤◌, All, vec_len, vec_capacity}
use Rattle.cp_outside.specs.Entries.{IsWithin, writes_in}
use Rattle.cp_outside.specs.MemFolders.{size_of_all}
use Rattle.cp_outside.specs.declared.file_logs.FileLog.TheInside.{Inside}

-- The entries lie among the bytes, what they fill is within the room, and the room was taken.
pub record IsLog (s : Inside) : Type 0 where
  pub within : All (IsWithin (vec_len s.bytes)) s.entries.items
  pub filled : size_of_all (writes_in s.bytes.items s.entries.items) ≡ 64 * vec_len s.entries + vec_len s.bytes
  pub fits : 64 * vec_len s.entries + vec_len s.bytes ≤ s.room
  pub entries_room : s.room / 64 ≤ vec_capacity s.entries
  pub bytes_room : s.room ≤ vec_capacity s.bytes
