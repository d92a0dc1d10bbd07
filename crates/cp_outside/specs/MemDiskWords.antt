-- What callers see of a disk in memory.
use Rattle.std.specs.Prelude.{◌≡◌, ◌⊎◌, ◌<◌, ℕ, ◌+◌, ◌-◌, ◌^◌, min, List, [], Option, None, Some, Result, MatchResult, OnErr, Contains}
use Rattle.cp_outside.specs.MemDisks.{MadeCall, made_calls, one_less}
use Rattle.cp_outside.specs.declared.mem_disk.MemDisk.{MemDisk}

-- what a read gives, what it held for good before its calls, and its record of calls
abbrev pub content_of : MemDisk → List ℕ
content_of disk = disk.content.items

abbrev pub start_of : MemDisk → List ℕ
start_of disk = disk.start.items

abbrev pub record_of : MemDisk → List MadeCall
record_of disk = made_calls disk.calls.items disk.bytes.items

-- the room as it was made, and what is left of it
abbrev pub room_of : MemDisk → ℕ
room_of disk = disk.room

abbrev pub left_of : MemDisk → ℕ
left_of disk = disk.left

-- the numbers of the calls that are to fail, the number of calls so far, after how many further ones it stops, and its faults
abbrev pub failing_of : MemDisk → List ℕ
failing_of disk = disk.plan.failing.items

abbrev pub count_of : MemDisk → ℕ
count_of disk = disk.plan.count

abbrev pub further_of : MemDisk → Option ℕ
further_of disk = disk.plan.further

abbrev pub faults_of : MemDisk → ℕ
faults_of disk = disk.plan.faults

-- a call that fills so much of the room fails
abbrev pub CallFails : MemDisk → ℕ → Type 0
CallFails disk cost = Contains (failing_of disk) (count_of disk) ⊎ ((further_of disk ≡ Some 0) ⊎ (left_of disk < cost))

-- it holds this for good, with all of its room left and no call so far
pub record IsFresh (content : List ℕ) (room : ℕ) (failing : List ℕ) (disk : MemDisk) : Type 0 where
  pub held : content_of disk ≡ content
  pub start : start_of disk ≡ content
  pub calls : record_of disk ≡ []
  pub size : room_of disk ≡ room
  pub left : left_of disk ≡ room
  pub listed : failing_of disk ≡ failing
  pub count : count_of disk ≡ 0
  pub runs : further_of disk ≡ None
  pub faults : faults_of disk ≡ 0

-- A call fills so much of the room where it succeeds, and else changes nothing but the counts.
pub record Counts {T E : Type 0} (cost : ℕ) (old new : MemDisk) (result : Result T E) : Type 0 where
  pub fills : MatchResult result (λ _. left_of new + cost ≡ left_of old) (λ _. left_of new ≡ left_of old)
  pub calls : OnErr result (record_of new ≡ record_of old)
  pub start : start_of new ≡ start_of old
  pub size : room_of new ≡ room_of old
  pub listed : failing_of new ≡ failing_of old
  pub count : count_of new ≡ min (count_of old + 1) (2 ^ 64 - 1)
  pub stops : further_of new ≡ one_less (further_of old)
