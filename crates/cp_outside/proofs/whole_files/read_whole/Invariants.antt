use Rattle.std.proofs.Common.{◌≡◌, ℕ, ◌+◌, ◌-◌, ◌≤◌, max, List, IsTrue, vec_len}
use Rattle.cp_outside.specs.WholeFiles.{IsFrontOf}
use Rattle.cp_outside.proofs.whole_files.read_whole.Given as goal

abbrev pub invariant-loop-bytes : goal.invariant-loop-bytes
invariant-loop-bytes g l = record {
  room : vec_len l.bytes ≤ l.limit;
  so_far : IsTrue (g.F.Folder.tells l.folder) → IsFrontOf (g.F.Folder.file l.folder l.name) l.bytes.items;
  stays : g.F.Folder.read_faults l.folder ≡ g.F.Folder.read_faults l.initial.folder;
  unwritten : g.F.Folder.write_faults l.folder ≡ g.F.Folder.write_faults l.initial.folder;
  reach : g.F.Folder.reach l.folder ≤ max (g.F.Folder.reach l.initial.folder) (l.limit + 1);
  tells : g.F.Folder.tells l.folder ≡ g.F.Folder.tells l.initial.folder;
  kept : (other : List ℕ) → g.F.Folder.file l.folder other ≡ g.F.Folder.file l.initial.folder other;
}

abbrev pub decreases-loop-bytes : goal.decreases-loop-bytes
decreases-loop-bytes g l = l.limit - vec_len l.bytes
