use Rattle.cp_endings.specs.Folders.{Files, files_of}
use Rattle.cp_tool.proofs.WriteLemmas.{Wrote}
use Rattle.cp_tool.proofs.file_write.write_files.Given as goal

-- those before this one were written
abbrev pub invariant-loop-write : goal.invariant-loop-write
invariant-loop-write g l =
    let old : Files = files_of g.F.Folder l.initial.files in
    let now : Files = files_of g.F.Folder l.files in
    Wrote l.writes old now l.write-index
