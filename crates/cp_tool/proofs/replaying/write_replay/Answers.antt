use Rattle.std.proofs.Common.{List, map, ap, ◌∙◌}
use Rattle.cp_replay.specs.View.{replayed_view}
use Rattle.cp_endings.specs.Folders.{files_of}
use Rattle.cp_tool.specs.ReplayView.{write_view}
use Rattle.cp_tool.specs.declared.file_write.FileWrite as code
use Rattle.cp_tool.proofs.WriteLemmas.{apart_stays}
use Rattle.cp_tool.proofs.replaying.write_replay.Goals as goal

pub returns-in-Ok-write_files-clause-others : goal.returns-in-Ok-write_files-clause-others
returns-in-Ok-write_files-clause-others g c =
    apart_stays (files_of g.F.Folder c.args.files.now) (files_of g.F.Folder c.write_files.new.files) (map write_view c.as_slice.result.now) (replayed_view c.args.done.now)
    (ap (λ (l : List code.FileWrite). map write_view l) c.as_slice.ensures.value ∙ c.in-Ok.ensures) c.write_files.ensures.others

pub returns-clause-others : goal.returns-clause-others
returns-clause-others g c =
    apart_stays (files_of g.F.Folder c.args.files.now) (files_of g.F.Folder c.write_files.new.files) (map write_view c.as_slice.result.now) (replayed_view c.args.done.now)
    (ap (λ (l : List code.FileWrite). map write_view l) c.as_slice.ensures.value ∙ c.in-Ok.ensures) c.write_files.ensures.others
