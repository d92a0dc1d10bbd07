use Rattle.cp_commands.specs.View.{certify_words_view}
use Rattle.cp_endings.specs.Folders.{Files, files_of}
use Rattle.cp_more.proofs.Certified.{life_written}
use Rattle.cp_more.proofs.certifying.run_certify.Goals as goal

pub returns-clause-ends : goal.returns-clause-ends
returns-clause-ends g c =
    let old : Files = files_of g.F.Folder c.args.files.now in
    let mid : Files = files_of g.F.Folder c.input.new.files in
    life_written (certify_words_view c.args.words) old mid _ c.in-Ok.seed c.as_slice.result.now c.in-Ok-make_life.made _ c.in-Ok.ensures.reads c.as_slice.ensures.value c.in-Ok-make_life.ensures
    c.in-Ok.ensures.kept c.in-Ok.ensures.tells c.in-Ok.ensures.unwritten c.write_life.ensures.ends c.write_life.ensures.others c.write_life.ensures.unread
