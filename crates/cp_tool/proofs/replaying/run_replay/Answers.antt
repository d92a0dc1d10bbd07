use Rattle.cp_endings.specs.Folders.{Files, files_of}
use Rattle.cp_commands.specs.View.{replay_words_view}
use Rattle.cp_tool.proofs.ReplayLemmas.{replay_unwritten, replay_written}
use Rattle.cp_tool.proofs.replaying.run_replay.Goals as goal

pub returns-clause-ends : goal.returns-clause-ends
returns-clause-ends g c =
    let old : Files = files_of g.F.Folder c.args.files.now in
    let mid : Files = files_of g.F.Folder c.made.new.files in
    let new : Files = files_of g.F.Folder c.write_replay.new.files in
    replay_unwritten (replay_words_view c.args.words) old mid new c.in-Ok.done c.in-Ok.ensures.made c.in-Ok.ensures.kept c.in-Ok.ensures.tells c.in-Ok.ensures.unwritten c.write_replay.ensures.unread c.write_replay.ensures.others c.in-Err-write_replay.ending c.in-Err-write_replay.ensures.writes

pub returns-in-Ok-write_replay-clause-ends : goal.returns-in-Ok-write_replay-clause-ends
returns-in-Ok-write_replay-clause-ends g c =
    let old : Files = files_of g.F.Folder c.args.files.now in
    let mid : Files = files_of g.F.Folder c.made.new.files in
    let new : Files = files_of g.F.Folder c.write_replay.new.files in
    replay_written (replay_words_view c.args.words) old mid new c.in-Ok.done c.in-Ok.ensures.made c.in-Ok.ensures.kept c.in-Ok.ensures.tells c.in-Ok.ensures.unwritten c.write_replay.ensures.unread c.write_replay.ensures.others c.in-Ok-write_replay.ensures.writes
