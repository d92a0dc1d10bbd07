use Rattle.std.proofs.Common.{ℕ, List, subst}
use Rattle.cp_endings.specs.Folders.{Files, files_of}
use Rattle.cp_tool.specs.ReplayInputs.{GivesReplay}
use Rattle.cp_commands.specs.View.{replay_words_view}
use Rattle.cp_endings.proofs.InputLemmas.{read_later}
use Rattle.cp_tool.proofs.ReplayLemmas.{made_first, made_second, made_both}
use Rattle.cp_tool.proofs.replaying.made.Goals as goal

pub returns-in-Err-clause-made : goal.returns-in-Err-clause-made
returns-in-Err-clause-made g c =
    let old : Files = files_of g.F.Folder c.args.files.now in
    made_first (replay_words_view c.args.words.now) old _ c.in-Err.ending c.in-Err.ensures.reads

pub returns-in-Err-input-clause-made : goal.returns-in-Err-input-clause-made
returns-in-Err-input-clause-made g c =
    let old : Files = files_of g.F.Folder c.args.files.now in
    let mid : Files = files_of g.F.Folder c.input.new.files in
    made_second (replay_words_view c.args.words.now) old _ _ c.in-Ok.seed c.in-Err-input.ending c.in-Ok.ensures.reads
    (read_later old mid _ _ _ _ c.input.ensures.kept c.input.ensures.tells c.in-Ok.ensures.reads.failed c.in-Err-input.ensures.reads)

pub returns-clause-made : goal.returns-clause-made
returns-clause-made g c =
    let words = replay_words_view c.args.words.now in
    let old : Files = files_of g.F.Folder c.args.files.now in
    let mid : Files = files_of g.F.Folder c.input.new.files in
    made_both words old _ _ c.in-Ok.seed c.in-Ok-input.script c.replayed.result c.in-Ok.ensures.reads
    (read_later old mid _ _ _ _ c.input.ensures.kept c.input.ensures.tells c.in-Ok.ensures.reads.failed c.in-Ok-input.ensures.reads)
    (subst (λ (s : List ℕ). GivesReplay words s c.in-Ok-input.script.items c.replayed.result) c.as_slice.ensures.value
    (subst (λ (t : List ℕ). GivesReplay words c.as_slice.result.now t c.replayed.result) c.as_slice-2.ensures.value c.replayed.ensures))
