use Rattle.std.proofs.Common.{arith, ◌∙◌}
use Rattle.std.proofs.lemmas.List.{take_all}
use Rattle.cp_commands.specs.View.{replay_words_view}
use Rattle.cp_tool.proofs.ReplayLemmas.{done_with}
use Rattle.cp_tool.proofs.replaying.replayed.Goals as goal

pub returns-in-Ok-replay : goal.returns-in-Ok-replay
returns-in-Ok-replay g c =
    done_with (replay_words_view c.args.words.now) c.args.seed.now c.args.script.now (omega (arith, c.if-seed.false)) c.in-Ok.script c.in-Ok.ensures.read c.part-seed.result
    (c.part-seed.ensures ∙ take_all 48 c.args.seed.now c.requires) c.in-Ok-replay.done c.in-Ok-replay.ensures
