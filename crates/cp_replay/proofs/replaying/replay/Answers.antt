use Rattle.std.proofs.Common.{subst, ◌∙◌}
use Rattle.cp_replay.specs.Follows.{Follows}
use Rattle.cp_replay.specs.Replay.{after_lines, at_first}
use Rattle.cp_replay.proofs.Opening.{replay_done}
use Rattle.cp_replay.proofs.replaying.replay.Goals as goal

pub returns : goal.returns
returns g c =
    let s = c.in_ok-run.run'.store.store in
    let key = c.in_ok-key.key in
    let writer = c.in_ok-writer.writer in
    let follows = subst (λ l. Follows s c.in_ok-run-2.run' (after_lines key writer s 0 (at_first s) l)) c.lines-lines.ensures.lines c.in_ok-run-2.ensures in
    replay_done (record { height = c.args.height; ots = c.args.ots; seed = c.args.seed.now; pages = c.args.pages }) c.args.script.now key writer s c.in_ok-run-2.run' c.bytes-public.result c.from_vec.result c.from_vec-2.result
    c.in_ok-key.ensures c.in_ok-writer.ensures c.in_ok-run.ensures.store follows (c.bytes-public.ensures.bytes ∙ c.public.ensures) c.from_vec.ensures c.from_vec-2.ensures
