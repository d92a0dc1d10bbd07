use Rattle.std.proofs.Common.{refl, ◌∙◌, arith}
use Rattle.lms_tree.specs.Secret.{leaves_of}
use Rattle.cp_core.specs.declared.event.Event.TheVariants.{Call}
use Rattle.cp_replay.proofs.Steps.{answers_alike, call_follows, signs_below}
use Rattle.cp_replay.proofs.running.ReplayRun.call.Goals as goal

pub put_handed-requires : goal.put_handed-requires
put_handed-requires c =
    let s = c.args.self.store.store in
    let w = c.requires.follows in
    signs_below s w.0.state c.args.request (leaves_of c.args.key.now) c.in_ok-answer.answer w.1.fits w.1.keeps c.requires.admissible
    (c.in_ok-answer.ensures.answer ∙ answers_alike s c.args.self w.0 (Call 0 c.args.request) w.1) (omega (arith, c.requires.leaves))

pub returns : goal.returns
returns c p f =
    call_follows c.args.self.store.store c.args.key.now c.args.kind c.args.request c.args.self _ p c.in_ok-answer.answer f c.requires.admissible c.in_ok-answer.ensures.answer c.in_ok-answer.ensures.after
    (record { store = c.call.ensures.store; id = refl; list = refl; epochs = refl; named = refl }) c.in_ok-print_call.ensures c.in_ok-put_handed.ensures
