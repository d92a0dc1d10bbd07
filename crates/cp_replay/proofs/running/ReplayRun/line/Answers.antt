use Rattle.std.proofs.Common.{refl, ap, subst, ◌∙◌}
use Rattle.sha2.specs.Sha256.{sha256}
use Rattle.cp_replay.specs.Script.{LineFits}
use Rattle.cp_replay.proofs.Steps.{at_line_follows, close_line_follows, get_line_follows, without_line_follows, put_asked_is, put_is_admissible, put_line_follows}
use Rattle.cp_replay.proofs.running.ReplayRun.line.Goals as goal

pub call-requires-clause-admissible : goal.call-requires-clause-admissible
call-requires-clause-admissible c =
    let s = c.args.self.store.store in
    let w = c.requires.follows in
    put_is_admissible s c.args.writer.now c.args.self w.0 c.args.number c.in-Put.client c.in-Put.block c.in-Put.nonce c.in-Put.version c.in-Put.content c.in_ok-request-in-Put.request w.1
    (subst LineFits c.in-Put.is c.requires.fits)
    (put_asked_is s c.args.writer.now c.args.self w.0 c.args.number c.in-Put.client c.in-Put.block c.in-Put.nonce c.in-Put.version c.in-Put.content c.digest-hash.result c.as_slice-in-Put.result.now c.in_ok-request-in-Put.request w.1
    (c.digest-hash.ensures ∙ ap sha256 c.as_slice.ensures) c.as_slice-in-Put.ensures c.in_ok-request-in-Put.ensures)

pub returns-in_ok-run-in-Put : goal.returns-in_ok-run-in-Put
returns-in_ok-run-in-Put c p f =
    let s = c.args.self.store.store in
    put_line_follows s c.args.key.now c.args.writer.now c.in_ok-run-in-Put.run' p c.args.number c.in-Put.client c.in-Put.block c.in-Put.nonce c.in-Put.version c.in-Put.content c.in_ok-request-in-Put.request c.args.line.now c.in-Put.is
    (put_asked_is s c.args.writer.now c.args.self p c.args.number c.in-Put.client c.in-Put.block c.in-Put.nonce c.in-Put.version c.in-Put.content c.digest-hash.result c.as_slice-in-Put.result.now c.in_ok-request-in-Put.request f
    (c.digest-hash.ensures ∙ ap sha256 c.as_slice.ensures) c.as_slice-in-Put.ensures c.in_ok-request-in-Put.ensures)
    (c.in_ok-run-in-Put.ensures p f)

pub returns-in_ok-run-in-Get : goal.returns-in_ok-run-in-Get
returns-in_ok-run-in-Get c p f =
    get_line_follows c.args.self.store.store c.args.key.now c.args.writer.now c.args.self c.in_ok-run-in-Get.run' p c.args.number c.in-Get.client c.in-Get.block c.in-Get.nonce c.args.line.now c.in-Get.is f (c.in_ok-run-in-Get.ensures p f)

pub returns-in_ok-run-in-Close : goal.returns-in_ok-run-in-Close
returns-in_ok-run-in-Close c p f = close_line_follows c.args.self.store.store c.args.key.now c.args.writer.now c.in_ok-run-in-Close.run' p c.args.number c.args.line.now c.in-Close.is (c.in_ok-run-in-Close.ensures p f)

pub returns-in_ok-run-in-CloseWithout : goal.returns-in_ok-run-in-CloseWithout
returns-in_ok-run-in-CloseWithout c p f =
    without_line_follows c.args.self.store.store c.args.key.now c.args.writer.now c.args.self c.in_ok-run-in-CloseWithout.run' p c.args.number c.in-CloseWithout.client c.in_ok-next-in-CloseWithout.next c.args.line.now c.in-CloseWithout.is f c.in_ok-next-in-CloseWithout.ensures (c.in_ok-run-in-CloseWithout.ensures p f)

pub returns-in_ok-print_at-in-At : goal.returns-in_ok-print_at-in-At
returns-in_ok-print_at-in-At c p f =
    at_line_follows c.args.self.store.store c.args.key.now c.args.writer.now c.args.self _ p c.args.number c.in-At.epoch c.args.line.now c.in-At.is (subst LineFits c.in-At.is c.requires.fits) f refl refl refl refl refl c.in_ok-print_at-in-At.ensures refl
