use Rattle.std.proofs.Common.{Some, None, ◌∙◌, arith}
use Rattle.std.proofs.lemmas.Result.{err_from_is_err_and}
use Rattle.cp_statements.specs.View.{entry_view}
use Rattle.cp_chain.specs.Legal.{put_at}
use Rattle.cp_chain.specs.View.{fault_view, frame_view, put_view}
use Rattle.cp_chain.proofs.Nonces.{nonces_more}
use Rattle.cp_chain.proofs.Passes.{at_fault_alone, at_sound, put_behind}
use Rattle.cp_chain.proofs.first.pass.Goals as goal

pub returns-in_err-entry : goal.returns-in_err-entry
returns-in_err-entry c =
    let p = err_from_is_err_and c.from_residual.result c.from_residual.ensures.1 in
    rw (p.1, p.2)
    (at_fault_alone (frame_view c.args.frame.now) c.args.segment.now c.args.place c.args.text.now (put_view c.args.passed.now.put) (fault_view c.in_err-entry.field-0.0) c.requires.within c.requires.here c.requires.put c.in_err-entry.ensures)

pub returns-in-Some : goal.returns-in-Some
returns-in-Some c =
    at_sound (frame_view c.args.frame.now) c.args.segment.now c.args.place (entry_view c.in_ok-entry.entry) c.args.text.now (put_view c.args.passed.now.put) (Some c.in-Some.other)
    c.requires.within c.requires.here c.in_ok-entry.ensures.0 c.requires.put c.in_ok-entry.ensures.1 c.in-Some.ensures

pub returns-in-None : goal.returns-in-None
returns-in-None c =
    let f = frame_view c.args.frame.now in
    let e = entry_view c.in_ok-entry.entry in (
      at_sound f c.args.segment.now c.args.place e c.args.text.now (put_view c.args.passed.now.put) None
          c.requires.within c.requires.here c.in_ok-entry.ensures.0 c.requires.put c.in_ok-entry.ensures.1 c.in-None.ensures,
      c.behind_entry.ensures ∙ put_behind (put_at f.side.before) (put_view c.args.passed.now.put) c.args.segment.now c.args.place e c.args.text.now c.requires.within c.requires.here c.in_ok-entry.ensures.0 c.requires.put,
      nonces_more c.args.segment.now c.args.place c.args.passed.now.nonce c.max.result c.args.text.now e c.requires.within c.requires.here c.in_ok-entry.ensures.0 (omega (arith, c.max.ensures)) (omega (arith, c.max.ensures)) c.requires.nonces,
    )
