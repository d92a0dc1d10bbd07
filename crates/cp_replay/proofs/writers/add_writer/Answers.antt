use Rattle.std.proofs.Common.{◌≡◌, Some, None, sym, ◌∙◌}
use Rattle.std.specs.Prelude.{not}
use Rattle.std.specs.List.{position}
use Rattle.cp_replay.specs.Writers.{is_before}
use Rattle.cp_replay.proofs.Inserted.{added_last, added_again, added_between}
use Rattle.cp_replay.proofs.writers.add_writer.Goals as goal

pub returns-in_ok-push-in-None : goal.returns-in_ok-push-in-None
returns-in_ok-push-in-None c =
    let e : position (λ w. not (is_before w c.args.writer)) c.args.writers.now.items ≡ None = rw (← c.deref.ensures.value) (sym c.place_for.ensures ∙ c.in-None.is) in
    c.in_ok-push-in-None.ensures.items ∙ sym (added_last c.args.writers.now.items c.args.writer e)

pub returns-in-Some : goal.returns-in-Some
returns-in-Some c =
    let e : position (λ w. not (is_before w c.args.writer)) c.args.writers.now.items ≡ Some c.in-Some.place = rw (← c.deref.ensures.value) (sym c.place_for.ensures ∙ c.in-Some.is) in
    sym (added_again c.args.writers.now.items c.args.writer c.index.result.now c.in-Some.place e (rw (← c.index.ensures) (sym c.is_same.ensures ∙ c.if-is_same.true)))

pub returns-in_ok-insert-in-Some-2 : goal.returns-in_ok-insert-in-Some-2
returns-in_ok-insert-in-Some-2 c =
    let e : position (λ w. not (is_before w c.args.writer)) c.args.writers.now.items ≡ Some c.in-Some.place = rw (← c.deref.ensures.value) (sym c.place_for.ensures ∙ c.in-Some.is) in
    c.in_ok-insert-in-Some-2.ensures.items ∙ sym (added_between c.args.writers.now.items c.args.writer c.index.result.now c.in-Some.place e (rw (← c.index.ensures) (sym c.is_same.ensures ∙ c.if-is_same.false)))
