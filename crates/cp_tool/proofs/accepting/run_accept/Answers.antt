use Rattle.std.proofs.Common.{◌≡◌, ◌-◌, List, ℕ, length, take, ap, subst, ◌∙◌}
use Rattle.cp_bytes.specs.Fields.{IsBytes}
use Rattle.cp_client.specs.View.{accepted_view}
use Rattle.cp_commands.specs.View.{accept_words_view}
use Rattle.cp_endings.specs.Folders.{Files, files_of}
use Rattle.cp_tool.proofs.ClientLemmas.{accept_unread, accept_written}
use Rattle.cp_tool.proofs.accepting.run_accept.Goals as goal

pub returns-in-Err-clause-ends : goal.returns-in-Err-clause-ends
returns-in-Err-clause-ends g c =
    let old : Files = files_of g.F.Folder c.args.files.now in
    accept_unread (accept_words_view c.args.words) old _ c.in-Err.ending c.in-Err.ensures.reads c.three_inputs.ensures.kept

pub returns-clause-ends : goal.returns-clause-ends
returns-clause-ends g c =
    let old : Files = files_of g.F.Folder c.args.files.now in
    let mid : Files = files_of g.F.Folder c.three_inputs.new.files in
    let third : c.as_slice.result.now ≡ c.in-Ok.inputs.third.items = c.as_slice.ensures.value in
    accept_written (accept_words_view c.args.words) old mid _ c.in-Ok.inputs (accepted_view c.in-Ok-accepted_in.accepted) c.envelope_in-envelope.result.now _ c.in-Ok.ensures.reads c.in-Ok-accepted_in.ensures
    (subst (λ (l : List ℕ). IsBytes l) third c.envelope_in-envelope.ensures.bytes)
    (c.envelope_in-envelope.ensures.front ∙ ap (λ (l : List ℕ). take (length l - length c.in-Ok-accepted_in.accepted.content.now) l) third)
    c.three_inputs.ensures.kept c.three_inputs.ensures.tells c.three_inputs.ensures.unwritten c.put_accepted.ensures.ends c.put_accepted.ensures.others c.put_accepted.ensures.unread
