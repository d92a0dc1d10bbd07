use Rattle.std.proofs.Common.{List, ℕ, refl, ap, ◌∙◌}
use Rattle.sha2.specs.Sha256.{sha256}
use Rattle.cp_statements.specs.View.{put_request_view}
use Rattle.cp_endings.specs.ThreeInputs.{three_view}
use Rattle.cp_commands.specs.View.{put_words_view}
use Rattle.cp_endings.specs.Folders.{Files, files_of}
use Rattle.cp_tool.specs.PutRuns.{PutParts, put_request}
use Rattle.cp_tool.proofs.ClientLemmas.{parts_are, put_unread, put_refused, put_unmade, put_undrawn, put_drawn}
use Rattle.cp_tool.proofs.asking.run_ask_put.Goals as goal

pub returns-in-Err-clause-ends : goal.returns-in-Err-clause-ends
returns-in-Err-clause-ends g c =
    let old : Files = files_of g.F.Folder c.args.files.now in
    put_unread g.K.Disk (put_words_view c.args.words) old _ c.args.vault.now c.in-Err.ending c.in-Err.ensures.reads c.three_inputs.ensures.kept

pub returns-in-Err-judged-clause-ends : goal.returns-in-Err-judged-clause-ends
returns-in-Err-judged-clause-ends g c =
    let old : Files = files_of g.F.Folder c.args.files.now in
    put_refused g.K.Disk (put_words_view c.args.words) old _ c.args.vault.now c.in-Ok.inputs c.in-Err-judged.ending c.in-Ok.ensures.reads c.in-Err-judged.ensures c.three_inputs.ensures.kept

pub returns-in_default-clause-ends : goal.returns-in_default-clause-ends
returns-in_default-clause-ends g c =
    let old : Files = files_of g.F.Folder c.args.files.now in
    put_unmade g.K.Disk (put_words_view c.args.words) old _ c.args.vault.now c.in-Ok.inputs c.in-Ok.ensures.reads c.three_inputs.ensures.kept

pub returns-in-Err-draw_leaf-clause-ends : goal.returns-in-Err-draw_leaf-clause-ends
returns-in-Err-draw_leaf-clause-ends g c =
    let old : Files = files_of g.F.Folder c.args.files.now in
    let mid : Files = files_of g.F.Folder c.three_inputs.new.files in
    let parts : PutParts = record { secret = c.in-Some.key; request = put_request (put_words_view c.args.words) c.in-Ok.inputs.second.items c.in-Ok.inputs.third.items; content = c.in-Ok.inputs.third.items } in
    put_undrawn g.K.Disk (put_words_view c.args.words) old parts c.in-Ok.inputs mid c.args.vault.now c.draw_leaf.new.disk c.digest-id.result c.from.result c.in-Ok.ensures.reads
    (parts_are (put_words_view c.args.words) (three_view c.in-Ok.inputs) c.as_slice.result.now c.in-Some.key parts.request (sha256 c.in-Ok.inputs.second.items) c.in-Ok.inputs.third.items
    c.in-Ok-judged.ensures.0 c.in-Ok-judged.ensures.1 c.as_slice.ensures.value c.in-Some.ensures refl refl refl)
    (c.digest-id.ensures ∙ ap (λ (l : List ℕ). sha256 l) (c.bytes.ensures.bytes ∙ c.public.ensures)) (c.from.ensures ∙ c.leaves.ensures) c.in-Err-draw_leaf.ending c.in-Err-draw_leaf.ensures.draws c.three_inputs.ensures.kept

pub returns-clause-ends : goal.returns-clause-ends
returns-clause-ends g c =
    let old : Files = files_of g.F.Folder c.args.files.now in
    let mid : Files = files_of g.F.Folder c.three_inputs.new.files in
    let parts : PutParts = record { secret = c.in-Some.key; request = put_request_view c.put_request-request.result; content = c.as_slice-content.result.now } in
    put_drawn g.K.Disk (put_words_view c.args.words) old parts c.in-Ok.inputs mid c.args.vault.now c.draw_leaf.new.disk c.digest-id.result c.from.result c.in-Ok.ensures.reads
    (parts_are (put_words_view c.args.words) (three_view c.in-Ok.inputs) c.as_slice.result.now c.in-Some.key parts.request c.in-Ok-judged.store c.as_slice-content.result.now
    c.in-Ok-judged.ensures.0 c.in-Ok-judged.ensures.1 c.as_slice.ensures.value c.in-Some.ensures c.in-Ok-judged.ensures.2 c.as_slice-content.ensures.value c.put_request-request.ensures)
    (c.digest-id.ensures ∙ ap (λ (l : List ℕ). sha256 l) (c.bytes.ensures.bytes ∙ c.public.ensures)) (c.from.ensures ∙ c.leaves.ensures) _ c.in-Ok-draw_leaf.drawn.leaf _ c.in-Ok-draw_leaf.ensures.draws c.three_inputs.ensures.kept c.three_inputs.ensures.tells c.three_inputs.ensures.unwritten
    c.put_asked.ensures.ends c.put_asked.ensures.others c.put_asked.ensures.unread
