use Rattle.std.proofs.Common.{◌∙◌}
use Rattle.cp_commands.specs.View.{forgery_words_view}
use Rattle.cp_endings.specs.Folders.{Files, files_of}
use Rattle.cp_endings.proofs.ThreeLemmas.{three_later}
use Rattle.cp_more.proofs.Forged.{forgery_first, forgery_read, forgery_second}
use Rattle.cp_more.proofs.forging.run_forgery.Goals as goal

pub returns-in-Err-clause-ends : goal.returns-in-Err-clause-ends
returns-in-Err-clause-ends g c =
    let old : Files = files_of g.F.Folder c.args.files.now in
    forgery_first (forgery_words_view c.args.words) old _ c.in-Err.ending c.in-Err.ensures.reads c.input.ensures.kept

pub returns-in-Err-three_inputs-clause-ends : goal.returns-in-Err-three_inputs-clause-ends
returns-in-Err-three_inputs-clause-ends g c =
    let old : Files = files_of g.F.Folder c.args.files.now in
    let mid : Files = files_of g.F.Folder c.input.new.files in
    let new : Files = files_of g.F.Folder c.three_inputs.new.files in
    forgery_second (forgery_words_view c.args.words) old new _ c.in-Ok.seed c.in-Err-three_inputs.ending c.in-Ok.ensures.reads
    (three_later _ _ _ old mid new _ c.in-Ok.ensures.kept c.in-Ok.ensures.tells c.in-Ok.ensures.reads.failed c.in-Err-three_inputs.ensures.reads)
    (λ n. c.three_inputs.ensures.kept n ∙ c.input.ensures.kept n)

pub returns-clause-ends : goal.returns-clause-ends
returns-clause-ends g c =
    let old : Files = files_of g.F.Folder c.args.files.now in
    let mid : Files = files_of g.F.Folder c.input.new.files in
    let new : Files = files_of g.F.Folder c.three_inputs.new.files in
    forgery_read (forgery_words_view c.args.words) old new _ c.in-Ok.seed c.as_slice.result.now c.in-Ok-three_inputs.inputs _ c.in-Ok.ensures.reads
    (three_later _ _ _ old mid new _ c.in-Ok.ensures.kept c.in-Ok.ensures.tells c.in-Ok.ensures.reads.failed c.in-Ok-three_inputs.ensures.reads)
    c.as_slice.ensures.value c.forged.ensures
    (λ n. c.three_inputs.ensures.kept n ∙ c.input.ensures.kept n)
