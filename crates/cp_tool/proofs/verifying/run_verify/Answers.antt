use Rattle.std.proofs.Common.{ap, ◌∙◌}
use Rattle.cp_tool.specs.Runs.{Files, files_of, verified}
use Rattle.cp_tool.proofs.InputLemmas.{verify_first, verify_second, verify_third, verify_all}
use Rattle.cp_endings.proofs.InputLemmas.{read_later}
use Rattle.cp_tool.proofs.verifying.run_verify.Goals as goal

pub returns-in-Err-clause-ends : goal.returns-in-Err-clause-ends
returns-in-Err-clause-ends g c = verify_first _ _ _ _ _ _ c.in-Err.ensures.reads c.input.ensures.kept

pub returns-in-Err-input-clause-ends : goal.returns-in-Err-input-clause-ends
returns-in-Err-input-clause-ends g c =
    let old : Files = files_of g.F.Folder c.args.files.now in
    let mid : Files = files_of g.F.Folder c.input.new.files in
    verify_second _ _ _ _ _ _ _ _ c.in-Ok.ensures.reads
    (read_later old mid _ _ _ _ c.input.ensures.kept c.input.ensures.tells c.in-Ok.ensures.reads.failed c.in-Err-input.ensures.reads)
    (λ n. c.input-2.ensures.kept n ∙ c.input.ensures.kept n)

pub returns-in-Err-input-2-clause-ends : goal.returns-in-Err-input-2-clause-ends
returns-in-Err-input-2-clause-ends g c =
    let old : Files = files_of g.F.Folder c.args.files.now in
    let mid : Files = files_of g.F.Folder c.input.new.files in
    let last : Files = files_of g.F.Folder c.input-2.new.files in
    let second = read_later old mid _ _ _ _ c.input.ensures.kept c.input.ensures.tells c.in-Ok.ensures.reads.failed c.in-Ok-input.ensures.reads in
    verify_third _ _ _ _ _ _ _ _ _ _ c.in-Ok.ensures.reads second
    (read_later old last _ _ _ _ (λ n. c.input-2.ensures.kept n ∙ c.input.ensures.kept n) (c.input-2.ensures.tells ∙ c.input.ensures.tells) second.failed c.in-Err-input-2.ensures.reads)
    (λ n. c.input-3.ensures.kept n ∙ c.input-2.ensures.kept n ∙ c.input.ensures.kept n)

pub returns-clause-ends : goal.returns-clause-ends
returns-clause-ends g c =
    let old : Files = files_of g.F.Folder c.args.files.now in
    let mid : Files = files_of g.F.Folder c.input.new.files in
    let last : Files = files_of g.F.Folder c.input-2.new.files in
    let second = read_later old mid _ _ _ _ c.input.ensures.kept c.input.ensures.tells c.in-Ok.ensures.reads.failed c.in-Ok-input.ensures.reads in
    verify_all _ _ _ _ _ _ _ _ _ _ _ c.in-Ok.ensures.reads second
    (read_later old last _ _ _ _ (λ n. c.input-2.ensures.kept n ∙ c.input.ensures.kept n) (c.input-2.ensures.tells ∙ c.input.ensures.tells) second.failed c.in-Ok-input-2.ensures.reads)
    (c.verified.ensures ∙ ap (λ k. verified k c.as_slice-2.result.now c.as_slice-3.result.now) c.as_slice.ensures.value ∙ ap (λ t. verified c.in-Ok.key.items t c.as_slice-3.result.now) c.as_slice-2.ensures.value ∙ ap (λ s. verified c.in-Ok.key.items c.in-Ok-input.text.items s) c.as_slice-3.ensures.value)
    (λ n. c.input-3.ensures.kept n ∙ c.input-2.ensures.kept n ∙ c.input.ensures.kept n)
