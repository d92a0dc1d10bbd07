use Rattle.std.proofs.Common.{ap, ◌∙◌}
use Rattle.cp_judge.specs.Judging.{judgement_of}
use Rattle.cp_tool.specs.Runs.{Files, files_of}
use Rattle.cp_tool.proofs.InputLemmas.{judge_first, judge_second, judge_both}
use Rattle.cp_endings.proofs.InputLemmas.{read_later}
use Rattle.cp_tool.proofs.judging.run_judge.Goals as goal

pub returns-in-Err-clause-ends : goal.returns-in-Err-clause-ends
returns-in-Err-clause-ends g c = judge_first _ _ _ _ _ c.in-Err.ensures.reads c.input.ensures.kept

pub returns-in-Err-input-clause-ends : goal.returns-in-Err-input-clause-ends
returns-in-Err-input-clause-ends g c =
    let old : Files = files_of g.F.Folder c.args.files.now in
    let mid : Files = files_of g.F.Folder c.input.new.files in
    judge_second _ _ _ _ _ _ _ c.in-Ok.ensures.reads
    (read_later old mid _ _ _ _ c.input.ensures.kept c.input.ensures.tells c.in-Ok.ensures.reads.failed c.in-Err-input.ensures.reads)
    (λ n. c.input-2.ensures.kept n ∙ c.input.ensures.kept n)

pub returns-clause-ends : goal.returns-clause-ends
returns-clause-ends g c =
    let old : Files = files_of g.F.Folder c.args.files.now in
    let mid : Files = files_of g.F.Folder c.input.new.files in
    judge_both _ _ _ _ _ _ _ _ c.in-Ok.ensures.reads
    (read_later old mid _ _ _ _ c.input.ensures.kept c.input.ensures.tells c.in-Ok.ensures.reads.failed c.in-Ok-input.ensures.reads)
    (c.judge.ensures.judged ∙ ap (λ k. judgement_of k c.as_slice-2.result.now) c.as_slice.ensures.value ∙ ap (λ e. judgement_of c.in-Ok.key.items e) c.as_slice-2.ensures.value)
    (λ n. c.input-2.ensures.kept n ∙ c.input.ensures.kept n)
