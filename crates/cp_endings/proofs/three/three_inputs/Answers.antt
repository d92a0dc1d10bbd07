use Rattle.std.proofs.Common.{◌∙◌}
use Rattle.cp_endings.specs.ThreeInputs.{input_view}
use Rattle.cp_endings.specs.Folders.{Files, files_of}
use Rattle.cp_endings.proofs.InputLemmas.{read_later}
use Rattle.cp_endings.proofs.ThreeLemmas.{three_first, three_second, three_third, three_all}
use Rattle.cp_endings.proofs.three.three_inputs.Goals as goal

pub returns-in-Err-clause-reads : goal.returns-in-Err-clause-reads
returns-in-Err-clause-reads g c = three_first (input_view c.args.first) (input_view c.args.second) (input_view c.args.third) _ _ c.in-Err.ending c.in-Err.ensures.reads

pub returns-in-Err-input-clause-reads : goal.returns-in-Err-input-clause-reads
returns-in-Err-input-clause-reads g c =
    let old : Files = files_of g.F.Folder c.args.files.now in
    let mid : Files = files_of g.F.Folder c.input.new.files in
    three_second (input_view c.args.first) (input_view c.args.second) (input_view c.args.third) _ _ _ _ c.in-Err-input.ending c.in-Ok.ensures.reads
    (read_later old mid _ _ _ _ c.input.ensures.kept c.input.ensures.tells c.in-Ok.ensures.reads.failed c.in-Err-input.ensures.reads)

pub returns-in-Err-input-2-clause-reads : goal.returns-in-Err-input-2-clause-reads
returns-in-Err-input-2-clause-reads g c =
    let old : Files = files_of g.F.Folder c.args.files.now in
    let mid : Files = files_of g.F.Folder c.input.new.files in
    let last : Files = files_of g.F.Folder c.input-2.new.files in
    let second = read_later old mid _ _ _ _ c.input.ensures.kept c.input.ensures.tells c.in-Ok.ensures.reads.failed c.in-Ok-input.ensures.reads in
    three_third (input_view c.args.first) (input_view c.args.second) (input_view c.args.third) _ _ _ _ _ _ c.in-Err-input-2.ending c.in-Ok.ensures.reads second
    (read_later old last _ _ _ _ (λ n. c.input-2.ensures.kept n ∙ c.input.ensures.kept n) (c.input-2.ensures.tells ∙ c.input.ensures.tells) second.failed c.in-Err-input-2.ensures.reads)

pub returns-clause-reads : goal.returns-clause-reads
returns-clause-reads g c =
    let old : Files = files_of g.F.Folder c.args.files.now in
    let mid : Files = files_of g.F.Folder c.input.new.files in
    let last : Files = files_of g.F.Folder c.input-2.new.files in
    let second = read_later old mid _ _ _ _ c.input.ensures.kept c.input.ensures.tells c.in-Ok.ensures.reads.failed c.in-Ok-input.ensures.reads in
    three_all (input_view c.args.first) (input_view c.args.second) (input_view c.args.third) _ _ _ _ (record { first = c.in-Ok.first; second = c.in-Ok-input.second; third = c.in-Ok-input-2.third }) c.in-Ok.ensures.reads second
    (read_later old last _ _ _ _ (λ n. c.input-2.ensures.kept n ∙ c.input.ensures.kept n) (c.input-2.ensures.tells ∙ c.input.ensures.tells) second.failed c.in-Ok-input-2.ensures.reads)
