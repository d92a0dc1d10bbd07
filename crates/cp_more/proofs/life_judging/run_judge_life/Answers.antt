use Rattle.cp_endings.specs.Folders.{Files, files_of}
use Rattle.cp_more.proofs.Judged.{life_read, life_unread}
use Rattle.cp_more.proofs.life_judging.run_judge_life.Goals as goal

pub returns-in-Err-clause-ends : goal.returns-in-Err-clause-ends
returns-in-Err-clause-ends g c =
    let old : Files = files_of g.F.Folder c.args.files.now in
    life_unread c.args.key.now c.args.certificate.now c.args.evidence.now old _ c.in-Err.ending c.in-Err.ensures.reads c.three_inputs.ensures.kept

pub returns-clause-ends : goal.returns-clause-ends
returns-clause-ends g c =
    let old : Files = files_of g.F.Folder c.args.files.now in
    life_read c.args.key.now c.args.certificate.now c.args.evidence.now old _ c.in-Ok.inputs _ c.in-Ok.ensures.reads c.judged.ensures c.three_inputs.ensures.kept
