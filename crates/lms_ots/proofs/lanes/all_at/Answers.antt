use Rattle.std.proofs.lemmas.List.{get_or-replicate}
use Rattle.lms_ots.proofs.lanes.all_at.Goals as goal

pub returns : goal.returns
returns c = λ i lt. get_or-replicate 265 i c.args.step 0 lt
