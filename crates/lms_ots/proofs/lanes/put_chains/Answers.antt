use Rattle.std.proofs.Common.{◌∙◌, ◌++◌, take, ap}
use Rattle.lms_ots.specs.Parameters.{chains_of, width_of}
use Rattle.lms_ots.proofs.SideBySide.{joined-signed}
use Rattle.lms_ots.proofs.lanes.put_chains.Goals as goal

pub returns : goal.returns
returns c =
    c.put_joined.ensures
    ∙ ap (λ y. take 36 c.args.out.now ++ y)
    (joined-signed c.args.id.now c.args.q (width_of c.args.t) c.args.s.now c.args.secret.now c.put_signed.new.values (chains_of c.args.t) c.put_signed.ensures)
