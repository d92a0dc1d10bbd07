use Rattle.std.proofs.Common.{◌≡◌, ◌∙◌, length, ap, arith}
use Rattle.lms_ots.specs.Parameters.{chains_of, width_of}
use Rattle.lms_ots.specs.Ots.{key_hash}
use Rattle.lms_ots.specs.Lanes.{joined_to}
use Rattle.lms_ots.proofs.SideBySide.{joined-candidate}
use Rattle.lms_ots.proofs.lanes.candidate_by.Goals as goal

pub returns : goal.returns
returns c =
    let id = c.args.id.now in
    let ends = c.put_ends.new.values in
    let long : length ends ≡ chains_of c.args.t = omega (arith, c.put_ends.auto.values) in
    c.key_hash.ensures
    ∙ ap (key_hash id c.args.q) (ap (joined_to ends) long
    ∙ joined-candidate id c.args.q (width_of c.args.t) c.args.s.now c.args.sig.now ends (chains_of c.args.t) c.put_ends.ensures)
