use Rattle.std.proofs.Common.{◌≡◌, ◌∙◌, length, ap, arith}
use Rattle.lms_ots.specs.Parameters.{chains_of, width_of}
use Rattle.lms_ots.specs.Ots.{chain, key_hash}
use Rattle.lms_ots.specs.Signing.{one_time_key, secret_start}
use Rattle.lms_ots.specs.Lanes.{joined_to}
use Rattle.lms_ots.proofs.SideBySide.{joined-public}
use Rattle.lms_ots.proofs.lanes.public_by.Goals as goal

pub returns : goal.returns
unfolding one_time_key
returns c =
    let id = c.args.id.now in
    let q = c.args.q in
    let secret = c.args.secret.now in
    let ends = c.chains_from_secret.new.values in
    let long : length ends ≡ chains_of c.args.t = omega (arith, c.chains_from_secret.auto.values) in
    c.key_hash.ensures
    ∙ ap (key_hash id q) (ap (joined_to ends) long
    ∙ joined-public id q (width_of c.args.t) secret ends (chains_of c.args.t)
    (λ i lt. c.chains_from_secret.ensures i (omega arith) ∙ ap (λ n. chain id q i 0 n (secret_start id q i secret)) c.max_digit.ensures))
