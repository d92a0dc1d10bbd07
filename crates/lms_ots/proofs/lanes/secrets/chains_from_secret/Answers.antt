use Rattle.std.proofs.Common.{◌≡◌, ◌*◌, ◌-◌, ◌<◌, min, length, arith}
use Rattle.lms_ots.specs.Ots.{chain}
use Rattle.lms_ots.specs.Signing.{secret_start}
use Rattle.lms_ots.proofs.SideBySide.{four_more}
use Rattle.lms_ots.proofs.lanes.secrets.chains_from_secret.Goals as goal

pub groups-preserved : goal.groups-preserved
groups-preserved c = λ k lt within.
    let count = length c.groups.values in
    let first : c.min-i.result ≡ min (4 * c.groups.group) (count - 4) = omega (arith, c.min-i.ensures) in
    let same : k < count = omega (arith, c.put_four.auto.values) in
    four_more (λ i. chain c.args.id.now c.args.q i 0 c.args.count (secret_start c.args.id.now c.args.q i c.args.secret.now))
    count c.groups.group c.min-i.result c.groups.values c.put_four.new.values c.four_from_secret-four.result
    (omega (arith, c.groups.auto.values)) first c.groups.invariant c.four_from_secret-four.ensures c.put_four.ensures.four c.put_four.ensures.others k lt same
