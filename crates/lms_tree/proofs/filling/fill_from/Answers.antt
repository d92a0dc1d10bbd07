use Rattle.std.proofs.Common.{◌+◌, ◌^◌, refl}
use Rattle.lms_ots.specs.Signing.{one_time_key}
use Rattle.lms_tree.specs.Tree.{leaf_node}
use Rattle.lms_tree.specs.Parameters.{levels_of}
use Rattle.lms_tree.proofs.NodeLemmas.{fours_more}
use Rattle.lms_tree.proofs.filling.fill_from.Goals as goal

pub groups-preserved : goal.groups-preserved
groups-preserved c =
    fours_more (λ n. leaf_node c.args.id.now (2 ^ levels_of c.args.height + n) (one_time_key c.args.t c.args.id.now n c.args.seed.now))
    c.args.first c.groups.group _ c.groups.nodes c.put_four.new.nodes c.four_leaves-four.result refl c.groups.invariant
    c.four_leaves-four.ensures c.put_four.ensures.four c.put_four.ensures.before
