use Rattle.std.proofs.Common.{rules}
use Rattle.std.specs.BTreeMap.{values}
use Rattle.std.proofs.lemmas.Iterator.Adapters.{items_from_extend}
use Rattle.std.proofs.lemmas.Iterator.Consumers.{YieldsList-from_rest}
use Rattle.cp_shard.proofs.gathering.listed.Goals as goal

pub returns-clause-listed : goal.returns-clause-listed
returns-clause-listed c = let h = items_from_extend c.extend.result c.extend.ensures.ran (YieldsList-from_rest (values c.args.blocks) cc) in search rules
