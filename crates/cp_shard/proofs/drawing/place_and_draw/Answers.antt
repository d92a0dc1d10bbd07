use Rattle.std.proofs.Common.{rules}
use Rattle.cp_shard.proofs.drawing.place_and_draw.Goals as goal

pub returns-in-Ok-clause-places : goal.returns-in-Ok-clause-places
returns-in-Ok-clause-places g c = λ k. let put = (c.in-Ok-Vacant.ensures.update.0 c.args.place).0 k in search rules
