use Rattle.cp_shard.proofs.Runs.{placed_back}
use Rattle.cp_shard.proofs.drawing.place_leaf.Goals as goal

pub returns-in-Err-draw_leaf-clause-pool : goal.returns-in-Err-draw_leaf-clause-pool
returns-in-Err-draw_leaf-clause-pool g c = placed_back _ _ _ _ _ c.in-Ok.ensures.placed c.give_back.ensures.given_back
