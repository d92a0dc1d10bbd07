use Rattle.cp_store.proofs.Alikes.{steps_alike, runs_alike}
use Rattle.cp_store.proofs.laws.step_alike.Goals as goal

pub returns : goal.returns
returns c = record { step = steps_alike; run = runs_alike }
