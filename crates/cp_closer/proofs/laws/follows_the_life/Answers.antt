use Rattle.cp_closer.proofs.Following.{opens_alike, begins_alike, takes_alike, seals_any_alike, publishes_alike}
use Rattle.cp_closer.proofs.Growing.{stays_alike}
use Rattle.cp_closer.proofs.laws.follows_the_life.Goals as goal

pub returns : goal.returns
returns c = record { opens = opens_alike; begins = begins_alike; takes = takes_alike; seals = seals_any_alike; publishes = publishes_alike; stays = stays_alike }
