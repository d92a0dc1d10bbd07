use Rattle.cp_client.proofs.Served.{latest_served}
use Rattle.cp_client.proofs.laws.served_is_latest.Goals as goal

pub returns : goal.returns
returns c = latest_served
