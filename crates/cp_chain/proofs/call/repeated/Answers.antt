use Rattle.std.proofs.Common.{take}
use Rattle.cp_chain.proofs.Nonces.{new_nonce}
use Rattle.cp_chain.proofs.call.repeated.Goals as goal

pub returns-then-nonce-top : goal.returns-then-nonce-top
returns-then-nonce-top c = new_nonce c.args.client c.args.nonce c.args.top (take c.args.place c.args.segment.now) c.if-nonce-top.true c.requires
