use Rattle.cp_chain.proofs.Places.{no_entry}
use Rattle.cp_chain.proofs.segment.Segment.entry.Goals as goal

pub returns-in-None : goal.returns-in-None
returns-in-None c = no_entry c.args.self.now c.args.place c.in-None.ensures
