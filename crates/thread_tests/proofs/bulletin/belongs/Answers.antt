use Rattle.std.proofs.Common.{◌++◌, sym, ap}
use Rattle.thread_tests.proofs.bulletin.belongs.Goals as goal

pub returns : goal.returns
returns c = (c.args.board.now.texts, ap (λ l. l ++ c.args.board.now.texts) (sym c.requires))
