use Rattle.std.proofs.Common.{rules}
use Rattle.cp_closer.proofs.Bounds.{log_starts}
use Rattle.cp_closer.proofs.writing.start_log.Goals as goal

pub returns : goal.returns
returns c = log_starts c.args.epoch c.args.blocks c.in_ok-out.out.items c.extend_from_slice.new.self.items c.extend_from_slice-2.new.self.items (search rules) (search rules) (search rules)
