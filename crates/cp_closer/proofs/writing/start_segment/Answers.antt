use Rattle.std.proofs.Common.{rules}
use Rattle.cp_closer.proofs.Bounds.{segment_starts}
use Rattle.cp_closer.proofs.writing.start_segment.Goals as goal

pub returns : goal.returns
returns c = segment_starts c.args.block c.args.texts c.args.out.now.items c.extend_from_slice.new.self.items c.extend_from_slice-2.new.self.items (search rules) (search rules)
