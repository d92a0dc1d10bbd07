use Rattle.cp_audit.proofs.TableLemmas.{not_refused, no_table}
use Rattle.cp_audit.proofs.frames.table_in.Goals as goal

pub unreachable-requires : goal.unreachable-requires
unreachable-requires c = not_refused c.in-Err.field-0.at c.in-Err.ensures

pub returns : goal.returns
returns c = no_table c.args.bytes.now c.in-Ok-read.table c.in_default.field-0.at c.in_default.ensures c.in-Ok-read.ensures
