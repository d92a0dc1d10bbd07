use Rattle.std.proofs.Common.{arith, append_assoc}
use Rattle.std.proofs.lemmas.Grind.{common_steps}
use Rattle.std.proofs.lemmas.List.{append-nil}
use Rattle.cp_statements.specs.Entry.{entry_text}
use Rattle.cp_statements.proofs.entry.Entry.write_into.Goals as goal

pub returns-in_ok-extend_from_slice-in-Put-2-clause-written :
    goal.returns-in_ok-extend_from_slice-in-Put-2-clause-written
unfolding entry_text
returns-in_ok-extend_from_slice-in-Put-2-clause-written c = grind (arith, common_steps, append_assoc)

pub returns-in-Get-clause-written : goal.returns-in-Get-clause-written
unfolding entry_text
returns-in-Get-clause-written c = grind (arith, common_steps, append-nil)
