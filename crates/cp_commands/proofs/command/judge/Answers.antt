use Rattle.std.proofs.Common.{refl}
use Rattle.cp_commands.specs.Commands.{judge_of}
use Rattle.cp_commands.proofs.command.judge.Goals as goal

pub returns-in_default : goal.returns-in_default
unfolding judge_of
returns-in_default c = rw (← c.in_default.ensures) refl

pub returns-in_default-get-2 : goal.returns-in_default-get-2
unfolding judge_of
returns-in_default-get-2 c = rw (← c.in-Some.ensures, ← c.in-Some-get.ensures, ← c.in_default-get-2.ensures) refl

pub returns : goal.returns
unfolding judge_of
returns c = rw (← c.in-Some.ensures, ← c.in-Some-get.ensures, ← c.in-Some-get-2.ensures) refl
