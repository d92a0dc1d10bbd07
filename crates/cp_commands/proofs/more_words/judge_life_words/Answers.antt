use Rattle.std.proofs.Common.{refl}
use Rattle.cp_commands.specs.Commands.{judge_life_of}
use Rattle.cp_commands.proofs.more_words.judge_life_words.Goals as goal

pub returns-in_default : goal.returns-in_default
unfolding judge_life_of
returns-in_default c = rw (← c.in_default.ensures) refl

pub returns-in_default-get-2 : goal.returns-in_default-get-2
unfolding judge_life_of
returns-in_default-get-2 c = rw (← c.in-Some.ensures, ← c.in-Some-get.ensures, ← c.in_default-get-2.ensures) refl

pub returns-in_default-get-3 : goal.returns-in_default-get-3
unfolding judge_life_of
returns-in_default-get-3 c = rw (← c.in-Some.ensures, ← c.in-Some-get.ensures, ← c.in-Some-get-2.ensures, ← c.in_default-get-3.ensures) refl

pub returns : goal.returns
unfolding judge_life_of
returns c = rw (← c.in-Some.ensures, ← c.in-Some-get.ensures, ← c.in-Some-get-2.ensures, ← c.in-Some-get-3.ensures) refl
