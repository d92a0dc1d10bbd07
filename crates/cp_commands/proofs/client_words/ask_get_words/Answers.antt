use Rattle.std.proofs.Common.{refl}
use Rattle.cp_commands.specs.Commands.{ask_get_of}
use Rattle.cp_commands.proofs.client_words.ask_get_words.Goals as goal

pub returns-in_default : goal.returns-in_default
unfolding ask_get_of
returns-in_default c = rw (← c.in_default.ensures) refl

pub returns : goal.returns
unfolding ask_get_of
returns c = rw (← c.in-Some.ensures, ← c.in-Some-get.ensures, ← c.in-Some-call_words.ensures, ← c.in-Some-get-2.ensures) refl
