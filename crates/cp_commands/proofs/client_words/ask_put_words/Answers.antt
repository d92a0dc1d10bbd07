use Rattle.std.proofs.Common.{refl}
use Rattle.cp_commands.specs.Commands.{ask_put_of}
use Rattle.cp_commands.proofs.client_words.ask_put_words.Goals as goal

pub returns-in_default : goal.returns-in_default
unfolding ask_put_of
returns-in_default c = rw (← c.in_default.ensures) refl

pub returns-in_default-number_given : goal.returns-in_default-number_given
unfolding ask_put_of
returns-in_default-number_given c =
    rw (
      ← c.in-Some.ensures,
      ← c.in-Some-get.ensures,
      ← c.get-2.ensures,
      ← c.in-Some-height_wanted.ensures,
      ← c.get-3.ensures,
      ← c.in-Some-width_wanted.ensures,
      ← c.in-Some-get-2.ensures,
      ← c.in-Some-call_words.ensures,
      ← c.get-5.ensures,
      ← c.in_default-number_given.ensures,
    ) refl

pub returns-in_default-get-3 : goal.returns-in_default-get-3
unfolding ask_put_of
returns-in_default-get-3 c =
    rw (
      ← c.in-Some.ensures,
      ← c.in-Some-get.ensures,
      ← c.get-2.ensures,
      ← c.in-Some-height_wanted.ensures,
      ← c.get-3.ensures,
      ← c.in-Some-width_wanted.ensures,
      ← c.in-Some-get-2.ensures,
      ← c.in-Some-call_words.ensures,
      ← c.get-5.ensures,
      ← c.in-Some-number_given.ensures,
      ← c.in_default-get-3.ensures,
    ) refl

pub returns : goal.returns
unfolding ask_put_of
returns c =
    rw (
      ← c.in-Some.ensures,
      ← c.in-Some-get.ensures,
      ← c.get-2.ensures,
      ← c.in-Some-height_wanted.ensures,
      ← c.get-3.ensures,
      ← c.in-Some-width_wanted.ensures,
      ← c.in-Some-get-2.ensures,
      ← c.in-Some-call_words.ensures,
      ← c.get-5.ensures,
      ← c.in-Some-number_given.ensures,
      ← c.in-Some-get-3.ensures,
      ← c.in-Some-get-4.ensures,
    ) refl
