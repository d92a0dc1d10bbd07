use Rattle.std.proofs.Common.{refl}
use Rattle.cp_commands.specs.Commands.{certify_of}
use Rattle.cp_commands.proofs.more_words.certify_words.Goals as goal

pub returns-in_default : goal.returns-in_default
unfolding certify_of
returns-in_default c = rw (← c.in_default.ensures) refl

pub returns-in_default-get-2 : goal.returns-in_default-get-2
unfolding certify_of
returns-in_default-get-2 c =
    rw (
      ← c.in-Some.ensures,
      ← c.in-Some-get.ensures,
      ← c.get-2.ensures,
      ← c.in-Some-top_given.ensures.value,
      ← c.get-3.ensures,
      ← c.in-Some-height_given.ensures,
      ← c.get-4.ensures,
      ← c.in-Some-width_given.ensures,
      ← c.get-5.ensures,
      ← c.in-Some-life_given.ensures.value,
      ← c.in_default-get-2.ensures,
    ) refl

pub returns-in_default-get-3 : goal.returns-in_default-get-3
unfolding certify_of
returns-in_default-get-3 c =
    rw (
      ← c.in-Some.ensures,
      ← c.in-Some-get.ensures,
      ← c.get-2.ensures,
      ← c.in-Some-top_given.ensures.value,
      ← c.get-3.ensures,
      ← c.in-Some-height_given.ensures,
      ← c.get-4.ensures,
      ← c.in-Some-width_given.ensures,
      ← c.get-5.ensures,
      ← c.in-Some-life_given.ensures.value,
      ← c.in-Some-get-2.ensures,
      ← c.in_default-get-3.ensures,
    ) refl

pub returns : goal.returns
unfolding certify_of
returns c =
    rw (
      ← c.in-Some.ensures,
      ← c.in-Some-get.ensures,
      ← c.get-2.ensures,
      ← c.in-Some-top_given.ensures.value,
      ← c.get-3.ensures,
      ← c.in-Some-height_given.ensures,
      ← c.get-4.ensures,
      ← c.in-Some-width_given.ensures,
      ← c.get-5.ensures,
      ← c.in-Some-life_given.ensures.value,
      ← c.in-Some-get-2.ensures,
      ← c.in-Some-get-3.ensures,
      ← c.in-Some-get-4.ensures,
    ) refl
