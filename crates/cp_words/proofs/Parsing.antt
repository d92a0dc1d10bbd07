-- A text that spells a number is parsed to it.
use Rattle.std.proofs.Common.{◌≡◌, ℕ, ◌<◌, ◌^◌, List, Result, Ok, Err, sym, ◌∙◌}
use Rattle.std.specs.Prelude.{decimal}
use Rattle.std.specs.Str.Parse.{ParsesUnsigned}
use Rattle.std.proofs.lemmas.Fmt.{parse-decimal}

abbrev pub parsed_as : {E : Type 0} → ℕ → Result ℕ E
parsed_as n = Ok n

pub ok_is : {E : Type 0} (n m : ℕ) → parsed_as {E = E} n ≡ Ok m → n ≡ m
ok_is n m e = cc

-- a text that was parsed to n spells no other number
pub parsed_once : {E : Type 0} (n m : ℕ) (bs : List ℕ) (r : Result ℕ E) → ParsesUnsigned 64 10 bs r → r ≡ Ok n → m < 2 ^ 64 → bs ≡ decimal m → n ≡ m
parsed_once n m bs r parses is fits spelled = ok_is n m (sym is ∙ parse-decimal 64 m bs r fits fits spelled parses)

abbrev refused_as : {E : Type 0} → E → Result ℕ E
refused_as e = Err e

-- a text that was refused spells no number
pub refused_never : {E : Type 0} (e : E) (m : ℕ) (bs : List ℕ) (r : Result ℕ E) → ParsesUnsigned 64 10 bs r → r ≡ Err e → m < 2 ^ 64 → bs ≡ decimal m → ⊥
refused_never e m bs r parses is fits spelled = not_both e m (sym is ∙ parse-decimal 64 m bs r fits fits spelled parses)
  where
    not_both : {E : Type 0} (e : E) (m : ℕ) → refused_as e ≡ Ok m → ⊥
    not_both e m both = cc

pub ruleset numbers = (parsed_once, refused_never)
