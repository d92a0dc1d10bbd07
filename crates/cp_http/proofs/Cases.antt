-- Texts that are the same but for ASCII case.
use Rattle.std.proofs.lemmas.Slice.Eq.{bytes_eq-Decides}

pub ruleset cases = (bytes_eq-Decides)
