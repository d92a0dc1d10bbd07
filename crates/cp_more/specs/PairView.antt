-- What contracts see of a pair.
use Rattle.std.specs.Prelude.{ℕ, List}
use Rattle.cp_more.specs.declared.signed_pair.SignedPair.{SignedPair}

abbrev pub pair_view : SignedPair → ℕ × List ℕ
pair_view pair = (pair.leaf, pair.text.now)
