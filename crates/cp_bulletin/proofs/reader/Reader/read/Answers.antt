use Rattle.std.proofs.Common.{refl}
use Rattle.cp_bulletin.specs.Texts.{texts_of}
use Rattle.cp_bulletin.proofs.Steps.{shows, starts_same}
use Rattle.cp_bulletin.proofs.reader.Reader.read.Goals as goal

pub enter_as-requires : goal.enter_as-requires
enter_as-requires c x = shows (λ s. texts_of s.texts.items) _ _ x x (starts_same _ _ refl)
