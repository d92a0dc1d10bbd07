use Rattle.std.proofs.Common.{◌≡◌, refl, arith}
use Rattle.cp_commands.specs.View.{forgery_words_view}
use Rattle.cp_endings.specs.ThreeInputs.{three_view}
use Rattle.cp_more.specs.Seeds.{secret_in}
use Rattle.cp_more.proofs.Forged.{forged_with}
use Rattle.cp_more.proofs.forging.forged.Goals as goal

pub returns-in-Ok : goal.returns-in-Ok
returns-in-Ok g c =
    let is : c.in-Ok.key ≡ secret_in c.args.words.now.height c.args.words.now.ots c.args.seed.now = rw (c.in-Ok.ensures, c.part.ensures, c.part-2.ensures) refl in
    forged_with (forgery_words_view c.args.words.now) c.args.seed.now c.in-Ok.key (three_view c.args.files.now) _ (omega (arith, c.if-seed.false)) is c.found.ensures
