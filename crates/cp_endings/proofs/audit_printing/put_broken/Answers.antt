use Rattle.std.proofs.Common.{◌++◌}
use Rattle.std.specs.Prelude.{codes, decimal}
use Rattle.cp_endings.proofs.Pieces.{puts_first, puts_then}
use Rattle.cp_endings.proofs.audit_printing.put_broken.Goals as goal

pub returns-in-Ok : goal.returns-in-Ok
returns-in-Ok g c =
    puts_then _ _ _ _ _ _ _ ((codes "guilty K7 block=" ++ decimal c.args.block) ++ (codes " rule=" ++ decimal c.args.rule)) ((codes " place=" ++ decimal c.args.place) ++ (codes " other=" ++ (decimal c.args.other ++ codes "\n")))
    (rw c.from.ensures at c.in-Ok.ensures) c.put_places.ensures

pub returns-in-Err : goal.returns-in-Err
returns-in-Err g c =
    puts_first _ _ _ _ c.in-Err.failed ((codes "guilty K7 block=" ++ decimal c.args.block) ++ (codes " rule=" ++ decimal c.args.rule)) ((codes " place=" ++ decimal c.args.place) ++ (codes " other=" ++ (decimal c.args.other ++ codes "\n")))
    (rw c.from.ensures at c.in-Err.ensures)
