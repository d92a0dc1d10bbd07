use Rattle.std.proofs.Common.{ℕ, List, ◌++◌, codes}
use Rattle.std.specs.Prelude.{decimal}
use Rattle.cp_endings.proofs.Pieces.{puts_first, puts_then}
use Rattle.cp_endings.proofs.more_printing.put_low.Goals as goal

abbrev place : ℕ → ℕ → List ℕ
place leaf chain = codes "low leaf=" ++ (decimal leaf ++ codes " chain=" ++ decimal chain)

abbrev steps : ℕ → ℕ → List ℕ
steps step revealed = codes " step=" ++ (decimal step ++ codes " revealed=" ++ decimal revealed) ++ codes "\n"

pub returns-in-Ok : goal.returns-in-Ok
returns-in-Ok g c = puts_then _ _ _ _ _ _ _ (place c.args.leaf c.args.chain) (steps c.args.step c.args.revealed) c.in-Ok.ensures c.put_steps.ensures

pub returns-in-Err : goal.returns-in-Err
returns-in-Err g c = puts_first _ _ _ _ _ (place c.args.leaf c.args.chain) (steps c.args.step c.args.revealed) c.in-Err.ensures
