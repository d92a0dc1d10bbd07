use Rattle.std.proofs.Common.{◌≡◌, List, ℕ, ◌++◌, Err, subst, append_assoc}
use Rattle.std.specs.Prelude.{codes, decimal}
use Rattle.cp_endings.specs.Reports.{Puts}
use Rattle.cp_endings.proofs.Pieces.{puts_first, puts_then}
use Rattle.cp_endings.proofs.audit_printing.put_clean.Goals as goal

regrouped : (p e q h r a n : List ℕ) → ((p ++ e) ++ (q ++ h)) ++ (r ++ (a ++ n)) ≡ (p ++ (e ++ (q ++ (h ++ (r ++ a))))) ++ n
regrouped p e q h r a n = simp append_assoc

pub returns-in-Ok : goal.returns-in-Ok
returns-in-Ok g c =
    subst (λ (t : List ℕ). Puts (g.S.Endpoint.held c.args.out.now) (g.S.Endpoint.held c.put_number.new.out) (g.S.Endpoint.write_faults c.args.out.now) (g.S.Endpoint.write_faults c.put_number.new.out) c.put_number.result t)
    (regrouped (codes "clean entries=") (decimal c.args.entries) (codes " handed=") (decimal c.args.handed) (codes " aside=") (decimal c.args.aside) (codes "\n"))
    (puts_then _ _ _ _ _ _ _ ((codes "clean entries=" ++ decimal c.args.entries) ++ (codes " handed=" ++ decimal c.args.handed)) (codes " aside=" ++ (decimal c.args.aside ++ codes "\n")) c.in-Ok.ensures c.put_number.ensures)

pub returns-in-Err : goal.returns-in-Err
returns-in-Err g c =
    subst (λ (t : List ℕ). Puts (g.S.Endpoint.held c.args.out.now) (g.S.Endpoint.held c.put_two.new.out) (g.S.Endpoint.write_faults c.args.out.now) (g.S.Endpoint.write_faults c.put_two.new.out) (Err c.in-Err.failed) t)
    (regrouped (codes "clean entries=") (decimal c.args.entries) (codes " handed=") (decimal c.args.handed) (codes " aside=") (decimal c.args.aside) (codes "\n"))
    (puts_first _ _ _ _ c.in-Err.failed ((codes "clean entries=" ++ decimal c.args.entries) ++ (codes " handed=" ++ decimal c.args.handed)) (codes " aside=" ++ (decimal c.args.aside ++ codes "\n")) c.in-Err.ensures)
