use Rattle.std.proofs.Common.{ℕ, List, ◌++◌, subst}
use Rattle.std.specs.Prelude.{codes}
use Rattle.cp_endings.specs.Reports.{Puts}
use Rattle.cp_endings.proofs.printing.put_condition.Goals as goal

pub returns : goal.returns
returns g c =
    let P : List ℕ → Type 0 = λ t. Puts (g.S.Endpoint.held c.args.out.now) (g.S.Endpoint.held c.put_line.new.out) (g.S.Endpoint.write_faults c.args.out.now) (g.S.Endpoint.write_faults c.put_line.new.out) c.put_line.result (codes "not evidence K" ++ t ++ codes "\n") in
    subst P c.two_numbers.ensures c.put_line.ensures
