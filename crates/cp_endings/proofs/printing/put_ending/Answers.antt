use Rattle.std.proofs.Common.{◌++◌, List, ℕ, [], codes, ap, subst}
use Rattle.cp_endings.specs.Reports.{Puts}
use Rattle.cp_endings.proofs.printing.put_ending.Goals.{in-Usage, in-ShortSeed, in-BadKey, in-Valid, in-Invalid, in-Fault, in-NoMemory}
use Rattle.cp_endings.proofs.printing.put_ending.Goals as goal

pub returns-in-Malformed : goal.returns-in-Malformed
returns-in-Malformed g c = rw c.in-Malformed.is c.put_number-in-Malformed.ensures

pub returns : goal.returns
returns g c =
    let Is : List ℕ → Type 0 = λ l. Puts (g.S.Endpoint.held c.args.out.now) (g.S.Endpoint.held c.put_line-2.new.out) (g.S.Endpoint.write_faults c.args.out.now) (g.S.Endpoint.write_faults c.put_line-2.new.out) c.put_line-2.result (l ++ [] ++ codes "\n") in
    elim c.match-ending.branch [
      | in-Usage w ↦ rw w.in-Usage.is (subst Is (ap (λ t. t.now) w.text-is) c.put_line-2.ensures)
      | in-ShortSeed w ↦ rw w.in-ShortSeed.is (subst Is (ap (λ t. t.now) w.text-is) c.put_line-2.ensures)
      | in-BadKey w ↦ rw w.in-BadKey.is (subst Is (ap (λ t. t.now) w.text-is) c.put_line-2.ensures)
      | in-Valid w ↦ rw w.in-Valid.is (subst Is (ap (λ t. t.now) w.text-is) c.put_line-2.ensures)
      | in-Invalid w ↦ rw w.in-Invalid.is (subst Is (ap (λ t. t.now) w.text-is) c.put_line-2.ensures)
      | in-Fault w ↦ rw w.in-Fault.is (subst Is (ap (λ t. t.now) w.text-is) c.put_line-2.ensures)
      | in-NoMemory w ↦ rw w.in-NoMemory.is (subst Is (ap (λ t. t.now) w.text-is) c.put_line-2.ensures)
    ]
