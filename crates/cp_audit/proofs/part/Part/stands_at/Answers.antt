use Rattle.std.proofs.Common.{◌&&◌, ◌+◌, ◌≤◌, Bool, length, take, sym, ap, arith}
use Rattle.std.specs.Prelude.{bytes_eq}
use Rattle.cp_statements.specs.View.{attestation_view}
use Rattle.cp_bytes.specs.Hashes.{head_after}
use Rattle.cp_chain.specs.Standing.{says_the_same}
use Rattle.cp_chain.proofs.Places.{past_end}
use Rattle.cp_audit.proofs.part.Part.stands_at.Goals as goal

pub returns-then-place-from : goal.returns-then-place-from
returns-then-place-from c =
    let past : length c.args.self.now.segment ≤ c.args.place = omega (arith, c.if-place-from.true, c.count.ensures, c.from.ensures) in
    let a = attestation_view c.args.a.now in
    let first = c.args.self.now.frame.before.head in
    let rest : Bool = bytes_eq a.prev (head_after first (take c.args.place c.args.self.now.segment)) && bytes_eq a.head (head_after first (take (c.args.place + 1) c.args.self.now.segment)) in
    sym (ap (λ (b : Bool). b && rest) (past_end c.args.self.now.segment c.args.place (says_the_same a) past))
