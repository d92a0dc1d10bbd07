use Rattle.std.proofs.Common.{◌-◌, ℕ, List, Result, Err, refl, ap, ◌∙◌, arith}
use Rattle.std.proofs.lemmas.Result.{err_from_is_err_and}
use Rattle.cp_chain.proofs.Parts.{none_read, part_more, parts_fail}
use Rattle.cp_chain.proofs.segment.pass_parts.Goals as goal

abbrev left_of : ℕ → Result (List (List ℕ) × List ℕ) ℕ
left_of n = Err n

pub parts-init : goal.parts-init
parts-init c = record { read = none_read c.args.cut.now.rest; total = refl }

pub parts-preserved : goal.parts-preserved
parts-preserved c = record {
  read = part_more c.parts.counter c.args.cut.now.rest c.parts.cut.rest c.in_ok-part.field-0.now c.part.new.self.rest c.parts.invariant.read c.in_ok-part.ensures.0;
  total = c.in_ok-part.ensures.1 ∙ c.parts.invariant.total;
}

pub returns-in_err-part : goal.returns-in_err-part
returns-in_err-part c =
    let p = err_from_is_err_and c.from_residual.result c.from_residual.ensures.1 in
    let left = c.parts.cut.total - c.in_err-part.field-0.0.at in
    let fault = parts_fail c.parts.counter c.args.n c.args.cut.now.rest _ c.parts.cut.rest left (omega arith) c.parts.invariant.read c.in_err-part.ensures.0 in
    let within = c.in_err-part.ensures.1 in
    rw (p.1, p.2) (fault ∙ ap (λ (n : ℕ). left_of (n - c.in_err-part.field-0.0.at)) c.parts.invariant.total, omega (arith, within, c.parts.invariant.total))
