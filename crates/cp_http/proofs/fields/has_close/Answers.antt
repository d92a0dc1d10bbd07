use Rattle.std.proofs.Common.{◌+◌, arith, sym, ◌∙◌, ap, drop}
use Rattle.std.specs.List.{slice_range}
use Rattle.cp_http.specs.Fields.{close_from}
use Rattle.cp_http.proofs.Parts.{at_comma, at_other}
use Rattle.cp_http.proofs.fields.has_close.Goals.{then-value-i-eq44+else-is_close, else-value-i-eq44}
use Rattle.cp_http.proofs.fields.has_close.Goals as goal

pub loop-i-preserved : goal.loop-i-preserved
loop-i-preserved c = elim c.if-value-i-eq44.branch [
  | then-value-i-eq44+else-is_close w ↦ record {
    ordered = omega (arith, w.start-is);
    same = ap (λ s. close_from (slice_range c.args.value.now s (c.loop-i.i + 1)) (drop (c.loop-i.i + 1) c.args.value.now)) w.start-is
        ∙ at_comma c.args.value.now c.loop-i.start c.loop-i.i _ c.loop-i.invariant.ordered c.loop-i-test.true w.if-value-i-eq44.true (sym w.is_close.ensures ∙ w.if-is_close.false) c.loop-i.invariant.same;
  }
  | else-value-i-eq44 w ↦ record {
    ordered = omega (arith, w.start-is, c.loop-i.invariant.ordered);
    same = ap (λ s. close_from (slice_range c.args.value.now s (c.loop-i.i + 1)) (drop (c.loop-i.i + 1) c.args.value.now)) w.start-is
        ∙ at_other c.args.value.now c.loop-i.start c.loop-i.i _ c.loop-i.invariant.ordered c.loop-i-test.true w.if-value-i-eq44.false c.loop-i.invariant.same;
  }
]
