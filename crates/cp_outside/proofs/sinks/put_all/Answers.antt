use Rattle.std.proofs.Common.{◌-◌, take, drop, length, arith, take-add, ap, length-drop, ◌∙◌, ◌≡◌}
use Rattle.std.proofs.lemmas.Slice.{between_to_end}
use Rattle.std.proofs.KnownBytes.{Appends-trans}
use Rattle.cp_outside.proofs.sinks.put_all.Goals as goal

pub loop-at-preserved : goal.loop-at-preserved
loop-at-preserved g c =
    let rest : take (length c.args.bytes.now - c.loop-at.at) (drop c.loop-at.at c.args.bytes.now) ≡ drop c.loop-at.at c.args.bytes.now
    = between_to_end c.args.bytes.now c.loop-at.at (length c.args.bytes.now) (omega arith) in
    record {
      within = omega (arith, c.in_ok-at.ensures.bound, length-drop c.loop-at.at c.args.bytes.now, ap length rest);
      written = rw (take-add c.loop-at.at c.in_ok-at.field-0 c.args.bytes.now)
          (Appends-trans _ _ _ _ _ c.loop-at.invariant.written (rw rest at c.in_ok-at.ensures.bytes));
      never_falls = omega (arith, c.in_ok-at.ensures.cause.never_falls);
      left = c.in_ok-at.ensures.left ∙ c.loop-at.invariant.left;
      read_faults = c.in_ok-at.ensures.read_faults ∙ c.loop-at.invariant.read_faults;
    }
