use Rattle.std.proofs.Common.{arith}
use Rattle.cp_http.proofs.fields.length_of.Goals as goal
use Rattle.cp_http.proofs.Digits.{NextDigit, next_digit}

pub overflow_mul-value : goal.overflow_mul-value
overflow_mul-value c = let n : NextDigit c.args.text.now c.loop-i.i c.loop-i.value = next_digit _ _ _ (c.all_digits.ensures.0 (c.if-not-all_digits.false)) (omega arith) (omega arith) c.loop-i.invariant in omega (arith, n.small)

pub overflow_sub-value : goal.overflow_sub-value
overflow_sub-value c = let n : NextDigit c.args.text.now c.loop-i.i c.loop-i.value = next_digit _ _ _ (c.all_digits.ensures.0 (c.if-not-all_digits.false)) (omega arith) (omega arith) c.loop-i.invariant in n.digit

pub overflow_add-value : goal.overflow_add-value
overflow_add-value c = let n : NextDigit c.args.text.now c.loop-i.i c.loop-i.value = next_digit _ _ _ (c.all_digits.ensures.0 (c.if-not-all_digits.false)) (omega arith) (omega arith) c.loop-i.invariant in omega (arith, n.small)

pub loop-i-preserved : goal.loop-i-preserved
loop-i-preserved c = let n : NextDigit c.args.text.now c.loop-i.i c.loop-i.value = next_digit _ _ _ (c.all_digits.ensures.0 (c.if-not-all_digits.false)) (omega arith) (omega arith) c.loop-i.invariant in n.next
