use Rattle.std.proofs.Common.{rules, refl, arith}
use Rattle.cp_http.proofs.reading.has_bare_feed.Goals as goal

pub returns-then-text-i-ne13 : goal.returns-then-text-i-ne13
returns-then-text-i-ne13 c = ((λ t. (c.loop-i.i, (omega (arith, c.loop-i.invariant.0), omega arith, search rules, search rules))), λ w. refl)
