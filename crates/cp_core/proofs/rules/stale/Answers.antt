use Rattle.std.proofs.Common.{◌+◌, true, false, arith}
use Rattle.std.proofs.lemmas.Bool.{eq-eqb, ne_eqb}
use Rattle.cp_tips.specs.View.{tip_view}
use Rattle.cp_core.proofs.RuleLemmas.{put_stale, version_now}
use Rattle.cp_core.proofs.rules.stale.Goals as goal

pub returns-then-from : goal.returns-then-from
returns-then-from c =
    let r = c.in-Put.request in
    put_stale c.args.items.now c.args.request.now r c.in-Put.signature c.in-Put.content c.tip_of-latest.result.version true c.in-Put.is (version_now c.args.items.now r.block (tip_view c.tip_of-latest.result) c.tip_of-latest.ensures)
    (eq-eqb r.version (c.tip_of-latest.result.version + 1) (omega (arith, c.if-from.true, c.from.ensures, c.from-2.ensures)))

pub returns-else-from : goal.returns-else-from
returns-else-from c =
    let r = c.in-Put.request in
    put_stale c.args.items.now c.args.request.now r c.in-Put.signature c.in-Put.content c.tip_of-latest.result.version false c.in-Put.is (version_now c.args.items.now r.block (tip_view c.tip_of-latest.result) c.tip_of-latest.ensures)
    (ne_eqb r.version (c.tip_of-latest.result.version + 1) (λ e. c.if-from.false (omega (arith, e, c.from.ensures, c.from-2.ensures))))
