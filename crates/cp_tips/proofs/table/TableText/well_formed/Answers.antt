use Rattle.std.proofs.Common.{◌≡◌, eqb, false, inl, inr, sym, ◌∙◌}
use Rattle.std.proofs.lemmas.Bool.{ne_eqb}
use Rattle.cp_tips.proofs.Judging.{stops_at_order, stops_at_count, goes_on, all_judged, ascends_where}
use Rattle.cp_tips.proofs.table.TableText.well_formed.Goals as goal
use Rattle.cp_tips.proofs.table.TableText.well_formed.Goals.{then-not-comes_behind-via-then-not-comes_behind, then-not-comes_behind-via-else-not-comes_behind+then-count-eq0, then-not-comes_behind-via-else-not-comes_behind+else-count-eq0+then-count-left}

pub returns-then-not-comes_behind-clause-judges : goal.returns-then-not-comes_behind-clause-judges
returns-then-not-comes_behind-clause-judges c =
    rw (← c.self.view_is) (elim c.then-not-comes_behind.branch [
      | then-not-comes_behind-via-then-not-comes_behind w ↦ stops_at_order c.self.inside.rows.now c.args.entries c.args.rows c.loop-row.row-index c.loop-row.before c.loop-row.left c.block_of-block.result c.loop-row-test.true c.loop-row.invariant c.block_of-block.ensures (sym c.comes_behind.ensures ∙ w.if-not-comes_behind.true)
      | then-not-comes_behind-via-else-not-comes_behind+then-count-eq0 w ↦ stops_at_count c.self.inside.rows.now c.args.entries c.args.rows c.loop-row.row-index c.loop-row.before c.loop-row.left c.count_of-count.result c.loop-row-test.true c.loop-row.invariant c.count_of-count.ensures (inl w.if-count-eq0.true)
      | then-not-comes_behind-via-else-not-comes_behind+else-count-eq0+then-count-left w ↦ stops_at_count c.self.inside.rows.now c.args.entries c.args.rows c.loop-row.row-index c.loop-row.before c.loop-row.left c.count_of-count.result c.loop-row-test.true c.loop-row.invariant c.count_of-count.ensures (inr w.if-count-left.true)
    ])

pub loop-row-preserved : goal.loop-row-preserved
loop-row-preserved c = goes_on c.self.inside.rows.now c.args.entries c.loop-row.row-index c.loop-row.before c.loop-row.left c.block_of-block.result c.count_of-count.result c.loop-row-test.true c.loop-row.invariant c.block_of-block.ensures c.count_of-count.ensures (sym c.comes_behind.ensures ∙ c.if-not-comes_behind.false) c.if-count-eq0.false c.if-count-left.false

pub returns-then-left-eq0-clause-judges : goal.returns-then-left-eq0-clause-judges
returns-then-left-eq0-clause-judges c =
    let all = all_judged c.self.inside.rows.now c.args.entries c.args.rows c.loop-row.row-index c.loop-row.before c.loop-row.left c.loop-row-test.false c.loop-row.invariant in
    rw (← c.self.view_is) (rw c.if-left-eq0.true at all)

pub returns-else-left-eq0-clause-judges : goal.returns-else-left-eq0-clause-judges
returns-else-left-eq0-clause-judges c =
    let all = all_judged c.self.inside.rows.now c.args.entries c.args.rows c.loop-row.row-index c.loop-row.before c.loop-row.left c.loop-row-test.false c.loop-row.invariant in
    let no : eqb c.loop-row.left 0 ≡ false = ne_eqb _ _ c.if-left-eq0.false in
    rw (← c.self.view_is) (no ∙ (rw no at all))

pub returns-then-left-eq0-clause-ascends : goal.returns-then-left-eq0-clause-ascends
returns-then-left-eq0-clause-ascends c = ascends_where _ _ c.args.rows c.args.entries (returns-then-left-eq0-clause-judges c)

pub returns-else-left-eq0-clause-ascends : goal.returns-else-left-eq0-clause-ascends
returns-else-left-eq0-clause-ascends c = ascends_where _ _ c.args.rows c.args.entries (returns-else-left-eq0-clause-judges c)
