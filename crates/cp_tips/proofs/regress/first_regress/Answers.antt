use Rattle.std.proofs.Common.{ℕ, sym, subst, ◌∙◌, arith}
use Rattle.std.proofs.lemmas.List.{nil_from_length}
use Rattle.cp_tips.specs.Table.{IsFirstRegress}
use Rattle.cp_tips.proofs.Merging.{skips_after, skips_before, finds_back, finds_vanished, finds_last, finds_none, lt_along, eq_along}
use Rattle.cp_tips.proofs.regress.first_regress.Goals as goal
use Rattle.cp_tips.proofs.regress.first_regress.Goals.{else-next-block-2-via-then-next-block-2+else-not-went_back, else-next-block-2-via-else-next-block-2}

pub loop-row-preserved-then-next-block : goal.loop-row-preserved-then-next-block
loop-row-preserved-then-next-block c =
    skips_after c.args.before.now c.args.after.now c.loop-row.old.now c.in-Some.others.now c.in-Some.row.now c.in-Some.ensures.cases.0 c.loop-row.new.now c.in-Some-split_first.later.now c.in-Some-split_first.other.now c.in-Some-split_first.ensures.cases.0 c.loop-row.invariant
    (lt_along _ _ _ _ c.block_of-next.ensures c.block_of-block.ensures c.if-next-block.true)

pub loop-row-preserved : goal.loop-row-preserved
loop-row-preserved c =
    skips_before c.args.before.now c.args.after.now c.loop-row.old.now c.in-Some.others.now c.in-Some.row.now c.in-Some.ensures.cases.0 c.loop-row.new.now c.in-Some-split_first.later.now c.in-Some-split_first.other.now c.in-Some-split_first.ensures.cases.0 c.loop-row.invariant
    (eq_along _ _ _ _ c.block_of-next.ensures c.block_of-block.ensures c.if-next-block-2.true) (sym c.went_back.ensures ∙ c.if-not-went_back.true)

pub returns-in_default-split_first : goal.returns-in_default-split_first
returns-in_default-split_first c =
    let found = finds_last c.args.before.now c.args.after.now c.loop-row.old.now c.in-Some.others.now c.in-Some.row.now c.in-Some.ensures.cases.0 c.loop-row.new.now (nil_from_length _ c.in_default-split_first.ensures.cases) c.loop-row.invariant in
    subst (λ (b : ℕ). IsFirstRegress c.args.before.now c.args.after.now b) (sym c.block_of-block.ensures) found

pub returns-else-next-block-2 : goal.returns-else-next-block-2
returns-else-next-block-2 c =
    subst (λ (b : ℕ). IsFirstRegress c.args.before.now c.args.after.now b) (sym c.block_of-block.ensures)
    (elim c.else-next-block-2.branch [
      | else-next-block-2-via-then-next-block-2+else-not-went_back w ↦
          finds_back c.args.before.now c.args.after.now c.loop-row.old.now c.in-Some.others.now c.in-Some.row.now c.in-Some.ensures.cases.0 c.loop-row.new.now c.in-Some-split_first.later.now c.in-Some-split_first.other.now c.in-Some-split_first.ensures.cases.0 c.loop-row.invariant
          (eq_along _ _ _ _ c.block_of-next.ensures c.block_of-block.ensures w.if-next-block-2.true) (sym w.went_back.ensures ∙ w.if-not-went_back.false)
      | else-next-block-2-via-else-next-block-2 w ↦
          finds_vanished c.args.before.now c.args.after.now c.loop-row.old.now c.in-Some.others.now c.in-Some.row.now c.in-Some.ensures.cases.0 c.loop-row.new.now c.in-Some-split_first.later.now c.in-Some-split_first.other.now c.in-Some-split_first.ensures.cases.0 c.loop-row.invariant
          (lt_along c.block_of-block.result c.block_of-next.result _ _ c.block_of-block.ensures c.block_of-next.ensures (omega (arith, c.if-next-block.false, w.if-next-block-2.false)))
    ])

pub returns : goal.returns
returns c = finds_none c.args.before.now c.args.after.now c.loop-row.old.now c.loop-row.new.now (nil_from_length _ c.in_default.ensures.cases) c.loop-row.invariant
