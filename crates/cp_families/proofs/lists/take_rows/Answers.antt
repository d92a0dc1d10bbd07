use Rattle.std.proofs.Common.{◌≡◌, ◌-◌, length, None, Err, refl, sym, ap, ◌∙◌, arith}
use Rattle.std.proofs.lemmas.Result.{err_from_is_err_and}
use Rattle.cp_families.specs.Families.{family_rows_at}
use Rattle.cp_families.specs.View.{row_before, row_view}
use Rattle.cp_families.proofs.Chunks.{length-first_chunks}
use Rattle.cp_families.proofs.RowLemmas.{loop_start, loop_stop, loop_step, loop_end, first_rows, rows_listed}
use Rattle.cp_families.proofs.lists.take_rows.Goals as goal

pub loop-init : goal.loop-init
loop-init c =
    let rest : c.args.cut.now.rest ≡ c.rest-bytes.result.now = sym c.rest-bytes.ensures in
    record {
      whole = refl;
      within = omega arith;
      rest = rest;
      so_far = rw rest (loop_start c.args.count c.rest-bytes.result.now);
    }

pub returns-in_err-take_row-clause-reads : goal.returns-in_err-take_row-clause-reads
returns-in_err-take_row-clause-reads c =
    let p = err_from_is_err_and c.from_residual.result c.from_residual.ensures.1 in
    let stop : family_rows_at c.args.count None c.rest-bytes.result.now ≡ Err (c.loop.cut.total - c.in_err-take_row.field-0.0.at) = loop_stop c.args.count c.loop.counter c.rest-bytes.result.now c.loop.cut.rest (row_before c.loop.before) _ (omega arith) c.loop.invariant.so_far c.in_err-take_row.ensures.0 in
    rw (p.1, p.2) (rw (← c.rest-bytes.ensures, ← c.loop.invariant.whole) (stop, c.in_err-take_row.ensures.1))

pub loop-preserved : goal.loop-preserved
loop-preserved c =
    let s = loop_step c.args.count c.loop.counter c.rest-bytes.result.now c.loop.cut.rest (row_before c.loop.before) (row_view c.in_ok-take_row.field-0, c.take_row.new.cut.rest) (omega arith) c.loop.invariant.within c.loop.invariant.rest c.loop.invariant.so_far c.in_ok-take_row.ensures.0 in
    record {
      whole = c.in_ok-take_row.ensures.1 ∙ c.loop.invariant.whole;
      within = s.within;
      rest = s.rest_is;
      so_far = s.so_far;
    }

pub slice_bounds-result-end : goal.slice_bounds-result-end
slice_bounds-result-end c =
    let all = first_rows c.args.count c.rest-bytes.result.now c.as_chunks.result.0.now (omega arith) c.as_chunks.ensures.front in
    sym (ap length all ∙ length-first_chunks 64 c.args.count c.rest-bytes.result.now)

pub returns-clause-reads : goal.returns-clause-reads
returns-clause-reads c =
    let all = first_rows c.args.count c.rest-bytes.result.now c.as_chunks.result.0.now (omega arith) c.as_chunks.ensures.front in
    let last = loop_end c.args.count c.loop.counter c.rest-bytes.result.now c.loop.cut.rest (row_before c.loop.before) (omega arith) c.loop.invariant.so_far in
    (rw (all, ← c.rest-bytes.ensures) last, c.loop.invariant.whole)

pub returns-clause-listed : goal.returns-clause-listed
returns-clause-listed c =
    let all = first_rows c.args.count c.rest-bytes.result.now c.as_chunks.result.0.now (omega arith) c.as_chunks.ensures.front in
    let last = loop_end c.args.count c.loop.counter c.rest-bytes.result.now c.loop.cut.rest (row_before c.loop.before) (omega arith) c.loop.invariant.so_far in
    rw all (rows_listed c.args.count c.rest-bytes.result.now _ c.loop.cut.rest last)
