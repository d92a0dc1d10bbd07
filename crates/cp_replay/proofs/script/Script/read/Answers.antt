use Rattle.std.proofs.Common.{◌≡◌, suc, ◌+◌, ◌-◌, ◌<◌, [], ◌∷◌, ◌++◌, length, false, Some, sym, ap, ◌∙◌, arith, rules, length-append}
use Rattle.std.specs.Prelude.{◌==◌}
use Rattle.cp_replay.specs.Words.{with_rest}
use Rattle.cp_replay.specs.Script.{line_at, most_lines}
use Rattle.cp_replay.proofs.Lines.{next_line, fits_more}
use Rattle.cp_replay.proofs.script.Script.read.Goals as goal

pub loop-rest-preserved : goal.loop-rest-preserved
loop-rest-preserved c =
    let rest = c.loop-rest.rest.now in
    let after = c.take_line.new.rest.now in
    let line = c.in-Some.line in
    let added = c.loop-rest.lines.items ++ line ∷ [] in
    let items : c.add.new.lines.items ≡ added = c.in_ok-add.ensures in
    let longer : length added ≡ length c.loop-rest.lines.items + 1 = length-append c.loop-rest.lines.items (line ∷ []) in
    let read : line_at rest ≡ Some (line, after) = sym c.in_ok-line.ensures.read ∙ ap (with_rest after) c.in-Some.is in
    let some : (length rest == 0) ≡ false = search rules in
    let shorter : length after < length rest = search rules in
    let few : length c.loop-rest.lines.items < most_lines = omega (arith, c.loop-rest.invariant.few, c.if-len-eq-MOST_LINES.false) in
    let more : most_lines - length c.loop-rest.lines.items ≡ suc (most_lines - length added) = omega (arith, few, longer) in
    rw items (record {
      so_far = c.loop-rest.invariant.so_far ∙ next_line _ _ c.loop-rest.lines.items rest after line more some read;
      few = omega (arith, few, longer);
      fits = fits_more c.loop-rest.lines.items line c.loop-rest.invariant.fits (search rules);
      within = omega (arith, c.loop-rest.invariant.within, shorter);
    })
