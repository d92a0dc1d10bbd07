use Rattle.std.proofs.Common.{◌≡◌, ◌-◌, ◌≤◌, length}
use Rattle.std.specs.List.{AllByRecursion}
use Rattle.cp_replay.specs.Script.{LineFits, lines_of, most_lines}
use Rattle.cp_replay.proofs.Lines.{behind}
use Rattle.cp_replay.proofs.script.Script.read.Given as goal

-- what is left brings the other lines
abbrev pub invariant-loop-rest : goal.invariant-loop-rest
invariant-loop-rest l = record {
  so_far : lines_of most_lines l.bytes ≡ behind l.lines.items (lines_of (most_lines - length l.lines.items) l.rest);
  few : length l.lines.items ≤ most_lines;
  fits : AllByRecursion LineFits l.lines.items;
  within : length l.rest ≤ length l.bytes;
}

abbrev pub decreases-loop-rest : goal.decreases-loop-rest
decreases-loop-rest l = length l.rest
