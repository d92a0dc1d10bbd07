use Rattle.std.proofs.Common.{◌≡◌, ◌+◌, min, length, take, drop}
use Rattle.cp_outside.proofs.tearing.tear.Given as goal

abbrev pub invariant-loop-i : goal.invariant-loop-i
invariant-loop-i l = record {
  size : length l.image.items ≡ l.size;
  before : take (min l.at (length l.fn.image.items)) l.image.items ≡ take l.at l.fn.image.items;
  after : drop (l.at + length l.bytes) l.image.items ≡ drop (l.at + length l.bytes) l.fn.image.items;
}
