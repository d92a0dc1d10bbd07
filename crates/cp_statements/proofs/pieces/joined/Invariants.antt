use Rattle.std.proofs.Common.{◌≡◌, length, flat_map, take}
use Rattle.cp_statements.proofs.pieces.joined.Given as goal

-- the text's front is the pieces so far
abbrev pub invariant-loop-piece : goal.invariant-loop-piece
invariant-loop-piece g l = record {
  filled : take l.at l.text ≡ flat_map (λ piece. piece.now) (take l.piece-index l.pieces);
  so_far : l.at ≡ length (flat_map (λ piece. piece.now) (take l.piece-index l.pieces));
  long : length l.text ≡ g.row.N;
}
