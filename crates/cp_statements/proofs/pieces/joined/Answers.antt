use Rattle.std.proofs.Common.{◌≡◌, length, flat_map, [], take, sym, ap, ◌∙◌, arith}
use Rattle.std.proofs.lemmas.List.{take_all}
use Rattle.std.proofs.lemmas.List.Folds.{length-flat_map-take}
use Rattle.cp_statements.proofs.pieces.joined.Goals as goal

pub put-requires : goal.put-requires
put-requires g c =
    omega (arith, c.loop-piece.invariant.so_far, c.loop-piece.invariant.long, c.requires, length-flat_map-take (λ piece. piece.now) c.args.pieces.now c.loop-piece.piece-index (record { ref_ptr = (0, 0); now = [] }) c.loop-piece-test.true)

pub returns : goal.returns
returns g c =
    let all : flat_map (λ piece. piece.now) (take c.loop-piece.piece-index c.args.pieces.now) ≡ flat_map (λ piece. piece.now) c.args.pieces.now = ap (flat_map (λ piece. piece.now)) (take_all _ _ c.loop-piece-test.false) in
    let whole : length (flat_map (λ piece. piece.now) (take c.loop-piece.piece-index c.args.pieces.now)) ≡ g.row.N = ap length all ∙ c.requires in
    sym (take_all c.loop-piece.at c.loop-piece.text (omega (arith, c.loop-piece.invariant.so_far, c.loop-piece.invariant.long, whole))) ∙ c.loop-piece.invariant.filled ∙ all
