use Rattle.std.proofs.Common.{sym, arith}
use Rattle.cp_bytes.specs.Fields.{IsBytes}
use Rattle.cp_audit.proofs.TakingLemmas.{lies}
use Rattle.cp_audit.proofs.taking.segment_bytes.Goals as goal

pub slice_bounds-result-count : goal.slice_bounds-result-count
slice_bounds-result-count c =
    let bytes : IsBytes c.args.bytes.now = λ i. omega (arith, c.type_inv.bytes i) in
    (lies c.args.bytes.now c.args.left.now c.args.segment.now bytes c.requires).within

pub returns : goal.returns
returns c =
    let bytes : IsBytes c.args.bytes.now = λ i. omega (arith, c.type_inv.bytes i) in
    sym (lies c.args.bytes.now c.args.left.now c.args.segment.now bytes c.requires).spelled
