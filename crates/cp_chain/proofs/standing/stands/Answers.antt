use Rattle.std.proofs.Common.{sym, ◌∙◌}
use Rattle.cp_statements.specs.View.{attestation_view, entry_view}
use Rattle.cp_chain.specs.View.{frame_view}
use Rattle.cp_chain.proofs.Places.{none_stands, stands_here}
use Rattle.cp_chain.proofs.standing.stands.Goals as goal

pub returns-in_default : goal.returns-in_default
returns-in_default c = none_stands (frame_view c.args.frame.now) c.args.segment.now (attestation_view c.args.a.now) c.in_default.ensures

pub returns-then-eq : goal.returns-then-eq
returns-then-eq c =
    let same = sym c.says_the_same.ensures ∙ c.if-says_the_same.true in
    let fits = sym c.eq.ensures ∙ c.if-eq.true in
    c.eq-then-eq.ensures ∙ stands_here (frame_view c.args.frame.now) c.args.segment.now (attestation_view c.args.a.now) (entry_view c.in-Ok.entry) c.in-Some.text.now c.head_behind-prev.result c.head.result
    c.if-a-frame.false c.if-a-frame-2.false c.in-Some.ensures.0 c.in-Some.ensures.1 c.in-Ok.ensures same c.head_behind-prev.ensures c.head.ensures fits
