use Rattle.std.proofs.Common.{take, sym, ap, ◌∙◌}
use Rattle.cp_statements.specs.Entry.{Entry}
use Rattle.cp_statements.specs.View.{entry_view}
use Rattle.cp_chain.specs.Legal.{Put, latest, put_at}
use Rattle.cp_chain.specs.Pass.{entry_breaks}
use Rattle.cp_chain.specs.View.{frame_view, rule_view}
use Rattle.cp_chain.proofs.Places.{fault_here}
use Rattle.cp_chain.proofs.broken.breaks_alone.Goals as goal

pub returns : goal.returns
returns c =
    let s = (frame_view c.args.frame.now).side in
    let e = entry_view c.in-Some.entry in
    let rule = rule_view c.args.rule in
    let here = fault_here c.args.segment.now c.args.place e (λ (e : Entry). entry_breaks s (latest (put_at s.before) (take c.args.place c.args.segment.now)) c.args.place e rule) c.in-Some.ensures in
    c.entry_breaks.ensures ∙ ap (λ (p : Put). entry_breaks s p c.args.place e rule) c.latest-put.ensures ∙ sym here
