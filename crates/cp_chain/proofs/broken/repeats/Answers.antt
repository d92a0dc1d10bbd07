use Rattle.std.proofs.Common.{◌&&◌, Bool, nat_lt, sym, ap, ◌∙◌}
use Rattle.std.proofs.lemmas.Bool.{lt-ltb}
use Rattle.cp_statements.specs.Entry.{Entry}
use Rattle.cp_statements.specs.View.{entry_view}
use Rattle.cp_chain.specs.Legal.{is_call}
use Rattle.cp_chain.specs.Rules.{text_at}
use Rattle.cp_chain.proofs.Places.{fault_here}
use Rattle.cp_chain.proofs.broken.repeats.Goals as goal

pub returns-in-Some-get : goal.returns-in-Some-get
returns-in-Some-get c =
    let e = entry_view c.in-Some.entry in
    let here = fault_here c.args.segment.now c.args.place e (λ (e : Entry). nat_lt c.args.other c.args.place && is_call e.client e.nonce (text_at c.args.segment.now c.args.other)) c.in-Some.ensures in
    c.is_call.ensures ∙ ap (is_call e.client e.nonce) c.in-Some-get.ensures.1 ∙ ap (λ (b : Bool). b && is_call e.client e.nonce (text_at c.args.segment.now c.args.other)) (sym (lt-ltb _ _ c.if-other-place.false)) ∙ sym here
