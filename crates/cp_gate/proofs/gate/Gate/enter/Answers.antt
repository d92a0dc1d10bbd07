use Rattle.std.proofs.Common.{◌+◌, sym, refl, ap, ◌∙◌, subst}
use Rattle.std.specs.Prelude.{slice_index}
use Rattle.cp_gate.specs.Histories.{seen_of, OthersAdd}
use Rattle.cp_gate.specs.Models.{IsSeatOf, entering}
use Rattle.cp_gate.proofs.gate.Gate.enter.Goals as goal

pub loop-init : goal.loop-init
loop-init g c = refl

pub try_enter-requires-clause-seat : goal.try_enter-requires-clause-seat
try_enter-requires-clause-seat g c = subst (IsSeatOf c.args.self.now) (sym c.loop.invariant) c.requires.seat

pub try_enter-requires-clause-free : goal.try_enter-requires-clause-free
try_enter-requires-clause-free g c = ap (λ s. s.entered) c.loop.invariant ∙ c.requires.free

pub returns-in-Some-try_enter-clause-seat : goal.returns-in-Some-try_enter-clause-seat
returns-in-Some-try_enter-clause-seat g c = c.in-Some-try_enter.ensures.3 ∙ ap (λ s. entering s c.args.place (g.T.StandsFor.history c.args.self.now.key c.args.place c.in-Some-try_enter.held.value)) c.loop.invariant

pub returns-in-Some-try_enter-clause-seen : goal.returns-in-Some-try_enter-clause-seen
returns-in-Some-try_enter-clause-seen g c = subst (λ s. OthersAdd (g.T.StandsFor.names c.args.self.now.key) s.number (seen_of s.seen c.args.place) (g.T.StandsFor.history c.args.self.now.key c.args.place c.in-Some-try_enter.held.value)) c.loop.invariant c.in-Some-try_enter.ensures.2

pub returns-in-Some-try_enter-clause-turn : goal.returns-in-Some-try_enter-clause-turn
returns-in-Some-try_enter-clause-turn g c = c.in-Some-try_enter.ensures.4 ∙ ap (λ s. slice_index s.turns c.args.place + 1) c.loop.invariant
