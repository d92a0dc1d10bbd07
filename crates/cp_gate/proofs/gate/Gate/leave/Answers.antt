use Rattle.std.proofs.Common.{◌≡◌, ◌<◌, ◌^◌, Some, length, sym, ap, ◌∙◌, subst}
use Rattle.cp_gate.specs.Histories.{seen_of, SeatAdds}
use Rattle.cp_gate.specs.Models.{leaving}
use Rattle.cp_gate.proofs.gate.Gate.leave.Goals as goal

pub put_back-requires-clause-entered : goal.put_back-requires-clause-entered
put_back-requires-clause-entered g c = c.requires.entered ∙ ap (λ h. Some h.place) (sym c.held.view_is)

pub put_back-requires-clause-fits : goal.put_back-requires-clause-fits
put_back-requires-clause-fits g c = subst (λ h. g.T.StandsFor.fits c.args.self.now.key h.place h.value) (sym c.held.view_is) c.requires.fits

pub put_back-requires-clause-own : goal.put_back-requires-clause-own
put_back-requires-clause-own g c = subst (λ h. SeatAdds (g.T.StandsFor.names c.args.self.now.key) c.args.seat.now.number (seen_of c.args.seat.now.seen h.place) (g.T.StandsFor.history c.args.self.now.key h.place h.value)) (sym c.held.view_is) c.requires.own

pub put_back-requires-clause-room : goal.put_back-requires-clause-room
put_back-requires-clause-room g c = subst (λ h. length (g.T.StandsFor.history c.args.self.now.key h.place h.value) < 2 ^ 62) (sym c.held.view_is) c.requires.room

pub returns-clause-seat : goal.returns-clause-seat
returns-clause-seat g c = c.put_back.ensures.seat ∙ ap (λ h. leaving c.args.seat.now h.place (g.T.StandsFor.history c.args.self.now.key h.place h.value)) c.held.view_is

pub returns-clause-here : goal.returns-clause-here
returns-clause-here g c = subst (λ h. seen_of c.put_back.new.seat.seen h.place ≡ g.T.StandsFor.history c.args.self.now.key h.place h.value) c.held.view_is c.put_back.ensures.here
