use Rattle.std.proofs.Common.{arith, sym, ap, ◌∙◌}
use Rattle.cp_gate.specs.Histories.{seen_of}
use Rattle.cp_gate.specs.Rule.{first_seen}
use Rattle.cp_gate.proofs.Words.{splits, joins}
use Rattle.cp_gate.proofs.PlaceSteps.{reads_first}
use Rattle.cp_gate.proofs.Tokens.{notes_as, gathers_as}
use Rattle.cp_gate.proofs.Histories.{length-longest}
use Rattle.cp_gate.proofs.Seats.{key_of, key_stays, kept_as, told_is, joined, read_done, adds_move}
use Rattle.cp_gate.proofs.gate.Gate.tell.Goals as goal

pub split_seat-note-requires : goal.split_seat-note-requires
split_seat-note-requires g c = let table = ap (λ s. s.table) c.self.view_is in (
  ap (λ s. s.table) c.from.view_is ∙ (c.requires.from.0 ∙ sym table),
  c.self.invariant.3,
  splits _ _ _ _ _ _ (notes_as g.T.StandsFor.fits g.T.StandsFor.history g.T.StandsFor.names _ _ _ _ _ _ _ _ _ _ _ (ap (λ m. m.0) c.from.invariant.1.0)),
)

pub join_seat-requires : goal.join_seat-requires
join_seat-requires g c = let table = ap (λ s. s.table) c.self.view_is in let note = c.split_seat-note.ensures in (
  ap (λ s. s.table) c.to.view_is ∙ (c.requires.to.0 ∙ sym table),
  note.3 ∙ (ap (λ s. s.table) c.from.view_is ∙ (c.requires.from.0 ∙ sym table)),
  ap (λ m. m.1) note.4,
  c.self.invariant.3,
  joins _ _ _ _ _ _ _ _ (gathers_as g.T.StandsFor.fits g.T.StandsFor.history g.T.StandsFor.names _ _ _ _ _ _ _ _ _ _ _ _ _ (ap (λ m. m.0) c.to.invariant.1.0) (ap (λ m. m.0.entered) note.4)),
)

pub load-requires : goal.load-requires
load-requires g c = let table = ap (λ s. s.table) c.self.view_is in let note = c.split_seat-note.ensures in let i = c.self.invariant in let low = i.3 in (
  c.join_seat.ensures.0 ∙ (ap (λ s. s.table) c.to.view_is ∙ (c.requires.to.0 ∙ sym table)),
  low,
  reads_first g.T.StandsFor.fits g.T.StandsFor.history g.T.StandsFor.names _ _ _ _ _ _ _ _ _ _ _ _ _ (let words = i.1 in omega (arith, words, low)) (joined _ _ _ _ _ _ _ _ _ _ _ _ (ap (λ m. m.0) c.to.invariant.1.0) (ap (λ m. m.0) note.4) c.join_seat.ensures.2),
)

pub invariant_of-to : goal.invariant_of-to
invariant_of-to g c = let note = c.split_seat-note.ensures in
    let read = (c.load.ensures.2 _ _ _ _ _ _ (joined _ _ _ _ _ _ _ _ _ _ _ _ (ap (λ m. m.0) c.to.invariant.1.0) (ap (λ m. m.0) note.4) c.join_seat.ensures.2)).0 in
    let slots = ap (λ t. t.slots) c.load.ensures.0 ∙ ap (λ t. t.slots) c.join_seat.ensures.0 in
    let carried = ap (λ m. m.1) c.join_seat.ensures.2 ∙ ap (λ m. m.1) c.to.invariant.1.0 in
    (c.to.invariant.0, kept_as _ _ _ _ _ _ _ _ _ _ (read_done _ _ _ _ _ _ _ _ _ _ read carried) (λ p e. let low = c.to.invariant.1.1 p e in omega (arith, slots, low)) (length-longest _ _ ∙ (c.to.invariant.1.2 ∙ sym slots)) (c.to.invariant.1.3 ∙ sym slots))

pub returns-clause-to : goal.returns-clause-to
returns-clause-to g c = let note = c.split_seat-note.ensures in
    let read = (c.load.ensures.2 _ _ _ _ _ _ (joined _ _ _ _ _ _ _ _ _ _ _ _ (ap (λ m. m.0) c.to.invariant.1.0) (ap (λ m. m.0) note.4) c.join_seat.ensures.2)).0 in
    told_is c.to.inside.seat.table_id c.load.new.seat.table_id c.to.inside.seat.me.0.key c.load.new.seat.me.0.key c.to.invariant.0 c.to.inside.number c.to.inside.seat.me.0 c.load.new.seat.me.0 c.args.to.now _ _ c.to.view_is (c.load.ensures.0 ∙ c.join_seat.ensures.0) (key_stays _ _ _ _ _ _ _ _ _ _ _ _ c.to.invariant.1 (ap (λ m. m.0) read)) (ap (λ m. m.0) read) (ap (λ s. s.seen) c.from.view_is)

pub returns-clause-own : goal.returns-clause-own
returns-clause-own g c p low = let note = c.split_seat-note.ensures in
    let read = c.load.ensures.2 _ _ _ _ _ _ (joined _ _ _ _ _ _ _ _ _ _ _ _ (ap (λ m. m.0) c.to.invariant.1.0) (ap (λ m. m.0) note.4) c.join_seat.ensures.2) in
    let slots = ap (λ s. s.table.slots) c.to.view_is ∙ ap (λ t. t.slots) c.requires.to.0 in let sized = c.to.invariant.1.2 in
    let key = key_of _ _ _ _ _ _ _ _ _ c.to.invariant.1 (ap (λ s. s.key) c.to.view_is) c.requires.to.1 in
    let both = read.1 p (omega (arith, slots, sized, low)) in
    let now = ap (λ m. seen_of (first_seen m.0.identities) p) read.0 in
    (adds_move g.T.StandsFor.names _ _ _ _ _ _ _ _ _ _ key (ap (λ s. s.number) c.to.view_is) (ap (λ s. seen_of s.seen p) c.to.view_is) (sym now) (ap (λ s. seen_of s.seen p) c.from.view_is) both.0 both.1).0

pub returns-clause-told : goal.returns-clause-told
returns-clause-told g c p low = let note = c.split_seat-note.ensures in
    let read = c.load.ensures.2 _ _ _ _ _ _ (joined _ _ _ _ _ _ _ _ _ _ _ _ (ap (λ m. m.0) c.to.invariant.1.0) (ap (λ m. m.0) note.4) c.join_seat.ensures.2) in
    let slots = ap (λ s. s.table.slots) c.to.view_is ∙ ap (λ t. t.slots) c.requires.to.0 in let sized = c.to.invariant.1.2 in
    let key = key_of _ _ _ _ _ _ _ _ _ c.to.invariant.1 (ap (λ s. s.key) c.to.view_is) c.requires.to.1 in
    let both = read.1 p (omega (arith, slots, sized, low)) in
    let now = ap (λ m. seen_of (first_seen m.0.identities) p) read.0 in
    (adds_move g.T.StandsFor.names _ _ _ _ _ _ _ _ _ _ key (ap (λ s. s.number) c.to.view_is) (ap (λ s. seen_of s.seen p) c.to.view_is) (sym now) (ap (λ s. seen_of s.seen p) c.from.view_is) both.0 both.1).1

pub returns-clause-inside : goal.returns-clause-inside
returns-clause-inside g c p e = let note = c.split_seat-note.ensures in
    let read = c.load.ensures.2 _ _ _ _ _ _ (joined _ _ _ _ _ _ _ _ _ _ _ _ (ap (λ m. m.0) c.to.invariant.1.0) (ap (λ m. m.0) note.4) c.join_seat.ensures.2) in
    let sized = c.to.invariant.1.2 in let here = ap (λ s. s.entered) c.to.view_is ∙ e in let low = c.to.invariant.1.1 p here in
    let both = read.1 p (omega (arith, sized, low)) in
    ap (λ m. seen_of (first_seen m.0.identities) p) read.0 ∙ (both.2 here ∙ ap (λ s. seen_of s.seen p) c.to.view_is)
