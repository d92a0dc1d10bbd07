use Rattle.std.proofs.Common.{◌≡◌, ◌∷◌, ◌+◌, ◌-◌, [], ℕ, List, length, Ok, Err, sym, ap, ◌∙◌, arith}
use Rattle.cp_bytes.specs.Fields.{part_at}
use Rattle.cp_bytes.specs.Cursor.{Cursor, start}
use Rattle.cp_chain.specs.Segment.{parts_in}
use Rattle.cp_chain.proofs.Parts.{none_left, next_part, some_part}
use Rattle.cp_chain.proofs.segment.TextsIterator.next.Goals as goal

read_of : (bytes text after rest : List ℕ) (cut : Cursor) → cut ≡ start bytes → part_at cut.rest ≡ Ok (text, after) → rest ≡ after → part_at bytes ≡ Ok (text, rest)
read_of bytes text after rest cut e h f = rw f (ap (λ (x : Cursor). part_at x.rest) (sym e) ∙ h)

fault_of : (bytes : List ℕ) (left : ℕ) (cut : Cursor) → cut ≡ start bytes → part_at cut.rest ≡ Err left → part_at bytes ≡ Err left
fault_of bytes left cut e h = ap (λ (x : Cursor). part_at x.rest) (sym e) ∙ h

pub returns-then-self-eq0-clause-steps : goal.returns-then-self-eq0-clause-steps
returns-then-self-eq0-clause-steps c =
    let none : c.args.self.now ≡ [] = sym c.self.view_is ∙ none_left c.self.inside.left c.self.inside.rest.now c.if-self-eq0.true in
    (none, none)

pub invariant_of-self : goal.invariant_of-self
invariant_of-self c =
    let read = read_of c.self.inside.rest.now c.in-Ok.text.now c.part.new.self.rest c.rest-self-inside.result.now c.new-cut.result c.new-cut.ensures c.in-Ok.ensures.0 c.rest-self-inside.ensures in
    (next_part (c.self.inside.left - 1) c.self.inside.left c.self.inside.rest.now c.in-Ok.text.now c.rest-self-inside.result.now (omega arith) c.self.invariant read).others

pub returns-in-Ok-clause-steps : goal.returns-in-Ok-clause-steps
returns-in-Ok-clause-steps c =
    let read = read_of c.self.inside.rest.now c.in-Ok.text.now c.part.new.self.rest c.rest-self-inside.result.now c.new-cut.result c.new-cut.ensures c.in-Ok.ensures.0 c.rest-self-inside.ensures in
    sym c.self.view_is ∙ (next_part (c.self.inside.left - 1) c.self.inside.left c.self.inside.rest.now c.in-Ok.text.now c.rest-self-inside.result.now (omega arith) c.self.invariant read).all

-- fewer are left
pub returns-in-Ok-clause-goes : goal.returns-in-Ok-clause-goes
returns-in-Ok-clause-goes c =
    let read = read_of c.self.inside.rest.now c.in-Ok.text.now c.part.new.self.rest c.rest-self-inside.result.now c.new-cut.result c.new-cut.ensures c.in-Ok.ensures.0 c.rest-self-inside.ensures in
    let all : c.args.self.now ≡ c.in-Ok.text.now ∷ parts_in (c.self.inside.left - 1) c.rest-self-inside.result.now =
    sym c.self.view_is ∙ (next_part (c.self.inside.left - 1) c.self.inside.left c.self.inside.rest.now c.in-Ok.text.now c.rest-self-inside.result.now (omega arith) c.self.invariant read).all in
    let shorter : length c.args.self.now ≡ length (parts_in (c.self.inside.left - 1) c.rest-self-inside.result.now) + 1 = omega (arith, ap length all) in
    record { on = λ _. (tt, tt, omega (arith, shorter)); keeps = tt; rests = λ _. tt }

pub returns-in-Err-clause-steps : goal.returns-in-Err-clause-steps
returns-in-Err-clause-steps c =
    let fault = fault_of c.self.inside.rest.now (c.new-cut.result.total - c.in-Err.field-0.at) c.new-cut.result c.new-cut.ensures c.in-Err.ensures.0 in
    absurd (some_part c.self.inside.left c.self.inside.rest.now (c.new-cut.result.total - c.in-Err.field-0.at) (omega arith) c.self.invariant fault)
