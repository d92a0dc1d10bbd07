use Rattle.std.proofs.Common.{◌≡◌, ◌∷◌, ◌+◌, ◌-◌, [], ℕ, List, length, Option, Some, Ok, Err, sym, ap, ◌∙◌, arith}
use Rattle.cp_bytes.specs.Cursor.{Cursor, start}
use Rattle.cp_chain.specs.Log.{LogPart, log_part_at, log_parts_in}
use Rattle.cp_chain.specs.View.{log_part_view}
use Rattle.cp_chain.proofs.LogReadings.{log_none_left, next_log_part, some_log_part}
use Rattle.cp_chain.proofs.log.LogPartsIterator.next.Goals as goal

read_of : (before : Option ℕ) (bytes : List ℕ) (part : LogPart) (after rest : List ℕ) (cut : Cursor) → cut ≡ start bytes → log_part_at before cut.rest ≡ Ok (part, after) → rest ≡ after → log_part_at before bytes ≡ Ok (part, rest)
read_of before bytes part after rest cut e h f = rw f (ap (λ (x : Cursor). log_part_at before x.rest) (sym e) ∙ h)

fault_of : (before : Option ℕ) (bytes : List ℕ) (left : ℕ) (cut : Cursor) → cut ≡ start bytes → log_part_at before cut.rest ≡ Err left → log_part_at before bytes ≡ Err left
fault_of before bytes left cut e h = ap (λ (x : Cursor). log_part_at before x.rest) (sym e) ∙ h

pub returns-then-self-eq0-clause-steps : goal.returns-then-self-eq0-clause-steps
returns-then-self-eq0-clause-steps c =
    let none : c.args.self.now ≡ [] = sym c.self.view_is ∙ log_none_left c.self.inside.left c.self.inside.before c.self.inside.rest.now c.if-self-eq0.true in
    (none, none)

pub invariant_of-self : goal.invariant_of-self
invariant_of-self c =
    let part = log_part_view c.in-Ok.part in
    let read = read_of c.self.inside.before c.self.inside.rest.now part c.take_log_part.new.cut.rest c.rest-self-inside.result.now c.new-cut.result c.new-cut.ensures c.in-Ok.ensures.0 c.rest-self-inside.ensures in
    (next_log_part (c.self.inside.left - 1) c.self.inside.left c.self.inside.before c.self.inside.rest.now part c.rest-self-inside.result.now (omega arith) c.self.invariant read).others

pub returns-in-Ok-clause-steps : goal.returns-in-Ok-clause-steps
returns-in-Ok-clause-steps c =
    let part = log_part_view c.in-Ok.part in
    let read = read_of c.self.inside.before c.self.inside.rest.now part c.take_log_part.new.cut.rest c.rest-self-inside.result.now c.new-cut.result c.new-cut.ensures c.in-Ok.ensures.0 c.rest-self-inside.ensures in
    sym c.self.view_is ∙ (next_log_part (c.self.inside.left - 1) c.self.inside.left c.self.inside.before c.self.inside.rest.now part c.rest-self-inside.result.now (omega arith) c.self.invariant read).all

-- fewer are left
pub returns-in-Ok-clause-goes : goal.returns-in-Ok-clause-goes
returns-in-Ok-clause-goes c =
    let part = log_part_view c.in-Ok.part in
    let read = read_of c.self.inside.before c.self.inside.rest.now part c.take_log_part.new.cut.rest c.rest-self-inside.result.now c.new-cut.result c.new-cut.ensures c.in-Ok.ensures.0 c.rest-self-inside.ensures in
    let all : c.args.self.now ≡ part ∷ log_parts_in (c.self.inside.left - 1) (Some c.in-Ok.part.block) c.rest-self-inside.result.now =
    sym c.self.view_is ∙ (next_log_part (c.self.inside.left - 1) c.self.inside.left c.self.inside.before c.self.inside.rest.now part c.rest-self-inside.result.now (omega arith) c.self.invariant read).all in
    let shorter : length c.args.self.now ≡ length (log_parts_in (c.self.inside.left - 1) (Some c.in-Ok.part.block) c.rest-self-inside.result.now) + 1 = omega (arith, ap length all) in
    record { on = λ _. (tt, tt, omega (arith, shorter)); keeps = tt; rests = λ _. tt }

pub returns-in-Err-clause-steps : goal.returns-in-Err-clause-steps
returns-in-Err-clause-steps c =
    let fault = fault_of c.self.inside.before c.self.inside.rest.now (c.new-cut.result.total - c.in-Err.field-0.at) c.new-cut.result c.new-cut.ensures c.in-Err.ensures.0 in
    absurd (some_log_part c.self.inside.left c.self.inside.before c.self.inside.rest.now (c.new-cut.result.total - c.in-Err.field-0.at) (omega arith) c.self.invariant fault)
