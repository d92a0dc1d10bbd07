use Rattle.std.proofs.Common.{◌+◌, ◌-◌, ◌%◌, ◌^◌, arith, sym, ap, ◌∙◌}
use Rattle.cp_gate.proofs.Words.{counts}
use Rattle.cp_gate.proofs.Seats.{kept_as, same_is}
use Rattle.cp_gate.proofs.gate.Gate.count_out.Goals as goal

pub fetch_sub-requires : goal.fetch_sub-requires
fetch_sub-requires g c = let table = ap (λ s. s.table) c.self.view_is in let slots = ap (λ s. s.table.slots) c.self.view_is in let i = c.self.invariant in let at = c.requires.place in (
  ap (λ s. s.table) c.seat.view_is ∙ (c.requires.seat.0 ∙ sym table),
  omega (arith, slots, at, i.1, i.2),
  counts _ _ _ _ c.args.place _ (λ n. (n + (2 ^ 64 - 1)) % 2 ^ 64),
)

pub invariant_of-seat : goal.invariant_of-seat
invariant_of-seat g c = let same = c.fetch_sub.ensures.2 in let slots = ap (λ t. t.slots) c.fetch_sub.ensures.0 in let i = c.seat.invariant in
    (i.0, kept_as _ _ _ _ _ _ _ _ _ _ (same ∙ i.1.0) (λ p e. let low = i.1.1 p e in omega (arith, slots, low)) (i.1.2 ∙ sym slots) (i.1.3 ∙ sym slots))

pub returns : goal.returns
returns g c = let same = c.fetch_sub.ensures.2 in same_is _ _ _ _ _ _ _ _ c.seat.view_is c.fetch_sub.ensures.0 (ap (λ m. m.0.key) same) (ap (λ m. m.0) same)
