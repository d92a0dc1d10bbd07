use Rattle.std.proofs.Common.{◌≡◌, ◌-◌, [], length, map, vec_capacity}
use Rattle.std.specs.List.{All, range_with_len}
use Rattle.cp_gate.specs.Rule.{dealing}
use Rattle.cp_gate.specs.Models.{IsNewSeatOf}
use Rattle.cp_gate.proofs.gate.Gate.deal.Given as goal

abbrev pub invariant-loop-number : goal.invariant-loop-number
invariant-loop-number g l = (l.first.table_id ≡ l.self.table) × (l.first.me ≡ (dealing l.self.key l.self.start l.number (l.seats - l.number), [])) × (length l.all.items ≡ l.number)
    × All (IsNewSeatOf l.self) l.all.items × (map (λ s. s.number) l.all.items ≡ range_with_len 0 l.number) × (vec_capacity l.all ≡ vec_capacity l.initial.all)
