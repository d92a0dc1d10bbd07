use Rattle.std.proofs.Common.{◌≡◌, ◌++◌, map, None}
use Rattle.cp_gate.proofs.Ends.{identity_of}
use Rattle.cp_gate.proofs.gate.Gate.close.Given as goal

abbrev pub invariant-loop-seat : goal.invariant-loop-seat
invariant-loop-seat g l = (l.table ≡ l.initial.table) × (l.all.table_id ≡ l.table.shared.table_id) × (l.all.me.0.entered ≡ None) × (l.all.me.0.identities ≡ map (λ s. identity_of s) l.yielded) × (l.yielded ++ l.seat-iterator.rest.items ≡ l.fn.seats.items)
