-- What an index of calls says of the texts that were passed over (this project's own).
use Rattle.std.specs.Prelude.{ℕ, ◌≡◌, List, position}
use Rattle.std.specs.declared.cmp.Ordering.{Ordering}
use Rattle.std.specs.Ordering.{nat_cmp, ordering_then}
use Rattle.std.specs.BTreeMap.{BTreeMap, get}
use Rattle.cp_chain.specs.Legal.{is_call}
use Rattle.cp_chain.specs.declared.indexed.Call.{Call}

-- by client, then nonce
abbrev pub call_cmp : Call → Call → Ordering
call_cmp a b = ordering_then (nat_cmp a.client b.client) (nat_cmp a.nonce b.nonce)

-- it has each call of the texts, and no other, at its first place
abbrev pub IsIndex : List (List ℕ) → BTreeMap Call ℕ → Type 0
IsIndex texts calls = (k : Call) → get call_cmp calls k ≡ position (is_call k.client k.nonce) texts
