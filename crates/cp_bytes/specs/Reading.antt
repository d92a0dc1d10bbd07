-- What a reader's answer says.
use Rattle.std.specs.Prelude.{ℕ, ◌-◌, ◌≡◌, ◌≤◌, List, Result, Ok, Err}
use Rattle.cp_bytes.specs.Cursor.{Cursor}
use Rattle.cp_bytes.specs.declared.cut.Short.{Short}

-- The answer, seen by `view`, is what the reading of the bytes left gives, and the cursor moves
-- behind what was read. A refusal names the offset of the field that does not fit.
abbrev pub ReadsOn : {X Y : Type 0} → (X → Y) → Cursor → Cursor → Result X Short → Result (Y × List ℕ) ℕ → Type 0
ReadsOn view old new (Ok x) read = (read ≡ Ok (view x, new.rest)) × (new.total ≡ old.total)
ReadsOn view old new (Err e) read = (read ≡ Err (old.total - e.at)) × (e.at ≤ old.total)

-- A refusal leaves the cursor as it was, too.
abbrev pub Reads : {X Y : Type 0} → (X → Y) → Cursor → Cursor → Result X Short → Result (Y × List ℕ) ℕ → Type 0
Reads view old new (Ok x) read = (read ≡ Ok (view x, new.rest)) × (new.total ≡ old.total)
Reads view old new (Err e) read = (read ≡ Err (old.total - e.at)) × (e.at ≤ old.total) × (new ≡ old)

-- The answer, seen by `view`, is what all of the bytes read as. A refusal names the offset of the
-- field that does not fit.
abbrev pub ReadsAs : {X Y : Type 0} → (X → Y) → Result X Short → Result Y ℕ → Type 0
ReadsAs view (Ok x) read = read ≡ Ok (view x)
ReadsAs view (Err e) read = read ≡ Err e.at
