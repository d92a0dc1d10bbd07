-- What a reader answers that refuses by `Malformed`.
use Rattle.std.specs.Prelude.{ℕ, ◌-◌, ◌≡◌, ◌≤◌, List, Result, Ok, Err}
use Rattle.cp_bytes.specs.Cursor.{Cursor}
use Rattle.cp_statements.specs.declared.malformed.Malformed.{Malformed}

-- of a whole text: the value that the bytes spell, seen by `view`, or the offset of the first byte
-- that does not fit
abbrev pub Reads : {X Y : Type 0} → (X → Y) → Result X Malformed → Result Y ℕ → Type 0
Reads view (Ok x) read = read ≡ Ok (view x)
Reads view (Err e) read = read ≡ Err e.at

-- of a field: the value, seen by `view`, is what the reading of the bytes left gives, and the cursor
-- moves behind it; a refusal names the offset of the field and leaves the cursor as it was
abbrev pub ReadsField : {X Y : Type 0} → (X → Y) → Cursor → Cursor → Result X Malformed → Result (Y × List ℕ) ℕ → Type 0
ReadsField view old new (Ok x) read = (read ≡ Ok (view x, new.rest)) × (new.total ≡ old.total)
ReadsField view old new (Err e) read = (read ≡ Err (old.total - e.at)) × (e.at ≤ old.total) × (new ≡ old)

-- of a row of fields: the same, but a refusal says nothing of the cursor
abbrev pub ReadsOn : {X Y : Type 0} → (X → Y) → Cursor → Cursor → Result X Malformed → Result (Y × List ℕ) ℕ → Type 0
ReadsOn view old new (Ok x) read = (read ≡ Ok (view x, new.rest)) × (new.total ≡ old.total)
ReadsOn view old new (Err e) read = (read ≡ Err (old.total - e.at)) × (e.at ≤ old.total)
