-- The material of an epoch, and whether it is given (this project's own).
use Rattle.std.specs.Prelude.{ℕ, ◌+◌, Bool, cond, not, ◌&&◌, List, [], ◌∷◌, ◌++◌, length, map, filter, Option, Some, None, is_none, option_and_then, option_map, Result, Ok, Err, nat_lt, ◌==◌, if◌then◌else◌, bytes_eq}
use Rattle.std.specs.Option.{ok_or}
use Rattle.std.specs.Result.{result_ok, result_unwrap_or}
use Rattle.sha2.specs.Sha256.{sha256}
use Rattle.cp_bytes.specs.Fields.{◌>>=◌}
use Rattle.cp_statements.specs.Envelope.{Envelope, envelope_of}
use Rattle.cp_statements.specs.Closing.{Closing}
use Rattle.cp_tips.specs.Table.{TableRow, table_of, row, regressed}
use Rattle.cp_families.specs.Families.{FamilyRow, families_of}
use Rattle.cp_chain.specs.Frame.{Frame}
use Rattle.cp_chain.specs.Standing.{reaches}
use Rattle.cp_chain.specs.Log.{LogPart, Log, log_of}
use Rattle.cp_evidence.specs.Conditions.{signed_by, closing_by, where_holds, Before, is_table_before, rows_for}

-- what an auditor is handed of an epoch: the store's key, the families list, the envelopes of the two
-- closings, the tables that they name and the log; before and table_before are empty in epoch 1
pub record Material : Type 0 where
  pub key : List ℕ
  pub epoch : ℕ
  pub families : List ℕ
  pub before : List ℕ
  pub closing : List ℕ
  pub table_before : List ℕ
  pub table : List ℕ
  pub log : List ℕ

-- what is missing of it
pub data What : Type 0 where
  FamiliesList : What
  ClosingBefore : What
  ClosingItself : What
  TableBefore : What
  TableItself : What
  LogText : What
  LogOf : ℕ → What  -- the segment of a block

abbrev pub needs : What → Bool → Result (Unit {0}) What
needs what holds = cond holds (Ok tt) (Err what)

-- ---- the closings

-- a signed closing
pub record SignedClosing : Type 0 where
  pub envelope : Envelope
  pub closing : Closing

-- the closing of this store in the envelope, if it verifies, and is of the epoch so many before this one
abbrev pub signed_closing : List ℕ → ℕ → ℕ → Envelope → Option SignedClosing
signed_closing key back epoch x = if signed_by key x then option_map (λ c. record { envelope = x; closing = c }) (where_holds (λ c. c.epoch + back == epoch) (closing_by (sha256 key) x.text)) else None

abbrev pub closing_in : List ℕ → ℕ → ℕ → List ℕ → Option SignedClosing
closing_in key back epoch bytes = option_and_then (signed_closing key back epoch) (result_ok (envelope_of bytes))

-- the closing before; in epoch 1 there are no bytes
abbrev pub closing_before_in : List ℕ → ℕ → List ℕ → Option (Option SignedClosing)
closing_before_in key epoch bytes = if epoch == 1 then (if length bytes == 0 then Some None else None) else option_map (λ c. Some c) (closing_in key 1 epoch bytes)

abbrev pub before_in : Option SignedClosing → Before
before_in before = option_map (λ c. c.closing) before

-- ---- the tables

-- the rows of a table; none where the bytes spell no table, as where there are none
abbrev pub rows_in_table : List ℕ → List TableRow
rows_in_table bytes = result_unwrap_or (table_of bytes) []

-- the table is well formed for its closing
abbrev pub is_formed : List ℕ → Closing → Bool
is_formed bytes c = not (is_none (rows_for bytes c))

-- so is the table before; in epoch 1 there are no bytes
abbrev pub is_formed_before : List ℕ → Before → Bool
is_formed_before bytes None = length bytes == 0
is_formed_before bytes (Some d) = is_formed bytes d

abbrev pub least_from : ℕ → List ℕ → ℕ
least_from b [] = b
least_from b (c ∷ cs) = least_from (if nat_lt c b then c else b) cs

-- the least of the numbers
abbrev pub least_of : List ℕ → Option ℕ
least_of [] = None
least_of (b ∷ bs) = Some (least_from b bs)

abbrev pub blocks_in : List TableRow → List ℕ
blocks_in rows = map (λ r. r.block) rows

-- the least block that went back
unfoldable pub least_regressed : List TableRow → List TableRow → Option ℕ
least_regressed before after = least_of (filter (regressed before after) (blocks_in before))

-- the block's count rose
abbrev pub rose : List TableRow → List TableRow → ℕ → Bool
rose before after b = nat_lt (row before b).count (row after b).count

-- ---- the log

-- the block's segment
abbrev pub part_of : List LogPart → ℕ → Option (List (List ℕ))
part_of [] b = None
part_of (p ∷ ps) b = if p.block == b then Some p.texts else part_of ps b

-- where a block's segment of an epoch stands between two tables
abbrev pub frame_between : List ℕ → List FamilyRow → ℕ → List TableRow → List TableRow → ℕ → Frame
frame_between store families epoch before after b = record { side = record { store = store; families = families; epoch = epoch; block = b; before = row before b }; after = row after b }

-- a block has a segment exactly where its count rose, and the segment reaches
abbrev pub part_reaches : Frame → Option (List (List ℕ)) → Bool → Bool
part_reaches f None grew = not grew
part_reaches f (Some texts) grew = grew && reaches f texts

-- the least block at which the log fails
unfoldable pub log_fault : (ℕ → Frame) → List TableRow → List TableRow → List LogPart → Option ℕ
log_fault frame before after parts = least_of (filter (λ b. not (part_reaches (frame b) (part_of parts b) (rose before after b))) (blocks_in after ++ map (λ p. p.block) parts))

abbrev pub whole_log : List LogPart → Option ℕ → Result (Option (List LogPart)) What
whole_log parts None = Ok (Some parts)
whole_log parts (Some b) = Err (LogOf b)

-- the parts of a log of the epoch that is right for the tables
abbrev pub log_given : ℕ → (ℕ → Frame) → List TableRow → List TableRow → Option Log → Result (Option (List LogPart)) What
log_given epoch frame before after None = Err LogText
log_given epoch frame before after (Some l) = if l.epoch == epoch then whole_log l.parts (log_fault frame before after l.parts) else Err LogText

-- The log is read only where both tables are well formed for their closings and no block went back.
abbrev pub log_is_read : Material → Before → Closing → Bool
log_is_read m before c = is_formed_before m.table_before before && (is_formed m.table c && is_none (least_regressed (rows_in_table m.table_before) (rows_in_table m.table)))

-- ---- what is given

-- the parts of given material
pub record GivenEpoch : Type 0 where
  pub key : List ℕ
  pub epoch : ℕ
  pub families_text : List ℕ
  pub families : List FamilyRow
  pub before : Option SignedClosing
  pub closing : SignedClosing
  pub table_before : List ℕ
  pub table : List ℕ
  pub log : Option (List LogPart)  -- only where the log is read

-- The material is given, with these parts, or the first of its conditions that fails names what is
-- missing: the families list; the closing before; the closing itself, which names the list's digest;
-- the table before and the table itself, whose digests the closings name; the log's text, and one
-- segment that reaches for each block whose count rose, and no other.
unfoldable pub given_of : Material → Result GivenEpoch What
given_of m = do
  families ← ok_or (result_ok (families_of m.families)) FamiliesList
  before ← ok_or (closing_before_in m.key m.epoch m.before) ClosingBefore
  closing ← ok_or (closing_in m.key 0 m.epoch m.closing) ClosingItself
  _ ← needs ClosingItself (bytes_eq (sha256 m.families) closing.closing.families)
  _ ← needs TableBefore (is_table_before m.table_before (before_in before))
  _ ← needs TableItself (bytes_eq (sha256 m.table) closing.closing.table)
  log ← (if log_is_read m (before_in before) closing.closing
      then log_given m.epoch (frame_between (sha256 m.key) families m.epoch (rows_in_table m.table_before) (rows_in_table m.table)) (rows_in_table m.table_before) (rows_in_table m.table) (result_ok (log_of m.log)) else Ok None)
  Ok (record { key = m.key; epoch = m.epoch; families_text = m.families; families = families; before = before; closing = closing; table_before = m.table_before; table = m.table; log = log })

-- ---- its parts by name

abbrev pub store_id : GivenEpoch → List ℕ
store_id o = sha256 o.key

abbrev pub old_rows : GivenEpoch → List TableRow
old_rows o = rows_in_table o.table_before

abbrev pub new_rows : GivenEpoch → List TableRow
new_rows o = rows_in_table o.table

abbrev pub parts_or_none : Option (List LogPart) → List LogPart
parts_or_none None = []
parts_or_none (Some parts) = parts

-- the block's segment of the log
abbrev pub segment_for : GivenEpoch → ℕ → Option (List (List ℕ))
segment_for o b = part_of (parts_or_none o.log) b

-- where it stands
abbrev pub frame_for : GivenEpoch → ℕ → Frame
frame_for o b = frame_between (sha256 o.key) o.families o.epoch (old_rows o) (new_rows o) b

abbrev pub list_of : {A : Type 0} → Option A → List A
list_of None = []
list_of (Some x) = x ∷ []

-- the closing before, then that of the epoch
abbrev pub closings : GivenEpoch → List SignedClosing
closings o = list_of o.before ++ o.closing ∷ []

abbrev pub closing_envelopes : GivenEpoch → List Envelope
closing_envelopes o = map (λ c. c.envelope) (closings o)

-- the hand-ins that verify
abbrev pub verified : GivenEpoch → List Envelope → List Envelope
verified o hand_ins = filter (signed_by o.key) hand_ins

abbrev pub no_envelope : Envelope
no_envelope = record { text = []; signature = [] }

-- what stands for the closing before in evidence
abbrev pub envelope_before : Option SignedClosing → Envelope
envelope_before None = no_envelope
envelope_before (Some c) = c.envelope
