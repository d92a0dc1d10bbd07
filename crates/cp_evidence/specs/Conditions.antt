-- Which evidence convicts (this project's own): each kind's conditions are tried in order.
use Rattle.std.specs.Prelude.{ℕ, ◌+◌, ◌≡◌, Bool, cond, not, ◌&&◌, ◌||◌, nat_lt, nat_le, ◌==◌, if◌then◌else◌, List, [], length, Option, Some, None, is_some, Result, Ok, Err, bytes_eq, IsTrue, IsOkAnd}
use Rattle.std.specs.Option.{ok_or}
use Rattle.std.specs.Result.{result_ok}
use Rattle.sha2.specs.Sha256.{sha256}
use Rattle.cp_bytes.specs.Fields.{◌>>=◌}
use Rattle.cp_bytes.specs.Hashes.{zero_hash, head}
use Rattle.lms_tree.specs.PublicKey.{key_reads}
use Rattle.lms_tree.specs.Verifying.{verifies, leaf_of}
use Rattle.cp_statements.specs.Envelope.{Envelope}
use Rattle.cp_statements.specs.Attestation.{Attestation, attestation_of}
use Rattle.cp_statements.specs.Closing.{Closing, closing_of}
use Rattle.cp_statements.specs.Entry.{Entry, entry_text}
use Rattle.cp_tips.specs.Table.{TableRow, table_of, row, well_formed, regressed}
use Rattle.cp_families.specs.Families.{FamilyRow, families_of}
use Rattle.cp_chain.specs.Frame.{Frame}
use Rattle.cp_chain.specs.Rules.{broken}
use Rattle.cp_chain.specs.Standing.{reaches, stands}
use Rattle.cp_evidence.specs.Evidence.{Two, ClosingTable, Given, WentBack, BrokenRule, Lost, Evidence, evidence_of}
use Rattle.cp_evidence.specs.Evidence.Evidence.{K1, K2, K3, K4, K5, K6, K7, K8, K9, K10}

-- ---- one condition

-- condition n holds
abbrev pub check : ℕ → Bool → Result (Unit {0}) ℕ
check n holds = cond holds (Ok tt) (Err n)

-- condition n holds, and gives a value
abbrev pub want : {A : Type 0} → ℕ → Option A → Result A ℕ
want n o = ok_or o n

abbrev pub where_holds : {A : Type 0} → (A → Bool) → Option A → Option A
where_holds p (Some x) = if p x then Some x else None
where_holds p None = None

-- ---- what is said of one part

abbrev pub signed_by : List ℕ → Envelope → Bool
signed_by key x = verifies key x.text x.signature

-- the attestation of this store that the text spells
abbrev pub attestation_by : List ℕ → List ℕ → Option Attestation
attestation_by store text = where_holds (λ a. bytes_eq a.store store) (result_ok (attestation_of text))

-- the closing of this store that the text spells
abbrev pub closing_by : List ℕ → List ℕ → Option Closing
closing_by store text = where_holds (λ c. bytes_eq c.store store) (result_ok (closing_of text))

-- the text is a statement of this store
abbrev pub is_statement : List ℕ → List ℕ → Bool
is_statement store text = is_some (attestation_by store text) || is_some (closing_by store text)

-- the entry that an attestation is of, with no writer's signature, as a get's is
abbrev pub entry_for : Attestation → Entry
entry_for a = record { kind = a.kind; epoch = a.epoch; block = a.block; position = a.position; client = a.client; nonce = a.nonce; version = a.version; content = a.content; signature = [] }

-- a get attestation's head is the one after its entry
abbrev pub head_fits : Attestation → Bool
head_fits a = bytes_eq a.head (head a.prev (entry_text (entry_for a)))

-- ---- the closing before

-- there is none in epoch 1
abbrev pub Before : Type 0
Before = Option Closing

abbrev pub is_empty_envelope : Envelope → Bool
is_empty_envelope y = (length y.text == 0) && (length y.signature == 0)

abbrev pub some_before : Option Closing → Option Before
some_before (Some d) = Some (Some d)
some_before None = None

-- a closing of the epoch before, which verifies
abbrev pub closing_before : List ℕ → Closing → Envelope → Option Closing
closing_before key c y = if signed_by key y then where_holds (λ d. d.epoch + 1 == c.epoch) (closing_by (sha256 key) y.text) else None

-- what stands for the closing before fits: in epoch 1 both parts are empty, and otherwise it is that
-- closing
abbrev pub before_of : List ℕ → Closing → Envelope → Option Before
before_of key c y = if c.epoch == 1 then (if is_empty_envelope y then Some None else None) else some_before (closing_before key c y)

-- the link that the closing has to have
abbrev pub link_from : Envelope → Before → List ℕ
link_from y None = zero_hash
link_from y (Some d) = sha256 y.text

-- ---- tables

-- the table that the closing before names; in epoch 1 there are no bytes
abbrev pub is_table_before : List ℕ → Before → Bool
is_table_before bytes None = length bytes == 0
is_table_before bytes (Some d) = bytes_eq (sha256 bytes) d.table

-- the rows of a table that is well formed for a closing
abbrev pub rows_for : List ℕ → Closing → Option (List TableRow)
rows_for bytes c = where_holds (λ rows. well_formed rows c.rows c.entries) (result_ok (table_of bytes))

-- those before; in epoch 1 it is the empty table
abbrev pub rows_before : List ℕ → Before → Option (List TableRow)
rows_before bytes None = Some []
rows_before bytes (Some d) = rows_for bytes d

-- ---- the frame of an epoch

-- what its parts give: its closing, the rows of its table, and those of the table before
pub record Framed : Type 0 where
  pub closing : Closing
  pub rows : List TableRow
  pub rows_before : List TableRow

-- its conditions, 1 to 7
unfoldable pub framed : List ℕ → Given → Result Framed ℕ
framed key g = do
  _ ← check 1 (signed_by key g.closing)
  c ← want 2 (closing_by (sha256 key) g.closing.text)
  before ← want 3 (before_of key c g.before)
  _ ← check 4 (bytes_eq (sha256 g.table) c.table)
  _ ← check 5 (is_table_before g.table_before before)
  rows ← want 6 (rows_for g.table c)
  old ← want 7 (rows_before g.table_before before)
  Ok (record { closing = c; rows = rows; rows_before = old })

-- where a block's segment of that epoch stands
abbrev pub frame_of : List ℕ → List FamilyRow → Framed → ℕ → Frame
frame_of key families w block = record { side = record { store = sha256 key; families = families; epoch = w.closing.epoch; block = block; before = row w.rows_before block }; after = row w.rows block }

-- the families list that the closing names
abbrev pub families_for : List ℕ → Closing → Option (List FamilyRow)
families_for bytes c = if bytes_eq (sha256 bytes) c.families then result_ok (families_of bytes) else None

-- the attestation's position is not between the counts of its block
abbrev pub is_outside : Frame → Attestation → Bool
is_outside f a = nat_lt a.position f.side.before.count || nat_le f.after.count a.position

-- ---- the conditions of each kind

-- two attestations of one position of a block
unfoldable pub k1_tried : List ℕ → Two → Result (Unit {0}) ℕ
k1_tried key e = do
  _ ← check 1 (signed_by key e.x)
  _ ← check 2 (signed_by key e.y)
  a ← want 3 (attestation_by (sha256 key) e.x.text)
  b ← want 4 (attestation_by (sha256 key) e.y.text)
  _ ← check 5 ((a.block == b.block) && (a.position == b.position))
  check 6 (not (bytes_eq e.x.text e.y.text))

-- two texts under one leaf
unfoldable pub k2_tried : List ℕ → Two → Result (Unit {0}) ℕ
k2_tried key e = do
  _ ← check 1 (signed_by key e.x)
  _ ← check 2 (signed_by key e.y)
  _ ← check 3 (leaf_of e.x.signature == leaf_of e.y.signature)
  check 4 (not (bytes_eq e.x.text e.y.text))

-- two closings of one epoch
unfoldable pub k3_tried : List ℕ → Two → Result (Unit {0}) ℕ
k3_tried key e = do
  _ ← check 1 (signed_by key e.x)
  _ ← check 2 (signed_by key e.y)
  c ← want 3 (closing_by (sha256 key) e.x.text)
  d ← want 4 (closing_by (sha256 key) e.y.text)
  _ ← check 5 (c.epoch == d.epoch)
  check 6 (not (bytes_eq e.x.text e.y.text))

-- a table that is not well formed for its closing
unfoldable pub k4_tried : List ℕ → ClosingTable → Result (Unit {0}) ℕ
k4_tried key e = do
  _ ← check 1 (signed_by key e.closing)
  c ← want 2 (closing_by (sha256 key) e.closing.text)
  _ ← check 3 (bytes_eq (sha256 e.table) c.table)
  check 4 (not (is_some (rows_for e.table c)))

-- a closing whose link is not to the closing before
unfoldable pub k5_tried : List ℕ → Two → Result (Unit {0}) ℕ
k5_tried key e = do
  _ ← check 1 (signed_by key e.x)
  c ← want 2 (closing_by (sha256 key) e.x.text)
  before ← want 3 (before_of key c e.y)
  check 4 (not (bytes_eq c.link (link_from e.y before)))

-- a block that went back
unfoldable pub k6_tried : List ℕ → WentBack → Result (Unit {0}) ℕ
k6_tried key e = do
  w ← framed key e.given
  check 8 (regressed w.rows_before w.rows e.block)

-- a segment that breaks a rule
unfoldable pub k7_tried : List ℕ → BrokenRule → Result (Unit {0}) ℕ
k7_tried key e = do
  w ← framed key e.given
  families ← want 8 (families_for e.families w.closing)
  _ ← check 9 (reaches (frame_of key families w e.block) e.segment)
  check 10 (broken (frame_of key families w e.block) e.segment e.fault.rule e.fault.place e.fault.other)

-- an attestation that is outside the counts of its block, or does not stand in its segment
unfoldable pub k8_tried : List ℕ → Lost → Result (Unit {0}) ℕ
k8_tried key e = do
  w ← framed key e.given
  _ ← check 8 (signed_by key e.attestation)
  a ← want 9 (where_holds (λ a. a.epoch == w.closing.epoch) (attestation_by (sha256 key) e.attestation.text))
  check 10 (is_outside (frame_of key [] w a.block) a
      || (reaches (frame_of key [] w a.block) e.segment && not (stands (frame_of key [] w a.block) e.segment a)))

-- a get attestation with a wrong head
unfoldable pub k9_tried : List ℕ → Envelope → Result (Unit {0}) ℕ
k9_tried key x = do
  _ ← check 1 (signed_by key x)
  a ← want 2 (where_holds (λ a. a.kind == 2) (attestation_by (sha256 key) x.text))
  check 3 (not (head_fits a))

-- a signed text that is no statement of the store
unfoldable pub k10_tried : List ℕ → Envelope → Result (Unit {0}) ℕ
k10_tried key x = do
  _ ← check 1 (signed_by key x)
  check 2 (not (is_statement (sha256 key) x.text))

-- all conditions hold, or the number of the first one that fails
abbrev pub tried : List ℕ → Evidence → Result (Unit {0}) ℕ
tried key (K1 e) = k1_tried key e
tried key (K2 e) = k2_tried key e
tried key (K3 e) = k3_tried key e
tried key (K4 e) = k4_tried key e
tried key (K5 e) = k5_tried key e
tried key (K6 e) = k6_tried key e
tried key (K7 e) = k7_tried key e
tried key (K8 e) = k8_tried key e
tried key (K9 e) = k9_tried key e
tried key (K10 e) = k10_tried key e

-- The bytes convict the store of this key: the key reads, the bytes spell evidence, and all of its
-- conditions hold.
pub record Convicts (key bytes : List ℕ) : Type 0 where
  pub key_reads : IsTrue (key_reads key)
  pub holds : IsOkAnd (evidence_of bytes) (λ evidence. tried key evidence ≡ Ok tt)
