-- The statements of the laws on texts.
use Rattle.std.specs.Prelude.{ℕ, ◌+◌, ◌≡◌, List, length, Result, Ok, IsOk}
use Rattle.cp_bytes.specs.Fields.{IsBytes}
use Rattle.cp_statements.specs.PutRequest as put_request
use Rattle.cp_statements.specs.GetRequest as get_request
use Rattle.cp_statements.specs.CloseOrder as close_order
use Rattle.cp_statements.specs.CloseOrder2 as close_order2
use Rattle.cp_statements.specs.Attestation as attestation
use Rattle.cp_statements.specs.Closing as closing
use Rattle.cp_statements.specs.Entry as entry

-- A form's reading and its text are one relation between bytes and the values that fit.
pub record IsExact {A : Type 0} (read : List ℕ → Result A ℕ) (text : A → List ℕ) (Fits : A → Type 0) : Type 0 where
  -- what is spelled is read
  pub spelled_is_read : (x : A) → Fits x → read (text x) ≡ Ok x
  -- what is read was spelled so
  pub read_is_spelled : (bytes : List ℕ) (x : A) → IsBytes bytes → read bytes ≡ Ok x → (bytes ≡ text x) × Fits x
  -- one value has one spelling
  pub one_spelling : (a b : List ℕ) (x : A) → IsBytes a → IsBytes b → read a ≡ Ok x → read b ≡ Ok x → a ≡ b

-- the forms that begin with a tag
pub data Form : Type 0 where
  PutRequest : Form
  GetRequest : Form
  CloseOrder : Form
  CloseOrder2 : Form
  Entry : Form
  Attestation : Form
  Closing : Form

-- the bytes spell a value of the form
abbrev pub IsText : Form → List ℕ → Type 0
IsText PutRequest bytes = IsOk (put_request.put_request_of bytes)
IsText GetRequest bytes = IsOk (get_request.get_request_of bytes)
IsText CloseOrder bytes = IsOk (close_order.close_order_of bytes)
IsText CloseOrder2 bytes = IsOk (close_order2.close_order2_of bytes)
IsText Entry bytes = IsOk (entry.entry_of bytes)
IsText Attestation bytes = IsOk (attestation.attestation_of bytes)
IsText Closing bytes = IsOk (closing.closing_of bytes)

-- No bytes are a text of two forms.
abbrev pub FormsAreApart : Type 0
FormsAreApart = (f g : Form) (bytes : List ℕ) → IsText f bytes → IsText g bytes → f ≡ g

-- No bytes spell both statements of a store, an attestation and a closing.
abbrev pub KindsAreApart : Type 0
KindsAreApart = (bytes : List ℕ) (a : attestation.Attestation) (c : closing.Closing) → attestation.attestation_of bytes ≡ Ok a → closing.closing_of bytes ≡ Ok c → ⊥

-- Each text of a value that fits has so many bytes.
abbrev pub HasLength : {A : Type 0} → (A → List ℕ) → (A → Type 0) → ℕ → Type 0
HasLength {A} text Fits n = (x : A) → Fits x → length (text x) ≡ n

-- An entry's text has 81 bytes at a get, and at a put the signature and its length behind them.
pub record EntryLengths : Type 0 where
  pub get : (x : entry.Entry) → entry.EntryFits x → x.kind ≡ 2 → length (entry.entry_text x) ≡ 81
  pub put : (x : entry.Entry) → entry.EntryFits x → x.kind ≡ 1 → length (entry.entry_text x) ≡ 85 + length x.signature
