-- How the commands `ask-get` and `accept` end, over the files of their folder (this project's own).
use Rattle.std.specs.Prelude.{ℕ, ◌≡◌, ◌≢◌, ◌⊎◌, List, Option, Some, Result, Ok, Err, if◌then◌else◌, IsTrue}
use Rattle.sha2.specs.Sha256.{sha256}
use Rattle.cp_bytes.specs.Fields.{◌>>=◌}
use Rattle.cp_outside.specs.Causes.{Rose}
use Rattle.lms_tree.specs.PublicKey.{key_reads}
use Rattle.cp_statements.specs.Envelope.{envelope_text}
use Rattle.cp_statements.specs.GetRequest.{GetRequest, get_request_text}
use Rattle.cp_client.specs.Asking.{Asked, asked_of}
use Rattle.cp_client.specs.Accepting.{Accepted, accept_of}
use Rattle.cp_client.specs.declared.refusals.ClientRefusal.{ClientRefusal}
use Rattle.cp_client.specs.declared.refusals.ClientRefusal.TheVariants.{Malformed}
use Rattle.cp_endings.specs.Folders.{Files, input_of, Stops, KeepsAll, KeepsOthers, IsFile, ReadsFirst}
use Rattle.cp_commands.specs.ClientWords.{CallWords, GetWords, AcceptWords}
use Rattle.cp_endings.specs.Endings.{Outcome, bad_key, fault}
use Rattle.cp_endings.specs.ClientEndings.{asked_get, accepted, refused}
use Rattle.cp_endings.specs.ThreeInputs.{Three, three_of}

-- the bytes, where they are an LMS public key
abbrev pub key_in : List ℕ → Result (List ℕ) Outcome
key_in bytes = if key_reads bytes then Ok bytes else Err bad_key

-- ---- ask-get: the store's key of 56 bytes

abbrev pub get_request : CallWords → List ℕ → GetRequest
get_request call store = record { store = sha256 store; epoch = call.epoch; block = call.block; client = call.client; nonce = call.nonce }

-- the get request's bytes
abbrev pub get_asked : GetWords → Option (List ℕ) → Result (List ℕ) Outcome
get_asked words store_file = do
  bytes ← input_of store_file words.store 56
  store ← key_in bytes
  Ok (get_request_text (get_request words.call store))

-- They were written; or their write failed, after which the file of its name may hold anything; or an
-- input was refused and nothing was written.
abbrev pub GetEnds : Result (List ℕ) Outcome → List ℕ → Files → Files → Outcome → Type 0
GetEnds (Ok bytes) out old new ending = ((ending ≡ asked_get) × (IsTrue old.tells → new.file out ≡ Some bytes)) ⊎ ((ending ≡ fault) × Rose old.write_faults new.write_faults)
GetEnds (Err refusal) out old new ending = (ending ≡ refusal) × KeepsAll old new

pub record AskGetEnds (words : GetWords) (old new : Files) (ending : Outcome) : Type 0 where
  pub store_file : Option (List ℕ)
  pub store_is : IsFile old words.store store_file
  pub ends : GetEnds (get_asked words store_file) words.out old new ending ⊎ (Stops old.read_faults new.read_faults ending × KeepsAll old new)
  pub others : KeepsOthers words.out old new
  pub reads_first : ReadsFirst old new ending

-- ---- accept: the store's key of 56 bytes, a request and a reply of at most 128 KiB each

abbrev pub asked_or_refused : Result Asked ℕ → Result Asked Outcome
asked_or_refused (Ok asked) = Ok asked
asked_or_refused (Err at) = Err (refused (Malformed at))

abbrev pub accepted_or_refused : Result Accepted ClientRefusal → Result Accepted Outcome
accepted_or_refused (Ok x) = Ok x
accepted_or_refused (Err refusal) = Err (refused refusal)

-- what is accepted of these files: the key must read, then the request, and then the reply is judged
unfoldable pub acceptance_of : Three → Result Accepted Outcome
acceptance_of files = do
  key ← key_in files.first
  asked ← asked_or_refused (asked_of files.second)
  accepted_or_refused (accept_of key asked files.third)

abbrev pub accept_inputs : AcceptWords → Option (List ℕ) → Option (List ℕ) → Option (List ℕ) → Result Three Outcome
accept_inputs words store_file request_file reply_file =
    three_of store_file (record { name = words.store; limit = 56 }) request_file (record { name = words.request; limit = 131072 }) reply_file (record { name = words.reply; limit = 131072 })

-- The envelope was written, and then the content, over the envelope where both have one name.
pub record WritesAccepted (words : AcceptWords) (x : Accepted) (new : Files) : Type 0 where
  pub envelope : words.out ≢ words.content → new.file words.out ≡ Some (envelope_text x.envelope)
  pub content : new.file words.content ≡ Some x.content

-- Only the file whose write failed may hold anything: the content's file is as before, or the envelope was
-- written.
abbrev pub StopsAccepted : AcceptWords → Accepted → Files → Files → Type 0
StopsAccepted words x old new = words.out ≢ words.content → (new.file words.content ≡ old.file words.content) ⊎ (IsTrue old.tells → new.file words.out ≡ Some (envelope_text x.envelope))

-- Both were written; or a write failed; or an input was refused and nothing was written.
abbrev pub AcceptanceEnds : AcceptWords → Result Accepted Outcome → Files → Files → Outcome → Type 0
AcceptanceEnds words (Ok x) old new ending = ((ending ≡ accepted x.attestation) × (IsTrue old.tells → WritesAccepted words x new)) ⊎ ((ending ≡ fault) × Rose old.write_faults new.write_faults × StopsAccepted words x old new)
AcceptanceEnds words (Err refusal) old new ending = (ending ≡ refusal) × KeepsAll old new

pub record AcceptEnds (words : AcceptWords) (old new : Files) (ending : Outcome) : Type 0 where
  pub store_file : Option (List ℕ)
  pub request_file : Option (List ℕ)
  pub reply_file : Option (List ℕ)
  pub store_is : IsFile old words.store store_file
  pub request_is : IsFile old words.request request_file
  pub reply_is : IsFile old words.reply reply_file
  pub ends : AcceptanceEnds words (accept_inputs words store_file request_file reply_file >>= acceptance_of) old new ending ⊎ (Stops old.read_faults new.read_faults ending × KeepsAll old new)
  pub others : (name : List ℕ) → name ≢ words.out → name ≢ words.content → new.file name ≡ old.file name
  pub reads_first : ReadsFirst old new ending
