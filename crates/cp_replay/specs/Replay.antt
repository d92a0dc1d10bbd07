-- What a replay is: the store's step over a script's events, what it prints, and the files that it
-- leaves (this project's own).
use Rattle.std.specs.Prelude.{ℕ, ◌+◌, ◌-◌, List, [], ◌∷◌, ◌++◌, Option, Some, None, codes}
use Rattle.sha2.specs.Sha256.{sha256}
use Rattle.lms_ots.specs.declared.ots_type.OtsType.{OtsType}
use Rattle.lms_tree.specs.declared.height.Height.{Height}
use Rattle.lms_tree.specs.Secret.{Secret, leaves_of, public_of, signature}
use Rattle.cp_statements.specs.Envelope.{envelope_text}
use Rattle.cp_statements.specs.PutRequest.{put_request_text}
use Rattle.cp_statements.specs.Closing.{closing_of}
use Rattle.cp_statements.specs.View.{put_request_view}
use Rattle.cp_statements.specs.declared.kind.Kind.{Kind}
use Rattle.cp_statements.specs.declared.kind.Kind.TheVariants as kind
use Rattle.cp_statements.specs.declared.put_request.PutRequest.{PutRequest}
use Rattle.cp_statements.specs.declared.get_request.GetRequest.{GetRequest}
use Rattle.cp_families.specs.Families.{families_text}
use Rattle.cp_chain.specs.Log.{log_text}
use Rattle.cp_core.specs.Store.{Store}
use Rattle.cp_core.specs.Honest.{last_of}
use Rattle.cp_core.specs.Machine.{State, opening, step, run_from}
use Rattle.cp_core.specs.declared.answer.Answer.{Answer}
use Rattle.cp_core.specs.declared.answer.Answer.TheVariants.{Booked, CallRefused, CloseRefused, Done, Text, NotClosed, NotNow}
use Rattle.cp_core.specs.declared.chronicle.Chronicle.{Chronicle}
use Rattle.cp_core.specs.declared.event.Event.TheVariants.{Call, Begin}
use Rattle.cp_core.specs.declared.request.Request.{Request}
use Rattle.cp_core.specs.declared.request.Request.TheVariants as request
use Rattle.cp_core.specs.declared.seal_item.SealItem.{SealItem}
use Rattle.cp_closer.specs.Laws.{log_at}
use Rattle.cp_store.specs.Closes.{closing_events}
use Rattle.cp_replay.specs.Keys.{store_secret, writer_secret, closings_in}
use Rattle.cp_replay.specs.Writers.{list_without, rows_for}
use Rattle.cp_replay.specs.Printed.{call_line, close_refused, closed_line, at_line}
use Rattle.cp_replay.specs.declared.line.Line.{Line}
use Rattle.cp_replay.specs.declared.line.Line.TheVariants.{Put, Get, Close, CloseWithout, At}
use Rattle.cp_replay.specs.declared.epoch_files.EpochFiles.{EpochFiles}

-- what a replay is made with
pub record Making : Type 0 where
  pub height : Height  -- of the store's key
  pub ots : OtsType
  pub seed : List ℕ  -- its seed file: SEED of 32 bytes and I of 16
  pub pages : ℕ  -- of each shard

abbrev pub making : Height → OtsType → List ℕ → ℕ → Making
making height ots seed pages = record { height = height; ots = ots; seed = seed; pages = pages }

abbrev pub key_of : Making → Secret
key_of m = store_secret m.height m.ots m.seed

abbrev pub writer_of : Making → Secret
writer_of m = writer_secret m.seed

-- a store of this key, where the writer may write as each client of a put in the family of its block
unfoldable pub store_by : Secret → Secret → ℕ → List Line → Store
store_by key writer pages lines = record {
  id = sha256 (public_of key);
  families = families_text (rows_for (public_of writer) lines);
  attestations = leaves_of key - closings_in (leaves_of key);
  closings = closings_in (leaves_of key);
  pages = pages;
}

abbrev pub store_of : Making → List Line → Store
store_of m lines = store_by (key_of m) (writer_of m) m.pages lines

-- ---- the requests

-- what a put asks
abbrev pub put_asked : List ℕ → ℕ → ℕ → ℕ → ℕ → ℕ → List ℕ → PutRequest
put_asked store epoch client block nonce version content = record { store = store; epoch = epoch; block = block; client = client; nonce = nonce; version = version; content = sha256 content }

-- the put with its content, signed with a leaf of the writer's key
unfoldable pub put_signed : Secret → ℕ → PutRequest → List ℕ → Request
put_signed writer leaf asked content = request.Put asked (signature writer leaf (put_request_text (put_request_view asked))) content

abbrev pub get_asked : List ℕ → ℕ → ℕ → ℕ → ℕ → GetRequest
get_asked store epoch client block nonce = record { store = store; epoch = epoch; block = block; client = client; nonce = nonce }

-- ---- how far it has come

pub record Progress : Type 0 where
  pub state : State  -- the store's
  pub named : ℕ  -- the epoch that puts and gets name
  pub text : List ℕ  -- what is printed
  pub handins : List ℕ  -- the envelopes of the attestations
  pub epochs : List EpochFiles  -- the files of the closed epochs

abbrev pub at_first : Store → Progress
at_first s = record { state = opening s; named = 1; text = []; handins = []; epochs = [] }

-- with one more line printed
abbrev pub printed : List ℕ → List ℕ → List ℕ
printed text line = text ++ (line ++ codes "\n")

-- a text, signed with a leaf of the store's key
abbrev pub enveloped : Secret → ℕ → List ℕ → List ℕ
enveloped key leaf text = envelope_text (record { text = text; signature = signature key leaf text })

-- ---- a call

-- what is handed in of an answer: the attestation's envelope, if there is one
abbrev pub handed : Secret → Answer → List ℕ
handed key (Booked b) = enveloped key b.leaf b.text
handed key (CallRefused why) = []
handed key (CloseRefused why) = []
handed key Done = []
handed key (Text epoch) = []
handed key (NotClosed count) = []
handed key (NotNow phase) = []

abbrev pub answered : Secret → Progress → Kind → Answer × State → Progress
answered key p asked x = record p { state = x.1; text = printed p.text (call_line asked x.0); handins = p.handins ++ handed key x.0 }

unfoldable pub after_call : Secret → Store → Progress → Kind → Request → Progress
after_call key s p asked request = answered key p asked (step s p.state (Call 0 request))

-- ---- a closing

-- the files of the epoch that the seal ended in a life
abbrev pub files_of : Secret → Chronicle → SealItem → EpochFiles
files_of key r x = record { families = x.families; closing = enveloped key x.leaf x.text; table = x.table; log = log_text (log_at r x.epoch) }

abbrev pub closed : Secret → Progress → State → Option SealItem → Progress
closed key p after None = p
closed key p after (Some x) = record p { state = after; named = x.epoch + 1; text = printed p.text (closed_line (closing_of x.text)); epochs = p.epochs ++ files_of key after.life x ∷ [] }

abbrev pub after_begin : Secret → Store → Progress → Option (List ℕ) → Answer → Progress
after_begin key s p next Done = closed key p (run_from s p.state (closing_events next)) (last_of (run_from s p.state (closing_events next)).life.seals)
after_begin key s p next (CloseRefused why) = record p { text = printed p.text (close_refused why) }
after_begin key s p next (Booked b) = p
after_begin key s p next (CallRefused why) = p
after_begin key s p next (Text epoch) = p
after_begin key s p next (NotClosed count) = p
after_begin key s p next (NotNow phase) = p

-- the current epoch is closed, whatever epoch was named, with the next one's families list, if one is
-- named: a refusal is that of the closing's beginning
unfoldable pub after_close : Secret → Store → Progress → Option (List ℕ) → Progress
after_close key s p next = after_begin key s p next (step s p.state (Begin next)).0

-- ---- a line, and all lines

-- the line with this number, from 0, by the store's key and the writer's
unfoldable pub after_line : Secret → Secret → Store → ℕ → Progress → Line → Progress
after_line key writer s i p (Put client block nonce version content) = after_call key s p kind.Put (put_signed writer i (put_asked s.id p.named client block nonce version content) content)
after_line key writer s i p (Get client block nonce) = after_call key s p kind.Get (request.Get (get_asked s.id p.named client block nonce))
after_line key writer s i p Close = after_close key s p None
after_line key writer s i p (CloseWithout client) = after_close key s p (Some (list_without client p.state.kept))
after_line key writer s i p (At epoch) = record p { named = epoch; text = printed p.text (at_line epoch) }

-- the lines from this number on
unfoldable pub after_lines : Secret → Secret → Store → ℕ → Progress → List Line → Progress
after_lines key writer s i p [] = p
after_lines key writer s i p (line ∷ lines) = after_lines key writer s (i + 1) (after_line key writer s i p line) lines

-- what a replay printed, and its files
pub record ReplayFiles : Type 0 where
  pub key : List ℕ  -- the store's
  pub text : List ℕ
  pub handins : List ℕ
  pub epochs : List EpochFiles

abbrev pub files_after : List ℕ → Progress → ReplayFiles
files_after key p = record { key = key; text = p.text; handins = p.handins; epochs = p.epochs }

-- the whole of it
unfoldable pub replayed : Making → List Line → ReplayFiles
replayed m lines = files_after (public_of (key_of m)) (after_lines (key_of m) (writer_of m) (store_of m lines) 0 (at_first (store_of m lines)) lines)
