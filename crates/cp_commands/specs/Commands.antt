-- Commands and the words that spell them (this project's own). A word is the list of its bytes.
use Rattle.std.specs.Prelude.{ℕ, Bool, List, [], ◌∷◌, Option, Some, None, bytes_eq, codes, if◌then◌else◌}
use Rattle.cp_words.specs.Numbers.{number_in}
use Rattle.cp_words.specs.Options.{◌>>=◌}
use Rattle.cp_words.specs.Pairs.{names_in, are_pairs, value_in}
use Rattle.lms_ots.specs.declared.ots_type.OtsType.{OtsType}
use Rattle.lms_ots.specs.declared.ots_type.OtsType.TheVariants.{W1, W2, W4, W8}
use Rattle.lms_tree.specs.declared.height.Height.{Height}
use Rattle.lms_tree.specs.declared.height.Height.TheVariants.{H5, H10, H15}
use Rattle.cp_commands.specs.ClientWords.{CallWords, PutWords, GetWords, AcceptWords}
use Rattle.cp_commands.specs.AuditWords.{AuditWords}
use Rattle.cp_commands.specs.MoreWords.{CertifyWords, ForgeryWords}
use Rattle.cp_commands.specs.Numbers.{number_given}
use Rattle.cp_commands.specs.ReplayWords.{ReplayWords}
use Rattle.cp_commands.specs.declared.by.By.{By}
use Rattle.cp_commands.specs.declared.by.By.TheVariants.{Core, Shards}

pub data Command : Type 0 where
  Judge : List ℕ → List ℕ → Command  -- the names of the key's and the evidence's file
  Verify : List ℕ → List ℕ → List ℕ → Command  -- of the key's, the text's and the signature's
  Keygen : List ℕ → Height → OtsType → List ℕ → Command  -- of the seed's file, and of the key's
  AskPut : PutWords → Command
  AskGet : GetWords → Command
  Accept : AcceptWords → Command
  Audit : AuditWords → Command
  Replay : ReplayWords → Command
  Certify : CertifyWords → Command
  JudgeLife : List ℕ → List ℕ → List ℕ → Command  -- the names of the operator's key's, the certificate's and the evidence's file
  Forgery : ForgeryWords → Command

abbrev pub is_word : List ℕ → List ℕ → Bool
is_word word name = bytes_eq word name

-- the words, where they are pairs of these names and values
abbrev pub options_of : List ℕ → List (List ℕ) → Option (List (List ℕ))
options_of names words = if are_pairs (names_in names) words then Some words else None

unfoldable pub judge_of : List (List ℕ) → Option Command
judge_of words = do
  options ← options_of (codes "--key --evidence") words
  key ← value_in options (codes "--key")
  evidence ← value_in options (codes "--evidence")
  Some (Judge key evidence)

unfoldable pub verify_of : List (List ℕ) → Option Command
verify_of words = do
  options ← options_of (codes "--key --text --signature") words
  key ← value_in options (codes "--key")
  text ← value_in options (codes "--text")
  signature ← value_in options (codes "--signature")
  Some (Verify key text signature)

abbrev pub height_named : List ℕ → Option Height
height_named text = if is_word text (codes "5") then Some H5 else if is_word text (codes "10") then Some H10 else if is_word text (codes "15") then Some H15 else None

abbrev pub width_named : List ℕ → Option OtsType
width_named text = if is_word text (codes "1") then Some W1 else if is_word text (codes "2") then Some W2 else if is_word text (codes "4") then Some W4 else if is_word text (codes "8") then Some W8 else None

-- 10 unless it is given
abbrev pub height_given : Option (List ℕ) → Option Height
height_given None = Some H10
height_given (Some text) = height_named text

-- 4 unless it is given
abbrev pub width_given : Option (List ℕ) → Option OtsType
width_given None = Some W4
width_given (Some text) = width_named text

unfoldable pub keygen_of : List (List ℕ) → Option Command
keygen_of words = do
  options ← options_of (codes "--seed --height --width --out") words
  seed ← value_in options (codes "--seed")
  height ← height_given (value_in options (codes "--height"))
  ots ← width_given (value_in options (codes "--width"))
  out ← value_in options (codes "--out")
  Some (Keygen seed height ots out)

-- a height and a width that must be given
abbrev pub height_wanted : Option (List ℕ) → Option Height
height_wanted None = None
height_wanted (Some text) = height_named text

abbrev pub width_wanted : Option (List ℕ) → Option OtsType
width_wanted None = None
width_wanted (Some text) = width_named text

-- the numbers of a call: an epoch from 1 on, a client of 32 bits, and others of 64 bits
unfoldable pub call_in : List (List ℕ) → Option CallWords
call_in options = do
  epoch ← number_given 1 18446744073709551615 (value_in options (codes "--epoch"))
  block ← number_given 0 18446744073709551615 (value_in options (codes "--block"))
  client ← number_given 0 4294967295 (value_in options (codes "--client"))
  nonce ← number_given 0 18446744073709551615 (value_in options (codes "--nonce"))
  Some (record { epoch = epoch; block = block; client = client; nonce = nonce })

unfoldable pub ask_put_of : List (List ℕ) → Option Command
ask_put_of words = do
  options ← options_of (codes "--seed --height --width --store --epoch --block --client --nonce --version --content --out") words
  seed ← value_in options (codes "--seed")
  height ← height_wanted (value_in options (codes "--height"))
  ots ← width_wanted (value_in options (codes "--width"))
  store ← value_in options (codes "--store")
  call ← call_in options
  version ← number_given 0 18446744073709551615 (value_in options (codes "--version"))
  content ← value_in options (codes "--content")
  out ← value_in options (codes "--out")
  Some (AskPut (record { seed = seed; height = height; ots = ots; store = store; call = call; version = version; content = content; out = out }))

unfoldable pub ask_get_of : List (List ℕ) → Option Command
ask_get_of words = do
  options ← options_of (codes "--store --epoch --block --client --nonce --out") words
  store ← value_in options (codes "--store")
  call ← call_in options
  out ← value_in options (codes "--out")
  Some (AskGet (record { store = store; call = call; out = out }))

unfoldable pub accept_words_of : List (List ℕ) → Option Command
accept_words_of words = do
  options ← options_of (codes "--store --request --reply --out --content") words
  store ← value_in options (codes "--store")
  request ← value_in options (codes "--request")
  reply ← value_in options (codes "--reply")
  out ← value_in options (codes "--out")
  content ← value_in options (codes "--content")
  Some (Accept (record { store = store; request = request; reply = reply; out = out; content = content }))

unfoldable pub audit_of : List (List ℕ) → Option Command
audit_of words = do
  options ← options_of (codes "--key --epoch --handins --out") words
  key ← value_in options (codes "--key")
  epoch ← number_given 1 18446744073709551615 (value_in options (codes "--epoch"))
  hand_ins ← value_in options (codes "--handins")
  out ← value_in options (codes "--out")
  Some (Audit (record { key = key; epoch = epoch; hand_ins = hand_ins; out = out }))

-- 64 unless it is given
abbrev pub pages_given : Option (List ℕ) → Option ℕ
pages_given None = Some 64
pages_given (Some text) = number_in 0 65536 text

abbrev pub by_named : List ℕ → Option By
by_named text = if is_word text (codes "core") then Some Core else if is_word text (codes "shards") then Some Shards else None

-- by shards unless it is given
abbrev pub by_given : Option (List ℕ) → Option By
by_given None = Some Shards
by_given (Some text) = by_named text

unfoldable pub replay_of : List (List ℕ) → Option Command
replay_of words = do
  options ← options_of (codes "--seed --height --width --pages --script --by") words
  seed ← value_in options (codes "--seed")
  height ← height_wanted (value_in options (codes "--height"))
  ots ← width_wanted (value_in options (codes "--width"))
  pages ← pages_given (value_in options (codes "--pages"))
  script ← value_in options (codes "--script")
  by ← by_given (value_in options (codes "--by"))
  Some (Replay (record { seed = seed; height = height; ots = ots; pages = pages; script = script; by = by }))

-- the height of a top tree, 5 unless it is given
abbrev pub top_named : List ℕ → Option Height
top_named text = if is_word text (codes "5") then Some H5 else if is_word text (codes "10") then Some H10 else None

abbrev pub top_given : Option (List ℕ) → Option Height
top_given None = Some H5
top_given (Some text) = top_named text

-- the number of the last life under a top tree of this height
abbrev pub last_life : Height → ℕ
last_life H5 = 31
last_life H10 = 1023
last_life H15 = 32767

unfoldable pub certify_of : List (List ℕ) → Option Command
certify_of words = do
  options ← options_of (codes "--seed --top --height --width --life --key --certificate --out") words
  seed ← value_in options (codes "--seed")
  top ← top_given (value_in options (codes "--top"))
  height ← height_given (value_in options (codes "--height"))
  ots ← width_given (value_in options (codes "--width"))
  life ← number_given 0 (last_life top) (value_in options (codes "--life"))
  key ← value_in options (codes "--key")
  certificate ← value_in options (codes "--certificate")
  out ← value_in options (codes "--out")
  Some (Certify (record { seed = seed; top = top; height = height; ots = ots; life = life; key = key; certificate = certificate; out = out }))

unfoldable pub judge_life_of : List (List ℕ) → Option Command
judge_life_of words = do
  options ← options_of (codes "--key --certificate --evidence") words
  key ← value_in options (codes "--key")
  certificate ← value_in options (codes "--certificate")
  evidence ← value_in options (codes "--evidence")
  Some (JudgeLife key certificate evidence)

unfoldable pub forgery_of : List (List ℕ) → Option Command
forgery_of words = do
  options ← options_of (codes "--seed --height --width --signed --text --signature") words
  seed ← value_in options (codes "--seed")
  height ← height_wanted (value_in options (codes "--height"))
  ots ← width_wanted (value_in options (codes "--width"))
  signed ← value_in options (codes "--signed")
  text ← value_in options (codes "--text")
  signature ← value_in options (codes "--signature")
  Some (Forgery (record { seed = seed; height = height; ots = ots; signed = signed; text = text; signature = signature }))

-- the command that the words spell, if they are a command's
unfoldable pub command_of : List (List ℕ) → Option Command
command_of [] = None
command_of (name ∷ words) =
    if is_word name (codes "judge") then judge_of words
    else if is_word name (codes "verify") then verify_of words
    else if is_word name (codes "keygen") then keygen_of words
    else if is_word name (codes "ask-put") then ask_put_of words
    else if is_word name (codes "ask-get") then ask_get_of words
    else if is_word name (codes "accept") then accept_words_of words
    else if is_word name (codes "audit") then audit_of words
    else if is_word name (codes "replay") then replay_of words
    else if is_word name (codes "certify") then certify_of words
    else if is_word name (codes "judge-life") then judge_life_of words
    else if is_word name (codes "forgery") then forgery_of words
    else None
