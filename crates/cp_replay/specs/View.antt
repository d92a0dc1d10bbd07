-- What contracts see of the code's values.
use Rattle.std.specs.Prelude.{ℕ, ◌≡◌, List, [], Option, Some, None, Err}
use Rattle.cp_replay.specs.Words.{words_in}
use Rattle.cp_replay.specs.Script.{script_of}
use Rattle.cp_replay.specs.Replay.{ReplayFiles}
use Rattle.cp_replay.specs.declared.replayed.Replayed.{Replayed}
use Rattle.cp_replay.specs.declared.script_refusal.ScriptRefusal.{ScriptRefusal}
use Rattle.cp_replay.specs.declared.script_refusal.ScriptRefusal.TheVariants.{Malformed, OutOfMemory}

-- the words of what is left of a line, if something is
abbrev pub words_left : Option (List ℕ) → List (List ℕ)
words_left None = []
words_left (Some text) = words_in text

-- the bytes are refused as a script for that, or memory was wanted
abbrev pub IsWhyRefused : List ℕ → ScriptRefusal → Type 0
IsWhyRefused bytes (Malformed at) = script_of bytes ≡ Err at
IsWhyRefused bytes OutOfMemory = Unit {0}

-- what a replay printed, and its files
abbrev pub replayed_view : Replayed → ReplayFiles
replayed_view x = record { key = x.key; text = x.text; handins = x.handins; epochs = x.epochs.items }
