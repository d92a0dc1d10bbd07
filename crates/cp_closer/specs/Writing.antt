-- How the text of a log is written, piece by piece (this project's own).
use Rattle.std.specs.Prelude.{ℕ, ◌≡◌, List, ◌++◌, length, flat_map}
use Rattle.cp_bytes.specs.Fields.{part}
use Rattle.cp_chain.specs.Log.{LogPart, log_text, log_part_text}

-- the text of any log of this epoch with so many blocks begins so, and its blocks come next
abbrev pub IsLogStart : ℕ → ℕ → List ℕ → Type 0
IsLogStart epoch blocks start = (parts : List LogPart) → length parts ≡ blocks → log_text (record { epoch = epoch; parts = parts }) ≡ start ++ flat_map log_part_text parts

-- behind the old text this block begins so with any segment of so many texts, which come next
abbrev pub IsSegmentStart : ℕ → ℕ → List ℕ → List ℕ → Type 0
IsSegmentStart block count old start = (texts : List (List ℕ)) → length texts ≡ count → old ++ log_part_text (record { block = block; texts = texts }) ≡ start ++ flat_map part texts
