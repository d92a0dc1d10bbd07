-- Refusals of a desk: their statuses and texts (this project's own).
use Rattle.std.specs.Prelude.{ℕ, List, [], ◌∷◌, ◌++◌, codes, decimal}
use Rattle.cp_session.specs.declared.refusals.Refusal.{Refusal}
use Rattle.cp_session.specs.declared.refusals.Refusal.TheVariants.{Malformed, WrongStore, NotAWriter, BadSignature, ContentMismatch, NotClosed, NoVerdict, WrongEpoch, NonceUsed, Overtaken, StaleVersion, ContentTooLong, LeavesOver, ClosingsOver, PoolFull, BoxFull, OutOfMemory}

-- the status of a refusal (RFC 9110, section 15)
abbrev pub status_of : Refusal → ℕ
status_of (Malformed at) = 400
status_of WrongStore = 400
status_of (NotAWriter family client) = 400
status_of BadSignature = 400
status_of ContentMismatch = 400
status_of (NotClosed count) = 404
status_of (NoVerdict count) = 404
status_of (WrongEpoch current) = 409
status_of (NonceUsed position) = 409
status_of (Overtaken latest) = 409
status_of (StaleVersion latest) = 409
status_of (ContentTooLong size) = 413
status_of (LeavesOver drawn limit) = 503
status_of (ClosingsOver sealed limit) = 503
status_of (PoolFull free need) = 503
status_of (BoxFull held) = 503
status_of OutOfMemory = 507

-- the text of a refusal: its name, and its numbers with their fields' names
unfoldable pub text_of : Refusal → List ℕ
text_of (Malformed at) = codes "Malformed at=" ++ decimal at
text_of WrongStore = codes "WrongStore"
text_of (NotAWriter family client) = codes "NotAWriter family=" ++ decimal family ++ codes " client=" ++ decimal client
text_of BadSignature = codes "BadSignature"
text_of ContentMismatch = codes "ContentMismatch"
text_of (NotClosed count) = codes "NotClosed count=" ++ decimal count
text_of (NoVerdict count) = codes "NoVerdict count=" ++ decimal count
text_of (WrongEpoch current) = codes "WrongEpoch current=" ++ decimal current
text_of (NonceUsed position) = codes "NonceUsed position=" ++ decimal position
text_of (Overtaken latest) = codes "Overtaken latest=" ++ decimal latest
text_of (StaleVersion latest) = codes "StaleVersion latest=" ++ decimal latest
text_of (ContentTooLong size) = codes "ContentTooLong length=" ++ decimal size
text_of (LeavesOver drawn limit) = codes "LeavesOver drawn=" ++ decimal drawn ++ codes " limit=" ++ decimal limit
text_of (ClosingsOver sealed limit) = codes "ClosingsOver sealed=" ++ decimal sealed ++ codes " limit=" ++ decimal limit
text_of (PoolFull free need) = codes "PoolFull free=" ++ decimal free ++ codes " need=" ++ decimal need
text_of (BoxFull held) = codes "BoxFull held=" ++ decimal held
text_of OutOfMemory = codes "OutOfMemory"

-- the numbers that a refusal's text tells
abbrev pub numbers_of : Refusal → List ℕ
numbers_of (Malformed at) = at ∷ []
numbers_of WrongStore = []
numbers_of (NotAWriter family client) = family ∷ client ∷ []
numbers_of BadSignature = []
numbers_of ContentMismatch = []
numbers_of (NotClosed count) = count ∷ []
numbers_of (NoVerdict count) = count ∷ []
numbers_of (WrongEpoch current) = current ∷ []
numbers_of (NonceUsed position) = position ∷ []
numbers_of (Overtaken latest) = latest ∷ []
numbers_of (StaleVersion latest) = latest ∷ []
numbers_of (ContentTooLong size) = size ∷ []
numbers_of (LeavesOver drawn limit) = drawn ∷ limit ∷ []
numbers_of (ClosingsOver sealed limit) = sealed ∷ limit ∷ []
numbers_of (PoolFull free need) = free ∷ need ∷ []
numbers_of (BoxFull held) = held ∷ []
numbers_of OutOfMemory = []
