-- The printed line of each answer, without its end (this project's own).
use Rattle.std.specs.Prelude.{ℕ, List, [], ◌++◌, Result, Ok, Err, codes, decimal}
use Rattle.cp_statements.specs.Attestation.{Attestation, attestation_of}
use Rattle.cp_statements.specs.Closing.{Closing}
use Rattle.cp_statements.specs.declared.kind.Kind.{Kind}
use Rattle.cp_statements.specs.declared.kind.Kind.TheVariants as kind
use Rattle.cp_core.specs.Booking.{Booking}
use Rattle.cp_core.specs.declared.answer.Answer.{Answer}
use Rattle.cp_core.specs.declared.answer.Answer.TheVariants.{Booked, CallRefused, CloseRefused, Done, Text, NotClosed, NotNow}
use Rattle.cp_core.specs.declared.call_refusal.CallRefusal.{CallRefusal}
use Rattle.cp_core.specs.declared.call_refusal.CallRefusal.TheVariants as call
use Rattle.cp_core.specs.declared.close_refusal.CloseRefusal.{CloseRefusal}
use Rattle.cp_core.specs.declared.close_refusal.CloseRefusal.TheVariants as close

-- a label, and a number in decimal digits
abbrev pub labelled : List ℕ → ℕ → List ℕ
labelled label n = label ++ decimal n

-- a refusal is its name and its numbers, each with its name
unfoldable pub call_refused : CallRefusal → List ℕ
call_refused (call.WrongEpoch current) = labelled (codes "WrongEpoch current=") current
call_refused (call.NotAWriter family client) = labelled (codes "NotAWriter family=") family ++ labelled (codes " client=") client
call_refused call.BadSignature = codes "BadSignature"
call_refused (call.NonceUsed position) = labelled (codes "NonceUsed position=") position
call_refused (call.Overtaken latest) = labelled (codes "Overtaken latest=") latest
call_refused (call.StaleVersion latest) = labelled (codes "StaleVersion latest=") latest
call_refused call.OutOfMemory = codes "OutOfMemory"
call_refused (call.PoolFull free need) = labelled (codes "PoolFull free=") free ++ labelled (codes " need=") need
call_refused (call.LeavesOver over) = labelled (codes "LeavesOver drawn=") over.drawn ++ labelled (codes " limit=") over.limit

unfoldable pub close_refused : CloseRefusal → List ℕ
close_refused (close.WrongEpoch current) = labelled (codes "WrongEpoch current=") current
close_refused close.OtherList = codes "OtherList"
close_refused (close.ClosingsOver sealed limit) = labelled (codes "ClosingsOver sealed=") sealed ++ labelled (codes " limit=") limit

-- position and version as they are attested, and the leaf, behind a label; nothing for a text that
-- isn't an attestation's
unfoldable pub place_of : List ℕ → ℕ → Result Attestation ℕ → List ℕ
place_of label leaf (Err left) = []
place_of label leaf (Ok a) = labelled label a.position ++ (labelled (codes " version=") a.version ++ labelled (codes " leaf=") leaf)

abbrev pub put_line : Booking → List ℕ
put_line b = place_of (codes "put position=") b.leaf (attestation_of b.text)

abbrev pub get_line : Booking → List ℕ
get_line b = place_of (codes "get position=") b.leaf (attestation_of b.text) ++ (codes " content=" ++ b.content)

-- what is booked of a call
unfoldable pub booked_line : Kind → Booking → List ℕ
booked_line kind.Put b = put_line b
booked_line kind.Get b = get_line b

-- the line of an answer to a call; the other answers are none to a call
unfoldable pub call_line : Kind → Answer → List ℕ
call_line asked (Booked b) = booked_line asked b
call_line asked (CallRefused why) = call_refused why
call_line asked (CloseRefused why) = []
call_line asked Done = []
call_line asked (Text epoch) = []
call_line asked (NotClosed count) = []
call_line asked (NotNow phase) = []

-- the line of a closing, with its own numbers; nothing for a text that isn't a closing's
unfoldable pub closed_line : Result Closing ℕ → List ℕ
closed_line (Err left) = []
closed_line (Ok c) = labelled (codes "closed epoch=") c.epoch ++ (labelled (codes " rows=") c.rows ++ labelled (codes " entries=") c.entries)

abbrev pub at_line : ℕ → List ℕ
at_line epoch = labelled (codes "at ") epoch
