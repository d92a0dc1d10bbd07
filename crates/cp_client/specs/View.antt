-- What contracts see of the code's values.
use Rattle.std.specs.Prelude.{◌≡◌, ◌<◌, ◌≤◌, Result, Ok, Err}
use Rattle.key_vault.specs.Ranges.{Range}
use Rattle.cp_statements.specs.View.{get_request_view, put_request_view, attestation_view, envelope_view}
use Rattle.cp_client.specs.Asking as asking
use Rattle.cp_client.specs.Asking.Asked.{Get as SpecGet, Put as SpecPut}
use Rattle.cp_client.specs.Accepting as accepting
use Rattle.cp_client.specs.declared.asked.Asked.{Asked}
use Rattle.cp_client.specs.declared.asked.Asked.TheVariants.{Get, Put}
use Rattle.cp_client.specs.declared.asked.AskedPut.{AskedPut}
use Rattle.cp_client.specs.declared.accepted.Accepted.{Accepted}
use Rattle.cp_client.specs.declared.refusals.ClientRefusal.{ClientRefusal}
use Rattle.cp_client.specs.declared.refusals.AskRefusal.{AskRefusal}
use Rattle.cp_client.specs.declared.refusals.AskRefusal.TheVariants.{NoLeaf, OutOfMemory}

abbrev pub put_view : AskedPut → asking.PutBody
put_view p = record { request = put_request_view p.request; signature = p.signature.now; content = p.content.now }

abbrev pub asked_view : Asked → asking.Asked
asked_view (Get r) = SpecGet (get_request_view r)
asked_view (Put p) = SpecPut (put_view p)

abbrev pub accepted_view : Accepted → accepting.Accepted
accepted_view x = record { attestation = attestation_view x.attestation; envelope = envelope_view x.envelope; content = x.content.now }

-- the answer is what the definition says
abbrev pub Answers : Result Accepted ClientRefusal → Result accepting.Accepted ClientRefusal → Type 0
Answers (Ok x) answer = answer ≡ Ok (accepted_view x)
Answers (Err e) answer = answer ≡ Err e

-- No leaf is left exactly where the range is empty.
abbrev pub IsWhy : AskRefusal → Range → Type 0
IsWhy NoLeaf range = range.to ≤ range.from
IsWhy OutOfMemory range = range.from < range.to
