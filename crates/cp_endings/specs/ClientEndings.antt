-- How the client's commands end: their statuses and printed texts (this project's own).
use Rattle.std.specs.Prelude.{ℕ, List, ◌++◌, codes, decimal, ◌==◌, if◌then◌else◌}
use Rattle.cp_statements.specs.Attestation.{Attestation}
use Rattle.cp_client.specs.declared.field.Field.{Field}
use Rattle.cp_client.specs.declared.field.Field.TheVariants.{Store, Kind, Epoch, Block, Client, Nonce, Version, Hash}
use Rattle.cp_client.specs.declared.refusals.ClientRefusal.{ClientRefusal}
use Rattle.cp_client.specs.declared.refusals.ClientRefusal.TheVariants.{Malformed, BadSignature, OtherCall, ContentMismatch, BadHead}
use Rattle.cp_endings.specs.Endings.{Outcome, line}

-- the put body was written, signed by this leaf
abbrev pub asked_put : ℕ → Outcome
asked_put leaf = record { status = 0; text = line (codes "asked leaf=" ++ decimal leaf) }

-- the get request was written
abbrev pub asked_get : Outcome
asked_get = record { status = 0; text = line (codes "asked") }

abbrev pub accepted_label : ℕ → List ℕ
accepted_label kind = if kind == 1 then codes "accepted put position=" else codes "accepted get position="

-- the answer of a put or a get was accepted
abbrev pub accepted : Attestation → Outcome
accepted a = record { status = 0; text = line (accepted_label a.kind ++ (decimal a.position ++ codes " version=" ++ decimal a.version)) }

abbrev pub field_name : Field → List ℕ
field_name Store = codes "store"
field_name Kind = codes "kind"
field_name Epoch = codes "epoch"
field_name Block = codes "block"
field_name Client = codes "client"
field_name Nonce = codes "nonce"
field_name Version = codes "version"
field_name Hash = codes "hash"

-- the request or the answer was refused
abbrev pub refused : ClientRefusal → Outcome
refused (Malformed at) = record { status = 3; text = line (codes "malformed " ++ decimal at) }
refused BadSignature = record { status = 3; text = line (codes "bad signature") }
refused (OtherCall field) = record { status = 3; text = line (codes "other call " ++ field_name field) }
refused ContentMismatch = record { status = 3; text = line (codes "content mismatch") }
refused BadHead = record { status = 3; text = line (codes "bad head") }

-- no leaf is left
abbrev pub over : ℕ → ℕ → Outcome
over reserved leaves = record { status = 3; text = line (codes "over reserved=" ++ (decimal reserved ++ codes " leaves=" ++ decimal leaves)) }

-- the vault is another key's
abbrev pub other_key : Outcome
other_key = record { status = 3; text = line (codes "other key") }

-- more leaves are reserved than the key has
abbrev pub damaged : ℕ → ℕ → Outcome
damaged reserved leaves = record { status = 3; text = line (codes "damaged reserved=" ++ (decimal reserved ++ codes " leaves=" ++ decimal leaves)) }
