-- What contracts see of how the client's commands end.
use Rattle.std.specs.Prelude.{ℕ, List}
use Rattle.cp_statements.specs.View.{attestation_view}
use Rattle.cp_statements.specs.declared.attestation.Attestation.{Attestation}
use Rattle.cp_endings.specs.ClientEndings as endings
use Rattle.cp_endings.specs.Endings.{Outcome, line_of}
use Rattle.cp_endings.specs.declared.client_ending.ClientEnding.{ClientEnding}
use Rattle.cp_endings.specs.declared.client_ending.ClientEnding.TheVariants.{AskedPut, AskedGet, Accepted, Refused, Over, OtherKey, Damaged}

abbrev pub client_ending_view : ClientEnding → Outcome
client_ending_view (AskedPut leaf) = endings.asked_put leaf
client_ending_view AskedGet = endings.asked_get
client_ending_view (Accepted attestation) = endings.accepted (attestation_view attestation)
client_ending_view (Refused refusal) = endings.refused refusal
client_ending_view (Over reserved leaves) = endings.over reserved leaves
client_ending_view OtherKey = endings.other_key
client_ending_view (Damaged reserved leaves) = endings.damaged reserved leaves

-- the line of an answer that was accepted
abbrev pub accepted_line : Attestation → List ℕ
accepted_line attestation = line_of (endings.accepted (attestation_view attestation))
