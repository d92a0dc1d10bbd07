-- What is counted of an epoch that is clean.
use Rattle.std.specs.Prelude.{Bool, ◌==◌}
use Rattle.cp_statements.specs.Envelope.{Envelope}
use Rattle.cp_evidence.specs.Conditions.{attestation_by}
use Rattle.cp_evidence.specs.Material.{GivenEpoch, store_id}
use Rattle.cp_evidence.specs.Verdict.{some_and}

-- an attestation of the epoch
abbrev pub is_of_epoch : GivenEpoch → Envelope → Bool
is_of_epoch o x = some_and (attestation_by (store_id o) x.text) (λ a. a.epoch == o.epoch)
