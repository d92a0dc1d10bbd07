-- The whole answer of the audit, a function of the bytes that it is given (this project's own).
use Rattle.std.specs.Prelude.{ℕ, List, Result, Ok, Err}
use Rattle.cp_statements.specs.Envelope.{Envelope}
use Rattle.cp_evidence.specs.HandIns.{hand_ins_of}
use Rattle.cp_evidence.specs.Material.{Material, What, GivenEpoch, given_of}
use Rattle.cp_evidence.specs.Verdict.{Verdict, verdict}

-- why there is no verdict
pub data Refused : Type 0 where
  NotGiven : What → Refused  -- the first part of the material that is missing
  Malformed : ℕ → Refused  -- the hand-ins do not read: the offset of the first byte that does not fit

abbrev pub verdict_on : GivenEpoch → Result (List Envelope) ℕ → Result Verdict Refused
verdict_on o (Ok hand_ins) = Ok (verdict o hand_ins)
verdict_on o (Err at) = Err (Malformed at)

abbrev pub audited_given : Result GivenEpoch What → Result (List Envelope) ℕ → Result Verdict Refused
audited_given (Ok o) hand_ins = verdict_on o hand_ins
audited_given (Err what) hand_ins = Err (NotGiven what)

-- The first part that is missing of the material, else the place of the first fault in the hand-ins,
-- else the verdict.
unfoldable pub audited : Material → List ℕ → Result Verdict Refused
audited m hand_ins = audited_given (given_of m) (hand_ins_of hand_ins)
