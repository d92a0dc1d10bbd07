-- What the writers append.
use Rattle.std.specs.Prelude.{ℕ, ◌≡◌, ◌∷◌, ◌++◌, List, codes}
use Rattle.std.specs.Int.{w64, to_be_bytes}
use Rattle.cp_bytes.specs.Fields.{part}
use Rattle.cp_statements.specs.Envelope.{Envelope, envelope_text}
use Rattle.cp_chain.specs.Rules.{Rule, number_of}
use Rattle.cp_chain.specs.Segment.{segment_text}
use Rattle.cp_evidence.specs.Evidence.{Two, Given, Evidence, evidence_text, two_text, given_text}
use Rattle.cp_evidence.specs.Evidence.Evidence.{K7, K8}

-- The bytes of the evidence stand behind those that were there.
abbrev pub Appends : List ℕ → List ℕ → Evidence → Type 0
Appends old new e = new ≡ old ++ evidence_text e

-- "CPEV", the kind, numbers, parts, and the bytes behind them
abbrev pub laid_out : ℕ → List ℕ → List ℕ → List ℕ → List ℕ
laid_out kind numbers parts segment = codes "CPEV" ++ (kind ∷ (numbers ++ (parts ++ segment)))

-- evidence of a kind that is two signed texts
abbrev pub two_bytes : ℕ → Two → List ℕ
two_bytes kind e = codes "CPEV" ++ (kind ∷ two_text e)

-- ---- what is appended where a number may be no rule, or bytes no segment

-- four numbers, the frame, the families list, and the bytes behind them
abbrev pub broken_rule_bytes : ℕ → ℕ → ℕ → ℕ → Given → List ℕ → List ℕ → List ℕ
broken_rule_bytes block rule place other given families segment = codes "CPEV" ++ (7 ∷ (to_be_bytes w64 block ++ (to_be_bytes w64 rule ++ (to_be_bytes w64 place
    ++ (to_be_bytes w64 other ++ (given_text given ++ (part families ++ segment)))))))

-- the frame, the attestation, and the bytes behind them
abbrev pub lost_bytes : Given → Envelope → List ℕ → List ℕ
lost_bytes given attestation segment = codes "CPEV" ++ (8 ∷ (given_text given ++ (envelope_text attestation ++ segment)))

-- where the number is a rule's and the bytes are a segment's, it is the evidence of that fault
abbrev pub AppendsBrokenRule : List ℕ → List ℕ → ℕ → ℕ → ℕ → ℕ → Given → List ℕ → List ℕ → Type 0
AppendsBrokenRule old new block rule place other given families segment = (named : Rule) (texts : List (List ℕ)) → number_of named ≡ rule → segment_text texts ≡ segment
    → Appends old new (K7 (record { block = block; fault = record { rule = named; place = place; other = other }; given = given; families = families; segment = texts }))

-- where the bytes are a segment's, it is the evidence of that attestation
abbrev pub AppendsLost : List ℕ → List ℕ → Given → Envelope → List ℕ → Type 0
AppendsLost old new given attestation segment = (texts : List (List ℕ)) → segment_text texts ≡ segment
    → Appends old new (K8 (record { given = given; attestation = attestation; segment = texts }))
