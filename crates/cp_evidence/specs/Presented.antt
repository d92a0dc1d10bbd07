-- The envelopes of evidence, and the texts that its conditions hash (this project's own).
use Rattle.std.specs.Prelude.{ℕ, List, [], ◌∷◌, ◌++◌, Option, Some, None, Result, Ok, Err}
use Rattle.std.specs.Result.{result_ok}
use Rattle.cp_bytes.specs.Hashes.{chain_text, chain_texts}
use Rattle.cp_statements.specs.Envelope.{Envelope}
use Rattle.cp_statements.specs.Attestation.{Attestation, attestation_of}
use Rattle.cp_statements.specs.Entry.{entry_text}
use Rattle.cp_tips.specs.Table.{row}
use Rattle.cp_evidence.specs.Evidence.{Two, Given, Evidence}
use Rattle.cp_evidence.specs.Evidence.Evidence.{K1, K2, K3, K4, K5, K6, K7, K8, K9, K10}
use Rattle.cp_evidence.specs.Conditions.{entry_for, Framed, framed}

abbrev pub both : Two → List Envelope
both e = e.x ∷ e.y ∷ []

abbrev pub closings_of : Given → List Envelope
closings_of g = g.closing ∷ g.before ∷ []

-- the envelopes of the evidence
abbrev pub envelopes : Evidence → List Envelope
envelopes (K1 e) = both e
envelopes (K2 e) = both e
envelopes (K3 e) = both e
envelopes (K4 e) = e.closing ∷ []
envelopes (K5 e) = both e
envelopes (K6 e) = closings_of e.given
envelopes (K7 e) = closings_of e.given
envelopes (K8 e) = closings_of e.given ++ e.attestation ∷ []
envelopes (K9 x) = x ∷ []
envelopes (K10 x) = x ∷ []

-- the tables and the text of the closing before
abbrev pub given_texts : Given → List (List ℕ)
given_texts g = g.table ∷ g.table_before ∷ g.before.text ∷ []

-- The head before a block's segment: that of its row in the table before, or of a fresh chain; none
-- where the frame's conditions do not hold.
abbrev pub opening_head : Result Framed ℕ → ℕ → List ℕ
opening_head (Ok w) block = (row w.rows_before block).head
opening_head (Err n) block = []

abbrev pub block_in : Option Attestation → ℕ
block_in (Some a) = a.block
block_in None = 0

-- the chain's text of an attestation's entry
abbrev pub own_chain_text : Option Attestation → List (List ℕ)
own_chain_text (Some a) = chain_text a.prev (entry_text (entry_for a)) ∷ []
own_chain_text None = []

-- The texts of the evidence that its conditions hash: tables, families, the text of the closing
-- before, the chain's texts of the segment, and that of a get attestation.
unfoldable pub presented : List ℕ → Evidence → List (List ℕ)
presented key (K1 e) = []
presented key (K2 e) = []
presented key (K3 e) = []
presented key (K4 e) = e.table ∷ []
presented key (K5 e) = e.y.text ∷ []
presented key (K6 e) = given_texts e.given
presented key (K7 e) = e.families ∷ (given_texts e.given ++ chain_texts (opening_head (framed key e.given) e.block) e.segment)
presented key (K8 e) = given_texts e.given ++ chain_texts (opening_head (framed key e.given) (block_in (result_ok (attestation_of e.attestation.text)))) e.segment
presented key (K9 x) = own_chain_text (result_ok (attestation_of x.text))
presented key (K10 x) = []
