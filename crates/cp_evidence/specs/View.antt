-- What contracts see of the code's values.
use Rattle.std.specs.Prelude.{ℕ, List, Option, Some, None}
use Rattle.cp_statements.specs.declared.envelope.Envelope.{Envelope}
use Rattle.cp_statements.specs.View.{envelope_view, closing_view}
use Rattle.cp_chain.specs.View.{fault_view}
use Rattle.cp_evidence.specs.Evidence as spec
use Rattle.cp_evidence.specs.Material as material
use Rattle.cp_evidence.specs.declared.before.Before.{Before}
use Rattle.cp_evidence.specs.declared.before.Before.TheVariants as before
use Rattle.cp_evidence.specs.declared.before.SignedClosing.{SignedClosing}
use Rattle.cp_evidence.specs.declared.two.Two.{Two}
use Rattle.cp_evidence.specs.declared.closing_table.ClosingTable.{ClosingTable}
use Rattle.cp_evidence.specs.declared.given.Given.{Given}
use Rattle.cp_evidence.specs.declared.went_back.WentBack.{WentBack}
use Rattle.cp_evidence.specs.declared.broken_rule.BrokenRule.{BrokenRule}
use Rattle.cp_evidence.specs.declared.lost.Lost.{Lost}
use Rattle.cp_evidence.specs.declared.evidence.Evidence.{Evidence}
use Rattle.cp_evidence.specs.declared.evidence.Evidence.TheVariants.{K1, K2, K3, K4, K5, K6, K7, K8, K9, K10}

abbrev pub two_view : Two → spec.Two
two_view e = record { x = envelope_view e.x; y = envelope_view e.y }

abbrev pub closing_table_view : ClosingTable → spec.ClosingTable
closing_table_view e = record { closing = envelope_view e.closing; table = e.table.now }

abbrev pub given_view : Given → spec.Given
given_view g = record { closing = envelope_view g.closing; before = envelope_view g.before; table = g.table.now; table_before = g.table_before.now }

abbrev pub went_back_view : WentBack → spec.WentBack
went_back_view e = record { block = e.block; given = given_view e.given }

abbrev pub broken_rule_view : BrokenRule → spec.BrokenRule
broken_rule_view e = record { block = e.block; fault = fault_view e.fault; given = given_view e.given; families = e.families.now; segment = e.segment }

abbrev pub lost_view : Lost → spec.Lost
lost_view e = record { given = given_view e.given; attestation = envelope_view e.attestation; segment = e.segment }

abbrev pub evidence_view : Evidence → spec.Evidence
evidence_view (K1 e) = spec.Evidence.K1 (two_view e)
evidence_view (K2 e) = spec.Evidence.K2 (two_view e)
evidence_view (K3 e) = spec.Evidence.K3 (two_view e)
evidence_view (K4 e) = spec.Evidence.K4 (closing_table_view e)
evidence_view (K5 e) = spec.Evidence.K5 (two_view e)
evidence_view (K6 e) = spec.Evidence.K6 (went_back_view e)
evidence_view (K7 e) = spec.Evidence.K7 (broken_rule_view e)
evidence_view (K8 e) = spec.Evidence.K8 (lost_view e)
evidence_view (K9 x) = spec.Evidence.K9 (envelope_view x)
evidence_view (K10 x) = spec.Evidence.K10 (envelope_view x)

-- ---- of the closings

abbrev pub signed_closing_view : SignedClosing → material.SignedClosing
signed_closing_view c = record { envelope = envelope_view c.envelope; closing = closing_view c.closing }

abbrev pub before_view : Before → Option material.SignedClosing
before_view before.Nothing = None
before_view (before.Closing c) = Some (signed_closing_view c)

-- ---- of what a writer is given

abbrev pub two_by : Envelope → Envelope → spec.Two
two_by x y = record { x = envelope_view x; y = envelope_view y }

abbrev pub table_by : Envelope → List ℕ → spec.ClosingTable
table_by x t = record { closing = envelope_view x; table = t }

abbrev pub given_by : Envelope → Envelope → List ℕ → List ℕ → spec.Given
given_by x y t s = record { closing = envelope_view x; before = envelope_view y; table = t; table_before = s }
