-- How `audit` ends: its status and its printed text (this project's own).
use Rattle.std.specs.Prelude.{ℕ, List, ◌++◌, codes, decimal}
use Rattle.cp_chain.specs.Rules.{number_of}
use Rattle.cp_evidence.specs.Evidence.{Evidence}
use Rattle.cp_evidence.specs.Evidence.Evidence.{K1, K2, K3, K4, K5, K6, K7, K8, K9, K10}
use Rattle.cp_evidence.specs.Material.{What}
use Rattle.cp_evidence.specs.Material.What.{FamiliesList, ClosingBefore, ClosingItself, TableBefore, TableItself, LogText, LogOf}
use Rattle.cp_endings.specs.Endings.{Outcome, line}
use Rattle.cp_endings.specs.declared.guilt.Guilt.{Guilt}
use Rattle.cp_endings.specs.declared.guilt.Guilt.TheVariants.{OfKind, WentBack, BrokeRule}

abbrev pub clean : ℕ → ℕ → ℕ → Outcome
clean entries handed aside = record { status = 0; text = line (codes "clean entries=" ++ (decimal entries ++ (codes " handed=" ++ (decimal handed ++ (codes " aside=" ++ decimal aside))))) }

-- what the printed line names of the evidence
abbrev pub guilt_of : Evidence → Guilt
guilt_of (K1 e) = OfKind 1
guilt_of (K2 e) = OfKind 2
guilt_of (K3 e) = OfKind 3
guilt_of (K4 e) = OfKind 4
guilt_of (K5 e) = OfKind 5
guilt_of (K6 e) = WentBack e.block
guilt_of (K7 e) = BrokeRule e.block (number_of e.fault.rule) e.fault.place e.fault.other
guilt_of (K8 e) = OfKind 8
guilt_of (K9 e) = OfKind 9
guilt_of (K10 e) = OfKind 10

abbrev pub guilty_text : Guilt → List ℕ
guilty_text (OfKind kind) = codes "guilty K" ++ decimal kind
guilty_text (WentBack block) = codes "guilty K6 block=" ++ decimal block
guilty_text (BrokeRule block rule place other) = codes "guilty K7 block=" ++ (decimal block ++ (codes " rule=" ++ (decimal rule ++ (codes " place=" ++ (decimal place ++ (codes " other=" ++ decimal other))))))

-- a number behind its label
abbrev pub labelled : List ℕ → ℕ → List ℕ
labelled label number = label ++ decimal number

-- a rule of a block that is broken, and then its places
abbrev pub broken_text : ℕ → ℕ → List ℕ
broken_text block rule = (codes "guilty K7 block=" ++ decimal block) ++ (codes " rule=" ++ decimal rule)

abbrev pub places_text : ℕ → ℕ → List ℕ
places_text place other = (codes " place=" ++ decimal place) ++ (codes " other=" ++ decimal other ++ codes "\n")

abbrev pub guilty : Guilt → Outcome
guilty g = record { status = 1; text = line (guilty_text g) }

abbrev pub not_given_text : What → List ℕ
not_given_text FamiliesList = codes "not given families"
not_given_text ClosingBefore = codes "not given closing before"
not_given_text ClosingItself = codes "not given closing"
not_given_text TableBefore = codes "not given table before"
not_given_text TableItself = codes "not given table"
not_given_text LogText = codes "not given log text"
not_given_text (LogOf block) = codes "not given log " ++ decimal block

abbrev pub not_given : What → Outcome
not_given what = record { status = 3; text = line (not_given_text what) }

-- the hand-ins do not read
abbrev pub malformed : ℕ → Outcome
malformed at = record { status = 3; text = line (codes "malformed " ++ decimal at) }
