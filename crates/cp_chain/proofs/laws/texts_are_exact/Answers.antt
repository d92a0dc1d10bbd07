use Rattle.std.proofs.Common.{◌≡◌, ℕ, List, Result, Ok, sym, ◌∙◌}
use Rattle.cp_bytes.specs.Fields.{IsBytes}
use Rattle.cp_statements.specs.Laws.{IsExact}
use Rattle.cp_chain.proofs.Readings.{segment_again, segment_takes, log_again, log_takes}
use Rattle.cp_chain.proofs.laws.texts_are_exact.Goals as goal

-- both directions together give one spelling
exact : {A : Type 0} (read : List ℕ → Result A ℕ) (text : A → List ℕ) (Fits : A → Type 0)
    → ((x : A) → Fits x → read (text x) ≡ Ok x)
    → ((bytes : List ℕ) (x : A) → IsBytes bytes → read bytes ≡ Ok x → (bytes ≡ text x) × Fits x)
    → IsExact read text Fits
exact read text Fits again takes = record {
  spelled_is_read = again;
  read_is_spelled = takes;
  one_spelling = λ a b x a_bytes b_bytes p q. (takes a x a_bytes p).0 ∙ sym (takes b x b_bytes q).0;
}

pub returns : goal.returns
returns c = record {
  segment = exact _ _ _ segment_again segment_takes;
  log = exact _ _ _ log_again log_takes;
}
