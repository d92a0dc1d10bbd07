use Rattle.std.proofs.Common.{◌≡◌, ℕ, List, Result, Ok, sym, ◌∙◌}
use Rattle.cp_bytes.specs.Fields.{IsBytes}
use Rattle.cp_statements.specs.Laws.{IsExact}
use Rattle.cp_statements.proofs.FixedTexts.{put_request_again, put_request_takes, get_request_again, get_request_takes, close_order_again, close_order_takes, close_order2_again, close_order2_takes, attestation_again, attestation_takes, closing_again, closing_takes}
use Rattle.cp_statements.proofs.Entries.{entry_again, entry_takes, envelope_again, envelope_takes}
use Rattle.cp_statements.proofs.laws.texts_are_exact.Goals as goal

-- both directions together give one spelling
exact : {A : Type 0} (read : List ℕ → Result A ℕ) (text : A → List ℕ) (Fits : A → Type 0)
    → ((x : A) → Fits x → read (text x) ≡ Ok x)
    → ((bytes : List ℕ) (x : A) → IsBytes bytes → read bytes ≡ Ok x → (bytes ≡ text x) × Fits x)
    → IsExact read text Fits
exact read text Fits again takes = record {
  spelled_is_read = again;
  read_is_spelled = takes;
  one_spelling = λ a b x a_bytes b_bytes p q. (takes a x a_bytes p).0 ∙ sym (takes b x b_bytes q).0;
}

pub returns : goal.returns
returns c = record {
  put_request = exact _ _ _ put_request_again put_request_takes;
  get_request = exact _ _ _ get_request_again get_request_takes;
  close_order = exact _ _ _ close_order_again close_order_takes;
  close_order2 = exact _ _ _ close_order2_again close_order2_takes;
  entry = exact _ _ _ entry_again entry_takes;
  attestation = exact _ _ _ attestation_again attestation_takes;
  closing = exact _ _ _ closing_again closing_takes;
  envelope = exact _ _ _ envelope_again envelope_takes;
}
