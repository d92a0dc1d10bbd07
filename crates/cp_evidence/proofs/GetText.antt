-- The entry that a get attestation is of has no signature behind its fields.
use Rattle.std.proofs.Common.{◌≡◌, [], ◌++◌, ap, ◌∙◌}
use Rattle.std.proofs.lemmas.List.{append-nil}
use Rattle.cp_statements.specs.Attestation.{Attestation}
use Rattle.cp_statements.specs.Entry.{entry_tag, entry_fields, entry_values, signature_text, entry_text}
use Rattle.cp_statements.specs.Tagged.{tagged_text}
use Rattle.cp_evidence.specs.Conditions.{entry_for}

pub get_text : (a : Attestation) → a.kind ≡ 2 → entry_text (entry_for a) ≡ tagged_text entry_tag entry_fields (entry_values (entry_for a))
unfolding entry_text
get_text a get = ap (λ k. tagged_text entry_tag entry_fields (entry_values (entry_for a)) ++ signature_text k []) get ∙ append-nil _
