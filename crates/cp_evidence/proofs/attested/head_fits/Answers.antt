use Rattle.std.proofs.Common.{ap, sym, ◌∙◌}
use Rattle.std.specs.Prelude.{bytes_eq}
use Rattle.cp_bytes.specs.Hashes.{head}
use Rattle.cp_statements.specs.View.{attestation_view, kind_byte}
use Rattle.cp_evidence.proofs.GetText.{get_text}
use Rattle.cp_evidence.proofs.attested.head_fits.Goals as goal

-- the entry's text is the fields, with no signature behind them
pub returns : goal.returns
returns c =
    let a = attestation_view c.args.a.now in
    c.eq.ensures
    ∙ ap (bytes_eq a.head) (c.head.ensures ∙ ap (head a.prev) (c.fields_text.ensures ∙ sym (get_text a (ap kind_byte c.requires))))
