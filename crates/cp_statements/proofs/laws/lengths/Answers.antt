use Rattle.cp_statements.proofs.TextLengths.{length-put_request_text, length-get_request_text, length-close_order_text, length-close_order2_text, length-attestation_text, length-closing_text, length-get_text, length-put_text}
use Rattle.cp_statements.proofs.laws.lengths.Goals as goal

pub returns : goal.returns
returns c = record {
  put_request = length-put_request_text;
  get_request = length-get_request_text;
  close_order = length-close_order_text;
  close_order2 = length-close_order2_text;
  entry = record { get = length-get_text; put = length-put_text };
  attestation = length-attestation_text;
  closing = length-closing_text;
}
