use Rattle.std.proofs.Common.{sym, ◌∙◌}
use Rattle.cp_client.proofs.Exact.{asked_again, asked_takes}
use Rattle.cp_client.proofs.laws.asked_is_exact.Goals as goal

pub returns : goal.returns
returns c = record {
  spelled_is_read = asked_again;
  read_is_spelled = asked_takes;
  one_spelling = λ a b x a_bytes b_bytes p q. (asked_takes a x a_bytes p).0 ∙ sym (asked_takes b x b_bytes q).0;
}
