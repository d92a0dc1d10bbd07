use Rattle.std.proofs.Common.{sym, ◌∙◌}
use Rattle.cp_tips.proofs.Exact.{table_again, table_takes, length-table_text}
use Rattle.cp_tips.proofs.laws.tables_are_exact.Goals as goal

pub returns : goal.returns
returns c = record {
  exact = record {
    spelled_is_read = table_again;
    read_is_spelled = table_takes;
    one_spelling = λ a b x a_bytes b_bytes p q. (table_takes a x a_bytes p).0 ∙ sym (table_takes b x b_bytes q).0;
  };
  length = length-table_text;
}
