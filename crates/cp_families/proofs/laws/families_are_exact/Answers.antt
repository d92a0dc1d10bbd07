use Rattle.std.proofs.Common.{sym, ◌∙◌}
use Rattle.cp_families.proofs.Exact.{families_again, families_take, length-families_text}
use Rattle.cp_families.proofs.laws.families_are_exact.Goals as goal

pub returns : goal.returns
returns c = record {
  exact = record {
    spelled_is_read = families_again;
    read_is_spelled = families_take;
    one_spelling = λ a b x a_bytes b_bytes p q. (families_take a x a_bytes p).0 ∙ sym (families_take b x b_bytes q).0;
  };
  length = length-families_text;
}
