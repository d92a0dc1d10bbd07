use Rattle.cp_families.proofs.Refusing.{malformed_exactly, wrong_store_exactly, not_a_writer_exactly, bad_signature_exactly, let_in_exactly}
use Rattle.cp_families.proofs.laws.put_is_checked.Goals as goal

pub returns : goal.returns
returns c = record {
  malformed = malformed_exactly;
  wrong_store = wrong_store_exactly;
  not_a_writer = not_a_writer_exactly;
  bad_signature = bad_signature_exactly;
  let_in = let_in_exactly;
}
