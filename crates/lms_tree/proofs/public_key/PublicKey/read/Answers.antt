use Rattle.std.proofs.Common.{◌≡◌, length, sym, subst, arith}
use Rattle.std.specs.Prelude.{IsTrue}
use Rattle.lms_ots.specs.Parameters.{is_ots_code}
use Rattle.std.specs.Option.{SomeIff}
use Rattle.lms_tree.specs.Parameters.{is_lms_code, lms_of}
use Rattle.lms_tree.specs.PublicKey.{key_lms, key_ots}
use Rattle.lms_tree.proofs.KeyBytes.{key_read, reads_tells}
use Rattle.lms_tree.proofs.public_key.PublicKey.read.Goals as goal
use Rattle.lms_tree.proofs.public_key.PublicKey.read.Goals.{in_default-via-in-Some+in_default, in_default-via-in_default}

pub returns-then-bytes-ne56-clause-reads : goal.returns-then-bytes-ne56-clause-reads
returns-then-bytes-ne56-clause-reads c = λ is. let long = (reads_tells c.args.bytes.now is).0 in omega arith

pub returns-in-Some-Some-clause-reads : goal.returns-in-Some-Some-clause-reads
returns-in-Some-Some-clause-reads c =
    let l = c.in-Some-Some.ensures in
    let o = c.in-Some-Some.ensures' in
    key_read c.args.bytes.now _ _ _ _ _ _ (omega arith) (λ i. omega (arith, c.type_inv.bytes i))
    c.number_at-lms_code.ensures c.number_at-ots_code.ensures l.0 l.1 o.0 o.1 c.array_at.ensures c.array_at-in-Some-Some.ensures

pub returns-in_default-clause-reads : goal.returns-in_default-clause-reads
returns-in_default-clause-reads c = λ is.
    let parts : (length c.args.bytes.now ≡ 56) × IsTrue (is_lms_code (key_lms c.args.bytes.now)) × IsTrue (is_ots_code (key_ots c.args.bytes.now)) =
    reads_tells c.args.bytes.now is in
    elim c.in_default.branch [
      | in_default-via-in-Some+in_default w ↦
          absurd (w.in_default.ensures' (subst (λ n. IsTrue (is_ots_code n)) (sym c.number_at-ots_code.ensures) parts.2))
      | in_default-via-in_default w ↦
          let never : ¬ IsTrue (is_lms_code c.number_at-lms_code.result) =
          subst (λ r. SomeIff r (IsTrue (is_lms_code c.number_at-lms_code.result)) (lms_of c.number_at-lms_code.result)) w.in_default.is-0 c.from_code.ensures in
          absurd (never (subst (λ n. IsTrue (is_lms_code n)) (sym c.number_at-lms_code.ensures) parts.1))
    ]
