use Rattle.std.proofs.Common.{sym, ap, ◌∙◌, subst, arith}
use Rattle.std.specs.Prelude.{IsTrue, ◌++◌}
use Rattle.std.specs.Int.{w32, to_be_bytes}
use Rattle.lms_tree.specs.PublicKey.{key_reads}
use Rattle.lms_hss.proofs.Parts.{hss_reads_tells, hss_reads_told, read_spelled}
use Rattle.lms_hss.proofs.public.HssPublic.read.Goals as goal

pub returns-then-bytes-ne60-clause-reads : goal.returns-then-bytes-ne60-clause-reads
returns-then-bytes-ne60-clause-reads c = λ is. let long = (hss_reads_tells c.args.bytes.now is).0 in omega arith

pub returns-then-levels-ne2-clause-reads : goal.returns-then-levels-ne2-clause-reads
returns-then-levels-ne2-clause-reads c = λ is. let levels = (hss_reads_tells c.args.bytes.now is).1 in omega arith

pub returns-in-Ok-clause-reads : goal.returns-in-Ok-clause-reads
returns-in-Ok-clause-reads c =
    let r = c.in-Ok.ensures.reads in
    let back = c.split_at.ensures.back in (
      hss_reads_told c.args.bytes.now (omega arith) (omega arith) (subst (λ k. IsTrue (key_reads k)) back r.0),
      ap (λ top. to_be_bytes w32 2 ++ top) (r.1 ∙ back) ∙ read_spelled c.args.bytes.now (omega arith) (λ i. omega (arith, c.type_inv.bytes i)) (omega arith),
    )

pub returns-in-Err-Code-clause-reads : goal.returns-in-Err-Code-clause-reads
returns-in-Err-Code-clause-reads c = λ is.
    c.in-Err-Code.ensures.reads (subst (λ k. IsTrue (key_reads k)) (sym c.split_at.ensures.back) (hss_reads_tells c.args.bytes.now is).2)
