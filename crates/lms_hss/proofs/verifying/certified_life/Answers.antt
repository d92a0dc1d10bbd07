use Rattle.std.proofs.Common.{◌≡◌, ◌∙◌, take, drop, sym, ap, false, true, arith, rules}
use Rattle.std.specs.Int.{w32, to_be_bytes}
use Rattle.lms_tree.specs.Verifying.{verifies}
use Rattle.lms_hss.specs.Hss.{top_key}
use Rattle.lms_hss.proofs.Parts.{same_bytes, told_bytes}
use Rattle.lms_hss.proofs.Testing.{certifies_tells, Cut, cut_life, cut_told, cut_reads, cut_signed}
use Rattle.lms_hss.proofs.verifying.certified_life.Goals as goal

pub returns-then-certificate-n : goal.returns-then-certificate-n
returns-then-certificate-n c = λ is. let long = (certifies_tells c.args.key.now c.args.certificate.now is).long in omega arith

pub returns-then-not-is_one : goal.returns-then-not-is_one
returns-then-not-is_one c = λ is.
    let levels = (certifies_tells c.args.key.now c.args.certificate.now is).levels in
    let same : c.split_at.result.0.now ≡ c.as_slice.result.now = c.split_at.ensures.front ∙ levels ∙ sym (c.as_slice.ensures ∙ c.to_be_bytes.ensures) in
    let yes : c.eq-is_one.result ≡ true = c.eq-is_one.ensures ∙ told_bytes _ _ same in
    cc

pub returns-then-verify : goal.returns-then-verify
returns-then-verify c =
    let cut : Cut c.args.key.now c.args.certificate.now c.split_at-2.result.0.now c.split_at-2.result.1.now c.top_len-n.result = record {
      reads = c.top_len-n.ensures.reads;
      n_is = c.top_len-n.ensures.value;
      long = omega arith;
      sig_is = c.split_at-2.ensures.front ∙ ap (take c.top_len-n.result) c.split_at.ensures.back;
      life_is = c.split_at-2.ensures.back ∙ ap (drop c.top_len-n.result) c.split_at.ensures.back;
    } in
    let answer : c.verify.result ≡ verifies (top_key c.args.key.now) c.split_at-2.result.1.now c.split_at-2.result.0.now =
    c.verify.ensures ∙ ap (λ k. verifies k c.split_at-2.result.1.now c.split_at-2.result.0.now) c.top.ensures in
    let same : c.split_at.result.0.now ≡ c.as_slice.result.now = same_bytes _ _ (sym c.eq-is_one.ensures ∙ search rules) in
    let levels : take 4 c.args.certificate.now ≡ to_be_bytes w32 1 = sym c.split_at.ensures.front ∙ same ∙ c.as_slice.ensures ∙ c.to_be_bytes.ensures in (
      cut_told _ _ _ _ _ cut levels c.in-Ok.ensures.reads.0 (sym answer ∙ search rules),
      c.in-Ok.ensures.reads.1 ∙ cut_life _ _ _ _ _ cut,
    )

pub returns-else-verify : goal.returns-else-verify
returns-else-verify c = λ is.
    let cut : Cut c.args.key.now c.args.certificate.now c.split_at-2.result.0.now c.split_at-2.result.1.now c.top_len-n.result = record {
      reads = c.top_len-n.ensures.reads;
      n_is = c.top_len-n.ensures.value;
      long = omega arith;
      sig_is = c.split_at-2.ensures.front ∙ ap (take c.top_len-n.result) c.split_at.ensures.back;
      life_is = c.split_at-2.ensures.back ∙ ap (drop c.top_len-n.result) c.split_at.ensures.back;
    } in
    let answer : c.verify.result ≡ verifies (top_key c.args.key.now) c.split_at-2.result.1.now c.split_at-2.result.0.now =
    c.verify.ensures ∙ ap (λ k. verifies k c.split_at-2.result.1.now c.split_at-2.result.0.now) c.top.ensures in
    let yes : c.verify.result ≡ true = answer ∙ cut_signed _ _ _ _ _ cut is in
    let no : c.verify.result ≡ false = search rules in
    let never : true ≡ false = sym yes ∙ no in
    cc

pub returns-in-Err : goal.returns-in-Err
returns-in-Err c = λ is.
    let cut : Cut c.args.key.now c.args.certificate.now c.split_at-2.result.0.now c.split_at-2.result.1.now c.top_len-n.result = record {
      reads = c.top_len-n.ensures.reads;
      n_is = c.top_len-n.ensures.value;
      long = omega arith;
      sig_is = c.split_at-2.ensures.front ∙ ap (take c.top_len-n.result) c.split_at.ensures.back;
      life_is = c.split_at-2.ensures.back ∙ ap (drop c.top_len-n.result) c.split_at.ensures.back;
    } in
    c.in-Err.ensures.reads (cut_reads _ _ _ _ _ cut is)
