use Rattle.std.proofs.Common.{◌≡◌, ◌∙◌, ◌+◌, ℕ, List, ap, refl, arith}
use Rattle.lms_ots.specs.Parameters.{max_digit, width_of}
use Rattle.lms_ots.specs.Ots.{chain}
use Rattle.lms_ots.specs.Signing.{secret_start}
use Rattle.lms_ots.proofs.SideBySide.{end-more}
use Rattle.lms_ots.proofs.lanes.keys.put_texts.Goals as goal

pub chains-preserved : goal.chains-preserved
chains-preserved c =
    let q = c.args.q in
    let same : q + 0 ≡ q = omega arith in
    let held = c.chains.invariant in
    let end = c.ends_of_four-ends.ensures in
    let key : ℕ → List ℕ = λ k. chain c.args.id.now k c.chains.i 0 (max_digit (width_of c.args.t)) (secret_start c.args.id.now k c.chains.i c.args.secret.now) in
    record {
      first = end-more _ q _ _ _ _ _ _ _ refl held.first c.put-in-chains.ensures.written (end 0 (omega arith) ∙ ap key same);
      second = end-more _ (q + 1) _ _ _ _ _ _ _ refl held.second c.put-in-chains-2.ensures.written (end 1 (omega arith));
      third = end-more _ (q + 2) _ _ _ _ _ _ _ refl held.third c.put-in-chains-3.ensures.written (end 2 (omega arith));
      fourth = end-more _ (q + 3) _ _ _ _ _ _ _ refl held.fourth c.put-in-chains-4.ensures.written (end 3 (omega arith));
    }
