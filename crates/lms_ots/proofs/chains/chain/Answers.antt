use Rattle.std.proofs.Common.{◌≡◌, ◌∙◌, ◌++◌, ◌∷◌, take, length, ap, arith, rules}
use Rattle.std.proofs.lemmas.List.{take_at, places}
use Rattle.lms_ots.specs.Ots.{tagged}
use Rattle.lms_ots.proofs.StepLemmas.{steps-more}
use Rattle.lms_ots.proofs.chains.chain.Goals as goal

pub loop-j-preserved : goal.loop-j-preserved
loop-j-preserved c =
    let message_is : c.put_step.new.message ≡ tagged c.args.id.now c.args.q c.args.i ++ (c.loop-j.j ∷ c.loop-j.value)
    = c.put_step.ensures ∙ ap (λ y. y ++ (c.loop-j.j ∷ c.loop-j.value)) c.loop-j.invariant.prefix in
    let prefix_len : length (tagged c.args.id.now c.args.q c.args.i) ≡ 22 = search (rules, places) in
    record {
      prefix = ap (take 22) message_is ∙ take_at _ _ 22 prefix_len;
      value = steps-more _ _ _ _ _ _ _ _ _ (omega arith) message_is c.loop-j.invariant.value c.digest-value.ensures;
    }
