use Rattle.std.proofs.Common.{◌+◌, ◌%◌, ◌/◌, ◌++◌, ◌∷◌, [], decimal, ap, sym, ◌∙◌, append_assoc, arith}
use Rattle.cp_http.proofs.Decimals.{step}
use Rattle.cp_http.proofs.short_texts.ShortText.+push_digits.Goals as goal

pub returns-clause-text : goal.returns-clause-text
returns-clause-text t c = c.push-2.ensures.text ∙ ap (λ x. x ++ (48 + c.args.number % 10) ∷ []) c.push_digits.ensures.text
    ∙ append_assoc c.args.self.now (decimal (c.args.number / 10)) ((48 + c.args.number % 10) ∷ [])
    ∙ ap (λ d. c.args.self.now ++ d) (sym (step c.args.number (omega arith) (omega arith)))
