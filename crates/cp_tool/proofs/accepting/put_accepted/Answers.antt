use Rattle.std.proofs.Common.{refl, sym, inl, inr, ◌∙◌, arith}
use Rattle.cp_tool.proofs.accepting.put_accepted.Goals as goal

pub returns-in-Err-write-clause-ends : goal.returns-in-Err-write-clause-ends
returns-in-Err-write-clause-ends g c = inr (
  refl,
  omega (arith, c.in-Ok.ensures.cause, c.in-Err-write.ensures.cause),
  λ apart. inr (λ told. c.in-Err-write.ensures.others c.args.words.now.out.now apart ∙ c.in-Ok.ensures.written told),
)

pub returns-in-Err-clause-ends : goal.returns-in-Err-clause-ends
returns-in-Err-clause-ends g c = inr (
  refl,
  omega (arith, c.in-Err.ensures.cause),
  λ apart. inl (c.in-Err.ensures.others c.args.words.now.content.now (λ same. apart (sym same))),
)
