use Rattle.std.proofs.Common.{◌∙◌, ◌++◌, ap}
use Rattle.cp_statements.specs.View.{envelope_view}
use Rattle.cp_evidence.proofs.Laid.{on_ok, broken_rule_laid, broken_rule_bytes_laid}
use Rattle.cp_evidence.proofs.writers.write_k7.Goals as goal

pub returns-clause-written : goal.returns-clause-written
returns-clause-written c =
    on_ok c.append.result
    (λ e named texts is_rule is_segment. e ∙ ap (λ bytes. c.args.out.now.items ++ bytes)
    (broken_rule_laid named texts c.args.block c.args.rule c.args.place c.args.other (envelope_view c.args.x.now) (envelope_view c.args.y.now) c.args.t.now c.args.s.now c.args.f.now c.args.g.now is_rule is_segment))
    c.append.ensures.written

pub returns-clause-laid : goal.returns-clause-laid
returns-clause-laid c =
    on_ok c.append.result
    (λ e. e ∙ ap (λ bytes. c.args.out.now.items ++ bytes)
    (broken_rule_bytes_laid c.args.block c.args.rule c.args.place c.args.other (envelope_view c.args.x.now) (envelope_view c.args.y.now) c.args.t.now c.args.s.now c.args.f.now c.args.g.now))
    c.append.ensures.written
