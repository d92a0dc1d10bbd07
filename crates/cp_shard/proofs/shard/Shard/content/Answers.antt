use Rattle.std.proofs.Common.{None, Some, ap, ◌∙◌}
use Rattle.cp_core.specs.Calls.{content_at}
use Rattle.cp_shard.specs.Model.{ShardModel}
use Rattle.cp_shard.specs.Standings.{run_at}
use Rattle.cp_shard.proofs.Lookups.{run_none, run_some, content_by}
use Rattle.cp_shard.proofs.shard.Shard.content.Goals as goal

pub returns-in-None-run : goal.returns-in-None-run
returns-in-None-run c =
    let s = c.self.inside in let b = c.args.block in
    content_by s.items.items s.pages (run_at s.standings) s.pool b None c.from_vec.result c.self.invariant.0.has_contents (run_some s.standings b c.in-Some.standing.now c.in-Some.ensures.value ∙ c.in-None-run.is) (c.from_vec.ensures ∙ c.new.ensures.items)
    ∙ ap (λ (v : ShardModel). content_at v.contents b) c.self.view_is

pub returns-in-None : goal.returns-in-None
returns-in-None c =
    let s = c.self.inside in let b = c.args.block in
    content_by s.items.items s.pages (run_at s.standings) s.pool b None c.from_vec-in-None.result c.self.invariant.0.has_contents (run_none s.standings b c.in-None.ensures.value) (c.from_vec-in-None.ensures ∙ c.new-in-None.ensures.items)
    ∙ ap (λ (v : ShardModel). content_at v.contents b) c.self.view_is

pub returns-in_ok-content-in-Some-run : goal.returns-in_ok-content-in-Some-run
returns-in_ok-content-in-Some-run c =
    let s = c.self.inside in let b = c.args.block in
    content_by s.items.items s.pages (run_at s.standings) s.pool b (Some c.in-Some-run.run') c.in_ok-content-in-Some-run.content c.self.invariant.0.has_contents (run_some s.standings b c.in-Some.standing.now c.in-Some.ensures.value ∙ c.in-Some-run.is) c.in_ok-content-in-Some-run.ensures
    ∙ ap (λ (v : ShardModel). content_at v.contents b) c.self.view_is
