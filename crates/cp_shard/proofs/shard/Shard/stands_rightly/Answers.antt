use Rattle.std.proofs.Common.{◌≤◌, sym, subst}
use Rattle.cp_chain.specs.Each.{Each}
use Rattle.cp_core.specs.Honest.{IsItemOf}
use Rattle.cp_core.specs.Life.{freezes}
use Rattle.cp_core.specs.Calls.{content_at, latest_of}
use Rattle.cp_core.specs.Kept.{IsContentOf}
use Rattle.cp_shard.specs.Standings.{run_at}
use Rattle.cp_shard.proofs.Holding.{content_seen}
use Rattle.cp_shard.proofs.Views.{carried}
use Rattle.cp_shard.proofs.shard.Shard.stands_rightly.Goals as goal

pub returns-clause-items : goal.returns-clause-items
returns-clause-items c = carried (λ v. Each (IsItemOf v.index) v.items) _ _ (sym c.self.view_is) c.self.invariant.0.each

pub returns-clause-contents : goal.returns-clause-contents
returns-clause-contents c =
    let s = c.self.inside in let has = c.self.invariant.0.has_contents in
    λ b. carried (λ v. IsContentOf (latest_of v.items b) (content_at v.contents b)) _ _ (sym c.self.view_is)
    (subst (IsContentOf (latest_of s.items.items b)) (sym (content_seen s.items.items s.pages (run_at s.standings) s.pool b has)) (has.hashed b))

pub returns-clause-froze : goal.returns-clause-froze
returns-clause-froze c = carried (λ v. freezes v.items ≤ v.closings) _ _ (sym c.self.view_is) c.self.invariant.0.froze
