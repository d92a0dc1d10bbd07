use Rattle.cp_core.specs.declared.request.Request.TheVariants as ask
use Rattle.cp_store.proofs.Calling.{called, get_served}
use Rattle.cp_store.proofs.sharded.Sharded.get.Goals as goal

pub invariant_of-self : goal.invariant_of-self
invariant_of-self c =
    (called c.self.inside c.args.self.now c.index_mut.result.now c.get-outcome.new.self c.get-outcome.new.leaves c.args.pass (ask.Get c.args.request.now) c.get-outcome.result c.answered.result c.self.view_is c.self.invariant c.requires c.index_mut.ensures.value
    (get_served c.index_mut.result.now c.get-outcome.new.self c.self.inside.leaves c.get-outcome.new.leaves c.self.inside.attestations c.args.pass c.args.request.now c.get-outcome.result c.get-outcome.ensures.answer c.get-outcome.ensures.items c.get-outcome.ensures.below c.get-outcome.ensures.given c.get-outcome.ensures.refused c.get-outcome.ensures.unchanged c.get-outcome.ensures.none_given)
    c.answered.ensures.said c.answered.ensures.memory).sharded

pub returns-clause-answer : goal.returns-clause-answer
returns-clause-answer c =
    (called c.self.inside c.args.self.now c.index_mut.result.now c.get-outcome.new.self c.get-outcome.new.leaves c.args.pass (ask.Get c.args.request.now) c.get-outcome.result c.answered.result c.self.view_is c.self.invariant c.requires c.index_mut.ensures.value
    (get_served c.index_mut.result.now c.get-outcome.new.self c.self.inside.leaves c.get-outcome.new.leaves c.self.inside.attestations c.args.pass c.args.request.now c.get-outcome.result c.get-outcome.ensures.answer c.get-outcome.ensures.items c.get-outcome.ensures.below c.get-outcome.ensures.given c.get-outcome.ensures.refused c.get-outcome.ensures.unchanged c.get-outcome.ensures.none_given)
    c.answered.ensures.said c.answered.ensures.memory).answer

pub returns-clause-after : goal.returns-clause-after
returns-clause-after c =
    (called c.self.inside c.args.self.now c.index_mut.result.now c.get-outcome.new.self c.get-outcome.new.leaves c.args.pass (ask.Get c.args.request.now) c.get-outcome.result c.answered.result c.self.view_is c.self.invariant c.requires c.index_mut.ensures.value
    (get_served c.index_mut.result.now c.get-outcome.new.self c.self.inside.leaves c.get-outcome.new.leaves c.self.inside.attestations c.args.pass c.args.request.now c.get-outcome.result c.get-outcome.ensures.answer c.get-outcome.ensures.items c.get-outcome.ensures.below c.get-outcome.ensures.given c.get-outcome.ensures.refused c.get-outcome.ensures.unchanged c.get-outcome.ensures.none_given)
    c.answered.ensures.said c.answered.ensures.memory).after

pub returns-clause-unchanged : goal.returns-clause-unchanged
returns-clause-unchanged c =
    (called c.self.inside c.args.self.now c.index_mut.result.now c.get-outcome.new.self c.get-outcome.new.leaves c.args.pass (ask.Get c.args.request.now) c.get-outcome.result c.answered.result c.self.view_is c.self.invariant c.requires c.index_mut.ensures.value
    (get_served c.index_mut.result.now c.get-outcome.new.self c.self.inside.leaves c.get-outcome.new.leaves c.self.inside.attestations c.args.pass c.args.request.now c.get-outcome.result c.get-outcome.ensures.answer c.get-outcome.ensures.items c.get-outcome.ensures.below c.get-outcome.ensures.given c.get-outcome.ensures.refused c.get-outcome.ensures.unchanged c.get-outcome.ensures.none_given)
    c.answered.ensures.said c.answered.ensures.memory).unchanged
