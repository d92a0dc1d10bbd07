use Rattle.std.proofs.Common.{subst, sym, ap}
use Rattle.cp_core.specs.Machine.{State}
use Rattle.cp_core.specs.declared.answer.Answer.{Answer}
use Rattle.cp_core.specs.declared.request.Request.{Request}
use Rattle.cp_core.specs.declared.request.Request.TheVariants as ask
use Rattle.cp_shard.specs.Steps.{put_of}
use Rattle.cp_store.specs.Served.{IsServed}
use Rattle.cp_store.proofs.Alikes.{alike_eq}
use Rattle.cp_store.proofs.Calling.{called, put_is, put_served, refused}
use Rattle.cp_store.proofs.sharded.Sharded.put.Goals as goal

pub invariant_of-self : goal.invariant_of-self
invariant_of-self c =
    (called c.self.inside c.args.self.now c.index_mut.result.now c.put-outcome.new.self c.put-outcome.new.leaves c.args.pass (ask.Put c.args.request.now c.args.signature.now c.args.content.now) c.put-outcome.result c.answered.result c.self.view_is c.self.invariant c.requires c.index_mut.ensures.value
    (subst (λ (q : Request). IsServed c.index_mut.result.now c.put-outcome.new.self c.self.inside.leaves c.put-outcome.new.leaves c.self.inside.attestations c.args.pass q c.put-outcome.result) (put_is c.in-Ok.put c.args.request.now c.args.signature.now c.args.content.now c.in-Ok.ensures.written.request c.in-Ok.ensures.written.signed)
    (put_served c.index_mut.result.now c.put-outcome.new.self c.self.inside.leaves c.put-outcome.new.leaves c.self.inside.attestations c.args.pass (put_of c.in-Ok.put c.args.content.now) c.put-outcome.result c.put-outcome.ensures.answer c.put-outcome.ensures.items c.put-outcome.ensures.contents c.put-outcome.ensures.below c.put-outcome.ensures.given c.put-outcome.ensures.store c.put-outcome.ensures.index c.put-outcome.ensures.pages c.put-outcome.ensures.closings c.put-outcome.ensures.first c.put-outcome.ensures.refused c.put-outcome.ensures.unchanged c.put-outcome.ensures.none_given))
    c.answered.ensures.said c.answered.ensures.memory).sharded

pub returns-clause-answer : goal.returns-clause-answer
returns-clause-answer c =
    (called c.self.inside c.args.self.now c.index_mut.result.now c.put-outcome.new.self c.put-outcome.new.leaves c.args.pass (ask.Put c.args.request.now c.args.signature.now c.args.content.now) c.put-outcome.result c.answered.result c.self.view_is c.self.invariant c.requires c.index_mut.ensures.value
    (subst (λ (q : Request). IsServed c.index_mut.result.now c.put-outcome.new.self c.self.inside.leaves c.put-outcome.new.leaves c.self.inside.attestations c.args.pass q c.put-outcome.result) (put_is c.in-Ok.put c.args.request.now c.args.signature.now c.args.content.now c.in-Ok.ensures.written.request c.in-Ok.ensures.written.signed)
    (put_served c.index_mut.result.now c.put-outcome.new.self c.self.inside.leaves c.put-outcome.new.leaves c.self.inside.attestations c.args.pass (put_of c.in-Ok.put c.args.content.now) c.put-outcome.result c.put-outcome.ensures.answer c.put-outcome.ensures.items c.put-outcome.ensures.contents c.put-outcome.ensures.below c.put-outcome.ensures.given c.put-outcome.ensures.store c.put-outcome.ensures.index c.put-outcome.ensures.pages c.put-outcome.ensures.closings c.put-outcome.ensures.first c.put-outcome.ensures.refused c.put-outcome.ensures.unchanged c.put-outcome.ensures.none_given))
    c.answered.ensures.said c.answered.ensures.memory).answer

pub returns-clause-after : goal.returns-clause-after
returns-clause-after c =
    (called c.self.inside c.args.self.now c.index_mut.result.now c.put-outcome.new.self c.put-outcome.new.leaves c.args.pass (ask.Put c.args.request.now c.args.signature.now c.args.content.now) c.put-outcome.result c.answered.result c.self.view_is c.self.invariant c.requires c.index_mut.ensures.value
    (subst (λ (q : Request). IsServed c.index_mut.result.now c.put-outcome.new.self c.self.inside.leaves c.put-outcome.new.leaves c.self.inside.attestations c.args.pass q c.put-outcome.result) (put_is c.in-Ok.put c.args.request.now c.args.signature.now c.args.content.now c.in-Ok.ensures.written.request c.in-Ok.ensures.written.signed)
    (put_served c.index_mut.result.now c.put-outcome.new.self c.self.inside.leaves c.put-outcome.new.leaves c.self.inside.attestations c.args.pass (put_of c.in-Ok.put c.args.content.now) c.put-outcome.result c.put-outcome.ensures.answer c.put-outcome.ensures.items c.put-outcome.ensures.contents c.put-outcome.ensures.below c.put-outcome.ensures.given c.put-outcome.ensures.store c.put-outcome.ensures.index c.put-outcome.ensures.pages c.put-outcome.ensures.closings c.put-outcome.ensures.first c.put-outcome.ensures.refused c.put-outcome.ensures.unchanged c.put-outcome.ensures.none_given))
    c.answered.ensures.said c.answered.ensures.memory).after

pub returns-clause-unchanged : goal.returns-clause-unchanged
returns-clause-unchanged c =
    (called c.self.inside c.args.self.now c.index_mut.result.now c.put-outcome.new.self c.put-outcome.new.leaves c.args.pass (ask.Put c.args.request.now c.args.signature.now c.args.content.now) c.put-outcome.result c.answered.result c.self.view_is c.self.invariant c.requires c.index_mut.ensures.value
    (subst (λ (q : Request). IsServed c.index_mut.result.now c.put-outcome.new.self c.self.inside.leaves c.put-outcome.new.leaves c.self.inside.attestations c.args.pass q c.put-outcome.result) (put_is c.in-Ok.put c.args.request.now c.args.signature.now c.args.content.now c.in-Ok.ensures.written.request c.in-Ok.ensures.written.signed)
    (put_served c.index_mut.result.now c.put-outcome.new.self c.self.inside.leaves c.put-outcome.new.leaves c.self.inside.attestations c.args.pass (put_of c.in-Ok.put c.args.content.now) c.put-outcome.result c.put-outcome.ensures.answer c.put-outcome.ensures.items c.put-outcome.ensures.contents c.put-outcome.ensures.below c.put-outcome.ensures.given c.put-outcome.ensures.store c.put-outcome.ensures.index c.put-outcome.ensures.pages c.put-outcome.ensures.closings c.put-outcome.ensures.first c.put-outcome.ensures.refused c.put-outcome.ensures.unchanged c.put-outcome.ensures.none_given))
    c.answered.ensures.said c.answered.ensures.memory).unchanged

pub returns-in-Err-clause-answer : goal.returns-in-Err-clause-answer
returns-in-Err-clause-answer c =
    sym (ap (λ (x : Answer × State). x.0) (refused c.self.inside c.args.self.now c.index.result.now c.args.pass c.args.request.now c.args.signature.now c.args.content.now c.in-Err.refusal c.self.view_is c.self.invariant c.index.ensures c.in-Err.ensures.refused))

pub returns-in-Err-clause-after : goal.returns-in-Err-clause-after
returns-in-Err-clause-after c =
    alike_eq _ _ (sym (ap (λ (x : Answer × State). x.1) (refused c.self.inside c.args.self.now c.index.result.now c.args.pass c.args.request.now c.args.signature.now c.args.content.now c.in-Err.refusal c.self.view_is c.self.invariant c.index.ensures c.in-Err.ensures.refused)))
