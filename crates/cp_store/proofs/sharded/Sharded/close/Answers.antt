use Rattle.std.proofs.Common.{◌+◌, ◌≡◌, Ok, Err, Option, List, ℕ, sym, subst}
use Rattle.cp_core.specs.Machine.{SpellsNext, step}
use Rattle.cp_core.specs.View.{Standing}
use Rattle.cp_core.specs.declared.event.Event.TheVariants.{Begin}
use Rattle.cp_closer.specs.Closer.{after_begin, begin_answer}
use Rattle.cp_store.specs.Closes.{Closes}
use Rattle.cp_store.specs.Freezes.{IsFinished}
use Rattle.cp_store.specs.Inside.{store_of, standing_of}
use Rattle.cp_store.specs.Shards.{state_of}
use Rattle.cp_store.proofs.Freezing.{IsBegun, inside_begins, inside_running, close_refused, closed, may_freeze}
use Rattle.cp_store.proofs.sharded.Sharded.close.Goals as goal

pub returns-in-Err : goal.returns-in-Err
returns-in-Err c =
    let next : c.in_ok-next.next ≡ c.args.next = c.in_ok-next.ensures in
    subst (λ (z : Standing). Closes z (record { store = store_of c.self.inside; state = state_of c.self.inside.shards.items c.begin-begun.new.self c.self.inside.leaves }) c.args.next (Err c.in-Err.refusal)) c.self.view_is
    (subst (λ (n : Option (List ℕ)). Closes (standing_of c.self.inside) (record { store = store_of c.self.inside; state = state_of c.self.inside.shards.items c.begin-begun.new.self c.self.inside.leaves }) n (Err c.in-Err.refusal)) next
    (close_refused (store_of c.self.inside) c.self.inside.shards.items c.self.inside.closer c.begin-begun.new.self c.self.inside.leaves c.epoch-epoch.result c.in_ok-next.next c.in-Err.refusal c.self.invariant.standing (inside_running c.self.inside c.args.self c.epoch-epoch.result c.self.view_is c.epoch-epoch.ensures.running) c.in-Err.ensures.answer c.in-Err.ensures.after))

pub finish-requires : goal.finish-requires
finish-requires c =
    let spells : SpellsNext c.in_ok-next.next = subst SpellsNext (sym c.in_ok-next.ensures) c.requires in
    may_freeze (store_of c.self.inside) c.self.inside.shards.items c.self.inside.closer c.begin-begun.new.self c.self.inside.leaves c.epoch-epoch.result c.in_ok-next.next c.self.invariant.between.fits c.self.invariant.between.few
    (inside_begins c.self.inside c.begin-begun.new.self c.epoch-epoch.result c.in_ok-next.next c.self.invariant spells (inside_running c.self.inside c.args.self c.epoch-epoch.result c.self.view_is c.epoch-epoch.ensures.running) c.in_default.ensures.answer c.in_default.ensures.after)

pub invariant_of-next : goal.invariant_of-next
invariant_of-next c =
    let next = c.in_ok-next.next in
    let spells : SpellsNext next = subst SpellsNext (sym c.in_ok-next.ensures) c.requires in
    let begun : IsBegun (store_of c.self.inside) c.self.inside.shards.items c.self.inside.closer c.begin-begun.new.self c.self.inside.leaves c.epoch-epoch.result next = inside_begins c.self.inside c.begin-begun.new.self c.epoch-epoch.result next c.self.invariant spells (inside_running c.self.inside c.args.self c.epoch-epoch.result c.self.view_is c.epoch-epoch.ensures.running) c.in_default.ensures.answer c.in_default.ensures.after in
    let done : IsFinished (store_of c.self.inside) (step (store_of c.self.inside) (standing_of c.self.inside).state (Begin next)).1 c.finish.new.shards.items c.finish.new.closer c.self.inside.leaves c.epoch-epoch.result c.in_ok-sealed.sealed = c.in_ok-sealed.ensures (store_of c.self.inside) (step (store_of c.self.inside) (standing_of c.self.inside).state (Begin next)).1 c.self.inside.leaves c.self.invariant.between.fits c.self.invariant.between.few begun.frozen in
    record { standing = done.standing; between = record { running = (c.epoch-epoch.result + 1, done.phase); fits = c.self.invariant.between.fits; few = c.self.invariant.between.few } }

pub returns : goal.returns
returns c =
    let next = c.in_ok-next.next in
    let spells : SpellsNext next = subst SpellsNext (sym c.in_ok-next.ensures) c.requires in
    let begun : IsBegun (store_of c.self.inside) c.self.inside.shards.items c.self.inside.closer c.begin-begun.new.self c.self.inside.leaves c.epoch-epoch.result next = inside_begins c.self.inside c.begin-begun.new.self c.epoch-epoch.result next c.self.invariant spells (inside_running c.self.inside c.args.self c.epoch-epoch.result c.self.view_is c.epoch-epoch.ensures.running) c.in_default.ensures.answer c.in_default.ensures.after in
    let done : IsFinished (store_of c.self.inside) (step (store_of c.self.inside) (standing_of c.self.inside).state (Begin next)).1 c.finish.new.shards.items c.finish.new.closer c.self.inside.leaves c.epoch-epoch.result c.in_ok-sealed.sealed = c.in_ok-sealed.ensures (store_of c.self.inside) (step (store_of c.self.inside) (standing_of c.self.inside).state (Begin next)).1 c.self.inside.leaves c.self.invariant.between.fits c.self.invariant.between.few begun.frozen in
    let new : Standing = record { store = store_of c.self.inside; state = state_of c.finish.new.shards.items c.finish.new.closer c.self.inside.leaves } in
    subst (λ (z : Standing). Closes z new c.args.next (Ok c.in_ok-sealed.sealed)) c.self.view_is
    (subst (λ (n : Option (List ℕ)). Closes (standing_of c.self.inside) new n (Ok c.in_ok-sealed.sealed)) c.in_ok-next.ensures
    (closed (store_of c.self.inside) c.self.inside.shards.items c.finish.new.shards.items c.self.inside.closer c.begin-begun.new.self c.finish.new.closer c.self.inside.leaves c.epoch-epoch.result next c.in_ok-sealed.sealed (inside_running c.self.inside c.args.self c.epoch-epoch.result c.self.view_is c.epoch-epoch.ensures.running) begun done))
