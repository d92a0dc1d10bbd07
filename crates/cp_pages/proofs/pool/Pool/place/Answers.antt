use Rattle.std.proofs.Common.{◌≡◌, ◌<◌, length, refl, ◌∙◌, arith}
use Rattle.std.proofs.lemmas.Bool.Decides.{nat_tests}
use Rattle.std.proofs.lemmas.List.{with_items_is}
use Rattle.cp_pages.specs.Pages.{free_pages}
use Rattle.cp_pages.proofs.Held.{taken-placed}
use Rattle.cp_pages.proofs.Layouts.{free-seen}
use Rattle.cp_pages.proofs.Steps.{free-inside, laid-placed, seen-placed}
use Rattle.cp_pages.proofs.pool.Pool.place.Goals as goal

pub returns-then-self-need-clause-full : goal.returns-then-self-need-clause-full
returns-then-self-need-clause-full c =
    let free : c.self.inside.free ≡ free_pages c.args.self.now = rw (← c.self.view_is) (free-seen _ _ _ _ _ c.self.invariant) in
    (λ _. omega arith, λ _. refl)

pub returns-then-self-need-clause-free : goal.returns-then-self-need-clause-free
returns-then-self-need-clause-free c = rw (← c.self.view_is) (free-seen _ _ _ _ _ c.self.invariant)

pub write-self-inside-requires-clause-inside : goal.write-self-inside-requires-clause-inside
write-self-inside-requires-clause-inside c = rw c.deref.ensures.value (λ i h. c.self.invariant.inside 0 i (omega arith))

pub write-self-inside-requires-clause-apart : goal.write-self-inside-requires-clause-apart
write-self-inside-requires-clause-apart c =
    rw c.deref.ensures.value (λ i j hi hj e. (c.self.invariant.apart 0 0 i j (omega arith) (omega arith) e).1)

pub index_mut-requires : goal.index_mut-requires
index_mut-requires c =
    let some : 0 < length c.args.bytes.now = grind (arith, nat_tests) in
    omega (arith, free-inside _ _ _ _ _ c.self.invariant (omega arith), c.self.inside.lengths.ok.0)

pub invariant_of-self : goal.invariant_of-self
invariant_of-self c =
    let some : 0 < length c.args.bytes.now = grind (arith, nat_tests) in
    let len : length c.write-self-inside.new.pages ≡ c.self.inside.pages.len = omega (arith, c.deref_mut.ensures.len, c.write-self-inside.auto.pages) in
    laid-placed _ _ _ _ _ c.self.invariant _ c.write-self-inside.new.pages c.deref.result.now _ _ (length c.args.bytes.now)
    (with_items_is c.self.inside.pages c.write-self-inside.new.pages len)
    c.deref.ensures.value c.write-self-inside.ensures.after c.pages_for-need.ensures some c.if-self-need.false
    (len ∙ c.self.inside.pages.ok.0) c.write-self-inside.ensures.whole

pub returns-clause-placed : goal.returns-clause-placed
returns-clause-placed c =
    let some : 0 < length c.args.bytes.now = grind (arith, nat_tests) in
    let len : length c.write-self-inside.new.pages ≡ c.self.inside.pages.len = omega (arith, c.deref_mut.ensures.len, c.write-self-inside.auto.pages) in
    seen-placed _ _ _ _ _ c.self.invariant _ c.deref_mut.result.now _ c.write-self-inside.new.pages c.deref.result.now c.pages_for-need.result c.args.bytes.now
    c.self.view_is c.deref_mut.ensures.value (with_items_is c.self.inside.pages c.write-self-inside.new.pages len)
    c.deref.ensures.value c.pages_for-need.ensures some c.if-self-need.false
    c.write-self-inside.ensures.content c.write-self-inside.ensures.others

pub returns-clause-full : goal.returns-clause-full
returns-clause-full c =
    let free : c.self.inside.free ≡ free_pages c.args.self.now = rw (← c.self.view_is) (free-seen _ _ _ _ _ c.self.invariant) in
    (λ f. cc, λ less. absurd (omega arith))

pub returns-clause-taken : goal.returns-clause-taken
returns-clause-taken c = taken-placed _ _ _ _ (returns-clause-placed c)
