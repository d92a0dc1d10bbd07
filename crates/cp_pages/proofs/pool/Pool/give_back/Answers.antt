use Rattle.std.proofs.Common.{◌≡◌, ◌-◌, ap, ◌∙◌, arith}
use Rattle.cp_pages.specs.Chain.{page_after}
use Rattle.cp_pages.proofs.Held.{taken-given}
use Rattle.cp_pages.proofs.Steps.{live-room, live-fits, live-inside, live-begins, laid-returned, seen-returned}
use Rattle.cp_pages.proofs.pool.Pool.give_back.Goals as goal

pub pages_for-need-requires : goal.pages_for-need-requires
pages_for-need-requires c =
    let live = rw (← c.self.view_is, ← c.run.view_is) at c.requires in
    live-fits _ _ _ _ _ c.self.invariant _ live

pub page_after-last-requires : goal.page_after-last-requires
page_after-last-requires c =
    let live = rw (← c.self.view_is, ← c.run.view_is) at c.requires in
    rw c.deref.ensures.value (λ i h. live-inside _ _ _ _ _ c.self.invariant _ live i (omega arith))

pub index_mut-requires : goal.index_mut-requires
index_mut-requires c =
    let live = rw (← c.self.view_is, ← c.run.view_is) at c.requires in
    let last : c.page_after-last.result ≡ page_after c.self.inside.next.items (c.pages_for-need.result - 1) c.run.inside.first =
    c.page_after-last.ensures ∙ ap (λ links. page_after links (c.pages_for-need.result - 1) c.run.inside.first) c.deref.ensures.value in
    omega (arith, last, live-inside _ _ _ _ _ c.self.invariant _ live (c.pages_for-need.result - 1) (omega arith), c.self.inside.next.ok.0)

pub overflow_add-self : goal.overflow_add-self
overflow_add-self c =
    let live = rw (← c.self.view_is, ← c.run.view_is) at c.requires in
    omega (arith, live-room _ _ _ _ _ c.self.invariant _ live, c.self.invariant.numbered)

pub index_mut-requires-2 : goal.index_mut-requires-2
index_mut-requires-2 c =
    let live = rw (← c.self.view_is, ← c.run.view_is) at c.requires in
    omega (arith, live-begins _ _ _ _ _ c.self.invariant _ live (omega arith), c.self.inside.lengths.ok.0)

pub invariant_of-self : goal.invariant_of-self
invariant_of-self c =
    let live = rw (← c.self.view_is, ← c.run.view_is) at c.requires in
    laid-returned _ _ _ _ _ c.self.invariant _ live c.deref.result.now _ _ c.pages_for-need.ensures (omega arith)
    c.deref.ensures.value c.page_after-last.ensures

pub returns-clause-given_back : goal.returns-clause-given_back
returns-clause-given_back c =
    let live = rw (← c.self.view_is, ← c.run.view_is) at c.requires in
    rw (← c.run.view_is) (seen-returned _ _ _ _ _ c.self.invariant _ live _ c.deref.result.now _ _ c.self.view_is
    c.pages_for-need.ensures (omega arith) c.deref.ensures.value c.page_after-last.ensures)

pub returns-clause-taken : goal.returns-clause-taken
returns-clause-taken c = taken-given _ _ _ c.requires (returns-clause-given_back c)
