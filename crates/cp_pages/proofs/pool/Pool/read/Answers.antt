use Rattle.std.proofs.Common.{◌∙◌}
use Rattle.cp_pages.proofs.Steps.{live-fits, live-inside, read-live}
use Rattle.cp_pages.proofs.pool.Pool.read.Goals as goal

pub read-requires-clause-len : goal.read-requires-clause-len
read-requires-clause-len c =
    let live = rw (← c.self.view_is) at c.requires.live in
    rw c.requires.len (live-fits _ _ _ _ _ c.self.invariant _ live)

pub read-requires-clause-inside : goal.read-requires-clause-inside
read-requires-clause-inside c =
    let live = rw (← c.self.view_is, ← c.run.view_is) at c.requires.live in
    let len = rw (← c.run.view_is) at c.requires.len in
    rw (c.deref-2.ensures.value, len) (live-inside _ _ _ _ _ c.self.invariant _ live)

pub returns : goal.returns
returns c =
    let live = rw (← c.self.view_is, ← c.run.view_is) at c.requires.live in
    let len = rw (← c.run.view_is) at c.requires.len in
    c.read.ensures ∙ rw (← c.run.view_is) (read-live _ _ _ _ _ c.self.invariant _ live _ _ _ _ c.self.view_is c.deref.ensures.value c.deref-2.ensures.value len)
