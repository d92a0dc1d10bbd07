use Rattle.std.proofs.Common.{◌≡◌, ◌∙◌, ◌-◌, ◌+◌, ◌++◌, ap, sym, arith, length, take, drop, take_at, List, ℕ}
use Rattle.std.specs.List.{slice_range}
use Rattle.cp_session.proofs.InboxLemmas.{grows_same, view_from_zero}
use Rattle.cp_session.proofs.inboxes.Inbox.read_from.Goals as goal

pub returns-in-Ok-clause-grows : goal.returns-in-Ok-clause-grows
returns-in-Ok-clause-grows g c =
    let room : List ℕ = c.refill.new.room in
    let stop : ℕ = c.self.inside.stop - c.self.inside.start + c.in-Ok.n in
    let size : length c.refill.new.room ≡ c.self.inside.room.len = omega (arith, c.refill.auto.room, c.as_mut_slice.ensures.len) in
    let back : take c.self.inside.room.len (c.refill.new.room ++ drop (length c.refill.new.room) c.self.inside.room.items) ≡ c.refill.new.room = take_at _ _ _ size in
    let old_is : slice_range c.as_mut_slice.result.now c.self.inside.start c.self.inside.stop ≡ c.args.self.now =
    ap (λ (xs : List ℕ). slice_range xs c.self.inside.start c.self.inside.stop) c.as_mut_slice.ensures.value ∙ c.self.view_is in
    grows_same _ _ _ _ _ _ c.in-Ok.ensures.grows old_is (view_from_zero c.refill.new.room stop ∙ ap (λ (xs : List ℕ). slice_range xs 0 stop) (sym back))
