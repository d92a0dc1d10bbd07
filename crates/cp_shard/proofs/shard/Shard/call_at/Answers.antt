use Rattle.std.proofs.Common.{◌≡◌, None, sym, ap, ◌∙◌}
use Rattle.std.specs.BTreeMap as tree
use Rattle.std.specs.List.{slice_get}
use Rattle.cp_shard.specs.Places.{key_cmp, found_at, IsCallOf}
use Rattle.cp_shard.proofs.Lookups.{place_none, place_some}
use Rattle.cp_shard.proofs.Views.{carried}
use Rattle.cp_shard.proofs.shard.Shard.call_at.Goals as goal

pub returns-in-None : goal.returns-in-None
returns-in-None c =
    let s = c.self.inside in let k = c.args.key in
    carried (λ v. found_at v.items k ≡ None) _ _ (sym c.self.view_is) (place_none s.store s.items.items s.calls.items k (tree.get key_cmp s.places k) (c.self.invariant.0.places_are k) c.in-None.ensures.value)

pub returns-in-Some : goal.returns-in-Some
returns-in-Some c =
    let s = c.self.inside in let k = c.args.key in
    carried (λ v. IsCallOf v.store v.items k c.call_in.result) _ _ (sym c.self.view_is)
    (place_some s.store s.items.items s.calls.items k (tree.get key_cmp s.places k) c.in-Some.place.now c.call_in.result (c.self.invariant.0.places_are k) c.in-Some.ensures.value (c.call_in.ensures ∙ ap (λ l. slice_get l c.in-Some.place.now) c.deref.ensures.value))
