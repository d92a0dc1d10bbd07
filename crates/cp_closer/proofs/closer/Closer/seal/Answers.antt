use Rattle.std.proofs.Common.{◌≡◌, ◌+◌, ◌-◌, ℕ, sym, ap, subst, ◌∙◌, length, arith, rules, refl, map, flat_map, List, Some}
use Rattle.cp_core.specs.declared.phase.Phase.TheVariants.{Full, Sealed}
use Rattle.cp_core.specs.Frozen.{part_view}
use Rattle.cp_closer.specs.Taken.{put_all, tips_of}
use Rattle.cp_closer.specs.Inside.{closer_view}
use Rattle.cp_closer.specs.Pendings.{IsPending}
use Rattle.cp_closer.specs.declared.pending.Heading.{Heading}
use Rattle.cp_closer.specs.declared.pending.Pending.{Pending}
use Rattle.cp_closer.specs.declared.closer.Closer.TheInside.{Inside}
use Rattle.cp_core.specs.Sealing.{link_after}
use Rattle.cp_closer.specs.Closer.{CloserState, epoch_of, after_seal}
use Rattle.cp_closer.specs.View.{IsPartly}
use Rattle.cp_closer.proofs.Views.{noted_view, noted_right, few_noted, SealedFrom, sealed_right, sealed_view, full_parts, full_partly, full_small, wholly, still_pending}
use Rattle.cp_closer.proofs.closer.Closer.seal.Goals as goal

pub log-requires : goal.log-requires
log-requires c =
    let was : c.self.inside.phase ≡ Full (epoch_of c.args.self.now.phase) = ap (λ (v : CloserState). v.phase) c.self.view_is ∙ c.requires in
    let all : length c.self.inside.parts ≡ 16 = omega arith in
    full_small c.self.inside _ c.self.invariant was all

pub new-requires : goal.new-requires
new-requires c =
    let was : c.self.inside.phase ≡ Full (epoch_of c.args.self.now.phase) = ap (λ (v : CloserState). v.phase) c.self.view_is ∙ c.requires in
    let all : length c.self.inside.parts ≡ 16 = omega arith in
    let noted : c.note_parts.new.tips.entries ≡ put_all c.self.inside.tips.entries (flat_map tips_of (map part_view c.self.inside.parts)) = c.in_ok-note_parts.ensures.noted in
    few_noted c.self.inside c.note_parts.new.tips.entries (map part_view c.self.inside.parts) c.self.invariant (full_parts c.self.inside _ was all) noted

pub invariant_of-self-in_err-note_parts : goal.invariant_of-self-in_err-note_parts
invariant_of-self-in_err-note_parts c =
    let was : c.self.inside.phase ≡ Full (epoch_of c.args.self.now.phase) = ap (λ (v : CloserState). v.phase) c.self.view_is ∙ c.requires in
    let all : length c.self.inside.parts ≡ 16 = omega arith in
    let partly : IsPartly c.self.inside.tips.entries (flat_map tips_of (map part_view c.self.inside.parts)) c.note_parts.new.tips.entries = c.in_err-note_parts.ensures.partly in
    noted_right c.self.inside _ (refl, refl, refl, refl, refl, refl, refl, refl, c.reserve.ensures.items) c.self.invariant (still_pending c.self.inside _ _ _ c.self.invariant was) (full_partly c.self.inside _ _ was all partly)

pub returns-in_err-note_parts-clause-unchanged : goal.returns-in_err-note_parts-clause-unchanged
returns-in_err-note_parts-clause-unchanged c =
    let was : c.self.inside.phase ≡ Full (epoch_of c.args.self.now.phase) = ap (λ (v : CloserState). v.phase) c.self.view_is ∙ c.requires in
    let all : length c.self.inside.parts ≡ 16 = omega arith in
    let partly : IsPartly c.self.inside.tips.entries (flat_map tips_of (map part_view c.self.inside.parts)) c.note_parts.new.tips.entries = c.in_err-note_parts.ensures.partly in
    let b : Inside = record { store = c.self.inside.store; leaves = c.self.inside.leaves; closings = c.self.inside.closings; phase = c.self.inside.phase; list = c.self.inside.list; next = c.self.inside.next; tips = c.note_parts.new.tips; parts = c.self.inside.parts; seals = c.reserve.new.self; pending = c.self.inside.pending } in
    let same : closer_view b ≡ c.args.self.now = noted_view c.self.inside b (refl, refl, refl, refl, refl, refl, refl, refl, c.reserve.ensures.items) c.self.invariant.noted (full_partly c.self.inside _ _ was all partly) ∙ c.self.view_is in
    search (rules, same)

pub invariant_of-self-in_err-pending : goal.invariant_of-self-in_err-pending
invariant_of-self-in_err-pending c =
    let was : c.self.inside.phase ≡ Full (epoch_of c.args.self.now.phase) = ap (λ (v : CloserState). v.phase) c.self.view_is ∙ c.requires in
    let all : length c.self.inside.parts ≡ 16 = omega arith in
    let partly : IsPartly c.self.inside.tips.entries (flat_map tips_of (map part_view c.self.inside.parts)) c.note_parts.new.tips.entries = wholly _ _ _ c.in_ok-note_parts.ensures.noted in
    noted_right c.self.inside _ (refl, refl, refl, refl, refl, refl, refl, refl, c.reserve.ensures.items) c.self.invariant (still_pending c.self.inside _ _ _ c.self.invariant was) (full_partly c.self.inside _ _ was all partly)

pub returns-in_err-pending-clause-unchanged : goal.returns-in_err-pending-clause-unchanged
returns-in_err-pending-clause-unchanged c =
    let was : c.self.inside.phase ≡ Full (epoch_of c.args.self.now.phase) = ap (λ (v : CloserState). v.phase) c.self.view_is ∙ c.requires in
    let all : length c.self.inside.parts ≡ 16 = omega arith in
    let partly : IsPartly c.self.inside.tips.entries (flat_map tips_of (map part_view c.self.inside.parts)) c.note_parts.new.tips.entries = wholly _ _ _ c.in_ok-note_parts.ensures.noted in
    let b : Inside = record { store = c.self.inside.store; leaves = c.self.inside.leaves; closings = c.self.inside.closings; phase = c.self.inside.phase; list = c.self.inside.list; next = c.self.inside.next; tips = c.note_parts.new.tips; parts = c.self.inside.parts; seals = c.reserve.new.self; pending = c.self.inside.pending } in
    let same : closer_view b ≡ c.args.self.now = noted_view c.self.inside b (refl, refl, refl, refl, refl, refl, refl, refl, c.reserve.ensures.items) c.self.invariant.noted (full_partly c.self.inside _ _ was all partly) ∙ c.self.view_is in
    search (rules, same)

pub invariant_of-self-2 : goal.invariant_of-self-2
invariant_of-self-2 c =
    let was : c.self.inside.phase ≡ Full (epoch_of c.args.self.now.phase) = ap (λ (v : CloserState). v.phase) c.self.view_is ∙ c.requires in
    let all : length c.self.inside.parts ≡ 16 = omega arith in
    let noted : c.note_parts.new.tips.entries ≡ put_all c.self.inside.tips.entries (flat_map tips_of (map part_view c.self.inside.parts)) = c.in_ok-note_parts.ensures.noted in
    let e : ℕ = c.epoch_of-epoch.result in
    let full : c.self.inside.phase ≡ Full e = was ∙ ap (λ (n : ℕ). Full n) (sym (c.epoch_of-epoch.ensures ∙ ap epoch_of was)) in
    let h : Heading = record { store = c.self.inside.store; leaf = c.self.inside.leaves - c.self.inside.closings + (e - 1); epoch = e; link = c.link.result } in
    let p : Pending = c.in_ok-pending.pending in
    let b : Inside = record { store = c.self.inside.store; leaves = c.self.inside.leaves; closings = c.self.inside.closings; phase = Sealed e; list = c.self.inside.list; next = c.self.inside.next; tips = c.note_parts.new.tips; parts = c.no_parts.result; seals = c.reserve.new.self; pending = Some p } in
    let pending : IsPending h c.note_parts.new.tips.entries c.in_ok-log.log.items c.in_ok-families.families.items p = c.in_ok-pending.ensures in
    let from : SealedFrom c.self.inside b e (map part_view c.self.inside.parts) h c.in_ok-log.log.items p = record {
      was = full;
      heading = ap (λ (l : List ℕ). record { store = c.self.inside.store; leaf = c.self.inside.leaves - c.self.inside.closings + (e - 1); epoch = e; link = l }) (c.link.ensures ∙ ap link_after c.deref.ensures.value);
      taken = full_parts c.self.inside e full all;
      tips = noted;
      log_is = c.in_ok-log.ensures;
      is_pending = subst (λ (f : List ℕ). IsPending h c.note_parts.new.tips.entries c.in_ok-log.log.items f p) (c.in_ok-families.ensures.items ∙ c.as_slice.ensures.bytes) pending;
      store = refl;
      leaves = refl;
      closings = refl;
      phase = refl;
      list = refl;
      next = refl;
      seals = c.reserve.ensures.items;
      kept_pending = refl;
    } in
    sealed_right c.self.inside b e (map part_view c.self.inside.parts) h c.in_ok-log.log.items p c.self.invariant from (omega (arith, c.in_ok-reserve.ensures.ok, c.reserve.ensures.len))

pub returns-clause-sealed : goal.returns-clause-sealed
returns-clause-sealed c =
    let was : c.self.inside.phase ≡ Full (epoch_of c.args.self.now.phase) = ap (λ (v : CloserState). v.phase) c.self.view_is ∙ c.requires in
    let all : length c.self.inside.parts ≡ 16 = omega arith in
    let noted : c.note_parts.new.tips.entries ≡ put_all c.self.inside.tips.entries (flat_map tips_of (map part_view c.self.inside.parts)) = c.in_ok-note_parts.ensures.noted in
    let e : ℕ = c.epoch_of-epoch.result in
    let full : c.self.inside.phase ≡ Full e = was ∙ ap (λ (n : ℕ). Full n) (sym (c.epoch_of-epoch.ensures ∙ ap epoch_of was)) in
    let h : Heading = record { store = c.self.inside.store; leaf = c.self.inside.leaves - c.self.inside.closings + (e - 1); epoch = e; link = c.link.result } in
    let p : Pending = c.in_ok-pending.pending in
    let b : Inside = record { store = c.self.inside.store; leaves = c.self.inside.leaves; closings = c.self.inside.closings; phase = Sealed e; list = c.self.inside.list; next = c.self.inside.next; tips = c.note_parts.new.tips; parts = c.no_parts.result; seals = c.reserve.new.self; pending = Some p } in
    let pending : IsPending h c.note_parts.new.tips.entries c.in_ok-log.log.items c.in_ok-families.families.items p = c.in_ok-pending.ensures in
    let from : SealedFrom c.self.inside b e (map part_view c.self.inside.parts) h c.in_ok-log.log.items p = record {
      was = full;
      heading = ap (λ (l : List ℕ). record { store = c.self.inside.store; leaf = c.self.inside.leaves - c.self.inside.closings + (e - 1); epoch = e; link = l }) (c.link.ensures ∙ ap link_after c.deref.ensures.value);
      taken = full_parts c.self.inside e full all;
      tips = noted;
      log_is = c.in_ok-log.ensures;
      is_pending = subst (λ (f : List ℕ). IsPending h c.note_parts.new.tips.entries c.in_ok-log.log.items f p) (c.in_ok-families.ensures.items ∙ c.as_slice.ensures.bytes) pending;
      store = refl;
      leaves = refl;
      closings = refl;
      phase = refl;
      list = refl;
      next = refl;
      seals = c.reserve.ensures.items;
      kept_pending = refl;
    } in
    let done : closer_view b ≡ after_seal c.args.self.now = sealed_view c.self.inside b e (map part_view c.self.inside.parts) h c.in_ok-log.log.items p c.self.invariant from ∙ ap after_seal c.self.view_is in
    search (rules, done)
