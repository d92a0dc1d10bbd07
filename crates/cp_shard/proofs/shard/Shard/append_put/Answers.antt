use Rattle.std.proofs.Common.{◌≡◌, ℕ, ◌-◌, cond, eqb, length, Some, refl, sym, ap, subst, ◌∙◌, arith}
use Rattle.std.specs.Vec.{vec_capacity}
use Rattle.std.specs.BTreeMap as tree
use Rattle.cp_statements.specs.View.{attestation_view}
use Rattle.cp_core.specs.Life.{RowItem}
use Rattle.cp_core.specs.Calls.{content_at}
use Rattle.cp_pages.specs.Extent.{Extent}
use Rattle.cp_shard.specs.Model.{ShardModel}
use Rattle.cp_shard.specs.Booked.{tip_by, key_by}
use Rattle.cp_shard.specs.Contents.{IsLiveRun, HasContents}
use Rattle.cp_shard.specs.Kept.{IsNext}
use Rattle.cp_shard.specs.Places.{key_cmp}
use Rattle.cp_shard.specs.Released.{IsReleased}
use Rattle.cp_shard.specs.Standings.{tip_at, run_at}
use Rattle.cp_shard.specs.declared.key.Key.{Key}
use Rattle.cp_shard.proofs.NextRow.{next_free, next_few, put_view}
use Rattle.cp_shard.proofs.Keeping.{keeps_row, put_contents, put_reads, tip_kept}
use Rattle.cp_shard.proofs.Spans.{rows_more}
use Rattle.cp_shard.proofs.Putting.{IsExchanged, still-live}
use Rattle.cp_shard.proofs.Views.{carried}
use Rattle.cp_shard.proofs.shard.Shard.append_put.Goals as goal

pub place_and_draw-requires-clause-new : goal.place_and_draw-requires-clause-new
place_and_draw-requires-clause-new g c =
    let s = c.self.inside in let a = attestation_view c.args.attestation in
    next_free s.store s.index s.items.items s.calls.items s.places a c.args.text c.key_by.result c.self.invariant.0.places_are
    (carried (λ v. IsNext v.store v.index v.items a c.args.text) _ _ c.self.view_is c.requires.next) c.key_by.ensures

pub tip_by-tip-requires : goal.tip_by-tip-requires
tip_by-tip-requires g c =
    let s = c.self.inside in let a = attestation_view c.args.attestation in
    omega (arith, next_few s.store s.index s.items.items a c.args.text (carried (λ v. IsNext v.store v.index v.items a c.args.text) _ _ c.self.view_is c.requires.next), c.in-Ok.ensures.fits, ap length c.in-Ok.ensures.items)

pub release-requires : goal.release-requires
release-requires g c =
    let s = c.self.inside in let block = c.args.attestation.block in
    let gone : c.set_run-old.result ≡ run_at s.standings block = c.set_run-old.ensures.old ∙ c.set_tip.ensures.runs block ∙ c.in-Ok.ensures.runs block in
    subst (IsLiveRun c.place_and_draw.new.pool) (sym gone)
    (still-live s.pool c.place_and_draw.new.pool _ c.in-Ok-place_and_draw.drawn.1 (run_at s.standings block) c.in-Ok-place_and_draw.ensures.placed (c.self.invariant.0.has_contents.live block))

pub invariant_of-self-2 : goal.invariant_of-self-2
invariant_of-self-2 g c =
    let s = c.self.inside in let a = attestation_view c.args.attestation in let inv = c.self.invariant.0 in let bytes = c.args.content.now in
    let run : Extent = c.in-Ok-place_and_draw.drawn.1 in
    let leaf : ℕ = c.in-Ok-place_and_draw.drawn.0 in
    let r : RowItem = record { pass = c.args.pass; leaf = leaf; pages = c.pages_of.result; entry = c.args.text } in
    let next : IsNext s.store s.index s.items.items a r.entry = carried (λ v. IsNext v.store v.index v.items a c.args.text) _ _ c.self.view_is c.requires.next in
    let at : c.len.result ≡ length s.calls.items = omega (arith, c.len.ensures, c.in-Ok.ensures.calls_len, s.calls.ok) in
    let gone : c.set_run-old.result ≡ run_at s.standings a.block = c.set_run-old.ensures.old ∙ c.set_tip.ensures.runs a.block ∙ c.in-Ok.ensures.runs a.block in
    let exchanged : IsExchanged s.pool c.release.new.pool bytes run (run_at s.standings a.block) =
    record { more = c.place_and_draw.new.pool; placed = c.in-Ok-place_and_draw.ensures.placed; released = subst (IsReleased c.place_and_draw.new.pool c.release.new.pool) gone c.release.ensures } in
    rw (c.push_reserved-2.ensures.items, c.push_reserved-2.ensures.capacity, c.push_reserved.ensures.items, c.push_reserved-3.ensures.items, c.in-Ok.ensures.items, c.in-Ok.ensures.calls, c.in-Ok.ensures.row_tips) (
      keeps_row s.store s.index s.pages s.closings s.epoch (vec_capacity s.items) s.items.items s.calls.items s.standings s.places s.pool inv r a next
          (vec_capacity c.make_room.new.items) (record { leaf = leaf; attestation = c.args.attestation }) c.set_run-old.new.standings c.place_and_draw.new.places c.release.new.pool refl refl
          (λ b. c.set_run-old.ensures.tips b ∙ c.set_tip.ensures.tips b ∙ ap (λ t. cond (eqb a.block b) t (tip_at c.make_room.new.standings b)) c.tip_by-tip.ensures ∙ ap (cond (eqb a.block b) (tip_by a)) (c.in-Ok.ensures.tips b))
          (λ k. c.in-Ok-place_and_draw.ensures.places k ∙ ap (λ (q : Key). cond (tree.is_at (key_cmp q) k) (Some c.len.result) (tree.get key_cmp s.places k)) c.key_by.ensures
          ∙ ap (λ n. cond (tree.is_at (key_cmp (key_by a)) k) (Some n) (tree.get key_cmp s.places k)) at)
          (omega (arith, c.in-Ok.ensures.room, ap length c.in-Ok.ensures.items, inv.epoch_is, inv.froze))
          (put_contents s.store s.index s.pages s.closings s.epoch (vec_capacity s.items) s.items.items s.calls.items s.standings s.places s.pool inv r a next c.set_run-old.new.standings c.release.new.pool bytes run c.requires.put c.requires.version c.requires.hash c.pages_of.ensures
          (λ b. c.set_run-old.ensures.runs b ∙ ap (cond (eqb a.block b) (Some run)) (c.set_tip.ensures.runs b ∙ c.in-Ok.ensures.runs b)) exchanged),
      rows_more s.items.items s.row_tips.items s.row_counts.items s.closings (vec_capacity s.row_counts) r (record { block = a.block; tip = c.tip_by-tip.result }) c.self.invariant.1
          (tip_kept s.store s.index s.pages s.closings s.epoch (vec_capacity s.items) s.items.items s.calls.items s.standings s.places s.pool inv r a next (record { block = a.block; tip = c.tip_by-tip.result }) refl c.tip_by-tip.ensures),
    )

pub returns-clause-contents : goal.returns-clause-contents
returns-clause-contents g c =
    let s = c.self.inside in let a = attestation_view c.args.attestation in let inv = c.self.invariant.0 in let bytes = c.args.content.now in
    let run : Extent = c.in-Ok-place_and_draw.drawn.1 in
    let r : RowItem = record { pass = c.args.pass; leaf = c.in-Ok-place_and_draw.drawn.0; pages = c.pages_of.result; entry = c.args.text } in
    let next : IsNext s.store s.index s.items.items a r.entry = carried (λ v. IsNext v.store v.index v.items a c.args.text) _ _ c.self.view_is c.requires.next in
    let gone : c.set_run-old.result ≡ run_at s.standings a.block = c.set_run-old.ensures.old ∙ c.set_tip.ensures.runs a.block ∙ c.in-Ok.ensures.runs a.block in
    let exchanged : IsExchanged s.pool c.release.new.pool bytes run (run_at s.standings a.block) =
    record { more = c.place_and_draw.new.pool; placed = c.in-Ok-place_and_draw.ensures.placed; released = subst (IsReleased c.place_and_draw.new.pool c.release.new.pool) gone c.release.ensures } in
    let kept : HasContents c.push_reserved-2.new.self.items s.pages (run_at c.set_run-old.new.standings) c.release.new.pool = (invariant_of-self-2 g c).0.has_contents in
    λ b.
    put_view s.items.items c.push_reserved-2.new.self.items s.pages (run_at s.standings) (run_at c.set_run-old.new.standings) s.pool c.release.new.pool a.block b bytes inv.has_contents kept
    (put_reads s.store s.index s.pages s.closings s.epoch (vec_capacity s.items) s.items.items s.calls.items s.standings s.places s.pool inv r a next c.set_run-old.new.standings c.release.new.pool bytes run c.requires.put c.requires.version c.requires.hash c.pages_of.ensures
    (λ b. c.set_run-old.ensures.runs b ∙ ap (cond (eqb a.block b) (Some run)) (c.set_tip.ensures.runs b ∙ c.in-Ok.ensures.runs b)) exchanged b)
    ∙ ap (λ (v : ShardModel). cond (eqb a.block b) bytes (content_at v.contents b)) c.self.view_is
