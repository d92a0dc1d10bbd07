use Rattle.std.proofs.Common.{◌≡◌, ◌+◌, ◌-◌, cond, eqb, length, Some, ◌++◌, ◌∷◌, [], refl, ap, ◌∙◌, arith}
use Rattle.std.specs.Vec.{vec_capacity}
use Rattle.std.specs.BTreeMap as tree
use Rattle.cp_statements.specs.View.{attestation_view}
use Rattle.cp_core.specs.Life.{RowItem, row_item}
use Rattle.cp_shard.specs.Model.{ShardModel}
use Rattle.cp_shard.specs.Booked.{tip_by, key_by}
use Rattle.cp_shard.specs.Kept.{IsNext}
use Rattle.cp_shard.specs.Places.{key_cmp}
use Rattle.cp_shard.specs.Standings.{tip_at, run_at, content_in}
use Rattle.cp_shard.specs.declared.key.Key.{Key}
use Rattle.cp_shard.proofs.NextRow.{next_free, next_few, get_view}
use Rattle.cp_shard.proofs.Keeping.{keeps_row, get_contents, tip_kept}
use Rattle.cp_shard.proofs.Spans.{rows_more}
use Rattle.cp_shard.proofs.Views.{carried}
use Rattle.cp_shard.proofs.shard.Shard.append_get.Goals as goal

pub draw-requires-clause-new : goal.draw-requires-clause-new
draw-requires-clause-new g c =
    let s = c.self.inside in let a = attestation_view c.args.attestation in
    next_free s.store s.index s.items.items s.calls.items s.places a c.args.text c.key_by-key.result c.self.invariant.0.places_are
    (carried (λ v. IsNext v.store v.index v.items a c.args.text) _ _ c.self.view_is c.requires.next) c.key_by-key.ensures

pub tip_by-tip-requires : goal.tip_by-tip-requires
tip_by-tip-requires g c =
    let s = c.self.inside in let a = attestation_view c.args.attestation in
    omega (arith, next_few s.store s.index s.items.items a c.args.text (carried (λ v. IsNext v.store v.index v.items a c.args.text) _ _ c.self.view_is c.requires.next), c.in-Ok.ensures.fits, ap length c.in-Ok.ensures.items)

pub invariant_of-self-2 : goal.invariant_of-self-2
invariant_of-self-2 g c =
    let s = c.self.inside in let a = attestation_view c.args.attestation in let inv = c.self.invariant.0 in
    let r : RowItem = record { pass = c.args.pass; leaf = c.in-Ok-draw.leaf; pages = 0; entry = c.args.text } in
    let next : IsNext s.store s.index s.items.items a r.entry = carried (λ v. IsNext v.store v.index v.items a c.args.text) _ _ c.self.view_is c.requires.next in
    let at : c.len-place.result ≡ length s.calls.items = omega (arith, c.len-place.ensures, c.in-Ok.ensures.calls_len, s.calls.ok) in
    rw (c.push_reserved-2.ensures.items, c.push_reserved-2.ensures.capacity, c.push_reserved.ensures.items, c.push_reserved-3.ensures.items, c.in-Ok.ensures.items, c.in-Ok.ensures.calls, c.in-Ok.ensures.row_tips) (
      keeps_row s.store s.index s.pages s.closings s.epoch (vec_capacity s.items) s.items.items s.calls.items s.standings s.places s.pool inv r a next
          (vec_capacity c.make_room.new.items) (record { leaf = c.in-Ok-draw.leaf; attestation = c.args.attestation }) c.set_tip.new.standings c.draw.new.places s.pool refl refl
          (λ b. c.set_tip.ensures.tips b ∙ ap (λ t. cond (eqb a.block b) t (tip_at c.make_room.new.standings b)) c.tip_by-tip.ensures ∙ ap (cond (eqb a.block b) (tip_by a)) (c.in-Ok.ensures.tips b))
          (λ k. c.in-Ok-draw.ensures.places k ∙ ap (λ (q : Key). cond (tree.is_at (key_cmp q) k) (Some c.len-place.result) (tree.get key_cmp s.places k)) c.key_by-key.ensures
          ∙ ap (λ n. cond (tree.is_at (key_cmp (key_by a)) k) (Some n) (tree.get key_cmp s.places k)) at)
          (omega (arith, c.in-Ok.ensures.room, ap length c.in-Ok.ensures.items, inv.epoch_is, inv.froze))
          (get_contents s.store s.index s.pages s.closings s.epoch (vec_capacity s.items) s.items.items s.calls.items s.standings s.places s.pool inv r a next c.set_tip.new.standings c.requires.get
          (λ b. c.set_tip.ensures.runs b ∙ c.in-Ok.ensures.runs b)),
      rows_more s.items.items s.row_tips.items s.row_counts.items s.closings (vec_capacity s.row_counts) r (record { block = a.block; tip = c.tip_by-tip.result }) c.self.invariant.1
          (tip_kept s.store s.index s.pages s.closings s.epoch (vec_capacity s.items) s.items.items s.calls.items s.standings s.places s.pool inv r a next (record { block = a.block; tip = c.tip_by-tip.result }) refl c.tip_by-tip.ensures),
    )

pub returns-clause-appended : goal.returns-clause-appended
returns-clause-appended g c =
    let s = c.self.inside in let a = attestation_view c.args.attestation in
    let r : RowItem = record { pass = c.args.pass; leaf = c.in-Ok-draw.leaf; pages = 0; entry = c.args.text } in
    get_view s.store s.index s.pages s.closings s.first s.items.items c.push_reserved-2.new.self.items (λ b. content_in s.pool (run_at s.standings b)) (λ b. content_in s.pool (run_at c.set_tip.new.standings b)) r a
    (carried (λ v. IsNext v.store v.index v.items a c.args.text) _ _ c.self.view_is c.requires.next) c.requires.get
    (c.push_reserved-2.ensures.items ∙ ap (λ xs. xs ++ row_item r ∷ []) c.in-Ok.ensures.items) (λ b. ap (content_in s.pool) (c.set_tip.ensures.runs b ∙ c.in-Ok.ensures.runs b))
    ∙ ap (λ (v : ShardModel). record v { items = v.items ++ row_item r ∷ [] }) c.self.view_is
