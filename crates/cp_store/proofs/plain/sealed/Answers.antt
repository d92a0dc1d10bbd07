use Rattle.std.proofs.Common.{◌≡◌, ◌-◌, ◌∙◌, refl, sym, ap, subst, get_or, length, [], List, Some}
use Rattle.cp_core.specs.Honest.{last_of}
use Rattle.cp_core.specs.Sealing.{families_at}
use Rattle.cp_closer.specs.Closer.{seal_item}
use Rattle.cp_core.specs.declared.chronicle.Chronicle.{Chronicle}
use Rattle.cp_core.specs.declared.item.Item.{Item}
use Rattle.cp_core.specs.declared.seal_item.SealItem.{SealItem}
use Rattle.cp_closer.specs.declared.sealed_text.SealedText.{SealedText}
use Rattle.cp_shard.proofs.ShortRows.{shard_short}
use Rattle.cp_shard.specs.Laws.{HasShortRows}
use Rattle.cp_store.proofs.Closings.{last_seal, last_sealed, seal_length, sealed_count}
use Rattle.cp_store.proofs.plain.sealed.Goals as goal

pub log-requires-clause-short : goal.log-requires-clause-short
log-requires-clause-short c = λ k lt. subst (λ (xs : List (List Item)). HasShortRows (get_or xs k [])) (sym c.as_slice.ensures) (shard_short c.args.core.now.store k (get_or c.life-life.result.now.shards k []) (c.life-life.ensures.honest.shards k lt))

pub closing_text-requires : goal.closing_text-requires
closing_text-requires c =
    let count : length c.life-life.result.now.seals ≡ c.args.epoch = ap (λ (r : Chronicle). length r.seals) c.life-life.ensures.life ∙ sealed_count c.args.core.now c.args.epoch c.life-life.ensures.keeps c.requires.closed in
    ap length c.as_slice-2.ensures
    ∙ seal_length c.args.core.now.store c.life-life.result.now c.args.epoch c.index-seals-epoch.result
    (last_seal c.args.core.now.store c.life-life.result.now c.args.epoch (c.args.epoch - 1) c.index-seals-epoch.result c.life-life.ensures.honest c.requires.some count refl
    (c.index-seals-epoch.is ∙ ap (λ (xs : List SealItem). get_or xs (c.args.epoch - 1) c.index-seals-epoch.result) c.as_slice-seals.ensures))

pub returns-clause-seal : goal.returns-clause-seal
returns-clause-seal c =
    let count : length c.life-life.result.now.seals ≡ c.args.epoch = ap (λ (r : Chronicle). length r.seals) c.life-life.ensures.life ∙ sealed_count c.args.core.now c.args.epoch c.life-life.ensures.keeps c.requires.closed in
    let text : SealedText = record { leaf = c.index-seals-epoch.result.leaf; text = c.closing_text.result; table = c.in_ok-table.table; log = c.from_vec.result } in
    ap (λ (r : Chronicle). last_of r.seals) (sym c.life-life.ensures.life)
    ∙ last_sealed c.args.core.now.store c.life-life.result.now c.args.epoch c.index-seals-epoch.result text
    (last_seal c.args.core.now.store c.life-life.result.now c.args.epoch (c.args.epoch - 1) c.index-seals-epoch.result c.life-life.ensures.honest c.requires.some count refl
    (c.index-seals-epoch.is ∙ ap (λ (xs : List SealItem). get_or xs (c.args.epoch - 1) c.index-seals-epoch.result) c.as_slice-seals.ensures))
    refl (c.closing_text.ensures ∙ c.as_slice-2.ensures) c.in_ok-table.ensures
    ∙ ap (λ (r : Chronicle). Some (seal_item c.args.epoch (families_at c.args.core.now.store r c.args.epoch) text)) c.life-life.ensures.life
