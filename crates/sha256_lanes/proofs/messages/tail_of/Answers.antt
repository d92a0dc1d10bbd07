use Rattle.std.proofs.Common.{◌≡◌, ◌∙◌, ◌-◌, ◌*◌, ◌/◌, ◌%◌, suc, ℕ, length, drop, rules, arith, ap}
use Rattle.std.proofs.lemmas.List.{length-drop, take_rest}
use Rattle.std.proofs.lemmas.Slice.{overwrites}
use Rattle.std.proofs.lemmas.Simd.{length-replicate}
use Rattle.sha256_lanes.proofs.BlockLemmas.{tail_written}
use Rattle.sha256_lanes.proofs.messages.tail_of.Goals as goal

pub returns : goal.returns
returns c =
    let m = c.args.message.now in
    let whole = length m / 64 * 64 in
    let left = length m % 64 in
    let zeros = (119 - left) % 64 in
    let rest_is : c.copy_from_slice.new.self ≡ drop whole m = c.copy_from_slice.ensures.after ∙ take_rest m whole in
    let mark_is = c.copy_from_slice-2.ensures.after ∙ c.padding-mark.ensures in
    let bits_is = c.copy_from_slice-3.ensures.after ∙ c.to_be_bytes.ensures in
    let mark_long : length c.padding-mark.result.now ≡ suc zeros = ap length c.padding-mark.ensures ∙ ap suc (length-replicate {A = ℕ} zeros 0) in
    let same : length c.copy_from_slice-2.new.self ≡ length c.padding-mark.result.now = ap length c.copy_from_slice-2.ensures.after in
    let bits_long : length c.copy_from_slice-3.new.self ≡ 8 = ap length bits_is in
    let rest_long : length c.copy_from_slice.new.self ≡ left = ap length rest_is ∙ length-drop whole m ∙ omega arith in
    tail_written m _ _ _ _ _ _ _ _ _ rest_is mark_is bits_is (omega arith) (omega arith) (omega arith) (search (rules, overwrites))
