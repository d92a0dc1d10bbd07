use Rattle.std.proofs.Common.{◌≡◌, ◌∙◌, ℕ, ◌+◌, ◌++◌, ◌∷◌, [], List, length, take, slice_index, slice_index_or, refl, ap, arith}
use Rattle.std.proofs.lemmas.List.{length-append, take_at}
use Rattle.std.specs.Int.{w16, w32, to_be_bytes}
use Rattle.lms_ots.specs.Ots.{steps, tagged}
use Rattle.lms_ots.proofs.SideBySide.{steps-next}
use Rattle.lms_ots.proofs.lanes.four.steps_of_texts.Goals as goal

pub steps-init : goal.steps-init
unfolding steps
steps-init c = λ id q i j long lt text. (text, refl)

pub steps-preserved : goal.steps-preserved
steps-preserved c = λ id q i j long lt text.
    let held = c.steps.invariant id q i j long lt text in
    let behind : List ℕ = (slice_index c.args.first.now j + c.steps.k) ∷ slice_index_or c.steps.values j [] in
    let message_is : slice_index_or c.put_steps.new.messages j [] ≡ tagged id q i ++ behind = c.put_steps.ensures j lt ∙ ap (λ y. y ++ behind) held.0 in
    let number : length (to_be_bytes w32 q) ≡ 4 = refl in
    let tag : length (to_be_bytes w16 i) ≡ 2 = refl in
    let front_len : length (tagged id q i) ≡ 22
    = omega (arith, length-append (id ++ to_be_bytes w32 q) (to_be_bytes w16 i), length-append id (to_be_bytes w32 q), number, tag, long) in (
      ap (take 22) message_is ∙ take_at (tagged id q i) behind 22 front_len,
      steps-next _ _ _ _ _ _ _ _ _ message_is held.1 (c.digests_of_55-next.ensures j lt),
    )
