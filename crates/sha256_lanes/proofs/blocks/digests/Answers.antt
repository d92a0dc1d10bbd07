use Rattle.std.proofs.Common.{◌∙◌, ap, sym, slice_index, slice_index_or, []}
use Rattle.sha2.specs.Sha256.{compress, digest_bytes}
use Rattle.sha2.proofs.Schedule256.{slice_index-first_words}
use Rattle.sha256_lanes.proofs.LaneLemmas.{one_block}
use Rattle.sha256_lanes.proofs.blocks.digests.Goals as goal

pub returns : goal.returns
returns c = λ m j lt short padded.
    let b = slice_index_or c.args.blocks.now j [] in
    let words = c.gathered-words.ensures j lt in
    let begun = c.start.ensures j lt in
    let hash = c.compress-h.ensures b j lt (λ k below. ap (λ l. slice_index l k) words ∙ slice_index-first_words b 16 k below) in
    c.digests_of.ensures j lt ∙ ap (λ h. digest_bytes h 8) (hash ∙ ap (λ h. compress h b) begun) ∙ sym (one_block m b short padded)
