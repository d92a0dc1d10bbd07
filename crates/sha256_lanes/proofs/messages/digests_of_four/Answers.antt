use Rattle.std.proofs.Common.{◌≡◌, ◌∙◌, ℕ, List, [], ◌∷◌, ◌*◌, take, drop, slice_index, slice_index_or, ap, ap₂, sym, arith}
use Rattle.sha2.specs.Sha256.{compress, digest_bytes, hash_after, initial_hash_256, padded_message}
use Rattle.sha2.proofs.Absorbing256.{hash_after_next}
use Rattle.sha2.proofs.Schedule256.{slice_index-first_words}
use Rattle.sha256_lanes.proofs.BlockLemmas.{all_blocks}
use Rattle.sha256_lanes.proofs.LaneLemmas.{below_four}
use Rattle.sha256_lanes.proofs.messages.digests_of_four.Goals as goal

pub turns-init : goal.turns-init
unfolding hash_after
turns-init c = c.start-h.ensures

pub block_of-requires-in-turns-clause-within : goal.block_of-requires-in-turns-clause-within
block_of-requires-in-turns-clause-within c = omega (arith, c.requires 1 (omega arith), c.requires 2 (omega arith), c.requires 3 (omega arith))

pub block_of-requires-in-turns-2-clause-within : goal.block_of-requires-in-turns-2-clause-within
block_of-requires-in-turns-2-clause-within c = omega (arith, c.requires 1 (omega arith), c.requires 2 (omega arith), c.requires 3 (omega arith))

pub block_of-requires-in-turns-3-clause-within : goal.block_of-requires-in-turns-3-clause-within
block_of-requires-in-turns-3-clause-within c = omega (arith, c.requires 1 (omega arith), c.requires 2 (omega arith), c.requires 3 (omega arith))

pub turns-preserved : goal.turns-preserved
turns-preserved c = λ j lt.
    let messages = c.args.first.now ∷ c.args.second.now ∷ c.args.third.now ∷ c.args.fourth.now ∷ [] in
    let n = c.turns.n in
    let padded : ℕ → List ℕ = λ i. padded_message (slice_index_or messages i []) in
    let blocks = c.block_of.result ∷ c.block_of-in-turns.result ∷ c.block_of-in-turns-2.result ∷ c.block_of-in-turns-3.result ∷ [] in
    let block : slice_index_or blocks j [] ≡ take 64 (drop (n * 64) (padded j)) =
    below_four (λ i. slice_index_or blocks i [] ≡ take 64 (drop (n * 64) (padded i))) c.block_of.ensures c.block_of-in-turns.ensures
    c.block_of-in-turns-2.ensures c.block_of-in-turns-3.ensures j lt in
    let b = slice_index_or blocks j [] in
    let words = c.gathered.ensures j lt in
    c.compress-h.ensures b j lt (λ k below. ap (λ l. slice_index l k) words ∙ slice_index-first_words b 16 k below)
    ∙ ap₂ compress (c.turns.invariant j lt) block
    ∙ sym (hash_after_next initial_hash_256 (padded j) n)

pub returns : goal.returns
returns c = λ j lt.
    let m = slice_index_or (c.args.first.now ∷ c.args.second.now ∷ c.args.third.now ∷ c.args.fourth.now ∷ []) j [] in
    c.digests_of.ensures j lt ∙ ap (λ h. digest_bytes h 8) (c.turns.invariant j lt) ∙ sym (all_blocks m c.turns.n (omega (arith, c.requires j lt)))
