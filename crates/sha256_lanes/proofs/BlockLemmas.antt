-- The blocks of a padded message.
use Rattle.std.proofs.Common.{◌≡◌, ◌∙◌, ℕ, ◌<◌, ◌≤◌, ◌+◌, ◌-◌, ◌*◌, ◌/◌, ◌%◌, ◌^◌, List, ◌∷◌, ◌++◌, length, take, drop, replicate, append_assoc, arith, refl, sym, ap}
use Rattle.std.specs.Int.{w64, to_be_bytes}
use Rattle.std.proofs.lemmas.List.{drop-append-le, drop-drop, drop-take, take-append-le, take-take, take_at, length-append, length-drop}
use Rattle.std.proofs.lemmas.Simd.{length-replicate}
use Rattle.std.proofs.lemmas.Slice.{take-put_mid}
use Rattle.sha2.specs.Sha256.{digest_bytes, hash_after, initial_hash_256, padded_message, padding, sha256}
use borrow.Rule.Slice.PartMut.{put_mid}

-- the bytes behind the whole blocks, the padding's first bytes and the length, written one after another
pub tail_written : (m rest mark bits x : List ℕ) (left mid b c n : ℕ) → rest ≡ drop (length m / 64 * 64) m
    → mark ≡ 0x80 ∷ replicate ((119 - length m % 64) % 64) 0 → bits ≡ to_be_bytes w64 (length m * 8 % 2 ^ 64)
    → left ≡ length rest → mid ≡ left + length mark → n ≡ mid + length bits → mid ≤ length (put_mid left b (rest ++ x) mark)
    → take n (put_mid mid c (put_mid left b (rest ++ x) mark) bits) ≡ drop (length m / 64 * 64) (padded_message m)
tail_written m rest mark bits x left mid b c n rest_is mark_is bits_is left_is mid_is n_is room =
    let whole : ℕ = length m / 64 * 64 in
    let t : List ℕ = put_mid left b (rest ++ x) mark in
    let first : take left (rest ++ x) ≡ rest = take_at rest x left (sym left_is) in
    let second : take mid t ≡ rest ++ mark = take-put_mid left b (rest ++ x) mark mid mid_is (omega (arith, length-append rest x)) ∙ ap (λ y. y ++ mark) first in
    let third : take n (put_mid mid c t bits) ≡ (rest ++ mark) ++ bits = take-put_mid mid c t bits n n_is room ∙ ap (λ y. y ++ bits) second in
    let padded : drop whole (padded_message m) ≡ drop whole m ++ padding (length m) = drop-append-le whole m (padding (length m)) (omega arith) in
    third ∙ append_assoc rest mark bits ∙ rw (rest_is, mark_is, bits_is) (sym padded)

-- a block of the message itself
pub block_whole : (m : List ℕ) (n : ℕ) → n < length m / 64 → take 64 (drop (n * 64) (padded_message m)) ≡ take 64 (drop (n * 64) m)
block_whole m n lt =
    let fits : 64 ≤ length (drop (n * 64) m) = omega (arith, length-drop (n * 64) m) in
    ap (take 64) (drop-append-le (n * 64) m (padding (length m)) (omega arith)) ∙ take-append-le 64 (drop (n * 64) m) _ fits

-- a block behind them
pub block_behind : (m tail : List ℕ) (n : ℕ) → length m / 64 ≤ n → n < (length m + 8) / 64 + 1
    → take (64 * ((length m % 64 + 8) / 64 + 1)) tail ≡ drop (length m / 64 * 64) (padded_message m)
    → take 64 (drop (n * 64) (padded_message m)) ≡ take 64 (drop ((n - length m / 64) * 64) tail)
block_behind m tail n le lt tail_is =
    let at : ℕ = (n - length m / 64) * 64 in
    let all : ℕ = 64 * ((length m % 64 + 8) / 64 + 1) in
    let there : length m / 64 * 64 + at ≡ n * 64 = omega arith in
    let room : 64 ≤ all - at = omega arith in
    let parts : all ≡ at + (all - at) = omega arith in
    ap (λ k. take 64 (drop k (padded_message m))) (sym there)
    ∙ ap (take 64) (sym (drop-drop at (length m / 64 * 64) (padded_message m)) ∙ ap (drop at) (sym tail_is ∙ ap (λ k. take k tail) parts)
    ∙ drop-take at (all - at) tail)
    ∙ take-take 64 (all - at) (drop at tail) room

-- the digest after all blocks
pub all_blocks : (m : List ℕ) (n : ℕ) → n ≡ (length m + 8) / 64 + 1 → sha256 m ≡ digest_bytes (hash_after initial_hash_256 (padded_message m) n) 8
unfolding sha256
all_blocks m n n_is =
    let zeros : ℕ = (119 - length m % 64) % 64 in
    let tail : List ℕ = to_be_bytes w64 (length m * 8 % 2 ^ 64) in
    let eight : length tail ≡ 8 = refl in
    let long : length (padded_message m) / 64 ≡ n =
    omega (arith, length-append m (padding (length m)), length-append (replicate zeros 0) tail, length-replicate {A = ℕ} zeros 0, eight) in
    ap (λ k. digest_bytes (hash_after initial_hash_256 (padded_message m) k) 8) long
