-- Words of vectors, lane by lane.
use Rattle.std.proofs.Common.{◌≡◌, ◌∙◌, ℕ, zero, suc, ◌<◌, ◌-◌, ◌*◌, ◌/◌, ◌%◌, ◌^◌, List, [], length, replicate, slice_index, slice_index_or, slice_set, bit_or, arith, refl, sym, ap, ap₂}
use Rattle.std.specs.Simd.Lanes.{zip2}
use Rattle.std.specs.Int.{w32, rotate_right, to_be_bytes, w64}
use Rattle.std.proofs.lemmas.Simd.{zip2_splat, zip2-map, length-replicate}
use Rattle.std.proofs.lemmas.List.{get_or-map as mapped, map-set}
use Rattle.std.proofs.Math.ListN.{get_or-map}
use Rattle.std.proofs.lemmas.List.{take_all, length-append}
use Rattle.sha2.specs.Sha256.{compress, digest_bytes, hash_after, initial_hash_256, padded_message, padding, sha256}
use Rattle.sha256_lanes.specs.Lanes.{lane}

-- word k of lane j
pub word_of : (j k : ℕ) (x : List (List ℕ)) → slice_index (lane j x) k ≡ slice_index (slice_index_or x k []) j
word_of j k x = get_or-map (λ v. slice_index v j) x k []

-- a word written is a word written in each lane
pub word_set : (j k : ℕ) (x : List (List ℕ)) (y : List ℕ) → lane j (slice_set x k y) ≡ slice_set (lane j x) k (slice_index y j)
word_set j k x y = map-set (λ v. slice_index v j) x k y

-- two shifts of each lane and an or are a rotation
pub shifts_rotate : (n k : ℕ) → 0 < k → k < 32 → (a : List ℕ) → length a ≡ n → (j : ℕ) → j < n
    → slice_index (zip2 bit_or (zip2 (λ x s. x / 2 ^ s) a (replicate n k)) (zip2 (λ x s. x * 2 ^ s % 2 ^ 32) a (replicate n (32 - k)))) j
    ≡ rotate_right w32 (slice_index a j) k
shifts_rotate n k low high a len j lt =
    let left : k % 32 ≡ k = omega arith in
    let right : (32 - k) % 32 ≡ 32 - k = omega arith in
    let within : j < length a = omega arith in
    ap (λ l. slice_index l j)
    (ap₂ (zip2 bit_or) (zip2_splat (λ x s. x / 2 ^ s) a n k len) (zip2_splat (λ x s. x * 2 ^ s % 2 ^ 32) a n (32 - k) len)
    ∙ zip2-map bit_or (λ x. x / 2 ^ k) (λ x. x * 2 ^ (32 - k) % 2 ^ 32) a)
    ∙ mapped (λ x. bit_or (x / 2 ^ k) (x * 2 ^ (32 - k) % 2 ^ 32)) a j 0 0 within
    ∙ rw (left, right) refl

pub shifts : (n k : ℕ) (a : List ℕ) → length a ≡ n → (j : ℕ) → j < n
    → slice_index (zip2 (λ x s. x / 2 ^ s) a (replicate n k)) j ≡ slice_index a j / 2 ^ k
shifts n k a len j lt =
    ap (λ l. slice_index l j) (zip2_splat (λ x s. x / 2 ^ s) a n k len) ∙ mapped (λ x. x / 2 ^ k) a j 0 0 (omega arith)

-- what holds of each of the four lanes
pub below_four : (P : ℕ → Type 0) → P 0 → P 1 → P 2 → P 3 → (j : ℕ) → j < 4 → P j
below_four P p0 p1 p2 p3 zero h = p0
below_four P p0 p1 p2 p3 (suc zero) h = p1
below_four P p0 p1 p2 p3 (suc (suc zero)) h = p2
below_four P p0 p1 p2 p3 (suc (suc (suc zero))) h = p3
below_four P p0 p1 p2 p3 (suc (suc (suc (suc n)))) h = absurd (omega arith)

-- a message of one block is hashed by one compression
pub one_block : (m b : List ℕ) → length m < 56 → b ≡ padded_message m → sha256 m ≡ digest_bytes (compress initial_hash_256 b) 8
unfolding sha256 hash_after
one_block m b short e =
    let zeros : ℕ = (119 - length m % 64) % 64 in
    let tail : List ℕ = to_be_bytes w64 (length m * 8 % 2 ^ 64) in
    let eight : length tail ≡ 8 = refl in
    let long : length (padded_message m) ≡ 64 =
    omega (arith, length-append m (padding (length m)), length-append (replicate zeros 0) tail, length-replicate {A = ℕ} zeros 0, eight) in
    let one : length (padded_message m) / 64 ≡ 1 = omega (arith, long) in
    ap (λ n. digest_bytes (hash_after initial_hash_256 (padded_message m) n) 8) one
    ∙ ap (λ x. digest_bytes (compress initial_hash_256 x) 8) (take_all 64 (padded_message m) (omega (arith, long)) ∙ sym e)
