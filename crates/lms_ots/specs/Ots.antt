-- LM-OTS over SHA-256 with 32-byte hashes (RFC 8554, section 4): what signer and verifier share, and
-- the verifier's candidate. A text is the list of its bytes, and numbers are big endian.
use Rattle.std.specs.Prelude.{◌≡◌, ℕ, zero, suc, ◌+◌, ◌-◌, ◌*◌, ◌/◌, ◌%◌, ◌^◌, List, [], ◌∷◌, ◌++◌, length, take, drop, bit_and, slice_index}
use Rattle.std.specs.Int.{w16, w32, to_be_bytes, from_be_bytes}
use Rattle.sha2.specs.Sha256.{sha256}
use Rattle.lms_ots.specs.declared.ots_type.OtsType.{OtsType}
use Rattle.lms_ots.specs.Parameters.{width_of, code_of, chains_of, shift_of, max_digit, sig_len_of}

-- ---- digits (3.1.3) and their checksum (4.4)

-- coef(S, i, w), the digit i of w bits of S
unfoldable pub coef : List ℕ → ℕ → ℕ → ℕ
coef s i w = bit_and (2 ^ w - 1) (slice_index s (i * w / 8) / 2 ^ (8 - (w * (i % (8 / w)) + w)))

-- the sum of (2^w - 1) - coef(S, i, w) over the first n digits (4.4, the loop of algorithm 2)
unfoldable pub cksm_sum : List ℕ → ℕ → ℕ → ℕ
cksm_sum s w zero = 0
cksm_sum s w (suc n) = cksm_sum s w n + (max_digit w - coef s n w)

-- Cksm(S) of 32 bytes S: that sum over all digits, shifted left by ls (4.4, algorithm 2)
unfoldable pub cksm : List ℕ → ℕ → ℕ
cksm s w = cksm_sum s w (256 / w) * 2 ^ shift_of w

-- S || Cksm(S), whose digits are those that a signature shows
abbrev pub with_cksm : List ℕ → ℕ → List ℕ
with_cksm s w = s ++ to_be_bytes w16 (cksm s w)

-- ---- hashed texts

-- Each hashed text begins with the key's identifier I, a number of 32 bits and one of 16 bits, which
-- is a chain's number or one of the constants below.
abbrev pub tagged : List ℕ → ℕ → ℕ → List ℕ
tagged id number tag = id ++ to_be_bytes w32 number ++ to_be_bytes w16 tag

-- D_PBLC (4.3)
abbrev pub d_pblc : ℕ
d_pblc = 0x8080

-- D_MESG (4.5)
abbrev pub d_mesg : ℕ
d_mesg = 0x8181

-- the text that is hashed to Q: a text with the randomizer C (4.5, algorithm 3, step 5)
abbrev pub message_text : List ℕ → ℕ → List ℕ → List ℕ → List ℕ
message_text id q randomizer text = tagged id q d_mesg ++ randomizer ++ text

-- Q
unfoldable pub message_hash : List ℕ → ℕ → List ℕ → List ℕ → List ℕ
message_hash id q randomizer text = sha256 (message_text id q randomizer text)

-- the text that is hashed to K: all chains' ends, joined (4.3, algorithm 1, step 4)
abbrev pub key_text : List ℕ → ℕ → List ℕ → List ℕ
key_text id q ends = tagged id q d_pblc ++ ends

-- K, or a candidate for it
abbrev pub key_hash : List ℕ → ℕ → List ℕ → List ℕ
key_hash id q ends = sha256 (key_text id q ends)

-- ---- chains (4.3, 4.5 and 4.6)

-- the text that step j of chain i hashes
abbrev pub step_text : List ℕ → ℕ → ℕ → ℕ → List ℕ → List ℕ
step_text id q i j x = tagged id q i ++ (j ∷ x)

-- step j of chain i
abbrev pub step : List ℕ → ℕ → ℕ → ℕ → List ℕ → List ℕ
step id q i j x = sha256 (step_text id q i j x)

-- n steps of chain i, the first of which has the number `first`
unfoldable pub steps : List ℕ → ℕ → ℕ → ℕ → ℕ → List ℕ → List ℕ
steps id q i first zero x = x
steps id q i first (suc n) x = step id q i (first + n) (steps id q i first n x)

-- chain i from step `from` up to and without step `to`
abbrev pub chain : List ℕ → ℕ → ℕ → ℕ → ℕ → List ℕ → List ℕ
chain id q i from to x = steps id q i from (to - from) x

-- ---- a signature (4.5): the type code, C and y[0] to y[p-1]

-- length and type code are those of the type
abbrev pub IsOtsSignature : OtsType → List ℕ → Type 0
IsOtsSignature t sig = (length sig ≡ sig_len_of t) × (from_be_bytes w32 (take 4 sig) ≡ code_of t)

-- C
abbrev pub sig_randomizer : List ℕ → List ℕ
sig_randomizer sig = take 32 (drop 4 sig)

-- y[i]
abbrev pub y_at : List ℕ → ℕ → List ℕ
y_at sig i = take 32 (drop (36 + 32 * i) sig)

-- ---- the candidate (4.6, algorithm 4b)

-- z[0] to z[n-1], joined: chain i goes on from y[i], at its digit of s, to its end
unfoldable pub candidate_ends : List ℕ → ℕ → ℕ → List ℕ → List ℕ → ℕ → List ℕ
candidate_ends id q w s sig zero = []
candidate_ends id q w s sig (suc n) = candidate_ends id q w s sig n ++ chain id q n (coef s n w) (max_digit w) (y_at sig n)

-- Kc, the candidate for the one-time public key
unfoldable pub candidate : OtsType → List ℕ → ℕ → List ℕ → List ℕ → List ℕ
candidate t id q text sig =
    key_hash id q (candidate_ends id q (width_of t) (with_cksm (message_hash id q (sig_randomizer sig) text) (width_of t)) sig (chains_of t))
