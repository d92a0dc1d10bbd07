-- What is signed leads to the public key: the steps up to a coef and those after it are all steps.
use Rattle.std.proofs.Common.{◌≡◌, ℕ, zero, suc, ◌+◌, ◌-◌, ◌*◌, ◌≤◌, ◌<◌, List, ◌∷◌, ◌++◌, add-one, append_assoc, length, take, drop, refl, ap, sym, ◌∙◌, arith, length-append, length-drop, below_more}
use Rattle.std.proofs.Math.Seq.{drop-append-add}
use Rattle.std.proofs.Math.Nat.{add-suc, add-zero}
use Rattle.std.proofs.lemmas.List.{append-nil, take_at, drop_at, take_all, take-append-le, drop-append-le}
use Rattle.std.proofs.lemmas.Nat.{and_le_l, from_be_bytes-to_be_bytes_4}
use Rattle.std.specs.Int.{w32, from_be_bytes}
use Rattle.sha2.specs.Sha256.{sha256}
use Rattle.sha2.proofs.Facts256.{length-sha256}
use Rattle.lms_ots.specs.declared.ots_type.OtsType.{OtsType}
use Rattle.lms_ots.specs.Parameters.{max_digit, width_of, chains_of, code_of, sig_len_of}
use Rattle.lms_ots.specs.Ots.{steps, tagged, chain, coef, y_at, candidate_ends, key_hash, candidate, sig_randomizer, IsOtsSignature}
use Rattle.lms_ots.specs.Signing.{secret_start, randomizer_of, public_ends, one_time_key, signed_chains, signed_head, signed_digits, ots_signature}
use Rattle.lms_ots.proofs.Types.{code_fits}

pub drop-beyond : (a b : List ℕ) (n k : ℕ) → length a ≡ n → drop (n + k) (a ++ b) ≡ drop k b
drop-beyond a b n k long = rw (← long) (drop-append-add a b k)

pub public_ends-none : (id : List ℕ) (q w : ℕ) (secret front : List ℕ) → front ++ public_ends id q w secret 0 ≡ front
unfolding public_ends
public_ends-none id q w secret front = append-nil front

pub public_ends-more : (id : List ℕ) (q w : ℕ) (secret front : List ℕ) (i : ℕ) (d : List ℕ) → d ≡ chain id q i 0 (max_digit w) (secret_start id q i secret)
    → front ++ public_ends id q w secret (i + 1) ≡ front ++ public_ends id q w secret i ++ d
unfolding public_ends
public_ends-more id q w secret front i d d_is = rw (add-one, d_is) (sym (append_assoc front (public_ends id q w secret i) _))

-- ---- steps add up

pub steps-add : (id : List ℕ) (q i first a b : ℕ) (x : List ℕ) → steps id q i first (a + b) x ≡ steps id q i (first + a) b (steps id q i first a x)
unfolding steps
steps-add id q i first a zero x = rw add-zero refl
steps-add id q i first a (suc b) x =
    let eq : first + (a + b) ≡ first + a + b = omega arith in
    rw (add-suc a b, eq) (ap (λ y. sha256 (tagged id q i ++ ((first + a + b) ∷ y))) (steps-add id q i first a b x))

pub chain-add : (id : List ℕ) (q i d e : ℕ) (x : List ℕ) → d ≤ e → chain id q i d e (chain id q i 0 d x) ≡ chain id q i 0 e x
chain-add id q i d e x le =
    let d_is : d - 0 ≡ d = omega arith in
    let e_is : e - 0 ≡ d + (e - d) = omega arith in
    let from_zero : 0 + d ≡ d = omega arith in
    rw (d_is, e_is) (sym (steps-add id q i 0 d (e - d) x ∙ ap (λ f. steps id q i f (e - d) (steps id q i 0 d x)) from_zero))

-- ---- a coef is at most the last step

pub coef-max_digit : (s : List ℕ) (i w : ℕ) → coef s i w ≤ max_digit w
unfolding coef
coef-max_digit s i w = and_le_l _ _

-- ---- lengths

pub steps-long : (id : List ℕ) (q i first n : ℕ) (x : List ℕ) → length x ≡ 32 → length (steps id q i first n x) ≡ 32
unfolding steps
steps-long id q i first zero x long = long
steps-long id q i first (suc n) x long = length-sha256 _

pub part-long : (id : List ℕ) (q i d : ℕ) (secret : List ℕ) → length (chain id q i 0 d (secret_start id q i secret)) ≡ 32
part-long id q i d secret = steps-long id q i 0 (d - 0) _ (length-sha256 (tagged id q i ++ (255 ∷ secret)))

pub parts-long : (id : List ℕ) (q w : ℕ) (s secret : List ℕ) (n : ℕ) → length (signed_chains id q w s secret n) ≡ 32 * n
unfolding signed_chains
parts-long id q w s secret zero = refl
parts-long id q w s secret (suc n) =
    rw length-append (omega (arith, parts-long id q w s secret n, part-long id q n (coef s n w) secret))

-- ---- part i of what is signed

pub part-before : (id : List ℕ) (q w : ℕ) (s secret : List ℕ) (n i : ℕ) → i < n
    → take 32 (drop (32 * i) (signed_chains id q w s secret (suc n))) ≡ take 32 (drop (32 * i) (signed_chains id q w s secret n))
unfolding signed_chains
part-before id q w s secret n i lt =
    let long : length (signed_chains id q w s secret n) ≡ 32 * n = parts-long id q w s secret n in
    let here : 32 * i ≤ length (signed_chains id q w s secret n) = omega arith in
    let enough : 32 ≤ length (drop (32 * i) (signed_chains id q w s secret n)) = rw length-drop (omega arith) in
    rw (drop-append-le (32 * i) (signed_chains id q w s secret n) _ here, take-append-le 32 (drop (32 * i) (signed_chains id q w s secret n)) _ enough) refl

pub part-last : (id : List ℕ) (q w : ℕ) (s secret : List ℕ) (n : ℕ)
    → take 32 (drop (32 * n) (signed_chains id q w s secret (suc n))) ≡ chain id q n 0 (coef s n w) (secret_start id q n secret)
unfolding signed_chains
part-last id q w s secret n =
    rw (drop_at (signed_chains id q w s secret n) _ (32 * n) (parts-long id q w s secret n))
    (take_all 32 _ (omega (arith, part-long id q n (coef s n w) secret)))

pub part-of : (id : List ℕ) (q w : ℕ) (s secret : List ℕ) (n i : ℕ) → i < n
    → take 32 (drop (32 * i) (signed_chains id q w s secret n)) ≡ chain id q i 0 (coef s i w) (secret_start id q i secret)
part-of id q w s secret zero i lt = absurd (omega arith)
part-of id q w s secret (suc n) i lt =
    below_more
    (λ k. take 32 (drop (32 * k) (signed_chains id q w s secret (suc n))) ≡ chain id q k 0 (coef s k w) (secret_start id q k secret)) n
    (λ k k_lt. part-before id q w s secret n k k_lt ∙ part-of id q w s secret n k k_lt)
    (part-last id q w s secret n) i (omega arith)

-- ---- the candidate_ends that a verifier reaches

pub candidate_ends-reached : (id : List ℕ) (q w : ℕ) (s secret sig : List ℕ) (n : ℕ)
    → ((i : ℕ) → i < n → y_at sig i ≡ chain id q i 0 (coef s i w) (secret_start id q i secret))
    → candidate_ends id q w s sig n ≡ public_ends id q w secret n
unfolding candidate_ends public_ends
candidate_ends-reached id q w s secret sig zero parts = refl
candidate_ends-reached id q w s secret sig (suc n) parts =
    let before : candidate_ends id q w s sig n ≡ public_ends id q w secret n = candidate_ends-reached id q w s secret sig n (λ i lt. parts i (omega arith)) in
    let here : y_at sig n ≡ chain id q n 0 (coef s n w) (secret_start id q n secret) = parts n (omega arith) in
    rw (before, here, chain-add id q n (coef s n w) (max_digit w) (secret_start id q n secret) (coef-max_digit s n w)) refl

-- ---- the parts of a signature

pub head-long : (t : OtsType) (id : List ℕ) (q : ℕ) (secret : List ℕ) → length (signed_head t id q secret) ≡ 36
head-long t id q secret = rw length-append (omega (arith, length-sha256 (tagged id q 0xfffd ++ (255 ∷ secret))))

pub signature-long : (t : OtsType) (id : List ℕ) (q : ℕ) (secret text : List ℕ) → length (ots_signature t id q secret text) ≡ sig_len_of t
unfolding ots_signature
signature-long t id q secret text =
    rw length-append (omega (arith, head-long t id q secret, parts-long id q (width_of t) (signed_digits t id q secret text) secret (chains_of t)))

pub signature-code : (t : OtsType) (id : List ℕ) (q : ℕ) (secret text : List ℕ) → from_be_bytes w32 (take 4 (ots_signature t id q secret text)) ≡ code_of t
unfolding ots_signature
signature-code t id q secret text = from_be_bytes-to_be_bytes_4 (code_of t) (code_fits t)

pub signature-randomizer : (t : OtsType) (id : List ℕ) (q : ℕ) (secret text : List ℕ) → sig_randomizer (ots_signature t id q secret text) ≡ randomizer_of id q secret
unfolding ots_signature
signature-randomizer t id q secret text = take_at (randomizer_of id q secret) _ 32 (length-sha256 _)

pub signature-part : (t : OtsType) (id : List ℕ) (q : ℕ) (secret text : List ℕ) (i : ℕ) → i < chains_of t
    → y_at (ots_signature t id q secret text) i
    ≡ chain id q i 0 (coef (signed_digits t id q secret text) i (width_of t)) (secret_start id q i secret)
unfolding ots_signature
signature-part t id q secret text i lt =
    ap (take 32) (drop-beyond (signed_head t id q secret) (signed_chains id q (width_of t) (signed_digits t id q secret text) secret (chains_of t)) 36 (32 * i) (head-long t id q secret))
    ∙ part-of id q (width_of t) (signed_digits t id q secret text) secret (chains_of t) i lt

pub form : (t : OtsType) (id : List ℕ) (q : ℕ) (secret text : List ℕ) → IsOtsSignature t (ots_signature t id q secret text)
form t id q secret text = (signature-long t id q secret text, signature-code t id q secret text)

pub leads : (t : OtsType) (id : List ℕ) (q : ℕ) (secret text : List ℕ)
    → candidate t id q text (ots_signature t id q secret text) ≡ one_time_key t id q secret
unfolding candidate one_time_key
leads t id q secret text =
    rw (signature-randomizer t id q secret text)
    (ap (key_hash id q) (candidate_ends-reached id q (width_of t) (signed_digits t id q secret text) secret (ots_signature t id q secret text) (chains_of t)
    (signature-part t id q secret text)))

pub ruleset signed_leads = (form, leads)
