-- Making LM-OTS keys and signatures from a secret seed (RFC 8554, 4.3, 4.5 and Appendix A).
use Rattle.std.specs.Prelude.{ℕ, zero, suc, List, [], ◌++◌}
use Rattle.std.specs.Int.{w32, to_be_bytes}
use Rattle.lms_ots.specs.declared.ots_type.OtsType.{OtsType}
use Rattle.lms_ots.specs.Parameters.{width_of, chains_of, code_of, max_digit}
use Rattle.lms_ots.specs.Ots.{step, chain, coef, with_cksm, message_hash, key_hash}

-- x[i], the secret start of chain i (Appendix A)
abbrev pub secret_start : List ℕ → ℕ → ℕ → List ℕ → List ℕ
secret_start id q i secret = step id q i 0xff secret

-- C, made as one more secret start. RFC 8554 asks for random bytes in 4.5 and leaves their source
-- open; this choice is the project's own, and makes a signature a function of key, leaf and text.
abbrev pub randomizer_of : List ℕ → ℕ → List ℕ → List ℕ
randomizer_of id q secret = secret_start id q 0xfffd secret

-- the ends of the first n chains, joined (4.3, algorithm 1, step 4)
unfoldable pub public_ends : List ℕ → ℕ → ℕ → List ℕ → ℕ → List ℕ
public_ends id q w secret zero = []
public_ends id q w secret (suc n) = public_ends id q w secret n ++ chain id q n 0 (max_digit w) (secret_start id q n secret)

-- K, the one-time public key (4.3, algorithm 1)
unfoldable pub one_time_key : OtsType → List ℕ → ℕ → List ℕ → List ℕ
one_time_key t id q secret = key_hash id q (public_ends id q (width_of t) secret (chains_of t))

-- y[0] to y[n-1], joined: chain i from its start up to its digit of s (4.5, algorithm 3, step 5)
unfoldable pub signed_chains : List ℕ → ℕ → ℕ → List ℕ → List ℕ → ℕ → List ℕ
signed_chains id q w s secret zero = []
signed_chains id q w s secret (suc n) = signed_chains id q w s secret n ++ chain id q n 0 (coef s n w) (secret_start id q n secret)

-- the type code and C
abbrev pub signed_head : OtsType → List ℕ → ℕ → List ℕ → List ℕ
signed_head t id q secret = to_be_bytes w32 (code_of t) ++ randomizer_of id q secret

-- Q || Cksm(Q) of a text
abbrev pub signed_digits : OtsType → List ℕ → ℕ → List ℕ → List ℕ → List ℕ
signed_digits t id q secret text = with_cksm (message_hash id q (randomizer_of id q secret) text) (width_of t)

-- the signature of a text (4.5, algorithm 3)
unfoldable pub ots_signature : OtsType → List ℕ → ℕ → List ℕ → List ℕ → List ℕ
ots_signature t id q secret text =
    signed_head t id q secret ++ signed_chains id q (width_of t) (signed_digits t id q secret text) secret (chains_of t)
