-- What holds of the definitions alone.
use Rattle.std.specs.Prelude.{◌≡◌, ℕ, List}
use Rattle.lms_ots.specs.declared.ots_type.OtsType.{OtsType}
use Rattle.lms_ots.specs.Ots.{IsOtsSignature, candidate}
use Rattle.lms_ots.specs.Signing.{one_time_key, ots_signature}

-- what is signed has its type's length and code
abbrev pub SignedHasItsForm : Type 0
SignedHasItsForm = (t : OtsType) (id : List ℕ) (q : ℕ) (secret text : List ℕ) → IsOtsSignature t (ots_signature t id q secret text)

-- the verifier's candidate for what is signed is the public key of the same seed
abbrev pub SignedLeadsToItsKey : Type 0
SignedLeadsToItsKey =
    (t : OtsType) (id : List ℕ) (q : ℕ) (secret text : List ℕ) → candidate t id q text (ots_signature t id q secret text) ≡ one_time_key t id q secret
