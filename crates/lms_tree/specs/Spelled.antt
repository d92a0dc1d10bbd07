-- A public key's fields and its bytes.
use Rattle.std.specs.Prelude.{◌≡◌, ℕ, List, ◌++◌, length}
use Rattle.std.specs.Int.{w32, to_be_bytes}
use Rattle.std.proofs.Common.{ap, ◌∙◌}
use Rattle.std.proofs.lemmas.List.{take_at, drop_at}
use Rattle.std.proofs.lemmas.Nat.{from_be_bytes-to_be_bytes_4}
use Rattle.lms_ots.specs.declared.ots_type.OtsType.{OtsType}
use Rattle.lms_ots.specs.Parameters.{code_of, ots_of}
use Rattle.lms_tree.specs.declared.lms_type.LmsType.{LmsType}
use Rattle.lms_tree.specs.Codes.{ots_of-code_of, lms_of-lms_code_of, code_fits, lms_code_fits}
use Rattle.lms_tree.specs.Parameters.{lms_code_of, lms_of}
use Rattle.lms_tree.specs.PublicKey.{key_lms, key_id, key_root, key_type}
use Rattle.lms_tree.specs.declared.public_key.PublicKey.TheInside.{Inside}

-- the fields have their lengths
pub record HasLengths (a : Inside) : Type 0 where
  pub id : length a.id ≡ 16
  pub root : length a.root ≡ 32

abbrev pub spelled : Inside → List ℕ
spelled a = to_be_bytes w32 (lms_code_of a.lms) ++ to_be_bytes w32 (code_of a.ots) ++ a.id ++ a.root

abbrev pub fields_of : List ℕ → Inside
fields_of key = record { lms = lms_of (key_lms key); ots = key_type key; id = key_id key; root = key_root key }

-- no field is lost in the bytes, so a key may be copied
pub fields-spelled : (a : Inside) → HasLengths a → fields_of (spelled a) ≡ a
fields-spelled a h =
    let made : LmsType → OtsType → List ℕ → List ℕ → Inside = λ l o i r. record { lms = l; ots = o; id = i; root = r } in
    let lms_is : lms_of (key_lms (spelled a)) ≡ a.lms = ap lms_of (from_be_bytes-to_be_bytes_4 (lms_code_of a.lms) (lms_code_fits a.lms)) ∙ lms_of-lms_code_of a.lms in
    let ots_is : key_type (spelled a) ≡ a.ots = ap ots_of (from_be_bytes-to_be_bytes_4 (code_of a.ots) (code_fits a.ots)) ∙ ots_of-code_of a.ots in
    let id_is : key_id (spelled a) ≡ a.id = take_at a.id a.root 16 h.id in
    let root_is : key_root (spelled a) ≡ a.root = drop_at a.id a.root 16 h.id in
    ap (λ l. made l (key_type (spelled a)) (key_id (spelled a)) (key_root (spelled a))) lms_is
    ∙ ap (λ o. made a.lms o (key_id (spelled a)) (key_root (spelled a))) ots_is
    ∙ ap (λ i. made a.lms a.ots i (key_root (spelled a))) id_is
    ∙ ap (λ r. made a.lms a.ots a.id r) root_is
