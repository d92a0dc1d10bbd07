-- Evidence that convicts an honest store has an envelope that the store did not sign.
use Rattle.std.proofs.Common.{◌≡◌, ◌≢◌, ◌⊎◌, inl, inr, ℕ, suc, Bool, true, false, List, [], ◌∷◌, Some, Result, Ok, Err, length, refl, sym, ◌∙◌, arith}
use Rattle.std.specs.Prelude.{Contains, IfOk, IsOkAnd, IsTrue}
use Rattle.std.specs.List.{AllByRecursion}
use Rattle.std.proofs.lemmas.Bool.{false≢true}
use Rattle.sha2.specs.Sha256.{sha256}
use Rattle.lms_tree.specs.Secret.{Secret, public_of}
use Rattle.lms_tree.specs.Verifying.{leaf_of}
use Rattle.lms_forge.specs.Pairs.{text_at}
use Rattle.lms_forge.proofs.Forged.{witnessed}
use Rattle.cp_statements.specs.Envelope.{Envelope}
use Rattle.cp_core.specs.Store.{Store}
use Rattle.cp_core.specs.declared.chronicle.Chronicle.{Chronicle}
use Rattle.cp_evidence.specs.Conditions.{Convicts, signed_by}
use Rattle.cp_evidence.specs.Evidence.{Evidence, evidence_of}
use Rattle.cp_evidence.specs.Presented.{envelopes}
use Rattle.cp_guilt.specs.Framing.{HolderSigned, WasSigned}
use Rattle.cp_guilt.proofs.NoFraming.{never_framed}
use Rattle.cp_more.specs.Forging.{is_known}
use Rattle.cp_more.specs.GuiltLaws.{GuiltHasWitness, HasForged, IsForgedEnvelope, ListsSigned}
use Rattle.cp_more.proofs.MoreStatuses.{known_is, unknown_is}

at_front : (x : Envelope) (xs : List Envelope) → Contains (x ∷ xs) x
at_front x xs = (0, omega arith, refl)

behind : (x y : Envelope) (xs : List Envelope) → Contains xs y → Contains (x ∷ xs) y
behind x y xs there = (suc there.0, omega (arith, there.1), there.2)

module _ (s : Store) (key : Secret) (r : Chronicle) (pairs : List (ℕ × List ℕ)) (id : length key.id ≡ 16) (lists : ListsSigned s r pairs) where
  -- one envelope was signed in this life if it verifies, or was forged
  one : (x : Envelope) → WasSigned s r (public_of key) x ⊎ IsForgedEnvelope key pairs x
  one x = go (signed_by (public_of key) x) (is_known (text_at pairs (leaf_of x.signature)) x.text) refl refl
    where
      go : (good known : Bool) → signed_by (public_of key) x ≡ good → is_known (text_at pairs (leaf_of x.signature)) x.text ≡ known → WasSigned s r (public_of key) x ⊎ IsForgedEnvelope key pairs x
      go false known v k = inl (λ t. absurd (false≢true (sym v ∙ t)))
      go true true v k = inl (λ t. (lists (leaf_of x.signature) x.text).0 (known_is (text_at pairs (leaf_of x.signature)) x.text k))
      go true false v k =
          let other : text_at pairs (leaf_of x.signature) ≢ Some x.text = unknown_is (text_at pairs (leaf_of x.signature)) x.text k in
          inr (record { verifies = v; unsigned = other; witness = witnessed key pairs x.text x.signature id v other })

  -- all of them were, or one was forged
  all_or_one : (xs : List Envelope) → AllByRecursion (WasSigned s r (public_of key)) xs ⊎ HasForged key pairs xs
  all_or_one [] = inl tt
  all_or_one (x ∷ xs) = go (one x) (all_or_one xs)
    where
      go : WasSigned s r (public_of key) x ⊎ IsForgedEnvelope key pairs x → AllByRecursion (WasSigned s r (public_of key)) xs ⊎ HasForged key pairs xs
          → AllByRecursion (WasSigned s r (public_of key)) (x ∷ xs) ⊎ HasForged key pairs (x ∷ xs)
      go (inr forged) others = inr (x, at_front x xs, forged)
      go (inl signed) (inl others) = inl (signed, others)
      go (inl signed) (inr found) = inr (found.0, behind x found.0 xs found.1, found.2)

  of_read : (read : Result Evidence ℕ) → (IfOk read (HolderSigned s r (public_of key)) → ⊥) → IsOkAnd read (λ e. HasForged key pairs (envelopes e))
  of_read (Ok e) framed = go (all_or_one (envelopes e))
    where
      go : AllByRecursion (WasSigned s r (public_of key)) (envelopes e) ⊎ HasForged key pairs (envelopes e) → HasForged key pairs (envelopes e)
      go (inl all) = absurd (framed all)
      go (inr found) = found
  of_read (Err at) framed = absurd (framed tt)

pub guilt_witnessed : GuiltHasWitness
guilt_witnessed s key r pairs bytes id own honest lists apart convicts = of_read s key r pairs id lists (evidence_of bytes) (λ holder. never_framed s (public_of key) r bytes own honest holder apart convicts)
