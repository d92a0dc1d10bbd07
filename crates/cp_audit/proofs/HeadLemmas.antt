-- The heads of a segment's chain, by place.
use Rattle.std.proofs.Common.{◌≡◌, ℕ, zero, suc, ◌+◌, ◌-◌, ◌<◌, ◌≤◌, Bool, true, ◌&&◌, List, [], ◌∷◌, length, get_or, take, refl, arith}
use Rattle.std.proofs.lemmas.Bool.{le-leb, lt-ltb}
use Rattle.cp_bytes.specs.Hashes.{head, head_after}
use Rattle.cp_statements.specs.Attestation.{Attestation}
use Rattle.cp_chain.specs.Frame.{Frame}
use Rattle.cp_chain.specs.Standing.{stands}
use Rattle.cp_audit.specs.Heads.{heads_from, stands_at}

pub length-heads : (prev : List ℕ) (texts : List (List ℕ)) → length (heads_from prev texts) ≡ length texts + 1
length-heads prev [] = refl
length-heads prev (t ∷ ts) = omega (arith, length-heads (head prev t) ts)

pub head_at : (prev : List ℕ) (texts : List (List ℕ)) (i : ℕ) (d : List ℕ) → i ≤ length texts → get_or (heads_from prev texts) i d ≡ head_after prev (take i texts)
head_at prev [] zero d le = refl
head_at prev [] (suc i) d le = absurd (omega (arith, le))
head_at prev (t ∷ ts) zero d le = refl
head_at prev (t ∷ ts) (suc i) d le = head_at (head prev t) ts i d (omega (arith, le))

both_true : (a b x : Bool) → a ≡ true → b ≡ true → x ≡ (a && (b && x))
both_true a b x e f = rw (e, f) refl

-- between the counts it stands where it is of the text at its place
pub stands_by_place : (f : Frame) (texts : List (List ℕ)) (a : Attestation) → f.side.before.count ≤ a.position → a.position < f.after.count → stands_at f.side.before.head texts a (a.position - f.side.before.count) ≡ stands f texts a
unfolding stands
stands_by_place f texts a low high = both_true _ _ _ (le-leb _ _ low) (lt-ltb _ _ high)
