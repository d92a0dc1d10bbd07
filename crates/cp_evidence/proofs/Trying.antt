-- Conditions that are tried in order: what holds where all of them passed.
use Rattle.std.proofs.Common.{◌≡◌, ℕ, Bool, true, false, cond, Result, Ok, Option, Some, None, refl, subst}
use Rattle.std.specs.Prelude.{not}
use Rattle.cp_bytes.specs.Fields.{◌>>=◌}
use Rattle.cp_evidence.specs.Conditions.{check, want, where_holds}

-- a condition held, and those behind it
pub check_then : {A : Type 0} (n : ℕ) (holds : Bool) (then : Unit {0} → Result A ℕ) (y : A) → (check n holds >>= then) ≡ Ok y → (holds ≡ true) × (then tt ≡ Ok y)
check_then n true then y p = (refl, p)
check_then n false then y p = absurd cc

pub check_last : (n : ℕ) (holds : Bool) → check n holds ≡ Ok tt → holds ≡ true
check_last n true p = refl
check_last n false p = absurd cc

-- a value was there, and what is behind it held
pub want_then : {A B : Type 0} (n : ℕ) (o : Option A) (then : A → Result B ℕ) (y : B) → (want n o >>= then) ≡ Ok y → (x : A) × (o ≡ Some x) × (then x ≡ Ok y)
want_then n (Some x) then y p = (x, refl, p)
want_then n None then y p = absurd cc

-- what is given once is one value
pub some_is : {A : Type 0} (x y : A) → (let a : Option A = Some x in a) ≡ Some y → x ≡ y
some_is x y e = cc

pub where_some : {A : Type 0} (p : A → Bool) (o : Option A) (x : A) → where_holds p o ≡ Some x → (o ≡ Some x) × (p x ≡ true)
where_some {A = A} p (Some y) x e = go (p y) refl e
  where
    go : (b : Bool) → p y ≡ b → (cond b (Some y) None) ≡ Some x → ((let a : Option A = Some y in a) ≡ Some x) × (p x ≡ true)
    go true t h = (h, subst (λ z. p z ≡ true) (some_is y x h) t)
    go false t h = absurd cc
where_some p None x e = absurd cc

pub not_true : (b : Bool) → not b ≡ true → b ≡ false
not_true true e = absurd cc
not_true false e = refl

pub not_both : (b : Bool) → b ≡ true → b ≡ false → ⊥
not_both true e f = cc
not_both false e f = cc
