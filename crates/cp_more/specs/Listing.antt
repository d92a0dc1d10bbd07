-- What adding a list gives.
use Rattle.std.specs.Prelude.{ℕ, ◌≡◌, [], List, Option, Some, None, Result, Ok, Err, IfOk, cond}
use Rattle.std.specs.Ordering.{nat_cmp}
use Rattle.std.specs.BTreeMap.{is_at}
use Rattle.lms_tree.specs.Secret.{leaves_of}
use Rattle.lms_forge.specs.Pairs as forge
use Rattle.lms_forge.specs.Pairs.{text_at}
use Rattle.cp_more.specs.Pairs.{clash, pairs_of, used_by}
use Rattle.cp_more.specs.declared.list.ListRefusal.{ListRefusal}
use Rattle.cp_more.specs.declared.list.ListRefusal.TheVariants as list

-- the pair was added, or was there already
abbrev pub Added : forge.Pairs → forge.Pairs → ℕ × List ℕ → Type 0
Added old new pair = (new.key ≡ old.key) × ((q : ℕ) → text_at new.texts q ≡ cond (is_at (nat_cmp pair.0) q) (Some pair.1) (text_at old.texts q))

-- one more pair, after those that gave this leaf two texts, if they did
abbrev pub KeepsPair : forge.Pairs → forge.Pairs → ℕ × List ℕ → Option ℕ → Option ℕ → Type 0
KeepsPair old new pair (Some leaf) used = (used ≡ Some leaf) × (new ≡ old)
KeepsPair old new pair None None = (used_by old.texts pair ≡ None) × Added old new pair
KeepsPair old new pair None (Some leaf) = (used_by old.texts pair ≡ Some leaf) × (new ≡ old)

-- the same of an answer; want of memory says nothing
abbrev pub AddsPair : {E : Type 0} → forge.Pairs → forge.Pairs → ℕ × List ℕ → Option ℕ → Result (Option ℕ) E → Type 0
AddsPair old new pair used result = IfOk result (λ found. KeepsPair old new pair used found)

-- the key's list holds the texts of these pairs
pub record HoldsPairs (key : forge.Pairs) (now : forge.Pairs) (pairs : List (ℕ × List ℕ)) : Type 0 where
  pub same_key : now.key ≡ key.key
  pub texts : (q : ℕ) → text_at now.texts q ≡ text_at pairs q

abbrev pub Lists : forge.Pairs → forge.Pairs → List ℕ → Result (Unit {0}) ListRefusal → Type 0
Lists old new bytes (Ok _) = (pairs : List (ℕ × List ℕ)) × (pairs_of (leaves_of old.key) bytes ≡ Ok pairs) × (clash [] pairs ≡ None) × HoldsPairs old new pairs
Lists old new bytes (Err (list.Malformed at)) = pairs_of (leaves_of old.key) bytes ≡ Err at
Lists old new bytes (Err (list.LeafUsed leaf)) = (pairs : List (ℕ × List ℕ)) × (pairs_of (leaves_of old.key) bytes ≡ Ok pairs) × (clash [] pairs ≡ Some leaf)
Lists old new bytes (Err list.OutOfMemory) = Unit {0}
