-- The statements of the laws on guilt.
use Rattle.std.specs.Prelude.{ℕ, ◌≡◌, List, IsTrue}
use Rattle.std.specs.List.{AllByRecursion}
use Rattle.sha2.specs.Sha256.{sha256}
use Rattle.lms_hss.specs.Hss.{certifies, life_key}
use Rattle.cp_core.specs.Store.{Store, StoreFits}
use Rattle.cp_core.specs.Honest.{Honest}
use Rattle.cp_core.specs.Machine.{Admissible, run}
use Rattle.cp_core.specs.declared.event.Event.{Event}
use Rattle.cp_core.specs.declared.chronicle.Chronicle.{Chronicle}
use Rattle.cp_evidence.specs.Conditions.{Convicts}
use Rattle.cp_guilt.specs.Framing.{Holder, TextsCollisionFree}

-- No bytes convict the key of an honest store, where the holder of the key alone signed what they show
-- and no two different texts that they present or that were hashed in its life have one digest.
abbrev pub Unframeable : Type 0
Unframeable = (s : Store) (key : List ℕ) (r : Chronicle) (bytes : List ℕ) → s.id ≡ sha256 key → Honest s r
    → Holder s r key bytes → TextsCollisionFree r key bytes → ¬ Convicts key bytes

-- So it is for the life after every list of admissible events.
abbrev pub NoRunIsFramed : Type 0
NoRunIsFramed = (s : Store) (key : List ℕ) (events : List Event) (bytes : List ℕ) → s.id ≡ sha256 key → StoreFits s → AllByRecursion (Admissible s) events
    → Holder s (run s events).life key bytes → TextsCollisionFree (run s events).life key bytes → ¬ Convicts key bytes

-- The key is that of an honest life, which meets the two premises beside these bytes.
pub record IsHonestLife (key bytes : List ℕ) : Type 0 where
  pub store : Store
  pub life : Chronicle
  pub id : store.id ≡ sha256 key
  pub honest : Honest store life
  pub holder : Holder store life key bytes
  pub collision_free : TextsCollisionFree life key bytes

-- Where each certificate that verifies under an operator's key is for the key of an honest life, no bytes
-- convict a life that the operator certified.
abbrev pub LivesUnframeable : Type 0
LivesUnframeable = (key bytes : List ℕ) → ((certificate : List ℕ) → IsTrue (certifies key certificate) → IsHonestLife (life_key key certificate) bytes)
    → (certificate : List ℕ) → IsTrue (certifies key certificate) → ¬ Convicts (life_key key certificate) bytes
