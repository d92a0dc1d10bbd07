-- What the audit finds of an honest store's own texts (this project's own).
use Rattle.std.specs.Prelude.{ℕ, ◌-◌, ◌≡◌, true, List, [], ◌∷◌, ◌++◌, Option, Some, None, Ok}
use Rattle.std.specs.List.{AllByRecursion}
use Rattle.sha2.specs.Sha256.{sha256}
use Rattle.lms_tree.specs.Verifying.{leaf_of}
use Rattle.cp_statements.specs.Envelope.{Envelope, envelope_of}
use Rattle.cp_chain.specs.Log.{LogPart, Log, log_of}
use Rattle.cp_core.specs.Store.{SpellsFamilies, Store}
use Rattle.cp_core.specs.Life.{in_epoch, entries, items_of}
use Rattle.cp_core.specs.Honest.{Honest, last_of}
use Rattle.cp_core.specs.declared.seal_item.SealItem.{SealItem}
use Rattle.cp_core.specs.declared.chronicle.Chronicle.{Chronicle}
use Rattle.cp_evidence.specs.Conditions.{signed_by}
use Rattle.cp_evidence.specs.Material.{Material, GivenEpoch, given_of, part_of, parts_or_none, closing_envelopes}
use Rattle.cp_evidence.specs.Sound.{Clean}
use Rattle.cp_guilt.specs.Framing.{WasSigned}
use Rattle.cp_guilt.specs.HonestAudit.{HolderSignedAll}

-- the bytes are the table of the life's seal of the epoch
abbrev pub IsTableOf : Chronicle → ℕ → List ℕ → Type 0
IsTableOf r epoch bytes = AllByRecursion (λ (x : SealItem). x.epoch ≡ epoch → bytes ≡ x.table) r.seals

-- the bytes are the families list of the life's seal of the epoch
abbrev pub IsListOf : Chronicle → ℕ → List ℕ → Type 0
IsListOf r epoch bytes = AllByRecursion (λ (x : SealItem). x.epoch ≡ epoch → bytes ≡ x.families) r.seals

-- the entries of a block's rows of the epoch, in the order of the life
abbrev pub own_segment : Chronicle → ℕ → ℕ → List (List ℕ)
own_segment r epoch b = entries (in_epoch (items_of r b) b epoch)

-- a segment of a log is its block's rows of the epoch
abbrev pub IsOwnPart : Chronicle → ℕ → LogPart → Type 0
IsOwnPart r epoch p = p.texts ≡ own_segment r epoch p.block

-- The given texts are the life's own: the families list of its seal of the epoch, the tables of its
-- seals of the epoch and of the epoch before, and a log of its rows of the epoch.
pub record OwnTexts (s : Store) (r : Chronicle) (o : GivenEpoch) : Type 0 where
  pub families : IsListOf r o.epoch o.families_text
  pub table : IsTableOf r o.epoch o.table
  pub table_before : IsTableOf r (o.epoch - 1) o.table_before
  pub log : AllByRecursion (IsOwnPart r o.epoch) (parts_or_none o.log)

-- Given material that is an honest store's own texts is clean with what was handed in, where the holder of
-- the key alone signed the given closings and the hand-ins, whatever digests do.
abbrev pub OwnIsClean : Type 0
OwnIsClean = (s : Store) (r : Chronicle) (m : Material) (o : GivenEpoch) (hand_ins : List Envelope) → s.id ≡ sha256 m.key → given_of m ≡ Ok o → Honest s r
    → HolderSignedAll s r m.key o hand_ins → OwnTexts s r o → Clean o hand_ins

-- ---- material of a life

-- the bytes are an envelope of the seal's text under its leaf, and it verifies
pub record IsEnvelopeOf (key : List ℕ) (x : SealItem) (bytes : List ℕ) : Type 0 where
  pub envelope : Envelope
  pub reads : envelope_of bytes ≡ Ok envelope
  pub text_is : envelope.text ≡ x.text
  pub leaf_is : leaf_of envelope.signature ≡ x.leaf
  pub signed : signed_by key envelope ≡ true

-- the closing and the table of the seal before; no bytes where there is none
abbrev pub IsOwnBefore : Material → Option SealItem → Type 0
IsOwnBefore m None = (m.before ≡ []) × (m.table_before ≡ [])
IsOwnBefore m (Some x) = IsEnvelopeOf m.key x m.before × (m.table_before ≡ x.table)

-- a segment where there is an entry
abbrev pub where_any : List (List ℕ) → Option (List (List ℕ))
where_any [] = None
where_any (t ∷ ts) = Some (t ∷ ts)

-- the log of the epoch has a segment for just the blocks with a row in it: these rows
pub record IsOwnLog (r : Chronicle) (epoch : ℕ) (bytes : List ℕ) : Type 0 where
  pub log : Log
  pub reads : log_of bytes ≡ Ok log
  pub of_epoch : log.epoch ≡ epoch
  pub segments : (b : ℕ) → part_of log.parts b ≡ where_any (own_segment r epoch b)

-- The material is that of a seal of the life: its families list; its closing and the one before, each
-- in an envelope that verifies; their tables; and the log of the epoch. The store's first list reads.
pub record OwnMaterial (s : Store) (r : Chronicle) (m : Material) : Type 0 where
  pub front : List SealItem
  pub seal : SealItem
  pub back : List SealItem
  pub at : r.seals ≡ front ++ seal ∷ back
  pub epoch : m.epoch ≡ seal.epoch
  pub families : m.families ≡ seal.families
  pub list_reads : SpellsFamilies s.families
  pub closing : IsEnvelopeOf m.key seal m.closing
  pub table : m.table ≡ seal.table
  pub before : IsOwnBefore m (last_of front)
  pub log : IsOwnLog r m.epoch m.log

-- Such material is given. Its texts are the life's own, and its closings were signed in the life.
abbrev pub OwnIsGiven : Type 0
OwnIsGiven = (s : Store) (r : Chronicle) (m : Material) → s.id ≡ sha256 m.key → Honest s r → OwnMaterial s r m
    → (o : GivenEpoch) × (given_of m ≡ Ok o) × OwnTexts s r o × AllByRecursion (WasSigned s r m.key) (closing_envelopes o)
