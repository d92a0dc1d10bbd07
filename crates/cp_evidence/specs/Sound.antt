-- Which given material is sound, and clean with what was handed in (this project's own).
use Rattle.std.specs.Prelude.{ℕ, ◌≡◌, true, false, List, ◌++◌, Some}
use Rattle.std.specs.List.{AllByRecursion}
use Rattle.lms_tree.specs.Verifying.{leaf_of}
use Rattle.cp_statements.specs.Envelope.{Envelope}
use Rattle.cp_statements.specs.Attestation.{Attestation}
use Rattle.cp_statements.specs.Closing.{Closing}
use Rattle.cp_tips.specs.Table.{regressed}
use Rattle.cp_chain.specs.Each.{Each}
use Rattle.cp_chain.specs.Legal.{Legal}
use Rattle.cp_chain.specs.Standing.{reaches, stands}
use Rattle.cp_evidence.specs.Conditions.{attestation_by, closing_by, link_from, head_fits, is_statement}
use Rattle.cp_evidence.specs.Material.{SignedClosing, GivenEpoch, before_in, is_formed, is_formed_before, rose, store_id, old_rows, new_rows, segment_for, frame_for, closings, closing_envelopes, verified, envelope_before}

-- The link is to the closing before, both tables are well formed, no block went back, and each block
-- whose count rose has a segment that reaches and is legal.
pub record Sound (o : GivenEpoch) : Type 0 where
  pub link : o.closing.closing.link ≡ link_from (envelope_before o.before) (before_in o.before)
  pub table_before : is_formed_before o.table_before (before_in o.before) ≡ true
  pub table : is_formed o.table o.closing.closing ≡ true
  pub none_back : (b : ℕ) → regressed (old_rows o) (new_rows o) b ≡ false
  pub legal : (b : ℕ) → rose (old_rows o) (new_rows o) b ≡ true → (texts : List (List ℕ)) × (segment_for o b ≡ Some texts) × (reaches (frame_for o b) texts ≡ true) × Legal (frame_for o b) texts

-- a get attestation's head is the one after its entry
abbrev pub HeadFits : List ℕ → Envelope → Type 0
HeadFits store x = (a : Attestation) → attestation_by store x.text ≡ Some a → a.kind ≡ 2 → head_fits a ≡ true

-- a closing of the given one's epoch has its text
abbrev pub SameClosing : List ℕ → Envelope → SignedClosing → Type 0
SameClosing store x given = (c : Closing) → closing_by store x.text ≡ Some c → c.epoch ≡ given.closing.epoch → x.text ≡ given.envelope.text

-- one leaf has one text
abbrev pub OneLeaf : Envelope → Envelope → Type 0
OneLeaf x y = leaf_of x.signature ≡ leaf_of y.signature → x.text ≡ y.text

-- one position of a block has one text
abbrev pub OnePlace : List ℕ → Envelope → Envelope → Type 0
OnePlace store x y = (a b : Attestation) → attestation_by store x.text ≡ Some a → attestation_by store y.text ≡ Some b → a.block ≡ b.block → a.position ≡ b.position → x.text ≡ y.text

-- each two of the list, the earlier one first
abbrev pub EachTwo : {A : Type 0} → (A → A → Type 0) → List A → Type 0
EachTwo P xs = Each (λ earlier y. AllByRecursion (λ x. P x y) earlier) xs

-- an attestation of the epoch stands in its block's segment of the log
abbrev pub StandsInLog : GivenEpoch → Envelope → Type 0
StandsInLog o x = (a : Attestation) → attestation_by (store_id o) x.text ≡ Some a → a.epoch ≡ o.epoch
    → (texts : List (List ℕ)) × (segment_for o a.block ≡ Some texts) × (stands (frame_for o a.block) texts a ≡ true)

-- The material is sound, and of the hand-ins that verify each is a statement of the store, each get
-- has the right head, no closing differs from the given ones, no leaf and no position of a block has
-- two texts, and each attestation of the epoch stands.
pub record Clean (o : GivenEpoch) (hand_ins : List Envelope) : Type 0 where
  pub sound : Sound o
  pub statements : AllByRecursion (λ x. is_statement (store_id o) x.text ≡ true) (verified o hand_ins)
  pub heads : AllByRecursion (HeadFits (store_id o)) (verified o hand_ins)
  pub same_closings : AllByRecursion (λ x. AllByRecursion (SameClosing (store_id o) x) (closings o)) (verified o hand_ins)
  pub leaves : EachTwo OneLeaf (closing_envelopes o ++ verified o hand_ins)
  pub places : EachTwo (OnePlace (store_id o)) (verified o hand_ins)
  pub stand : AllByRecursion (StandsInLog o) (verified o hand_ins)
