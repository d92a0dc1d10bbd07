-- A seal that isn't published yet (this project's own). No public clause cites this module.
use Rattle.std.specs.Prelude.{ℕ, ◌≡◌, ◌<◌, List, [], ◌∷◌, length, Option, Some, None, sum_by}
use Rattle.sha2.specs.Sha256.{sha256}
use Rattle.cp_statements.specs.Closing.{Closing, closing_text}
use Rattle.cp_tips.specs.Table.{table_text}
use Rattle.cp_tips.specs.Tips.{rows_of}
use Rattle.cp_tips.specs.declared.tip.Tip.{Tip}
use Rattle.cp_core.specs.declared.seal_item.SealItem.{SealItem}
use Rattle.cp_closer.specs.declared.sealed_text.SealedText.{SealedText}
use Rattle.cp_closer.specs.declared.pending.Heading.{Heading}
use Rattle.cp_closer.specs.declared.pending.Pending.{Pending}

-- its seal
abbrev pub item_of : Pending → SealItem
item_of p = record { epoch = p.epoch; leaf = p.sealed.leaf; text = p.text; table = p.sealed.table; families = p.families }

abbrev pub seals_of : Option Pending → List SealItem
seals_of None = []
seals_of (Some p) = item_of p ∷ []

abbrev pub sealed_of : Option Pending → Option SealedText
sealed_of None = None
sealed_of (Some p) = Some p.sealed

-- there is room for it among the seals
abbrev pub HasRoom : Option Pending → ℕ → ℕ → Type 0
HasRoom None len capacity = Unit {0}
HasRoom (Some p) len capacity = len < capacity

-- ---- what is sealed under a heading

abbrev pub closing_under : Heading → List (ℕ × Tip) → List ℕ → Closing
closing_under h tips families = record {
  store = h.store;
  epoch = h.epoch;
  link = h.link;
  families = sha256 families;
  table = sha256 (table_text (rows_of tips));
  rows = length tips;
  entries = sum_by (λ e. e.1.count) tips;
}

abbrev pub sealed_under : Heading → List (ℕ × Tip) → List ℕ → List ℕ → SealedText
sealed_under h tips log families = record { leaf = h.leaf; text = closing_text (closing_under h tips families); table = table_text (rows_of tips); log = log }

pub record IsPending (h : Heading) (tips : List (ℕ × Tip)) (log families : List ℕ) (p : Pending) : Type 0 where
  pub epoch : p.epoch ≡ h.epoch
  pub sealed : p.sealed ≡ sealed_under h tips log families
  pub again : p.text ≡ p.sealed.text
  pub list : p.families ≡ families
