-- How the code's values are seen (this project's own). No public clause cites this module.
use Rattle.std.specs.Prelude.{ℕ, ◌≡◌, List, map, take}
use Rattle.std.specs.Borrow.{Bor}
use Rattle.cp_tips.specs.declared.tip.Tip.{Tip}
use Rattle.cp_core.specs.declared.frozen_block.FrozenBlock.{FrozenBlock}
use Rattle.cp_closer.specs.Taken.{put_all}

-- the first ones of these were put in
abbrev pub IsPartly : List (ℕ × Tip) → List (ℕ × Tip) → List (ℕ × Tip) → Type 0
IsPartly old xs new = (n : ℕ) × (new ≡ put_all old (take n xs))

-- each block's texts
abbrev pub texts_shown : List (ℕ × Bor FrozenBlock) → List (ℕ × List (List ℕ))
texts_shown blocks = map (λ e. (e.0, e.1.now.entries.items)) blocks
