-- The rule of what is published, and what a step on it tells. All of it is this project's own.
use Rattle.std.specs.Prelude.{◌≡◌, ℕ, List}
use mathlib.Core.Option.{some}
use lib.ListN.{get_elem?}
use Rattle.cp_bulletin.specs.declared.contents.Contents.{Contents}
use Rattle.cp_bulletin.specs.declared.rule.View.{View}
use Rattle.cp_bulletin.specs.Texts.{StartsWith}

abbrev pub seeing : List Contents → View
seeing xs = record { seen = xs }

module _ {P : Type 0} (texts : P → List Contents) where
  -- the texts start with what each thread has seen
  abbrev pub Keeps : P → List View → Type 0
  Keeps x views = (seat : ℕ) (v : View) → get_elem? views seat ≡ some v → StartsWith (texts x) v.seen

  -- the thread has then seen all texts, which start with what it had seen
  abbrev pub HasSeen : View → P → P → View → Type 0
  HasSeen v x y w = StartsWith w.seen v.seen × (w.seen ≡ texts y)
