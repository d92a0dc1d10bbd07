-- What texts say. All of it is this project's own.
use Rattle.std.specs.Prelude.{◌≡◌, List, ◌++◌, map}
use Rattle.std.specs.Arc.{arc_value}
use Rattle.std.specs.declared.sync.Arc.{Arc}
use Rattle.cp_bulletin.specs.declared.epoch_text.EpochText.{EpochText}
use Rattle.cp_bulletin.specs.declared.contents.Contents.{Contents}

-- the bytes of the parts of a text
abbrev pub contents_of : EpochText → Contents
contents_of t = record { closing = t.closing.items; table = t.table.items; log = t.log.items; families = t.families.items }

module _ {A : Type 0} where
  -- what a shared text says
  abbrev pub arc_contents : Arc EpochText A → Contents
  arc_contents a = contents_of (arc_value a)

  -- what each of them says, in order
  abbrev pub texts_of : List (Arc EpochText A) → List Contents
  texts_of xs = map (λ a. arc_contents a) xs

-- the list ys starts with xs
abbrev pub StartsWith : List Contents → List Contents → Type 0
StartsWith ys xs = (rest : List Contents) × (ys ≡ xs ++ rest)
