-- Texts of a fixed length: four bytes of tag, then a row of fields (this project's own). The tag
-- stands apart from the fields, so that another version of a text may have its own tag before them.
use Rattle.std.specs.Prelude.{ℕ, List, [], ◌∷◌, Result, Ok}
use Rattle.cp_bytes.specs.Fields.{Field, ValueOf, Values, spell, read_fields, ◌>>=◌}
use Rattle.cp_bytes.specs.Fields.Field.{Tag}

-- a function of the fields' values, one after another
abbrev pub Curried : List Field → Type 0 → Type 0
Curried [] R = R
Curried (f ∷ fs) R = ValueOf f → Curried fs R

-- what it gives for these values
abbrev pub uncurry : {R : Type 0} (fs : List Field) → Curried fs R → Values fs → R
uncurry [] make vs = make
uncurry (f ∷ fs) make vs = uncurry fs (make vs.0) vs.1

-- the text of the fields with these values
abbrev pub tagged_text : List ℕ → (fs : List Field) → Values fs → List ℕ
tagged_text tag fs vs = spell (Tag tag ∷ fs) (tt, vs)

-- what is made of the values that all of the bytes spell, or the offset of the first byte that does
-- not fit
abbrev pub tagged_of : {A : Type 0} → List ℕ → (fs : List Field) → (Values fs → A) → List ℕ → Result A ℕ
tagged_of tag fs from bytes = read_fields (Tag tag ∷ fs) bytes >>= λ vs. Ok (from vs.1)
