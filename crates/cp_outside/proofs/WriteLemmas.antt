-- The files after one write more.
use Rattle.std.proofs.Common.{◌≡◌, ◌≢◌, ℕ, Bool, true, false, List, [], ◌∷◌, ◌++◌, Option, Some, None, refl, ap, sym, ◌∙◌, cond}
use Rattle.std.specs.Str.{bytes_eq}
use Rattle.std.proofs.lemmas.Slice.Eq.{bytes_eq-Decides}
use Rattle.cp_outside.specs.MemFolders.{Written, file_after}

not_true : (b : Bool) → (b ≡ true → ⊥) → b ≡ false
not_true true h = absurd (h refl)
not_true false h = refl

file_after-push : (before : Option (List ℕ)) (writes : List Written) (write : Written) (name : List ℕ)
    → file_after before (writes ++ write ∷ []) name ≡ cond (bytes_eq write.name name) (Some write.content) (file_after before writes name)
unfolding file_after
file_after-push before [] write name = refl
file_after-push before (first ∷ writes) write name =
    file_after-push (cond (bytes_eq first.name name) (Some first.content) before) writes write name

-- The file that was written.
pub file_after-written : (writes : List Written) (name content : List ℕ)
    → file_after None (writes ++ record { name = name; content = content } ∷ []) name ≡ Some content
file_after-written writes name content =
    file_after-push None writes (record { name = name; content = content }) name
    ∙ ap (λ b. cond b (Some content) (file_after None writes name)) ((bytes_eq-Decides name name).1 refl)

-- Every other file.
pub file_after-others : (writes : List Written) (name content other : List ℕ) → other ≢ name
    → file_after None (writes ++ record { name = name; content = content } ∷ []) other ≡ file_after None writes other
file_after-others writes name content other differs =
    file_after-push None writes (record { name = name; content = content }) other
    ∙ ap (λ b. cond b (Some content) (file_after None writes other))
    (not_true (bytes_eq name other) (λ same. differs (sym ((bytes_eq-Decides name other).0 same))))

pub ruleset file_after_write = (file_after-written, file_after-others)
