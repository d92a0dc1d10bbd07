-- A folder while files are written one after another.
use Rattle.std.proofs.Common.{◌≡◌, ℕ, Bool, true, false, cond, List, [], ◌∷◌, ◌++◌, Option, Some, refl, sym, ap, ◌∙◌}
use Rattle.std.specs.Prelude.{◌≢◌, bytes_eq, IsTrue}
use Rattle.std.proofs.lemmas.Bool.Decides.{not_from_Decides}
use Rattle.std.proofs.lemmas.Slice.Eq.{bytes_eq-Decides}
use Rattle.cp_endings.specs.Folders.{Files}
use Rattle.cp_endings.specs.Writes.{FileWrite, StopsAt, WritesAll, content_after}

pub content_more : (name : List ℕ) (content : Option (List ℕ)) (ws : List FileWrite) (w : FileWrite) → content_after name content (ws ++ w ∷ []) ≡ cond (bytes_eq name w.name) (Some w.bytes) (content_after name content ws)
unfolding content_after
content_more name content [] w = refl
content_more name content (x ∷ xs) w = content_more name (cond (bytes_eq name x.name) (Some x.bytes) content) xs w

pub none_written : (old : Files) → WritesAll [] old old
unfolding content_after
none_written old = λ t name. refl

-- one more was written
pub wrote_more : (ws : List FileWrite) (w : FileWrite) (old mid new : Files) → WritesAll ws old mid → mid.tells ≡ old.tells → (IsTrue mid.tells → new.file w.name ≡ Some w.bytes)
    → ((other : List ℕ) → other ≢ w.name → new.file other ≡ mid.file other) → WritesAll (ws ++ w ∷ []) old new
wrote_more ws w old mid new wrote tells written others = λ t name. here name t (bytes_eq name w.name) refl ∙ sym (content_more name (old.file name) ws w)
  where
    here : (name : List ℕ) → IsTrue old.tells → (same : Bool) → bytes_eq name w.name ≡ same → new.file name ≡ cond (bytes_eq name w.name) (Some w.bytes) (content_after name (old.file name) ws)
    here name t true e = rw e (ap new.file ((bytes_eq-Decides name w.name).0 e) ∙ written (tells ∙ t))
    here name t false e = rw e (others name (λ same. not_from_Decides _ (bytes_eq-Decides name w.name) e same) ∙ wrote t name)

-- the next one was not
pub stops_next : (ws : List FileWrite) (w : FileWrite) (left : List FileWrite) (old mid new : Files) → WritesAll ws old mid → ((other : List ℕ) → other ≢ w.name → new.file other ≡ mid.file other) → StopsAt (ws ++ w ∷ left) old new
stops_next ws w left old mid new wrote others = record { done = ws; failed = w; left = left; split = refl; files = λ t name ne. others name ne ∙ wrote t name }

-- the same, seen from a folder with the same files
pub all_earlier : (ws : List FileWrite) (old mid new : Files) → ((name : List ℕ) → mid.file name ≡ old.file name) → mid.tells ≡ old.tells → WritesAll ws mid new → WritesAll ws old new
all_earlier ws old mid new kept tells wrote = λ t name. wrote (tells ∙ t) name ∙ ap (λ (c : Option (List ℕ)). content_after name c ws) (kept name)

pub stops_earlier : (ws : List FileWrite) (old mid new : Files) → ((name : List ℕ) → mid.file name ≡ old.file name) → mid.tells ≡ old.tells → StopsAt ws mid new → StopsAt ws old new
stops_earlier ws old mid new kept tells s =
    record { done = s.done; failed = s.failed; left = s.left; split = s.split; files = λ t name ne. s.files (tells ∙ t) name ne ∙ ap (λ (c : Option (List ℕ)). content_after name c s.done) (kept name) }
