-- What a pool goes through, and what its live runs keep. This project's own.
use Rattle.std.specs.Prelude.{◌≡◌, ℕ, List, [], ◌∷◌}
use Rattle.cp_pages.specs.Extent.{Extent}
use Rattle.cp_pages.specs.Pages.{Pages, content_of, IsLive, AreApart, IsPlaced, IsGivenBack}

-- a call that changes a pool
pub data Change : Type 0 where
  Placed : List ℕ → Extent → Change
  GivenBack : Extent → Change

-- one call took the old pool to the new one; what is given back is live
abbrev pub Changes : Pages → Change → Pages → Type 0
Changes old (Placed bytes run) new = IsPlaced old new bytes run
Changes old (GivenBack run) new = IsLive old run × IsGivenBack old new run

-- so did these calls, one after another
abbrev pub ChangesAlong : Pages → List Change → Pages → Type 0
ChangesAlong old [] new = new ≡ old
ChangesAlong old (change ∷ changes) new =
    (next : Pages) × (Changes old change next × ChangesAlong next changes new)

-- the call does not give this run back
abbrev pub Spares : Extent → Change → Type 0
Spares run (Placed bytes other) = Unit {0}
Spares run (GivenBack other) = AreApart other run

-- none of the calls gives this run back
abbrev pub SparesAlong : Extent → List Change → Type 0
SparesAlong run [] = Unit {0}
SparesAlong run (change ∷ changes) = Spares run change × SparesAlong run changes

-- A live run reads as what was placed, whatever was placed or given back since: as long as it is not
-- given back itself, it stays live and keeps its content.
abbrev pub LiveRunsStay : Type 0
LiveRunsStay = (old new : Pages) (changes : List Change) (run : Extent)
    → IsLive old run → ChangesAlong old changes new → SparesAlong run changes
    → IsLive new run × (content_of new run ≡ content_of old run)

-- What is placed is apart from every run that is live then.
abbrev pub NewRunsAreApart : Type 0
NewRunsAreApart = (old new : Pages) (bytes : List ℕ) (run other : Extent)
    → IsPlaced old new bytes run → IsLive old other → AreApart run other
