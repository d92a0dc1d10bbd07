-- When a run's pages are given back.
use Rattle.std.specs.Prelude.{◌≡◌, Option, Some, None}
use Rattle.cp_pages.specs.Extent.{Extent}
use Rattle.cp_pages.specs.Pages.{Pages, IsGivenBack}

abbrev pub IsReleased : Pages → Pages → Option Extent → Type 0
IsReleased old new None = new ≡ old
IsReleased old new (Some run) = IsGivenBack old new run
