-- Routes, and the paths and methods that ask for them (this project's own).
use Rattle.std.specs.Prelude.{◌≡◌, ◌≢◌, ℕ, ◌<◌, ◌≤◌, ◌^◌, Bool, true, false, List, ◌++◌, codes, decimal, if◌then◌else◌}
use Rattle.cp_session.specs.declared.part_names.PartName.{PartName}
use Rattle.cp_session.specs.declared.part_names.PartName.TheVariants.{Closing, Table, Log, Families}
use Rattle.cp_session.specs.declared.routes.Route.{Route}
use Rattle.cp_session.specs.declared.routes.Route.TheVariants.{Key, Put, Get, Close, Part, HandIn, Verdict}
use Rattle.cp_http.specs.declared.allows.Allow.{Allow}
use Rattle.cp_http.specs.declared.allows.Allow.TheVariants as allow

-- what follows the epoch in the path of a part
abbrev pub part_end : PartName → List ℕ
part_end Closing = codes "/closing"
part_end Table = codes "/table"
part_end Log = codes "/log"
part_end Families = codes "/families"

-- an epoch that a path can name
abbrev pub IsEpoch : ℕ → Type 0
IsEpoch e = (1 ≤ e) × (e < 2 ^ 64)

-- the path of an epoch's part
abbrev pub IsPartPath : List ℕ → PartName → ℕ → Type 0
IsPartPath path part e = IsEpoch e × (path ≡ codes "/v1/epoch/" ++ (decimal e ++ part_end part))

-- the path of the verdict on an epoch
abbrev pub IsVerdictPath : List ℕ → ℕ → Type 0
IsVerdictPath path e = IsEpoch e × (path ≡ codes "/v1/verdict/" ++ decimal e)

-- the path names the route
unfoldable pub IsRoute : List ℕ → Route → Type 0
IsRoute path Key = path ≡ codes "/v1/key"
IsRoute path Put = path ≡ codes "/v1/put"
IsRoute path Get = path ≡ codes "/v1/get"
IsRoute path Close = path ≡ codes "/v1/close"
IsRoute path (Part e part) = IsPartPath path part e
IsRoute path HandIn = path ≡ codes "/v1/handin"
IsRoute path (Verdict e) = IsVerdictPath path e

-- the path names no route
pub record IsNoRoute (path : List ℕ) : Type 0 where
  pub never : (route : Route) → ¬ IsRoute path route

-- the path is none of those without an epoch
pub record IsNoPlainPath (path : List ℕ) : Type 0 where
  pub key : path ≢ codes "/v1/key"
  pub put : path ≢ codes "/v1/put"
  pub get : path ≢ codes "/v1/get"
  pub close : path ≢ codes "/v1/close"
  pub handin : path ≢ codes "/v1/handin"

-- the route is asked by POST, and so has a body
abbrev pub takes_body : Route → Bool
takes_body Key = false
takes_body Put = true
takes_body Get = true
takes_body Close = true
takes_body (Part e part) = false
takes_body HandIn = true
takes_body (Verdict e) = false

-- the route's method
abbrev pub method_of : Route → List ℕ
method_of route = if takes_body route then codes "POST" else codes "GET"

-- what a response says of the route's method
abbrev pub allow_of : Route → Allow
allow_of route = if takes_body route then allow.Post else allow.Get
