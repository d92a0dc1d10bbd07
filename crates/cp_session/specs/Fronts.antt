-- What stands at the front of the bytes where a request is due. What is checked comes in the order head, path, method,
-- length of the body, body (this project's own).
use Rattle.std.specs.Prelude.{◌≡◌, ◌≢◌, ◌⊎◌, ℕ, ◌+◌, ◌<◌, ◌≤◌, IsTrue, IsSome, List, length, if◌then◌else◌, unwrap_or, None, Result, Ok, Err}
use Rattle.cp_http.specs.Heads.{HeadContent, IsPartial, IsTooLong, HasBadHead, HasHead}
use Rattle.cp_session.specs.Routes.{IsRoute, IsNoRoute, takes_body, method_of, allow_of}
use Rattle.cp_session.specs.declared.routes.Route.{Route}
use Rattle.cp_session.specs.declared.rejections.Rejection.{Rejection}
use Rattle.cp_session.specs.declared.rejections.Rejection.TheVariants.{BadHead, HeadTooLong, NoRoute, MethodNotAllowed, NoLength, BodyTooLong}
use Rattle.cp_session.specs.declared.requests.Request.{Request}
use Rattle.cp_session.specs.declared.fronts.Front.{Front}
use Rattle.cp_session.specs.declared.fronts.Front.TheVariants.{Waiting, Rejected, Asked}

-- the number of bytes of the body that follows a head
abbrev pub body_length : HeadContent → ℕ
body_length content = unwrap_or content.length 0

-- a POST gives its length
abbrev pub GivesLength : HeadContent → Route → Type 0
GivesLength content route = IsTrue (takes_body route) → IsSome content.length

-- the head asks for this route
pub record AsksFor (content : HeadContent) (route : Route) : Type 0 where
  pub path : IsRoute content.path route
  pub method : content.method ≡ method_of route
  pub length : GivesLength content route
  pub body : body_length content ≤ 131072

-- the head names the route and has another method
pub record HasOtherMethod (content : HeadContent) (route : Route) : Type 0 where
  pub path : IsRoute content.path route
  pub method : content.method ≢ method_of route

-- the head asks for the route by POST and gives no length
pub record LacksLength (content : HeadContent) (route : Route) : Type 0 where
  pub path : IsRoute content.path route
  pub method : content.method ≡ method_of route
  pub takes : IsTrue (takes_body route)
  pub none : content.length ≡ None

-- the head asks for the route with a body that is too long
pub record HasLongBody (content : HeadContent) (route : Route) : Type 0 where
  pub path : IsRoute content.path route
  pub method : content.method ≡ method_of route
  pub length : GivesLength content route
  pub over : 131072 < body_length content

-- the head asks for no route, for this reason
abbrev pub IsRejectedHead : HeadContent → Rejection → Type 0
IsRejectedHead content NoRoute = IsNoRoute content.path
IsRejectedHead content (MethodNotAllowed allow) = (route : Route) × HasOtherMethod content route × (allow ≡ allow_of route)
IsRejectedHead content NoLength = (route : Route) × LacksLength content route
IsRejectedHead content BodyTooLong = (route : Route) × HasLongBody content route
IsRejectedHead content BadHead = ⊥
IsRejectedHead content HeadTooLong = ⊥

-- what a head comes to
abbrev pub IsChecked : HeadContent → Result Route Rejection → Type 0
IsChecked content (Ok route) = AsksFor content route
IsChecked content (Err rejection) = IsRejectedHead content rejection

-- a head is there, and it asks for no route
pub record HasRejectedHead (bytes : List ℕ) (rejection : Rejection) : Type 0 where
  pub end : ℕ
  pub content : HeadContent
  pub head : HasHead bytes end content
  pub rejected : IsRejectedHead content rejection

-- what stands there is rejected
abbrev pub IsRejected : List ℕ → Rejection → Type 0
IsRejected bytes BadHead = HasBadHead bytes
IsRejected bytes HeadTooLong = IsTooLong bytes
IsRejected bytes NoRoute = HasRejectedHead bytes NoRoute
IsRejected bytes (MethodNotAllowed allow) = HasRejectedHead bytes (MethodNotAllowed allow)
IsRejected bytes NoLength = HasRejectedHead bytes NoLength
IsRejected bytes BodyTooLong = HasRejectedHead bytes BodyTooLong

-- A head is there that asks for this request's route. The request ends with its body, which the desk gets, or which is
-- dropped where the route takes none.
pub record HasHeadOf (bytes : List ℕ) (request : Request) : Type 0 where
  pub end : ℕ
  pub content : HeadContent
  pub head : HasHead bytes end content
  pub asks : AsksFor content request.route
  pub stop_is : request.stop ≡ end + body_length content
  pub start_is : request.start ≡ (if takes_body request.route then end else request.stop)
  pub close_is : request.close ≡ content.close

-- a head is there, and its body isn't whole
pub record IsUnfinished (bytes : List ℕ) : Type 0 where
  pub request : Request
  pub head : HasHeadOf bytes request
  pub short : length bytes < request.stop

-- a whole request is there
pub record IsRequest (bytes : List ℕ) (request : Request) : Type 0 where
  pub head : HasHeadOf bytes request
  pub within : request.stop ≤ length bytes

-- what stands at the front
abbrev pub FrontIs : List ℕ → Front → Type 0
FrontIs bytes Waiting = IsPartial bytes ⊎ IsUnfinished bytes
FrontIs bytes (Rejected rejection) = IsRejected bytes rejection
FrontIs bytes (Asked request) = IsRequest bytes request
