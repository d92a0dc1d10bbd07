-- The laws of the plain store (this project's own).
use Rattle.std.specs.Prelude.{ℕ, ◌≡◌, ◌<◌, ◌≤◌, ◌^◌, ◌++◌, List, [], length, flat_map, Result, Ok}
use Rattle.std.specs.List.{AllByRecursion}
use Rattle.cp_statements.specs.Attestation.{Attestation, attestation_of}
use Rattle.cp_statements.specs.View.{put_request_view}
use Rattle.cp_families.specs.Families.{FamilyRow}
use Rattle.cp_families.specs.Writers.{signed_request, writer}
use Rattle.cp_core.specs.Booking.{Booking}
use Rattle.cp_core.specs.Store.{Store, StoreFits}
use Rattle.cp_chain.specs.Each.{Each}
use Rattle.cp_core.specs.Life.{rows_in, freezes, list_text, cut}
use Rattle.cp_core.specs.Frozen.{frozen_part}
use Rattle.cp_core.specs.Requests.{store_of, RequestFits}
use Rattle.cp_core.specs.Calls.{new_entry, shard_step, answer_in, added}
use Rattle.cp_core.specs.Machine.{State, Admissible, step, run, opening}
use Rattle.cp_core.specs.Honest.{IsItemOf, HonestShard, StandsRightly, IsSealOf, SignedRow, IsSignedIn}
use Rattle.cp_core.specs.Sealing.{seal_at}
use Rattle.cp_core.specs.Kept.{IsContentOf, Keeps, PhaseFits}
use Rattle.cp_core.specs.declared.chronicle.Chronicle.{Chronicle}
use Rattle.cp_core.specs.declared.content.Content.{Content}
use Rattle.cp_core.specs.declared.item.Item.{Item}
use Rattle.cp_core.specs.declared.leaves_over.LeavesOver.{LeavesOver}
use Rattle.cp_core.specs.declared.phase.Phase.TheVariants.{Full}
use Rattle.cp_core.specs.declared.request.Request.{Request}
use Rattle.cp_core.specs.declared.request.Request.TheVariants as request
use Rattle.cp_core.specs.declared.event.Event.{Event}
use Rattle.cp_core.specs.declared.event.Event.TheVariants.{Call}
use Rattle.cp_core.specs.declared.answer.Answer.TheVariants.{Booked}

-- After every list of admissible events the life is honest, and the further facts hold.
abbrev pub AlwaysHonest : Type 0
AlwaysHonest = (s : Store) (events : List Event) → StoreFits s → AllByRecursion (Admissible s) events → Keeps s (run s events)

-- Each event keeps it so, and the opening is so.
abbrev pub EachEventKeeps : Type 0
EachEventKeeps = (s : Store) (st : State) (event : Event) → StoreFits s → Keeps s st → Admissible s event → Keeps s (step s st event).1

abbrev pub OpensHonest : Type 0
OpensHonest = (s : Store) → StoreFits s → Keeps s (opening s)

-- A put's request is signed by a writer exactly where its entry has an authorized writer.
abbrev pub SignedAlike : Store → List FamilyRow → List Item → Request → Type 0
SignedAlike s families items (request.Put r signature content) = writer families s.id (new_entry items (request.Put r signature content)) ≡ signed_request families (put_request_view r) signature
SignedAlike s families items (request.Get r) = Unit {0}

abbrev pub WriterIsSigned : Type 0
WriterIsSigned = (s : Store) (families : List FamilyRow) (items : List Item) (request : Request) → store_of request ≡ s.id → SignedAlike s families items request

-- What is booked was signed: its leaf and text are a row's of the life after the call.
abbrev pub BookedIsSigned : Type 0
BookedIsSigned = (s : Store) (st : State) (pass : ℕ) (request : Request) (b : Booking) → StoreFits s → Keeps s st → Admissible s (Call pass request) → (step s st (Call pass request)).0 ≡ Booked b → SignedRow s (step s st (Call pass request)).1.life b.leaf b.text

-- a put is answered no content, a get that of the attested version: it has the attested hash, and at
-- version 0 it is empty
abbrev pub ContentFits : Request → Attestation → List ℕ → Type 0
ContentFits (request.Put r signature content) a given = given ≡ []
ContentFits (request.Get r) a given = IsContentOf (record { version = a.version; content = a.content }) given

pub record Attests (request : Request) (b : Booking) : Type 0 where
  pub attestation : Attestation
  pub reads : attestation_of b.text ≡ Ok attestation
  pub content : ContentFits request attestation b.content

-- What is booked reads as an attestation, and its content is the attested one.
abbrev pub ContentIsAttested : Type 0
ContentIsAttested = (s : Store) (st : State) (pass : ℕ) (request : Request) (b : Booking) → StoreFits s → Keeps s st → Admissible s (Call pass request) → (step s st (Call pass request)).0 ≡ Booked b → Attests request b

-- What is booked at one honest shard is signed there: its leaf and text are a row's of the items after.
abbrev pub BookingsAreSigned : Type 0
BookingsAreSigned = (s : Store) (k : ℕ) (items : List Item) (contents : List Content) (pass : ℕ) (request : Request) (leaf : Result ℕ LeavesOver) (b : Booking) → HonestShard s k items → RequestFits request → length (rows_in items) < 2 ^ 64
    → (let outcome = shard_step s.id s.pages s.families items contents pass request leaf in answer_in outcome ≡ Booked b → IsSignedIn s.id (items ++ added outcome) b.leaf b.text)

-- Where each shard has frozen the epoch and its items stand rightly, the seal is right behind the others.
-- The leaves of the rows may be any.
abbrev pub SealsAreRight : Type 0
SealsAreRight = (s : Store) (r : Chronicle) (kept : List ℕ) (e published : ℕ) → StandsRightly r → StoreFits s → PhaseFits s r kept (Full e) published → length (flat_map rows_in r.shards) < 2 ^ 64 → IsSealOf s r r.seals (seal_at s r e)

-- the longer life of shard k shows the same of epoch n: its part, each block's tip at the end, its list
pub record ShowsSame (k : ℕ) (first : List ℕ) (items more : List Item) (n : ℕ) : Type 0 where
  pub part : frozen_part k more n ≡ frozen_part k items n
  pub cuts : (b : ℕ) → cut more b n ≡ cut items b n
  pub list : list_text first more n ≡ list_text first items n

-- What comes behind an epoch that a shard has frozen changes nothing of it.
abbrev pub FrozenStays : Type 0
FrozenStays = (k n : ℕ) (first : List ℕ) (items rest : List Item) → Each (IsItemOf k) (items ++ rest) → n ≤ freezes items → ShowsSame k first items (items ++ rest) n
