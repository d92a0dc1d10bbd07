-- Which segments are legal: said by positions (this project's own).
use Rattle.std.specs.Prelude.{ℕ, ◌+◌, ◌≡◌, Bool, true, false, ◌&&◌, List, [], ◌∷◌, length, Option, Some, None, Result, Ok, Err, ◌==◌, if◌then◌else◌, bytes_eq, filter_map}
use Rattle.std.specs.List.{list_any}
use Rattle.cp_statements.specs.Entry.{Entry, entry_of}
use Rattle.cp_tips.specs.Tip.{Tip}
use Rattle.cp_families.specs.Writers.{writer}
use Rattle.cp_chain.specs.Each.{Each}
use Rattle.cp_chain.specs.Frame.{Side, Frame}

-- it was read, and passes the test
abbrev pub ok_and : {A : Type 0} → Result A ℕ → (A → Bool) → Bool
ok_and (Ok x) p = p x
ok_and (Err e) p = false

-- ---- the latest put

-- a version and its content's hash
pub record Put : Type 0 where
  pub version : ℕ
  pub content : List ℕ

abbrev pub same_put : Put → Put → Bool
same_put a b = (a.version == b.version) && bytes_eq a.content b.content

-- the version and hash that a tip has
abbrev pub put_at : Tip → Put
put_at tip = record { version = tip.version; content = tip.content }

-- those that an entry has
abbrev pub put_by : Entry → Put
put_by e = record { version = e.version; content = e.content }

abbrev pub put_read : Result Entry ℕ → Option Put
put_read (Ok e) = if e.kind == 1 then Some (put_by e) else None
put_read (Err left) = None

-- what a text puts; a text that is no put's entry puts nothing
abbrev pub put_in : List ℕ → Option Put
put_in text = put_read (entry_of text)

abbrev pub last_or : {A : Type 0} → A → List A → A
last_or d [] = d
last_or d (x ∷ xs) = last_or x xs

-- the last put among the texts, or else the one before them
unfoldable pub latest : Put → List (List ℕ) → Put
latest before texts = last_or before (filter_map put_in texts)

-- ---- what may come next

-- an entry of this client's call
abbrev pub is_call : ℕ → ℕ → List ℕ → Bool
is_call client nonce text = ok_and (entry_of text) (λ e. (e.client == client) && (e.nonce == nonce))

-- the entry may come next, after these texts of the segment
pub record Follows (s : Side) (earlier : List (List ℕ)) (e : Entry) : Type 0 where
  pub block : e.block ≡ s.block
  pub epoch : e.epoch ≡ s.epoch
  pub position : e.position ≡ s.before.count + length earlier
  pub version : e.kind ≡ 1 → e.version ≡ (latest (put_at s.before) earlier).version + 1
  pub writer_signed : e.kind ≡ 1 → writer s.families s.store e ≡ true
  pub latest_put : e.kind ≡ 2 → put_by e ≡ latest (put_at s.before) earlier
  pub no_repeat : list_any (is_call e.client e.nonce) earlier ≡ false

abbrev pub FollowsText : Side → List (List ℕ) → List ℕ → Type 0
FollowsText s earlier text = (e : Entry) × (entry_of text ≡ Ok e) × Follows s earlier e

-- each text is an entry that may come next
abbrev pub LegalFrom : Side → List (List ℕ) → Type 0
LegalFrom s texts = Each (FollowsText s) texts

-- the segment is legal: so it is, and the latest put at its end is that of the tip after
pub record Legal (f : Frame) (texts : List (List ℕ)) : Type 0 where
  pub each : LegalFrom f.side texts
  pub tip : latest (put_at f.side.before) texts ≡ put_at f.after
