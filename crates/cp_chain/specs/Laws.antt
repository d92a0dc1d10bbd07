-- The statements of the laws on segments and logs.
use Rattle.std.specs.Prelude.{ℕ, ◌≡◌, ◌≢◌, ◌↔◌, true, false, List, [], ◌∷◌, ◌++◌, length, Some, None, Ok}
use Rattle.std.specs.List.{Contains}
use Rattle.sha2.specs.Sha256.{sha256}
use Rattle.cp_bytes.specs.Hashes.{head_after, chain_text, chain_texts, CollisionFree}
use Rattle.cp_statements.specs.Entry.{Entry, entry_of}
use Rattle.cp_chain.specs.Frame.{Side, Frame}
use Rattle.cp_chain.specs.Legal.{Put, put_by, latest, FollowsText, LegalFrom, Legal}
use Rattle.cp_chain.specs.Rules.{Rule, broken, Found, IsFirstFault, first_fault}
use Rattle.cp_chain.specs.Standing.{reaches}

-- Behind no text the head and the latest put are those from before.
abbrev pub NoTextKeeps : Type 0
NoTextKeeps = (h : List ℕ) (p : Put) → (head_after h [] ≡ h) × (latest p [] ≡ p)

-- The head behind a text is the digest of the head behind all before it, and the text.
abbrev pub HeadByLast : Type 0
HeadByLast = (h : List ℕ) (texts : List (List ℕ)) (text : List ℕ) → head_after h (texts ++ text ∷ []) ≡ sha256 (chain_text (head_after h texts) text)

-- The latest put behind a put's entry is that entry's own.
abbrev pub LatestAtPut : Type 0
LatestAtPut = (p : Put) (texts : List (List ℕ)) (text : List ℕ) (e : Entry) → entry_of text ≡ Ok e → e.kind ≡ 1 → latest p (texts ++ text ∷ []) ≡ put_by e

-- Behind any other text, a get's entry or no entry, it is the latest of all before it.
abbrev pub LatestAtOther : Type 0
LatestAtOther = (p : Put) (texts : List (List ℕ)) (text : List ℕ) → ((e : Entry) → entry_of text ≡ Ok e → e.kind ≢ 1) → latest p (texts ++ text ∷ []) ≡ latest p texts

-- A segment grows by a text exactly where the text may come next.
abbrev pub GrowsByOne : Type 0
GrowsByOne = (s : Side) (texts : List (List ℕ)) (text : List ℕ) → LegalFrom s (texts ++ text ∷ []) ↔ (LegalFrom s texts × FollowsText s texts text)

-- A segment is legal exactly where no rule is broken at any place.
abbrev pub LegalIsUnbroken : Type 0
LegalIsUnbroken = (f : Frame) (texts : List (List ℕ)) → Legal f texts ↔ ((rule : Rule) (i other : ℕ) → broken f texts rule i other ≡ false)

-- There is no first fault exactly where the segment is legal.
abbrev pub NoFaultIsLegal : Type 0
NoFaultIsLegal = (f : Frame) (texts : List (List ℕ)) → (first_fault f texts ≡ None) ↔ Legal f texts

-- The first fault is broken, and comes first of all that are.
abbrev pub FirstFaultIsLeast : Type 0
FirstFaultIsLeast = (f : Frame) (texts : List (List ℕ)) (x : Found) → first_fault f texts ≡ Some x → IsFirstFault f texts x

-- From heads of one length as many texts, that lead to one head, are the same texts from the same
-- head, where none of the texts that are hashed on the way collide.
abbrev pub OneWayToAHead : Type 0
OneWayToAHead = (g h : List ℕ) (xs ys : List (List ℕ)) → length g ≡ length h → length xs ≡ length ys → CollisionFree (Contains (chain_texts g xs ++ chain_texts h ys)) → head_after g xs ≡ head_after h ys → (g ≡ h) × (xs ≡ ys)

-- So one segment at most reaches from tip to tip.
abbrev pub OneSegmentReaches : Type 0
OneSegmentReaches = (f : Frame) (xs ys : List (List ℕ)) → CollisionFree (Contains (chain_texts f.side.before.head xs ++ chain_texts f.side.before.head ys)) → reaches f xs ≡ true → reaches f ys ≡ true → xs ≡ ys
