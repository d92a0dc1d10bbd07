-- Bytes in a room.
use Rattle.std.proofs.Common.{◌≡◌, ℕ, ◌+◌, ◌-◌, ◌≤◌, List, ◌++◌, length, take, drop, ap, sym, ◌∙◌, subst, arith, Option, zero-add, drop-drop}
use Rattle.std.specs.List.{slice_range, copy_within}
use Rattle.std.proofs.lemmas.List.Edits.{take-paste}
use Rattle.std.proofs.Math.Seq.{paste}
use Rattle.std.specs.Io.KnownBytes.{Consumes}
use Rattle.std.proofs.lemmas.List.{drop-take, length-take, length-drop}
use Rattle.std.proofs.Math.Seq.{take-add}
use Rattle.cp_session.specs.Traffic.{Grows}
use Rattle.cp_session.proofs.TrafficLemmas.{grows_by, grows_none}

-- what stands at the front of the room, and behind it what was read
pub room_grows : (old mid new : List ℕ) (k n : ℕ) (before after : Option (List ℕ)) → take k mid ≡ old → take k new ≡ take k mid
    → Consumes before after (take n (drop k new)) → Grows old (take (k + n) new) before after
room_grows old mid new k n before after front kept consumed =
    grows_by old (take (k + n) new) (take n (drop k new)) before after (take-add k n new ∙ ap (λ (xs : List ℕ). xs ++ take n (drop k new)) (kept ∙ front)) consumed

-- what is left behind the first bytes
pub room_drops : (room : List ℕ) (start stop n : ℕ) → n ≤ stop - start → slice_range room (start + n) stop ≡ drop n (slice_range room start stop)
room_drops room start stop n within =
    let split : stop - start ≡ n + (stop - (start + n)) = omega arith in
    let places : start + n ≡ n + start = omega arith in
    sym (ap (λ k. drop n (take k (drop start room))) split ∙ drop-take n (stop - (start + n)) (drop start room) ∙ ap (λ (xs : List ℕ). take (stop - (start + n)) xs) (drop-drop n start room))

pub room_length : (room : List ℕ) (start stop : ℕ) → start ≤ stop → stop ≤ length room → length (slice_range room start stop) ≡ stop - start
room_length room start stop ordered within = omega (arith, length-take (stop - start) (drop start room), length-drop start room)

-- the bytes moved to the front
pub room_moves : (room : List ℕ) (start stop : ℕ) → start ≤ stop → stop ≤ length room → take (stop - start) (copy_within room start stop 0) ≡ slice_range room start stop
room_moves room start stop ordered within =
    ap (λ k. take k (paste room 0 (drop start room) (stop - start))) (sym (zero-add (stop - start)))
    ∙ take-paste room 0 (drop start room) (stop - start) (omega arith) (omega (arith, length-drop start room))

-- they are there already
pub room_stays : (room : List ℕ) (start stop : ℕ) → start ≡ 0 → take (stop - start) room ≡ slice_range room start stop
room_stays room start stop none = ap (λ k. take (stop - start) (drop k room)) (sym none)

pub ruleset moves = (room_moves, room_stays)

pub view_from_zero : (room : List ℕ) (stop : ℕ) → take stop room ≡ slice_range room 0 stop
view_from_zero room stop = ap (λ k. take k room) (let whole : stop ≡ stop - 0 = omega arith in whole)

pub grows_same : (a b c d : List ℕ) (before after : Option (List ℕ)) → Grows a b before after → a ≡ c → b ≡ d → Grows c d before after
grows_same a b c d before after grows old new =
    subst (λ (x : List ℕ). Grows x d before after) old (subst (λ (x : List ℕ). Grows a x before after) new grows)

pub ruleset rooms = (room_length)

pub ruleset drops = (room_drops, room_length)

pub ruleset received = (view_from_zero, room_length, grows_none)
