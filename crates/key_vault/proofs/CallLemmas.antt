-- What the vault's calls do, from what each call of the disk does.
use Rattle.std.proofs.Common.{◌≡◌, ◌⊎◌, inl, inr, ⊎_elim, ℕ, ◌+◌, ◌-◌, ◌*◌, ◌<◌, ◌≤◌, ◌^◌, min, List, [], ◌∷◌, length, take, drop, Some, Result, Ok, Err, OnOk, IsTrue, sym, ◌∙◌, ap, arith, subst, length-take}
use Rattle.std.proofs.lemmas.List.{take_min}
use Rattle.cp_outside.specs.Causes.{HasCause}
use Rattle.cp_outside.specs.Disks.{overwritten, IsTorn, Only, Among, Elapses, LeavesOnly}
use Rattle.cp_outside.specs.declared.disk.Disk as disk
use Rattle.key_vault.specs.declared.faults.LoadFault.{LoadFault}
use Rattle.key_vault.specs.declared.faults.LoadFault.TheVariants as load
use Rattle.key_vault.specs.Slots.{gate_of, id_in, reserved_in, opening, slot_bytes, fresh_slots, fresh, advanced, HasEither, HasNone}
use Rattle.key_vault.specs.Calls.{IsOpening, UnlessFailed, OnBlank, IsSettled, Loads, Formats}
use Rattle.key_vault.proofs.Moments.{started, goes_on, leaves_less}
use Rattle.key_vault.proofs.SlotLemmas.{id_size, front_id, front_gate, opening_front, opening_no_fault, opening_short, opening_number, long_of_number, first_torn, first_torn_id, second_torn, second_torn_id, advanced_is, advanced_number, advanced_gate, advanced_id, slots_torn, mark_torn, fresh_there, fresh_number, fresh_gate, fresh_id}

-- an answer that opening gives
is_opening : (id : List ℕ) (leaves : ℕ) (file : List ℕ) (answer : Result ℕ LoadFault) → answer ≡ opening id leaves file → IsOpening id leaves file answer
is_opening id leaves file (Ok n) is = is
is_opening id leaves file (Err load.DiskFault) is = tt
is_opening id leaves file (Err (load.Blank n)) is = is
is_opening id leaves file (Err load.OtherKey) is = is
is_opening id leaves file (Err (load.Damaged r l)) is = is

unless_failed : (answer : Result ℕ LoadFault) {P : Type 0} → P → UnlessFailed answer P
unless_failed (Ok n) p = p
unless_failed (Err load.DiskFault) p = tt
unless_failed (Err (load.Blank n)) p = p
unless_failed (Err load.OtherKey) p = p
unless_failed (Err (load.Damaged r l)) p = p

on_blank : (id : List ℕ) (leaves : ℕ) (file later : List ℕ) (answer : Result ℕ LoadFault) → IsOpening id leaves file answer → later ≡ file → OnBlank answer (length later < 129)
on_blank id leaves file later (Ok n) is same = tt
on_blank id leaves file later (Err load.DiskFault) is same = tt
on_blank id leaves file later (Err (load.Blank n)) is same = subst (λ (l : List ℕ). length l < 129) (sym same) (opening_short id leaves file n (sym is))
on_blank id leaves file later (Err load.OtherKey) is same = tt
on_blank id leaves file later (Err (load.Damaged r l)) is same = tt

on_ok : {T E : Type 0} (r : Result T E) {P : Type 0} → P → OnOk r P
on_ok (Ok x) p = p
on_ok (Err e) p = tt

-- what was read is the front of the file
pub read_front : (file into : List ℕ) (n : ℕ) → n ≡ min 129 (length file - 0) → take n into ≡ take n (drop 0 file) → take n into ≡ take 129 file
read_front file into n is same = same ∙ ap (λ (k : ℕ). take k file) (is ∙ whole) ∙ take_min 129 file
  where
    whole : min 129 (length file - 0) ≡ min 129 (length file)
    whole = omega arith

module _ {K : Type 0} (g : disk.Ghosts K) where
  -- a load that read the file
  pub loads : {T U E F : Type 0} (id : List ℕ) (leaves : ℕ) (d0 d1 d2 : K) (bytes : List ℕ) (answer : Result ℕ LoadFault) (synced : Result T E) (got : Result U F)
      → g.tells d1 ≡ g.tells d0 → g.tells d2 ≡ g.tells d1 → g.faults d0 ≤ g.faults d1 → g.faults d1 ≤ g.faults d2
      → (IsTrue (g.tells d0) → Only (g.seen d0) (g.images d1 (g.moment d1)))
      → (IsTrue (g.tells d0) → g.seen d1 ≡ g.seen d0)
      → (IsTrue (g.tells d0) → Among (g.images d0 (g.moment d0)) (g.images d1 (g.moment d1)))
      → (IsTrue (g.tells d0) → Elapses (g.moment d0) (g.moment d1) (g.images d0) (g.images d1) synced)
      → (IsTrue (g.tells d1) → g.seen d2 ≡ g.seen d1)
      → (IsTrue (g.tells d1) → Among (g.images d1 (g.moment d1)) (g.images d2 (g.moment d2)))
      → (IsTrue (g.tells d1) → Elapses (g.moment d1) (g.moment d2) (g.images d1) (g.images d2) got)
      → (IsTrue (g.tells d1) → bytes ≡ take 129 (g.seen d1))
      → opening id leaves bytes ≡ answer
      → Loads g id leaves d0 d2 answer
  loads id leaves d0 d1 d2 bytes answer synced got tells1 tells2 faults1 faults2 only seen1 among1 time1 seen2 among2 time2 front is = record {
    answer_is = answered;
    seen = λ told. seen2 (told1 told) ∙ seen1 told;
    durable = λ told. unless_failed answer (λ image left. only told image (among2 (told1 told) image left) ∙ sym (seen2 (told1 told) ∙ seen1 told));
    blank = λ told. on_blank id leaves (g.seen d0) (g.seen d2) answer (answered told) (seen2 (told1 told) ∙ seen1 told);
    any_moment = λ told.
        goes_on g.moment g.images d0 d1 d2 (g.images d0 (g.moment d0)) got
        (goes_on g.moment g.images d0 d0 d1 (g.images d0 (g.moment d0)) synced (started g.moment g.images d0 (g.images d0 (g.moment d0)) (λ image left. left)) (time1 told) (among1 told))
        (time2 (told1 told)) (λ image left. among1 told image (among2 (told1 told) image left));
    tells = tells2 ∙ tells1;
    never_falls = omega (arith, faults1, faults2);
    failed = λ failed. absurd (opening_no_fault id leaves bytes (is ∙ failed));
  }
    where
      told1 : IsTrue (g.tells d0) → IsTrue (g.tells d1)
      told1 told = subst IsTrue (sym tells1) told

      answered : IsTrue (g.tells d0) → IsOpening id leaves (g.seen d0) answer
      answered told = is_opening id leaves (g.seen d0) answer (sym is ∙ ap (λ (l : List ℕ). opening id leaves l) (front (told1 told)) ∙ opening_front id leaves (g.seen d1) ∙ ap (λ (l : List ℕ). opening id leaves l) (seen1 told))

  -- and what a vault that it opened has
  pub load_settles : (id : List ℕ) (leaves number gate : ℕ) (d0 d2 : K) (bytes : List ℕ) → Loads g id leaves d0 d2 (Ok number) → (IsTrue (g.tells d0) → bytes ≡ take 129 (g.seen d0))
      → id_in bytes ≡ id → gate_of bytes ≡ gate → length bytes ≡ 129 → IsTrue (g.tells d0) → IsSettled g d2 id number gate
  load_settles id leaves number gate d0 d2 bytes loaded front key current size told = record {
    reserved = ap reserved_in (loaded.seen told) ∙ opening_number id leaves (g.seen d0) number (sym (loaded.answer_is told));
    key = ap id_in (loaded.seen told) ∙ sym (front_id (g.seen d0) long) ∙ ap id_in (sym (front told)) ∙ key;
    current = ap gate_of (loaded.seen told) ∙ sym (front_gate (g.seen d0) long) ∙ ap gate_of (sym (front told)) ∙ current;
    durable = loaded.durable told;
  }
    where
      long : 129 ≤ length (g.seen d0)
      long = omega (arith, size, ap length (front told), length-take 129 (g.seen d0))

  -- what the four calls of a formatting do
  pub formats : {T E : Type 0} (id slots : List ℕ) (d0 d4 : K) (answer : Result T E) → length id ≡ 32 → slots ≡ fresh_slots id
      → (IsTrue (g.tells d0) → length (g.seen d0) < 129)
      → (IsTrue (g.tells d0) → OnOk answer (g.seen d4 ≡ overwritten (overwritten (g.seen d0) 0 slots) 128 (0 ∷ [])))
      → (IsTrue (g.tells d0) → OnOk answer (Only (g.seen d4) (g.images d4 (g.moment d4))))
      → (IsTrue (g.tells d0) → Only (g.seen d0) (g.images d0 (g.moment d0)) → LeavesOnly g.moment g.images d0 d4
      (λ image. IsTorn 0 slots (g.seen d0) image ⊎ IsTorn 128 (0 ∷ []) (overwritten (g.seen d0) 0 slots) image))
      → (IsTrue (g.tells d0) → g.moment d0 ≤ g.moment d4)
      → g.tells d4 ≡ g.tells d0 → HasCause (g.faults d0) (g.faults d4) answer → Formats g id d0 d4 answer
  formats id slots d0 d4 answer sized is short file durable any later tells cause = record {
    file = λ told. on_both answer (file told) (λ there. there ∙ ap (λ (l : List ℕ). overwritten (overwritten (g.seen d0) 0 l) 128 (0 ∷ [])) is ∙ fresh_there (g.seen d0) id sized (short told));
    durable = durable;
    any_moment = λ told only. leaves_less g.moment g.images d0 d4 _ (HasNone id)
        (λ image torn. ⊎_elim
        (λ first. slots_torn (g.seen d0) id sized (short told) image (subst (λ (l : List ℕ). IsTorn 0 l (g.seen d0) image) is first))
        (λ second. mark_torn (g.seen d0) id sized (short told) image (subst (λ (l : List ℕ). IsTorn 128 (0 ∷ []) (overwritten (g.seen d0) 0 l) image) is second)) torn)
        (any told only);
    later = later;
    tells = tells;
    cause = cause;
  }
    where
      on_both : {T E : Type 0} (r : Result T E) {P Q : Type 0} → OnOk r P → (P → Q) → OnOk r Q
      on_both (Ok x) p more = more p
      on_both (Err e) p more = tt

  pub format_settles : (id : List ℕ) (d : K) → length id ≡ 32 → g.seen d ≡ fresh id → Only (g.seen d) (g.images d (g.moment d)) → (s : List ℕ) → length s < 129 → IsSettled g d id 0 0
  format_settles id d sized is only s short = record {
    reserved = ap reserved_in is ∙ fresh_number s id sized short;
    key = ap id_in is ∙ fresh_id s id sized short;
    current = ap gate_of is ∙ fresh_gate s id sized short;
    durable = only;
  }

  -- what the four calls of a reservation do
  module _ (id bytes : List ℕ) (number n next gate other : ℕ) (d0 d4 : K) (fits : next < 2 ^ 64)
      (is : bytes ≡ slot_bytes id next) (more : next ≡ number + n) (turned : other ≡ 1 - gate)
      (settled : IsTrue (g.tells d0) → IsSettled g d0 id number gate) (tells : g.tells d4 ≡ g.tells d0) where
    long : IsTrue (g.tells d0) → 129 ≤ length (g.seen d0)
    long told = long_of_number (g.seen d0) number (settled told).reserved

    sized : IsTrue (g.tells d0) → length id ≡ 32
    sized told = ap length (sym (settled told).key) ∙ id_size (g.seen d0) (long told)

    other_is : IsTrue (g.tells d0) → other ≡ 1 - gate_of (g.seen d0)
    other_is told = turned ∙ ap (λ (k : ℕ). 1 - k) (sym (settled told).current)

    first : (told : IsTrue (g.tells d0)) (image : List ℕ) → IsTorn (64 * other) bytes (g.seen d0) image → HasEither id number (number + n) image
    first told image torn = (
      first_torn_id (g.seen d0) id (sized told) (long told) next fits image at_other ∙ (settled told).key,
      inl (first_torn (g.seen d0) id (sized told) (long told) next fits image at_other ∙ (settled told).reserved),
    )
      where
        at_other : IsTorn (64 * (1 - gate_of (g.seen d0))) (slot_bytes id next) (g.seen d0) image
        at_other = subst (λ (k : ℕ). IsTorn (64 * k) (slot_bytes id next) (g.seen d0) image) (other_is told) (subst (λ (l : List ℕ). IsTorn (64 * other) l (g.seen d0) image) is torn)

    second : (told : IsTrue (g.tells d0)) (image : List ℕ) → IsTorn 128 (other ∷ []) (overwritten (g.seen d0) (64 * other) bytes) image → HasEither id number (number + n) image
    second told image torn = (
      second_torn_id (g.seen d0) id (sized told) (long told) next fits image at_gate (settled told).key,
      ⊎_elim (λ old. inl (old ∙ (settled told).reserved)) (λ new. inr (new ∙ ap (λ (k : ℕ). Some k) more))
          (second_torn (g.seen d0) id (sized told) (long told) next fits image at_gate),
    )
      where
        at_gate : IsTorn 128 ((1 - gate_of (g.seen d0)) ∷ []) (overwritten (g.seen d0) (64 * (1 - gate_of (g.seen d0))) (slot_bytes id next)) image
        at_gate = subst (λ (k : ℕ). IsTorn 128 (k ∷ []) (overwritten (g.seen d0) (64 * k) (slot_bytes id next)) image) (other_is told)
            (subst (λ (l : List ℕ). IsTorn 128 (other ∷ []) (overwritten (g.seen d0) (64 * other) l) image) is torn)

    pub reserve_moments : (IsTrue (g.tells d0) → Only (g.seen d0) (g.images d0 (g.moment d0)) → LeavesOnly g.moment g.images d0 d4
        (λ image. IsTorn (64 * other) bytes (g.seen d0) image ⊎ IsTorn 128 (other ∷ []) (overwritten (g.seen d0) (64 * other) bytes) image))
        → IsTrue (g.tells d0) → LeavesOnly g.moment g.images d0 d4 (HasEither id number (number + n))
    reserve_moments any told = leaves_less g.moment g.images d0 d4 _ (HasEither id number (number + n))
        (λ image torn. ⊎_elim (first told image) (second told image) torn) (any told (settled told).durable)

    pub reserve_file : IsTrue (g.tells d0) → g.seen d4 ≡ overwritten (overwritten (g.seen d0) (64 * other) bytes) 128 (other ∷ []) → g.seen d4 ≡ advanced (g.seen d0) id (number + n)
    reserve_file told there = there ∙ advanced_is (g.seen d0) id bytes next other (other_is told) is ∙ ap (λ (k : ℕ). advanced (g.seen d0) id k) more

    pub reserve_settles : IsTrue (g.tells d0) → g.seen d4 ≡ advanced (g.seen d0) id (number + n) → Only (g.seen d4) (g.images d4 (g.moment d4)) → IsSettled g d4 id (number + n) other
    reserve_settles told there only = record {
      reserved = ap reserved_in same ∙ advanced_number (g.seen d0) id (sized told) (long told) next fits ∙ ap (λ (k : ℕ). Some k) more;
      key = ap id_in same ∙ advanced_id (g.seen d0) id (sized told) (long told) next fits;
      current = ap gate_of same ∙ advanced_gate (g.seen d0) id (sized told) (long told) next fits ∙ sym (other_is told);
      durable = only;
    }
      where
        same : g.seen d4 ≡ advanced (g.seen d0) id next
        same = there ∙ ap (λ (k : ℕ). advanced (g.seen d0) id k) (sym more)
