-- What a file has after a part of it was written.
use Rattle.std.proofs.Common.{◌≡◌, ◌⊎◌, inl, inr, ℕ, zero, suc, ◌+◌, ◌-◌, ◌*◌, ◌%◌, ◌<◌, ◌≤◌, ◌^◌, Bool, true, false, cond, List, [], ◌∷◌, ◌++◌, length, take, drop, replicate, get_or, Some, None, Result, Ok, Err, refl, sym, ◌∙◌, ap, arith, subst, length-append, length-take, length-drop, append_assoc}
use Rattle.std.proofs.lemmas.List.{take_all, drop_all, take_at, drop_at, get_or-take, get_or-drop, get_or_at, append-nil, length-replicate}
use Rattle.std.proofs.lemmas.Bool.Decides.{nat_tests}
use Rattle.std.proofs.lemmas.Nat.{from_be_bytes-to_be_bytes_8}
use Rattle.std.specs.Prelude.{nat_lt}
use Rattle.std.specs.Int.{w64, from_be_bytes, to_be_bytes}
use Rattle.std.specs.Str.{bytes_eq}
use Rattle.cp_outside.specs.Disks.{overwritten, IsTorn}
use Rattle.key_vault.specs.Slots.{gate_of, slot_of, number_at, id_in, reserved_in, opening, slot_bytes, fresh_slots, fresh, staged, advanced, HasNone}
use Rattle.key_vault.specs.declared.faults.LoadFault.{LoadFault}
use Rattle.key_vault.specs.declared.faults.LoadFault.TheVariants.{DiskFault, Blank, OtherKey, Damaged}
use Rattle.cp_outside.specs.DiskLaws.{torn_keeps, torn_whole, written_there, written_within, front_to}

-- a bit, and two of them
pub bit : (n : ℕ) → n < 2 → (n ≡ 0) ⊎ (n ≡ 1)
bit zero lt = inl refl
bit (suc zero) lt = inr refl
bit (suc (suc n)) lt = absurd (omega (arith, lt))

bits : (a b : ℕ) → a < 2 → b < 2 → (a ≡ b) ⊎ (a ≡ 1 - b)
bits a b lt less = elim (bit a lt) [
  | inl a_is ↦ elim (bit b less) [ inl b_is ↦ inl (omega (arith, a_is, b_is)) | inr b_is ↦ inr (omega (arith, a_is, b_is)) ]
  | inr a_is ↦ elim (bit b less) [ inl b_is ↦ inr (omega (arith, a_is, b_is)) | inr b_is ↦ inl (omega (arith, a_is, b_is)) ]
]

pub gate_bit : (file : List ℕ) → gate_of file < 2
gate_bit file = omega arith

lt_true : (m n : ℕ) → m < n → nat_lt m n ≡ true
lt_true m n lt = grind (arith, nat_tests)

lt_false : (m n : ℕ) → n ≤ m → nat_lt m n ≡ false
lt_false m n le = grind (arith, nat_tests)

-- the number of a file that isn't blank, and of one that is
pub number_of_long : (file : List ℕ) → 129 ≤ length file → reserved_in file ≡ Some (number_at (gate_of file) file)
unfolding reserved_in
number_of_long file long = ap (λ (b : Bool). cond b None (Some (number_at (gate_of file) file))) (lt_false (length file) 129 long)

pub number_of_blank : (file : List ℕ) → length file < 129 → reserved_in file ≡ None
unfolding reserved_in
number_of_blank file short = ap (λ (b : Bool). cond b None (Some (number_at (gate_of file) file))) (lt_true (length file) 129 short)

is_some_of : {A : Type 0} (n : A) → Some n ≡ None → ⊥
is_some_of n same = absurd (cc same)

lt_or_le : (a b : ℕ) → (a < b) ⊎ (b ≤ a)
lt_or_le a zero = inr (omega arith)
lt_or_le zero (suc b) = inl (omega arith)
lt_or_le (suc a) (suc b) = elim (lt_or_le a b) [ inl lt ↦ inl (omega (arith, lt)) | inr le ↦ inr (omega (arith, le)) ]

pub long_of_number : (file : List ℕ) (n : ℕ) → reserved_in file ≡ Some n → 129 ≤ length file
long_of_number file n has = elim (lt_or_le (length file) 129) [
  | inl short ↦ absurd (is_some_of n (sym has ∙ number_of_blank file short))
  | inr long ↦ long
]

-- slots and the gate that a write leaves
slot_kept : (k at : ℕ) (bytes old new : List ℕ) → IsTorn at bytes old new → k < 2 → 104 ≤ length old
    → (64 * k + 40 ≤ at) ⊎ (at + length bytes ≤ 64 * k) → slot_of k new ≡ slot_of k old
slot_kept k at bytes old new torn lt long outside = torn_keeps at bytes old new torn (64 * k) 40 (omega arith) outside

byte_of : (file : List ℕ) → get_or (take 1 (drop 128 file)) 0 0 ≡ get_or file 128 0
byte_of file = get_or-take 1 (drop 128 file) 0 0 (omega arith) ∙ get_or-drop 128 file 0 0

gate_kept : (at : ℕ) (bytes old new : List ℕ) → IsTorn at bytes old new → 129 ≤ length old → at + length bytes ≤ 128 → gate_of new ≡ gate_of old
gate_kept at bytes old new torn long outside =
    ap (λ (b : ℕ). b % 2) (sym (byte_of new) ∙ ap (λ (l : List ℕ). get_or l 0 0) (torn_keeps at bytes old new torn 128 1 long (inr outside)) ∙ byte_of old)

-- a file that isn't blank has a whole id
pub id_size : (file : List ℕ) → 129 ≤ length file → length (id_in file) ≡ 32
id_size file long =
    omega (arith, length-take 32 (slot_of (gate_of file) file), length-take 40 (drop (64 * gate_of file) file), length-drop (64 * gate_of file) file, gate_bit file, long)

-- the number in the slot that the gate names
number_same : (k : ℕ) (old new : List ℕ) → gate_of new ≡ k → slot_of k new ≡ slot_of k old → number_at (gate_of new) new ≡ number_at k old
number_same k old new gate slot =
    ap (λ (j : ℕ). number_at j new) gate ∙ ap (λ (l : List ℕ). from_be_bytes w64 (drop 32 l)) slot

-- and the id in it
id_same : (k : ℕ) (old new : List ℕ) → gate_of new ≡ k → slot_of k new ≡ slot_of k old → id_in new ≡ take 32 (slot_of k old)
id_same k old new gate slot = ap (λ (j : ℕ). take 32 (slot_of j new)) gate ∙ ap (λ (l : List ℕ). take 32 l) slot

-- a slot's parts
module _ (id : List ℕ) (sized : length id ≡ 32) (n : ℕ) where
  pub slot_size : length (slot_bytes id n) ≡ 40
  slot_size = omega (arith, sized, length-append id (to_be_bytes w64 n))

  pub slot_id : take 32 (slot_bytes id n) ≡ id
  slot_id = take_at id (to_be_bytes w64 n) 32 sized

  pub slot_number : n < 2 ^ 64 → from_be_bytes w64 (drop 32 (slot_bytes id n)) ≡ n
  slot_number fits = ap (λ (l : List ℕ). from_be_bytes w64 l) (drop_at id (to_be_bytes w64 n) 32 sized) ∙ from_be_bytes-to_be_bytes_8 n fits

-- a reservation: s is the file, and the other slot gets the number next
module _ (s id : List ℕ) (sized : length id ≡ 32) (long : 129 ≤ length s) (next : ℕ) (fits : next < 2 ^ 64) where
  abbrev k : ℕ
  k = gate_of s

  abbrev bytes : List ℕ
  bytes = slot_bytes id next

  lt : k < 2
  lt = gate_bit s

  forty : length bytes ≡ 40
  forty = slot_size id sized next

  outside : (64 * k + 40 ≤ 64 * (1 - k)) ⊎ (64 * (1 - k) + length bytes ≤ 64 * k)
  outside = elim (bit k lt) [ inl is ↦ inl (omega (arith, is)) | inr is ↦ inr (omega (arith, is, forty)) ]

  some : 0 < length bytes
  some = omega (arith, forty)

  -- while the slot is written the file has the old number
  pub first_torn : (image : List ℕ) → IsTorn (64 * (1 - k)) bytes s image → reserved_in image ≡ reserved_in s
  first_torn image torn =
      number_of_long image (omega (arith, long, torn.no_shorter))
      ∙ ap (λ (n : ℕ). Some n) (number_same k s image (gate_kept (64 * (1 - k)) bytes s image torn long (omega (arith, lt, forty))) (slot_kept k (64 * (1 - k)) bytes s image torn lt (omega (arith, long)) outside))
      ∙ sym (number_of_long s long)

  -- and the old id
  pub first_torn_id : (image : List ℕ) → IsTorn (64 * (1 - k)) bytes s image → id_in image ≡ id_in s
  first_torn_id image torn =
      id_same k s image (gate_kept (64 * (1 - k)) bytes s image torn long (omega (arith, lt, forty))) (slot_kept k (64 * (1 - k)) bytes s image torn lt (omega (arith, long)) outside)

  abbrev mid : List ℕ
  mid = overwritten s (64 * (1 - k)) bytes

  mid_torn : IsTorn (64 * (1 - k)) bytes s mid
  mid_torn = torn_whole (64 * (1 - k)) bytes s

  mid_long : 129 ≤ length mid
  mid_long = omega (arith, long, mid_torn.no_shorter)

  kept_slot : (image : List ℕ) → IsTorn 128 ((1 - k) ∷ []) mid image → slot_of k image ≡ slot_of k s
  kept_slot image torn =
      slot_kept k 128 ((1 - k) ∷ []) mid image torn lt (omega (arith, mid_long)) (inl (omega (arith, lt)))
      ∙ slot_kept k (64 * (1 - k)) bytes s mid mid_torn lt (omega (arith, long)) outside

  new_slot : (image : List ℕ) → IsTorn 128 ((1 - k) ∷ []) mid image → slot_of (1 - k) image ≡ bytes
  new_slot image torn =
      slot_kept (1 - k) 128 ((1 - k) ∷ []) mid image torn (omega arith) (omega (arith, mid_long)) (inl (omega arith))
      ∙ ap (λ (n : ℕ). take n (drop (64 * (1 - k)) mid)) (sym forty)
      ∙ written_there (64 * (1 - k)) bytes s some

  -- where the gate names the other slot, the file has the new number
  has_next : (image : List ℕ) → IsTorn 128 ((1 - k) ∷ []) mid image → gate_of image ≡ 1 - k → reserved_in image ≡ Some next
  has_next image torn gate =
      number_of_long image (omega (arith, mid_long, torn.no_shorter))
      ∙ ap (λ (n : ℕ). Some n) (ap (λ (j : ℕ). number_at j image) gate ∙ ap (λ (l : List ℕ). from_be_bytes w64 (drop 32 l)) (new_slot image torn) ∙ slot_number id sized next fits)

  -- while the gate is written it has the one or the other
  pub second_torn : (image : List ℕ) → IsTorn 128 ((1 - k) ∷ []) mid image → (reserved_in image ≡ reserved_in s) ⊎ (reserved_in image ≡ Some next)
  second_torn image torn = elim (bits (gate_of image) k (gate_bit image) lt) [
    | inl gate ↦ inl (number_of_long image (omega (arith, mid_long, torn.no_shorter)) ∙ ap (λ (n : ℕ). Some n) (number_same k s image gate (kept_slot image torn)) ∙ sym (number_of_long s long))
    | inr gate ↦ inr (has_next image torn gate)
  ]

  -- and both have the id
  pub second_torn_id : (image : List ℕ) → IsTorn 128 ((1 - k) ∷ []) mid image → id_in s ≡ id → id_in image ≡ id
  second_torn_id image torn key = elim (bits (gate_of image) k (gate_bit image) lt) [
    | inl gate ↦ id_same k s image gate (kept_slot image torn) ∙ key
    | inr gate ↦ ap (λ (j : ℕ). take 32 (slot_of j image)) gate ∙ ap (λ (l : List ℕ). take 32 l) (new_slot image torn) ∙ slot_id id sized next
  ]

  abbrev end : List ℕ
  end = overwritten mid 128 ((1 - k) ∷ [])

  end_torn : IsTorn 128 ((1 - k) ∷ []) mid end
  end_torn = torn_whole 128 ((1 - k) ∷ []) mid

  small : (n : ℕ) → n < 2 → n % 2 ≡ n
  small n less = omega (arith, less)

  end_gate : gate_of end ≡ 1 - k
  end_gate =
      ap (λ (b : ℕ). b % 2) (sym (byte_of end) ∙ ap (λ (l : List ℕ). get_or l 0 0) (written_there 128 ((1 - k) ∷ []) mid (omega arith)))
      ∙ small (1 - k) (omega arith)

  -- at the end it has the new number, in the other slot
  pub advanced_number : reserved_in (advanced s id next) ≡ Some next
  unfolding advanced staged
  advanced_number = has_next end end_torn end_gate

  pub advanced_gate : gate_of (advanced s id next) ≡ 1 - k
  unfolding advanced staged
  advanced_gate = end_gate

  pub advanced_id : id_in (advanced s id next) ≡ id
  unfolding advanced staged
  advanced_id =
      ap (λ (j : ℕ). take 32 (slot_of j end)) end_gate ∙ ap (λ (l : List ℕ). take 32 l) (new_slot end end_torn) ∙ slot_id id sized next

-- a formatting: s is the blank file
module _ (s id : List ℕ) (sized : length id ≡ 32) (short : length s < 129) where
  abbrev gap : List ℕ
  gap = replicate 24 0

  abbrev slot : List ℕ
  slot = slot_bytes id 0

  fresh_forty : length slot ≡ 40
  fresh_forty = slot_size id sized 0

  gap_size : length gap ≡ 24
  gap_size = refl

  pub fresh_size : length (fresh_slots id) ≡ 128
  unfolding fresh_slots
  fresh_size = omega (arith, fresh_forty, gap_size, length-append slot gap, length-append (slot ++ gap) slot, length-append (slot ++ gap ++ slot) gap)

  fresh_slot : (j : ℕ) → j < 2 → slot_of j (fresh_slots id) ≡ slot
  unfolding fresh_slots
  fresh_slot j less = elim (bit j less) [
    | inl is ↦ ap (λ (i : ℕ). slot_of i (slot ++ gap ++ slot ++ gap)) is
        ∙ ap (λ (l : List ℕ). take 40 l) (append_assoc (slot ++ gap) slot gap ∙ append_assoc slot gap (slot ++ gap))
        ∙ take_at slot (gap ++ (slot ++ gap)) 40 fresh_forty
    | inr is ↦ ap (λ (i : ℕ). slot_of i (slot ++ gap ++ slot ++ gap)) is
        ∙ ap (λ (l : List ℕ). take 40 (drop 64 l)) (append_assoc (slot ++ gap) slot gap)
        ∙ ap (λ (l : List ℕ). take 40 l) (drop_at (slot ++ gap) (slot ++ gap) 64 (omega (arith, fresh_forty, gap_size, length-append slot gap)))
        ∙ take_at slot gap 40 fresh_forty
  ]

  -- the slots alone, in place of the blank file
  slots_there : overwritten s 0 (fresh_slots id) ≡ fresh_slots id
  slots_there =
      written_within 0 (fresh_slots id) s (omega arith) (omega (arith, fresh_size))
      ∙ ap (λ (l : List ℕ). fresh_slots id ++ l) (drop_all (0 + length (fresh_slots id)) s (omega (arith, fresh_size, short)))
      ∙ append-nil (fresh_slots id)

  -- while the slots are written the file is blank
  pub slots_torn : (image : List ℕ) → IsTorn 0 (fresh_slots id) s image → HasNone id image
  slots_torn image torn = inl (number_of_blank image (omega (arith, torn.no_longer, ap length slots_there, fresh_size)))

  fresh_image : (image : List ℕ) → IsTorn 128 (0 ∷ []) (fresh_slots id) image → 129 ≤ length image → reserved_in image ≡ Some 0
  fresh_image image torn long =
      number_of_long image long
      ∙ ap (λ (n : ℕ). Some n) (ap (λ (l : List ℕ). from_be_bytes w64 (drop 32 l))
      (slot_kept (gate_of image) 128 (0 ∷ []) (fresh_slots id) image torn (gate_bit image) (omega (arith, fresh_size)) (inl (omega (arith, gate_bit image)))
      ∙ fresh_slot (gate_of image) (gate_bit image))
      ∙ slot_number id sized 0 (omega arith))

  fresh_image_id : (image : List ℕ) → IsTorn 128 (0 ∷ []) (fresh_slots id) image → id_in image ≡ id
  fresh_image_id image torn =
      ap (λ (l : List ℕ). take 32 l)
      (slot_kept (gate_of image) 128 (0 ∷ []) (fresh_slots id) image torn (gate_bit image) (omega (arith, fresh_size)) (inl (omega (arith, gate_bit image)))
      ∙ fresh_slot (gate_of image) (gate_bit image))
      ∙ slot_id id sized 0

  fresh_mark : (image : List ℕ) → IsTorn 128 (0 ∷ []) (overwritten s 0 (fresh_slots id)) image → IsTorn 128 (0 ∷ []) (fresh_slots id) image
  fresh_mark image torn = subst (λ (l : List ℕ). IsTorn 128 (0 ∷ []) l image) slots_there torn

  -- while the gate is written it is blank, or the key's with no leaf reserved
  pub mark_torn : (image : List ℕ) → IsTorn 128 (0 ∷ []) (overwritten s 0 (fresh_slots id)) image → HasNone id image
  mark_torn image torn = elim (lt_or_le (length image) 129) [
    | inl less ↦ inl (number_of_blank image less)
    | inr long ↦ inr (fresh_image_id image (fresh_mark image torn), fresh_image image (fresh_mark image torn) long)
  ]

  pub fresh_there : overwritten (overwritten s 0 (fresh_slots id)) 128 (0 ∷ []) ≡ fresh id
  fresh_there =
      ap (λ (l : List ℕ). overwritten l 128 (0 ∷ [])) slots_there
      ∙ written_within 128 (0 ∷ []) (fresh_slots id) (omega (arith, fresh_size)) (omega arith)
      ∙ ap (λ (l : List ℕ). l ++ ((0 ∷ []) ++ drop 129 (fresh_slots id))) (take_all 128 (fresh_slots id) (omega (arith, fresh_size)))
      ∙ ap (λ (l : List ℕ). fresh_slots id ++ ((0 ∷ []) ++ l)) (drop_all 129 (fresh_slots id) (omega (arith, fresh_size)))

  fresh_torn : IsTorn 128 (0 ∷ []) (fresh_slots id) (fresh id)
  fresh_torn = subst (λ (l : List ℕ). IsTorn 128 (0 ∷ []) (fresh_slots id) l)
      (ap (λ (l : List ℕ). overwritten l 128 (0 ∷ [])) (sym slots_there) ∙ fresh_there)
      (torn_whole 128 (0 ∷ []) (fresh_slots id))

  fresh_long : length (fresh id) ≡ 129
  fresh_long = omega (arith, fresh_size, length-append (fresh_slots id) (0 ∷ []))

  pub fresh_number : reserved_in (fresh id) ≡ Some 0
  fresh_number = fresh_image (fresh id) fresh_torn (omega (arith, fresh_long))

  pub fresh_gate : gate_of (fresh id) ≡ 0
  fresh_gate = ap (λ (b : ℕ). b % 2) (get_or_at (fresh_slots id) 0 [] 0 128 fresh_size)

  pub fresh_id : id_in (fresh id) ≡ id
  fresh_id =
      ap (λ (j : ℕ). take 32 (slot_of j (fresh id))) fresh_gate
      ∙ ap (λ (l : List ℕ). take 32 l) (slot_kept 0 128 (0 ∷ []) (fresh_slots id) (fresh id) fresh_torn (omega arith) (omega (arith, fresh_size)) (inl (omega arith)) ∙ fresh_slot 0 (omega arith))
      ∙ slot_id id sized 0

-- what opening reads: the front of the file
module _ (file : List ℕ) (long : 129 ≤ length file) where
  pub front_gate : gate_of (take 129 file) ≡ gate_of file
  front_gate = ap (λ (b : ℕ). b % 2) (get_or-take 129 file 128 0 (omega arith))

  front_slot : (j : ℕ) → j < 2 → slot_of j (take 129 file) ≡ slot_of j file
  front_slot j less = front_to (64 * j) 40 129 file (omega (arith, less))

  front_current : slot_of (gate_of (take 129 file)) (take 129 file) ≡ slot_of (gate_of file) file
  front_current = ap (λ (j : ℕ). slot_of j (take 129 file)) front_gate ∙ front_slot (gate_of file) (gate_bit file)

  pub front_id : id_in (take 129 file) ≡ id_in file
  front_id = ap (λ (l : List ℕ). take 32 l) front_current

  front_number : number_at (gate_of (take 129 file)) (take 129 file) ≡ number_at (gate_of file) file
  front_number = ap (λ (l : List ℕ). from_be_bytes w64 (drop 32 l)) front_current

-- opening by what it reads
abbrev opened_by : ℕ → List ℕ → List ℕ → ℕ → ℕ → Result ℕ LoadFault
opened_by size name id leaves number =
    cond (nat_lt size 129) (Err (Blank size)) (cond (bytes_eq name id) (cond (nat_lt leaves number) (Err (Damaged number leaves)) (Ok number)) (Err OtherKey))

opening_is : (id : List ℕ) (leaves : ℕ) (file : List ℕ) → opening id leaves file ≡ opened_by (length file) (id_in file) id leaves (number_at (gate_of file) file)
unfolding opening
opening_is id leaves file = refl

long_only : (m n : ℕ) (name id : List ℕ) (leaves number : ℕ) → 129 ≤ m → 129 ≤ n → opened_by m name id leaves number ≡ opened_by n name id leaves number
long_only m n name id leaves number le more =
    ap (λ (b : Bool). cond b (Err (Blank m)) (cond (bytes_eq name id) (cond (nat_lt leaves number) (Err (Damaged number leaves)) (Ok number)) (Err OtherKey))) (lt_false m 129 le)
    ∙ sym (ap (λ (b : Bool). cond b (Err (Blank n)) (cond (bytes_eq name id) (cond (nat_lt leaves number) (Err (Damaged number leaves)) (Ok number)) (Err OtherKey))) (lt_false n 129 more))

pub opening_front : (id : List ℕ) (leaves : ℕ) (file : List ℕ) → opening id leaves (take 129 file) ≡ opening id leaves file
opening_front id leaves file = elim (lt_or_le (length file) 129) [
  | inl less ↦ ap (λ (l : List ℕ). opening id leaves l) (take_all 129 file (omega (arith, less)))
  | inr long ↦ opening_is id leaves (take 129 file)
      ∙ ap (λ (l : List ℕ). opened_by (length (take 129 file)) l id leaves (number_at (gate_of (take 129 file)) (take 129 file))) (front_id file long)
      ∙ ap (λ (n : ℕ). opened_by (length (take 129 file)) (id_in file) id leaves n) (front_number file long)
      ∙ long_only (length (take 129 file)) (length file) (id_in file) id leaves (number_at (gate_of file) file) (omega (arith, length-take 129 file, long)) long
      ∙ sym (opening_is id leaves file)
]

ok_only : (a b c : Bool) (size leaves m n : ℕ)
    → cond a (Err (Blank size)) (cond b (cond c (Err (Damaged m leaves)) (Ok m)) (Err OtherKey)) ≡ Ok n → cond a None (Some m) ≡ Some n
ok_only true b c size leaves m n is = absurd (cc is)
ok_only false true true size leaves m n is = absurd (cc is)
ok_only false true false size leaves m n is = cc is
ok_only false false c size leaves m n is = absurd (cc is)

-- a vault that opens has the file's number
pub opening_number : (id : List ℕ) (leaves : ℕ) (file : List ℕ) (n : ℕ) → opening id leaves file ≡ Ok n → reserved_in file ≡ Some n
unfolding opening reserved_in
opening_number id leaves file n is = ok_only (nat_lt (length file) 129) (bytes_eq (id_in file) id) (nat_lt leaves (number_at (gate_of file) file)) (length file) leaves (number_at (gate_of file) file) n is

-- what opening answers, by its tests
pub opening_blank : (id : List ℕ) (leaves : ℕ) (file : List ℕ) → length file < 129 → opening id leaves file ≡ Err (Blank (length file))
opening_blank id leaves file short =
    opening_is id leaves file
    ∙ ap (λ (b : Bool). cond b (Err (Blank (length file))) (cond (bytes_eq (id_in file) id) (cond (nat_lt leaves (number_at (gate_of file) file)) (Err (Damaged (number_at (gate_of file) file) leaves)) (Ok (number_at (gate_of file) file))) (Err OtherKey))) (lt_true (length file) 129 short)

opening_long : (id : List ℕ) (leaves : ℕ) (file : List ℕ) → 129 ≤ length file
    → opening id leaves file ≡ cond (bytes_eq (id_in file) id) (cond (nat_lt leaves (number_at (gate_of file) file)) (Err (Damaged (number_at (gate_of file) file) leaves)) (Ok (number_at (gate_of file) file))) (Err OtherKey)
opening_long id leaves file long =
    opening_is id leaves file
    ∙ ap (λ (b : Bool). cond b (Err (Blank (length file))) (cond (bytes_eq (id_in file) id) (cond (nat_lt leaves (number_at (gate_of file) file)) (Err (Damaged (number_at (gate_of file) file) leaves)) (Ok (number_at (gate_of file) file))) (Err OtherKey))) (lt_false (length file) 129 long)

pub opening_other : (id : List ℕ) (leaves : ℕ) (file : List ℕ) → 129 ≤ length file → bytes_eq (id_in file) id ≡ false → opening id leaves file ≡ Err OtherKey
opening_other id leaves file long other =
    opening_long id leaves file long
    ∙ ap (λ (b : Bool). cond b (cond (nat_lt leaves (number_at (gate_of file) file)) (Err (Damaged (number_at (gate_of file) file) leaves)) (Ok (number_at (gate_of file) file))) (Err OtherKey)) other

opening_same : (id : List ℕ) (leaves : ℕ) (file : List ℕ) (n : ℕ) → 129 ≤ length file → bytes_eq (id_in file) id ≡ true → n ≡ number_at (gate_of file) file
    → opening id leaves file ≡ cond (nat_lt leaves n) (Err (Damaged n leaves)) (Ok n)
opening_same id leaves file n long same is =
    opening_long id leaves file long
    ∙ ap (λ (b : Bool). cond b (cond (nat_lt leaves (number_at (gate_of file) file)) (Err (Damaged (number_at (gate_of file) file) leaves)) (Ok (number_at (gate_of file) file))) (Err OtherKey)) same
    ∙ ap (λ (m : ℕ). cond (nat_lt leaves m) (Err (Damaged m leaves)) (Ok m)) (sym is)

pub opening_damaged : (id : List ℕ) (leaves : ℕ) (file : List ℕ) (n : ℕ) → 129 ≤ length file → bytes_eq (id_in file) id ≡ true → n ≡ number_at (gate_of file) file
    → leaves < n → opening id leaves file ≡ Err (Damaged n leaves)
opening_damaged id leaves file n long same is over =
    opening_same id leaves file n long same is ∙ ap (λ (b : Bool). cond b (Err (Damaged n leaves)) (Ok n)) (lt_true leaves n over)

pub opening_ok : (id : List ℕ) (leaves : ℕ) (file : List ℕ) (n : ℕ) → 129 ≤ length file → bytes_eq (id_in file) id ≡ true → n ≡ number_at (gate_of file) file
    → n ≤ leaves → opening id leaves file ≡ Ok n
opening_ok id leaves file n long same is within =
    opening_same id leaves file n long same is ∙ ap (λ (b : Bool). cond b (Err (Damaged n leaves)) (Ok n)) (lt_false leaves n within)

-- bytes put into the zeros
at_front : (id zeros held : List ℕ) → length id ≡ 32 → held ≡ id ++ drop (0 + length id) zeros → held ≡ id ++ drop 32 zeros
at_front id zeros held sized is =
    let starts : 0 + length id ≡ 32 = omega (arith, sized) in is ∙ ap (λ (k : ℕ). id ++ drop k zeros) starts

pub slot_put : (id count zeros held : List ℕ) → length id ≡ 32 → length count ≡ 8 → length zeros ≡ 40 → held ≡ id ++ drop (0 + length id) zeros
    → take 32 held ++ count ++ drop (32 + length count) held ≡ id ++ count
slot_put id count zeros held sized eight fits is =
    ap (λ (l : List ℕ). take 32 l ++ count ++ drop (32 + length count) l) (at_front id zeros held sized is)
    ∙ ap (λ (l : List ℕ). l ++ count ++ drop (32 + length count) (id ++ drop 32 zeros)) (take_at id (drop 32 zeros) 32 sized)
    ∙ ap (λ (l : List ℕ). id ++ count ++ l) (drop_all (32 + length count) (id ++ drop 32 zeros)
    (omega (arith, sized, eight, fits, length-append id (drop 32 zeros), length-drop 32 zeros)))
    ∙ append-nil (id ++ count)

gap_after : (id : List ℕ) → id ++ to_be_bytes w64 0 ++ replicate 24 0 ≡ id ++ replicate 32 0
gap_after id = append_assoc id (to_be_bytes w64 0) (replicate 24 0)

pub fresh_put : (id zeros held : List ℕ) → length id ≡ 32 → zeros ≡ replicate 128 0 → held ≡ id ++ drop (0 + length id) zeros
    → take 64 held ++ id ++ drop (64 + length id) held ≡ fresh_slots id
unfolding fresh_slots
fresh_put id zeros held sized is_zero is =
    ap (λ (l : List ℕ). take 64 l ++ id ++ drop (64 + length id) l) (at_front id zeros held sized is ∙ ap (λ (l : List ℕ). id ++ drop 32 l) is_zero)
    ∙ ap (λ (l : List ℕ). l ++ id ++ drop (64 + length id) (id ++ replicate 96 0)) front_part
    ∙ ap (λ (l : List ℕ). id ++ replicate 32 0 ++ id ++ l) back_part
    ∙ append_assoc (id ++ replicate 32 0) id (replicate 32 0)
    ∙ ap (λ (l : List ℕ). id ++ replicate 32 0 ++ l) (sym (gap_after id))
    ∙ sym (append_assoc (id ++ replicate 32 0) (id ++ to_be_bytes w64 0) (replicate 24 0))
    ∙ ap (λ (l : List ℕ). l ++ (id ++ to_be_bytes w64 0) ++ replicate 24 0) (sym (gap_after id))
  where
    halves : length (id ++ replicate 32 0) ≡ 64
    halves = omega (arith, sized, length-append id (replicate 32 0), length-replicate {A = ℕ} 32 0)

    whole : id ++ replicate 96 0 ≡ (id ++ replicate 32 0) ++ replicate 64 0
    whole = sym (append_assoc id (replicate 32 0) (replicate 64 0))

    front_part : take 64 (id ++ replicate 96 0) ≡ id ++ replicate 32 0
    front_part = ap (λ (l : List ℕ). take 64 l) whole ∙ take_at (id ++ replicate 32 0) (replicate 64 0) 64 halves

    thirds : length (id ++ replicate 64 0) ≡ 64 + length id
    thirds = omega (arith, sized, length-append id (replicate 64 0), length-replicate {A = ℕ} 64 0)

    back_part : drop (64 + length id) (id ++ replicate 96 0) ≡ replicate 32 0
    back_part = ap (λ (l : List ℕ). drop (64 + length id) l) (sym (append_assoc id (replicate 64 0) (replicate 32 0)))
        ∙ drop_at (id ++ replicate 64 0) (replicate 32 0) (64 + length id) thirds

-- a slot that was read
pub slot_read : (k : ℕ) (file : List ℕ) → take (64 * k + 40 - 64 * k) (drop (64 * k) file) ≡ slot_of k file
slot_read k file = let forty : 64 * k + 40 - 64 * k ≡ 40 = omega arith in ap (λ (n : ℕ). take n (drop (64 * k) file)) forty

-- opening never finds a fault of the disk
pub opening_no_fault : (id : List ℕ) (leaves : ℕ) (file : List ℕ) → opening id leaves file ≡ Err DiskFault → ⊥
unfolding opening
opening_no_fault id leaves file is = no_fault (nat_lt (length file) 129) (bytes_eq (id_in file) id) (nat_lt leaves (number_at (gate_of file) file)) (length file) leaves (number_at (gate_of file) file) is
  where
    no_fault : (a b c : Bool) (size leaves m : ℕ) → cond a (Err (Blank size)) (cond b (cond c (Err (Damaged m leaves)) (Ok m)) (Err OtherKey)) ≡ Err DiskFault → ⊥
    no_fault true b c size leaves m is = absurd (cc is)
    no_fault false true true size leaves m is = absurd (cc is)
    no_fault false true false size leaves m is = absurd (cc is)
    no_fault false false c size leaves m is = absurd (cc is)

-- and a blank file only where it is short
pub opening_short : (id : List ℕ) (leaves : ℕ) (file : List ℕ) (n : ℕ) → opening id leaves file ≡ Err (Blank n) → length file < 129
opening_short id leaves file n is = elim (lt_or_le (length file) 129) [
  | inl less ↦ less
  | inr long ↦ absurd (long_finds (bytes_eq (id_in file) id) (nat_lt leaves (number_at (gate_of file) file)) leaves (number_at (gate_of file) file) (sym (opening_long id leaves file long) ∙ is))
]
  where
    long_finds : (b c : Bool) (leaves m : ℕ) → cond b (cond c (Err (Damaged m leaves)) (Ok m)) (Err OtherKey) ≡ Err (Blank n) → ⊥
    long_finds true true leaves m is = absurd (cc is)
    long_finds true false leaves m is = absurd (cc is)
    long_finds false c leaves m is = absurd (cc is)

-- what the writes of a reservation make
pub advanced_is : (s id written : List ℕ) (next other : ℕ) → other ≡ 1 - gate_of s → written ≡ slot_bytes id next
    → overwritten (overwritten s (64 * other) written) 128 (other ∷ []) ≡ advanced s id next
unfolding advanced staged
advanced_is s id written next other is holds =
    ap (λ (l : List ℕ). overwritten (overwritten s (64 * other) l) 128 (other ∷ [])) holds
    ∙ ap (λ (k : ℕ). overwritten (overwritten s (64 * k) (slot_bytes id next)) 128 (k ∷ [])) is
