-- Laws of writes, whole or cut short by a crash.
use Rattle.std.specs.Prelude.{◌≡◌, ◌⊎◌, ◌<◌, ◌≤◌, ℕ, ◌+◌, ◌-◌, min, List, [], ◌∷◌, ◌++◌, length, take, drop, replicate, refl}
use Rattle.std.proofs.Common.{inl, inr, sym, ◌∙◌, ap, arith, append_assoc, length-append, length-take, length-drop}
use Rattle.std.proofs.lemmas.List.{take-take, drop-drop, drop-take, take_min, take_at, drop_at, append-nil, length-replicate}
use Rattle.cp_outside.specs.Disks.{overwritten, IsTorn}

-- a part of a front
front : (i n k : ℕ) (xs : List ℕ) → n ≤ k → take n (drop i (take (i + k) xs)) ≡ take n (drop i xs)
front i n k xs le = ap (λ (l : List ℕ). take n l) (drop-take i k xs) ∙ take-take n k (drop i xs) le

pub front_to : (i n m : ℕ) (xs : List ℕ) → i + n ≤ m → take n (drop i (take m xs)) ≡ take n (drop i xs)
front_to i n m xs le =
    let whole : i + (m - i) ≡ m = omega arith in
    ap (λ (k : ℕ). take n (drop i (take k xs))) (sym whole) ∙ front i n (m - i) xs (omega arith)

-- a part of what is left
rest_to : (i n e : ℕ) (xs ys : List ℕ) → e ≤ i → drop e xs ≡ drop e ys → take n (drop i xs) ≡ take n (drop i ys)
rest_to i n e xs ys le same =
    let whole : e + (i - e) ≡ i = omega arith in
    ap (λ (k : ℕ). take n (drop k xs)) (sym whole)
    ∙ ap (λ (l : List ℕ). take n l) (sym (drop-drop (i - e) e xs) ∙ ap (λ (l : List ℕ). drop (i - e) l) same ∙ drop-drop (i - e) e ys)
    ∙ ap (λ (k : ℕ). take n (drop k ys)) whole

-- what lies outside the written range stays
pub torn_keeps : (at : ℕ) (bytes old new : List ℕ) → IsTorn at bytes old new → (i n : ℕ) → i + n ≤ length old
    → (i + n ≤ at) ⊎ (at + length bytes ≤ i) → take n (drop i new) ≡ take n (drop i old)
torn_keeps at bytes old new torn i n within (inl below) =
    sym (front_to i n (min at (length old)) new (omega arith)) ∙ ap (λ (l : List ℕ). take n (drop i l)) torn.before ∙ front_to i n at old below
torn_keeps at bytes old new torn i n within (inr above) = rest_to i n (at + length bytes) new old above torn.after

-- the part of the file up to the written bytes' end
abbrev pub up_to : ℕ → List ℕ → List ℕ → List ℕ
up_to at bytes old = take at old ++ replicate (at - length old) 0 ++ bytes

fill_size : (at : ℕ) (old : List ℕ) → length (take at old ++ replicate (at - length old) 0) ≡ at
fill_size at old =
    omega (arith, length-append (take at old) (replicate (at - length old) 0), length-take at old, length-replicate {A = ℕ} (at - length old) 0)

up_to_size : (at : ℕ) (bytes old : List ℕ) → length (up_to at bytes old) ≡ at + length bytes
up_to_size at bytes old = omega (arith, length-append (take at old ++ replicate (at - length old) 0) bytes, fill_size at old)

-- a write of some bytes
pub written_parts : (at : ℕ) (bytes old : List ℕ) → 0 < length bytes → overwritten old at bytes ≡ up_to at bytes old ++ drop (at + length bytes) old
written_parts at [] old some = absurd (omega (arith, some))
written_parts at (b ∷ bs) old some = refl

-- one that begins within the file
pub written_within : (at : ℕ) (bytes old : List ℕ) → at ≤ length old → 0 < length bytes → overwritten old at bytes ≡ take at old ++ (bytes ++ drop (at + length bytes) old)
written_within at bytes old le some =
    let gap : at - length old ≡ 0 = omega (arith, le) in
    written_parts at bytes old some
    ∙ ap (λ (k : ℕ). take at old ++ replicate k 0 ++ bytes ++ drop (at + length bytes) old) gap
    ∙ ap (λ (l : List ℕ). l ++ bytes ++ drop (at + length bytes) old) (append-nil (take at old))
    ∙ append_assoc (take at old) bytes (drop (at + length bytes) old)

-- and its length
pub written_size : (at : ℕ) (bytes old : List ℕ) → 0 < length bytes → length (overwritten old at bytes) ≡ at + length bytes + (length old - (at + length bytes))
written_size at bytes old some =
    ap length (written_parts at bytes old some)
    ∙ omega (arith, length-append (up_to at bytes old) (drop (at + length bytes) old), up_to_size at bytes old, length-drop (at + length bytes) old)

pub no_shorter : (at : ℕ) (bytes old : List ℕ) → length old ≤ length (overwritten old at bytes)
no_shorter at [] old = omega arith
no_shorter at (b ∷ bs) old = omega (arith, written_size at (b ∷ bs) old (omega arith))

-- a write that did nothing
pub torn_same : (at : ℕ) (bytes old : List ℕ) → IsTorn at bytes old old
torn_same at bytes old = record {
  before = take_min at old;
  after = refl;
  no_shorter = omega arith;
  no_longer = no_shorter at bytes old;
}

-- the written range has the bytes
pub written_there : (at : ℕ) (bytes old : List ℕ) → 0 < length bytes → take (length bytes) (drop at (overwritten old at bytes)) ≡ bytes
written_there at bytes old some =
    ap (λ (l : List ℕ). take (length bytes) (drop at l)) (written_parts at bytes old some ∙ append_assoc (take at old ++ replicate (at - length old) 0) bytes (drop (at + length bytes) old))
    ∙ ap (λ (l : List ℕ). take (length bytes) l) (drop_at (take at old ++ replicate (at - length old) 0) (bytes ++ drop (at + length bytes) old) at (fill_size at old))
    ∙ take_at bytes (drop (at + length bytes) old) (length bytes) refl

-- a whole write of some bytes is one that a crash may leave
some_whole : (at : ℕ) (bytes old : List ℕ) → 0 < length bytes → IsTorn at bytes old (overwritten old at bytes)
some_whole at bytes old some =
    let is = written_parts at bytes old some in
    record {
      before = ap (λ (l : List ℕ). take (min at (length old)) l) (is
          ∙ append_assoc (take at old ++ replicate (at - length old) 0) bytes (drop (at + length bytes) old)
          ∙ append_assoc (take at old) (replicate (at - length old) 0) (bytes ++ drop (at + length bytes) old))
          ∙ take_at (take at old) (replicate (at - length old) 0 ++ (bytes ++ drop (at + length bytes) old)) (min at (length old)) (length-take at old);
      after = ap (λ (l : List ℕ). drop (at + length bytes) l) is
          ∙ drop_at (up_to at bytes old) (drop (at + length bytes) old) (at + length bytes) (up_to_size at bytes old);
      no_shorter = no_shorter at bytes old;
      no_longer = omega arith;
    }

pub torn_whole : (at : ℕ) (bytes old : List ℕ) → IsTorn at bytes old (overwritten old at bytes)
torn_whole at [] old = torn_same at [] old
torn_whole at (b ∷ bs) old = some_whole at (b ∷ bs) old (omega arith)
