-- Whatever happens to a disk, no number falls below what was handed out.
use Rattle.std.proofs.Common.{◌≡◌, ◌⊎◌, inl, inr, ⊎_elim, ℕ, ◌+◌, ◌<◌, ◌≤◌, List, [], ◌∷◌, length, Option, Some, None, Ok, Err, IsTrue, refl, sym, ◌∙◌, ap, arith, subst}
use Rattle.std.specs.List.{AllByRecursion}
use Rattle.cp_outside.specs.declared.disk.Disk as disk
use Rattle.key_vault.specs.Ranges.{Range, IsIn}
use Rattle.key_vault.specs.Slots.{reserved_in, HasEither}
use Rattle.key_vault.specs.Calls.{Loads, Reserves}
use Rattle.key_vault.specs.Runs.{Call, Load, Format, Reserve, Event, Made, CutShort, Crashed, handed_out, HaveNoLeafTwice, HaveLeavesBelow, HasThemReserved, Does, Restarts, IsRun, last_disk}
use Rattle.key_vault.proofs.SlotLemmas.{long_of_number, opening_number}

all_more : {X : Type 0} (P Q : X → Type 0) → ((x : X) → P x → Q x) → (xs : List X) → AllByRecursion P xs → AllByRecursion Q xs
all_more P Q more [] all = tt
all_more P Q more (x ∷ xs) all = (more x all.0, all_more P Q more xs all.1)

-- the image has at least this number, where it isn't 0
abbrev pub AtLeast : ℕ → List ℕ → Type 0
AtLeast low image = (low ≡ 0) ⊎ ((n : ℕ) × (reserved_in image ≡ Some n) × (low ≤ n))

-- so has the held vault
abbrev pub OpenAbove : ℕ → Option ℕ → Type 0
OpenAbove low None = Unit {0}
OpenAbove low (Some n) = low ≤ n

-- the leaves from this number on are what may still be handed out
pub record Ahead (leaves low : ℕ) (ranges : List Range) : Type 0 where
  pub from : AllByRecursion (λ range. low ≤ range.from) ranges
  pub twice : HaveNoLeafTwice ranges
  pub below : HaveLeavesBelow leaves ranges

none_ahead : (leaves low : ℕ) → Ahead leaves low []
none_ahead leaves low = record { from = tt; twice = tt; below = tt }

-- one range before the others
one_ahead : (leaves low : ℕ) (range : Range) (ranges : List Range) → low ≤ range.from → range.from ≤ range.to → range.to ≤ leaves
    → Ahead leaves range.to ranges → Ahead leaves low (range ∷ ranges)
one_ahead leaves low range ranges le fits under later = record {
  from = (le, all_more (λ other. range.to ≤ other.from) (λ other. low ≤ other.from) (λ other more. omega (arith, le, fits, more)) ranges later.from);
  twice = (
    all_more (λ other. range.to ≤ other.from) (λ other. (leaf : ℕ) → IsIn leaf range → IsIn leaf other → ⊥)
        (λ other more leaf first second. absurd (omega (arith, more, first.1, second.0))) ranges later.from,
    later.twice,
  );
  below = ((λ leaf first. omega (arith, first.1, under)), later.below);
}

some_same : {A : Type 0} (m n : A) → Some m ≡ Some n → m ≡ n
some_same m n same = cc same

module _ {K : Type 0} (g : disk.Ghosts K) (id : List ℕ) (leaves : ℕ)
    (is_image : (d : K) → IsTrue (g.tells d) → g.images d (g.moment d) (g.seen d))
    (counts : (d : K) (t : ℕ) (image : List ℕ) → IsTrue (g.tells d) → t ≤ g.moment d → g.images d (g.moment d) image → g.images d t image) where
  -- what is known between two events
  pub record Given (low : ℕ) (held : Option ℕ) (d : K) : Type 0 where
    pub told : IsTrue (g.tells d)
    pub images : (image : List ℕ) → g.images d (g.moment d) image → AtLeast low image
    pub above : OpenAbove low held

  still_told : (old new : K) → g.tells new ≡ g.tells old → IsTrue (g.tells old) → IsTrue (g.tells new)
  still_told old new same told = subst IsTrue (sym same) told

  -- a blank disk has handed out nothing
  blank_is_low : (low : ℕ) (held : Option ℕ) (d : K) → Given low held d → length (g.seen d) < 129 → low ≡ 0
  blank_is_low low held d given short = ⊎_elim (λ zero. zero) (λ has. absurd (long has)) (given.images (g.seen d) (is_image d given.told))
    where
      long : (n : ℕ) × (reserved_in (g.seen d) ≡ Some n) × (low ≤ n) → ⊥
      long has = omega (arith, long_of_number (g.seen d) has.0 has.1, short)

  either_above : (low number n : ℕ) (image : List ℕ) → low ≤ number → HasEither id number (number + n) image → AtLeast low image
  either_above low number n image le has = ⊎_elim (λ old. inr (number, old, le)) (λ new. inr (number + n, new, omega (arith, le))) has.1

  -- at any moment of a call
  in_call : (low : ℕ) (held : Option ℕ) (call : Call) (old new : K) → Given low held old → Does g id leaves held call old new
      → (image : List ℕ) → g.images new (g.moment old) image → AtLeast low image
  in_call low held (Load answer) old new given does image left = given.images image ((does.any_moment given.told).each image left)
  in_call low held (Format answer) old new given does image left = inl (blank_is_low low held old given (does.0 given.told))
  in_call low None (Reserve n answer) old new given does image left = absurd does
  in_call low (Some number) (Reserve n answer) old new given does image left =
      either_above low number n image given.above ((does.1.any_moment given.told).each image left)

  tells_after : (held : Option ℕ) (call : Call) (old new : K) → Does g id leaves held call old new → g.tells new ≡ g.tells old
  tells_after held (Load answer) old new does = does.tells
  tells_after held (Format answer) old new does = does.1.tells
  tells_after None (Reserve n answer) old new does = absurd does
  tells_after (Some number) (Reserve n answer) old new does = does.1.tells

  later : (low : ℕ) (held : Option ℕ) (call : Call) (old new : K) → Given low held old → Does g id leaves held call old new → g.moment old ≤ g.moment new
  later low held (Load answer) old new given does = (does.any_moment given.told).later
  later low held (Format answer) old new given does = does.1.later given.told
  later low None (Reserve n answer) old new given does = absurd does
  later low (Some number) (Reserve n answer) old new given does = (does.1.any_moment given.told).later

  -- after a call whose vault, if there is one, has at least the number
  after_call : (low : ℕ) (held next : Option ℕ) (call : Call) (old new : K) → Given low held old → Does g id leaves held call old new → OpenAbove low next → Given low next new
  after_call low held next call old new given does above = record {
    told = still_told old new (tells_after held call old new does) given.told;
    images = λ image now. in_call low held call old new given does image
        (counts new (g.moment old) image (still_told old new (tells_after held call old new does) given.told) (later low held call old new given does) now);
    above = above;
  }

  -- after a crash
  after_crash : (low t : ℕ) (old new : K) → IsTrue (g.tells old) → ((image : List ℕ) → g.images old t image → AtLeast low image)
      → Restarts g t old new → Given low None new
  after_crash low t old new told above restarts = record {
    told = still_told old new restarts.tells told;
    images = λ image now. above image (restarts.images image now);
    above = tt;
  }

  -- a vault that was loaded has at least the number
  loaded : (low number : ℕ) (held : Option ℕ) (old new : K) → Given low held old → Loads g id leaves old new (Ok number) → low ≤ number
  loaded low number held old new given does = ⊎_elim (λ zero. omega (arith, zero)) has_more (given.images (g.seen old) (is_image old given.told))
    where
      has_more : (n : ℕ) × (reserved_in (g.seen old) ≡ Some n) × (low ≤ n) → low ≤ number
      has_more has =
          let same : n_of has ≡ number = some_same _ _ (sym has.1 ∙ opening_number id leaves (g.seen old) number (sym (does.answer_is given.told))) in
          omega (arith, same, has.2)
        where
          n_of : (n : ℕ) × (reserved_in (g.seen old) ≡ Some n) × (low ≤ n) → ℕ
          n_of p = p.0

  -- after a reservation
  reserved : (low number n : ℕ) (old new : K) (range : Range) → Given low (Some number) old → Reserves g id leaves number n old new (Ok range)
      → Given range.to (Some range.to) new
  reserved low number n old new range given does = record {
    told = still_told old new does.tells given.told;
    images = λ image now. inr (number + n, ap reserved_in (does.durable given.told image now) ∙ does.number_is given.told, omega (arith, does.range.1));
    above = omega arith;
  }

  -- what is known at the end
  pub record After (low : ℕ) (last : K) (ranges : List Range) : Type 0 where
    pub ahead : Ahead leaves low ranges
    pub images : (image : List ℕ) → g.images last (g.moment last) image → AtLeast low image
    pub kept : HasThemReserved g last ranges

  at_least : (low high : ℕ) (image : List ℕ) → low ≤ high → AtLeast high image → AtLeast low image
  at_least low high image le (inl zero) = inl (omega (arith, le, zero))
  at_least low high image le (inr has) = inr (has.0, has.1, omega (arith, le, has.2))

  reaches : (high : ℕ) (image : List ℕ) → 0 < high → AtLeast high image → (number : ℕ) × (reserved_in image ≡ Some number) × (high ≤ number)
  reaches high image some (inl zero) = absurd (omega (arith, some, zero))
  reaches high image some (inr has) = has

  pub run_ahead : (events : List Event) (held : Option ℕ) (d : K) (low : ℕ) → Given low held d → (run : IsRun g id leaves held d events)
      → After low (last_disk g id leaves held d events run) (handed_out events)
  run_ahead [] held d low given run = record { ahead = none_ahead leaves low; images = given.images; kept = tt }
  run_ahead (Crashed ∷ events) held d low given run =
      run_ahead events None run.0 low (after_crash low (g.moment d) d run.0 given.told given.images run.1) run.2
  run_ahead (CutShort call ∷ events) held d low given run =
      run_ahead events None run.1 low
      (after_crash low (g.moment d) run.0 run.1 (still_told d run.0 (tells_after held call d run.0 run.2) given.told) (in_call low held call d run.0 given run.2) run.3) run.4
  run_ahead (Made (Load (Ok number)) ∷ events) held d low given run =
      run_ahead events (Some number) run.0 low (after_call low held (Some number) (Load (Ok number)) d run.0 given run.1 (loaded low number held d run.0 given run.1)) run.2
  run_ahead (Made (Load (Err fault)) ∷ events) held d low given run =
      run_ahead events None run.0 low (after_call low held None (Load (Err fault)) d run.0 given run.1 tt) run.2
  run_ahead (Made (Format (Ok number)) ∷ events) held d low given run =
      run_ahead events (Some number) run.0 low
      (after_call low held (Some number) (Format (Ok number)) d run.0 given run.1 (omega (arith, blank_is_low low held d given (run.1.0 given.told)))) run.2
  run_ahead (Made (Format (Err fault)) ∷ events) held d low given run =
      run_ahead events None run.0 low (after_call low held None (Format (Err fault)) d run.0 given run.1 tt) run.2
  run_ahead (Made (Reserve n answer) ∷ events) None d low given run = absurd run.1
  run_ahead (Made (Reserve n (Err fault)) ∷ events) (Some number) d low given run =
      run_ahead events None run.0 low (after_call low (Some number) None (Reserve n (Err fault)) d run.0 given run.1 tt) run.2
  run_ahead (Made (Reserve n (Ok range)) ∷ events) (Some number) d low given run =
      let does = run.1.1 in
      let later = run_ahead events (Some range.to) run.0 range.to (reserved low number n d run.0 range given does) run.2 in
      record {
        ahead = one_ahead leaves low range (handed_out events) (omega (arith, given.above, does.range.0)) (omega (arith, does.range.0, does.range.1)) (omega (arith, does.range.1, does.over)) later.ahead;
        images = λ image left. at_least low range.to image (omega (arith, given.above, does.range.1)) (later.images image left);
        kept = (λ image left. reaches range.to image (omega (arith, run.1.0, does.range.1)) (later.images image left), later.kept);
      }

  pub run_is_disjoint : (start : K) (events : List Event) → IsTrue (g.tells start) → (run : IsRun g id leaves None start events)
      → HaveNoLeafTwice (handed_out events) × HaveLeavesBelow leaves (handed_out events) × HasThemReserved g (last_disk g id leaves None start events run) (handed_out events)
  run_is_disjoint start events told run =
      let after = run_ahead events None start 0 (record { told = told; images = λ image now. inl refl; above = tt }) run in
      (after.ahead.twice, after.ahead.below, after.kept)
