-- What drawing a leaf does to the vault's disk, from what opening and reserving do.
use Rattle.std.proofs.Common.{◌≡◌, ◌⊎◌, inl, inr, ⊎_elim, ℕ, ◌+◌, ◌<◌, ◌≤◌, Bool, true, false, List, length, Result, Ok, Err, refl, sym, ap, ◌∙◌, subst, arith}
use Rattle.std.specs.Prelude.{IsTrue, IsErr, nat_lt}
use Rattle.std.proofs.lemmas.Bool.{lt-ltb, le-ltb, ltb-false}
use Rattle.cp_bytes.specs.Fields.{◌>>=◌}
use Rattle.cp_outside.specs.Disks.{LeavesOnly}
use Rattle.cp_outside.specs.declared.disk.Disk as disk
use Rattle.key_vault.proofs.Moments.{leaves_less}
use Rattle.key_vault.proofs.SlotLemmas.{long_of_number, opening_number, opening_blank}
use Rattle.key_vault.specs.Calls.{Formats, Loads, Reserves}
use Rattle.key_vault.specs.Ranges.{Range}
use Rattle.key_vault.specs.Slots.{opening, advanced, HasEither, HasNone}
use Rattle.key_vault.specs.declared.faults.LoadFault.{LoadFault}
use Rattle.key_vault.specs.declared.faults.LoadFault.TheVariants as load
use Rattle.key_vault.specs.declared.faults.VaultFault.TheVariants as vault
use Rattle.cp_endings.specs.ClientEndings.{over}
use Rattle.cp_tool.specs.ClientInputs.{OpensVault}
use Rattle.cp_endings.specs.Endings.{Outcome, fault}
use Rattle.cp_tool.specs.PutRuns.{number_before, leaf_after, next_leaf, made_from, IsMaking, IsDrawing, DrawsLeaf}

-- a number, or an ending
abbrev number_is : ℕ → Result ℕ Outcome
number_is n = Ok n

abbrev ends_with : Outcome → Result ℕ Outcome
ends_with ending = Err ending

no_number : (n : ℕ) (ending : Outcome) → number_is n ≡ ends_with ending → ⊥
no_number n ending e = cc

same_ending : (a b : Outcome) → ends_with a ≡ ends_with b → a ≡ b
same_ending a b e = cc

over_no_fault : (r l : ℕ) → ends_with (over r l) ≡ ends_with fault → ⊥
over_no_fault r l e = omega (arith, ap (λ o. o.status) (same_ending (over r l) fault e))

abbrev gave_no : {T E : Type 0} → E → Result T E
gave_no e = Err e

same_number : (a b : ℕ) → number_is a ≡ number_is b → a ≡ b
same_number a b e = cc

not_err : (n : ℕ) → IsErr (number_is n) → ⊥
not_err n e = cc

-- a file that is not blank stays
made_long : (id file : List ℕ) → 129 ≤ length file → made_from id file ≡ file
made_long id file long = rw (le-ltb (length file) 129 long) refl

-- leaf 0 is drawn from a blank one
blank_next : (id : List ℕ) (leaves : ℕ) (file : List ℕ) → 0 < leaves → length file < 129 → next_leaf id leaves file ≡ number_is 0
unfolding next_leaf
blank_next id leaves file some short = rw (opening_blank id leaves file short, lt-ltb 0 leaves some) refl

-- one call after another leaves what either leaves
both_leave : {D : Type 0} (moment : D → ℕ) (images : D → ℕ → List ℕ → Type 0) (d0 d1 d2 : D) (P Q R : List ℕ → Type 0)
    → ((image : List ℕ) → P image → R image) → ((image : List ℕ) → Q image → R image)
    → LeavesOnly moment images d0 d1 P → LeavesOnly moment images d1 d2 Q → LeavesOnly moment images d0 d2 R
both_leave moment images d0 d1 d2 P Q R from_first from_second first second = record {
  later = omega (arith, first.later, second.later);
  each = λ image left. ⊎_elim (λ past. from_first image (first.each image past)) (λ q. from_second image q) (second.before (moment d0) image first.later left);
  before = λ t image le left. ⊎_elim
      (λ past. ⊎_elim (λ old. inl old) (λ p. inr (from_first image p)) (first.before t image le past))
      (λ q. inr (from_second image q)) (second.before t image (omega (arith, le, first.later)) left);
}

module _ {K : Type 0} (g : disk.Ghosts K) (is_image : (d : K) → IsTrue (g.tells d) → g.images d (g.moment d) (g.seen d))
    (counts : (d : K) (t : ℕ) (image : List ℕ) → IsTrue (g.tells d) → t ≤ g.moment d → g.images d (g.moment d) image → g.images d t image) where
  -- what is read after a call is one of the images since
  seen_left : (old new : K) (P : List ℕ → Type 0) → IsTrue (g.tells new) → LeavesOnly g.moment g.images old new P → P (g.seen new)
  seen_left old new P told left = left.each (g.seen new) (counts new (g.moment old) (g.seen new) told left.later (is_image new told))

  module _ (id : List ℕ) (leaves : ℕ) (d0 d1 : K) where
    -- what a crash may leave while the vault is opened, and while a leaf is drawn
    abbrev MayMake : List ℕ → Type 0
    MayMake image = g.images d0 (g.moment d0) image ⊎ IsMaking id (g.seen d0) image

    abbrev MayDraw : List ℕ → Type 0
    MayDraw image = g.images d0 (g.moment d0) image ⊎ IsDrawing id (g.seen d0) (next_leaf id leaves (g.seen d0)) image

    -- a vault that was loaded
    pub open_loaded : (number : ℕ) → Loads g id leaves d0 d1 (Ok number) → number ≤ leaves → OpensVault g id leaves d0 d1 (Ok number)
    open_loaded number loads within = record {
      number = λ told. inl (ap (λ (r : Result ℕ LoadFault). number_before r) (loads.answer_is told));
      made = λ told. loads.seen told ∙ sym (made_long id (g.seen d0) (long_of_number (g.seen d0) number (opening_number id leaves (g.seen d0) number (sym (loads.answer_is told)))));
      seen = λ told. inl (loads.seen told);
      any_moment = λ told. leaves_less g.moment g.images d0 d1 (g.images d0 (g.moment d0)) MayMake (λ image left. inl left) (loads.any_moment told);
      within = within;
      why = tt;
      refused = λ told err. loads.seen told;
      full = λ told n some is. loads.seen told;
      tells = loads.tells;
      never_falls = loads.never_falls;
      failed = λ e. absurd (no_number number fault e);
    }

    -- a blank vault that could not be made
    pub open_unmade : {T E : Type 0} (n : ℕ) (d2 : K) (e : E) → Loads g id leaves d0 d1 (Err (load.Blank n)) → Formats g id d1 d2 (gave_no {T = T} e) → OpensVault g id leaves d0 d2 (Err fault)
    open_unmade n d2 e loads formats = record {
      number = λ told. inr refl;
      made = λ told. tt;
      seen = λ told. inr (short told, seen_left d1 d2 (HasNone id) (subst IsTrue (sym formats.tells) (later told)) (left told));
      any_moment = λ told. both_leave g.moment g.images d0 d1 d2 (g.images d0 (g.moment d0)) (HasNone id) MayMake (λ image past. inl past) (λ image none. inr (short told, none)) (loads.any_moment told) (left told);
      within = tt;
      why = inl refl;
      refused = λ told err. absurd (not_err 0 (rw (blank told) at err));
      full = λ told k some is. absurd (omega (arith, some, same_number 0 k (sym (blank told) ∙ is)));
      tells = formats.tells ∙ loads.tells;
      never_falls = omega (arith, loads.never_falls, formats.cause.never_falls);
      failed = λ e. omega (arith, loads.never_falls, formats.cause.failed);
    }
      where
        later : IsTrue (g.tells d0) → IsTrue (g.tells d1)
        later told = subst IsTrue (sym loads.tells) told

        short : IsTrue (g.tells d0) → length (g.seen d0) < 129
        short told = subst (λ (l : List ℕ). length l < 129) (loads.seen told) (loads.blank told)

        left : IsTrue (g.tells d0) → LeavesOnly g.moment g.images d1 d2 (HasNone id)
        left told = formats.any_moment (later told) (loads.durable told)

        blank : IsTrue (g.tells d0) → number_before (opening id leaves (g.seen d0)) ≡ number_is 0
        blank told = rw (← loads.answer_is told) refl

    -- what opening leaves, drawing may leave
    making_draws : 0 < leaves → (image : List ℕ) → IsMaking id (g.seen d0) image → IsDrawing id (g.seen d0) (next_leaf id leaves (g.seen d0)) image
    making_draws some image making = subst (λ (r : Result ℕ Outcome). IsDrawing id (g.seen d0) r image) (sym (blank_next id leaves (g.seen d0) some making.0)) (inl making)

    may_draw : 0 < leaves → (image : List ℕ) → MayMake image → MayDraw image
    may_draw some image (inl old) = inl old
    may_draw some image (inr making) = inr (making_draws some image making)

    opened_seen : (answer : Result ℕ Outcome) → 0 < leaves → OpensVault g id leaves d0 d1 answer → IsTrue (g.tells d0)
        → (g.seen d1 ≡ g.seen d0) ⊎ IsDrawing id (g.seen d0) (next_leaf id leaves (g.seen d0)) (g.seen d1)
    opened_seen answer some opens told = go (opens.seen told)
      where
        go : (g.seen d1 ≡ g.seen d0) ⊎ IsMaking id (g.seen d0) (g.seen d1) → (g.seen d1 ≡ g.seen d0) ⊎ IsDrawing id (g.seen d0) (next_leaf id leaves (g.seen d0)) (g.seen d1)
        go (inl same) = inl same
        go (inr making) = inr (making_draws some (g.seen d1) making)

    opened_leaves : (answer : Result ℕ Outcome) → 0 < leaves → OpensVault g id leaves d0 d1 answer → IsTrue (g.tells d0) → LeavesOnly g.moment g.images d0 d1 MayDraw
    opened_leaves answer some opens told = leaves_less g.moment g.images d0 d1 MayMake MayDraw (may_draw some) (opens.any_moment told)

    -- a vault that gives no leaf keeps its bytes
    kept : (answer : Result ℕ Outcome) → 0 < leaves → OpensVault g id leaves d0 d1 answer → IsTrue (g.tells d0) → IsErr (next_leaf id leaves (g.seen d0)) → g.seen d1 ≡ g.seen d0
    unfolding next_leaf
    kept answer some opens told err = go (number_before (opening id leaves (g.seen d0))) refl err
      where
        full : (n : ℕ) (b : Bool) → nat_lt n leaves ≡ b → number_before (opening id leaves (g.seen d0)) ≡ Ok n → IsErr (leaf_after leaves n) → g.seen d1 ≡ g.seen d0
        full n true less is e = absurd (not_err n (rw less at e))
        full n false less is e = opens.full told n (omega (arith, some, ltb-false n leaves less)) is

        go : (r : Result ℕ Outcome) → number_before (opening id leaves (g.seen d0)) ≡ r → IsErr (r >>= leaf_after leaves) → g.seen d1 ≡ g.seen d0
        go (Ok n) is e = full n (nat_lt n leaves) refl is e
        go (Err ending) is e = opens.refused told (rw is refl)

    -- the vault was not opened
    pub draw_unopened : (ending : Outcome) → 0 < leaves → OpensVault g id leaves d0 d1 (Err ending) → DrawsLeaf g id leaves d0 d1 (Err ending)
    unfolding next_leaf
    draw_unopened ending some opens = record {
      next = λ told. next (opens.number told);
      reserved = λ told. tt;
      file = λ told. tt;
      seen = opened_seen (Err ending) some opens;
      any_moment = opened_leaves (Err ending) some opens;
      below = tt;
      why = opens.why;
      refused = kept (Err ending) some opens;
      tells = opens.tells;
      never_falls = opens.never_falls;
      failed = opens.failed;
    }
      where
        next : (ends_with ending ≡ number_before (opening id leaves (g.seen d0))) ⊎ (ends_with ending ≡ ends_with fault) → (ends_with ending ≡ next_leaf id leaves (g.seen d0)) ⊎ (ends_with ending ≡ ends_with fault)
        next (inl same) = inl (rw (← same) refl)
        next (inr failed) = inr failed

    -- the number that was read is the next leaf, where it is below the number of leaves
    next_is : (number : ℕ) → number + 1 ≤ leaves → OpensVault g id leaves d0 d1 (Ok number) → IsTrue (g.tells d0) → number_is number ≡ next_leaf id leaves (g.seen d0)
    unfolding next_leaf
    next_is number below opens told = go (opens.number told)
      where
        go : (number_is number ≡ number_before (opening id leaves (g.seen d0))) ⊎ (number_is number ≡ ends_with fault) → number_is number ≡ next_leaf id leaves (g.seen d0)
        go (inl same) = rw (← same, lt-ltb number leaves (omega arith)) refl
        go (inr failed) = absurd (no_number number fault failed)

    not_refused : (number : ℕ) → number + 1 ≤ leaves → OpensVault g id leaves d0 d1 (Ok number) → IsTrue (g.tells d0) → IsErr (next_leaf id leaves (g.seen d0)) → ⊥
    not_refused number below opens told err = not_err number (rw (← next_is number below opens told) at err)

    module _ (number : ℕ) (fid : List ℕ) (fleaves : ℕ) (d2 : K) (opens : OpensVault g id leaves d0 d1 (Ok number)) (id_is : fid ≡ id) (leaves_are : fleaves ≡ leaves) where
      told_open : IsTrue (g.tells d0) → IsTrue (g.tells d1)
      told_open told = subst IsTrue (sym opens.tells) told

      either_draws : number + 1 ≤ leaves → IsTrue (g.tells d0) → (image : List ℕ) → HasEither fid number (number + 1) image → IsDrawing id (g.seen d0) (next_leaf id leaves (g.seen d0)) image
      either_draws below told image either =
          subst (λ (r : Result ℕ Outcome). IsDrawing id (g.seen d0) r image) (next_is number below opens told)
          (inr (subst (λ (i : List ℕ). HasEither i number (number + 1) image) id_is either))

      -- what a reservation leaves, drawing may leave
      drawn_seen : number + 1 ≤ leaves → g.tells d2 ≡ g.tells d1 → (IsTrue (g.tells d1) → LeavesOnly g.moment g.images d1 d2 (HasEither fid number (number + 1))) → IsTrue (g.tells d0)
          → (g.seen d2 ≡ g.seen d0) ⊎ IsDrawing id (g.seen d0) (next_leaf id leaves (g.seen d0)) (g.seen d2)
      drawn_seen below tells left told =
          inr (either_draws below told (g.seen d2) (seen_left d1 d2 (HasEither fid number (number + 1)) (subst IsTrue (sym tells) (told_open told)) (left (told_open told))))

      drawn_leaves : number + 1 ≤ leaves → (IsTrue (g.tells d1) → LeavesOnly g.moment g.images d1 d2 (HasEither fid number (number + 1))) → IsTrue (g.tells d0)
          → LeavesOnly g.moment g.images d0 d2 MayDraw
      drawn_leaves below left told =
          let some : 0 < leaves = omega (arith, below) in
          both_leave g.moment g.images d0 d1 d2 MayMake (HasEither fid number (number + 1)) MayDraw (may_draw some) (λ image either. inr (either_draws below told image either))
          (opens.any_moment told) (left (told_open told))

      -- a leaf was reserved
      pub draw_reserved : (leaf : ℕ) (range : Range) → leaf ≡ number → Reserves g fid fleaves number 1 d1 d2 (Ok range) → DrawsLeaf g id leaves d0 d2 (Ok leaf)
      draw_reserved leaf range leaf_is reserves =
          let below : number + 1 ≤ leaves = omega (arith, reserves.over, leaves_are) in
          let made : DrawsLeaf g id leaves d0 d2 (Ok number) = record {
            next = λ told. inl (next_is number below opens told);
            reserved = λ told. record {
              reserved = reserves.number_is (subst IsTrue (sym opens.tells) told);
              key = (seen_left d1 d2 (HasEither fid number (number + 1)) (subst IsTrue (sym reserves.tells) (told_open told)) (reserves.any_moment (told_open told))).0 ∙ id_is;
              durable = reserves.durable (subst IsTrue (sym opens.tells) told);
            };
            file = λ told. reserves.file (told_open told)
                ∙ ap (λ (l : List ℕ). advanced l fid (number + 1)) (opens.made told) ∙ ap (λ (i : List ℕ). advanced (made_from id (g.seen d0)) i (number + 1)) id_is;
            seen = drawn_seen below reserves.tells reserves.any_moment;
            any_moment = drawn_leaves below reserves.any_moment;
            below = omega (arith, below);
            why = tt;
            refused = λ told err. absurd (not_refused number below opens told err);
            tells = reserves.tells ∙ opens.tells;
            never_falls = omega (arith, opens.never_falls, reserves.never_falls);
            failed = λ e. absurd (no_number number fault e);
          } in
          subst (λ (k : ℕ). DrawsLeaf g id leaves d0 d2 (Ok k)) (sym leaf_is) made

      -- no leaf is left
      pub draw_over : (r l : ℕ) → 0 < leaves → Reserves g fid fleaves number 1 d1 d2 (Err (vault.Over r l)) → DrawsLeaf g id leaves d0 d2 (Err (over r l))
      unfolding next_leaf
      draw_over r l some reserves = record {
        next = λ told. next (opens.number told);
        reserved = λ told. tt;
        file = λ told. tt;
        seen = λ told. subst (λ (d : K). (g.seen d ≡ g.seen d0) ⊎ IsDrawing id (g.seen d0) (next_leaf id leaves (g.seen d0)) (g.seen d)) (sym reserves.untouched) (opened_seen (Ok number) some opens told);
        any_moment = λ told. subst (λ (d : K). LeavesOnly g.moment g.images d0 d MayDraw) (sym reserves.untouched) (opened_leaves (Ok number) some opens told);
        below = tt;
        why = inr (inr (inl (r, l, refl)));
        refused = λ told err. ap g.seen reserves.untouched ∙ kept (Ok number) some opens told err;
        tells = reserves.tells ∙ opens.tells;
        never_falls = omega (arith, opens.never_falls, reserves.never_falls);
        failed = λ e. absurd (over_no_fault r l e);
      }
        where
          next : (number_is number ≡ number_before (opening id leaves (g.seen d0))) ⊎ (number_is number ≡ ends_with fault) → (ends_with (over r l) ≡ next_leaf id leaves (g.seen d0)) ⊎ (ends_with (over r l) ≡ ends_with fault)
          next (inl same) =
              let many : leaves ≤ number = omega (arith, reserves.over.2, leaves_are) in
              inl (rw (← same, le-ltb number leaves many, reserves.over.0, reserves.over.1, leaves_are) refl)
          next (inr failed) = absurd (no_number number fault failed)

      -- the disk failed
      pub draw_failed : Reserves g fid fleaves number 1 d1 d2 (Err vault.DiskFault) → DrawsLeaf g id leaves d0 d2 (Err fault)
      draw_failed reserves =
          let below : number + 1 ≤ leaves = omega (arith, reserves.over, leaves_are) in
          record {
            next = λ told. inr refl;
            reserved = λ told. tt;
            file = λ told. tt;
            seen = drawn_seen below reserves.tells reserves.any_moment;
            any_moment = drawn_leaves below reserves.any_moment;
            below = tt;
            why = inl refl;
            refused = λ told err. absurd (not_refused number below opens told err);
            tells = reserves.tells ∙ opens.tells;
            never_falls = omega (arith, opens.never_falls, reserves.never_falls);
            failed = λ e. omega (arith, opens.never_falls, reserves.failed refl);
          }

pub ruleset draws = (draw_unopened, draw_reserved, draw_over, draw_failed)
