-- How a run of calls of a disk goes on.
use Rattle.std.proofs.Common.{inl, inr, ⊎_elim, ℕ, List, Result, arith}
use Rattle.cp_outside.specs.Disks.{Elapses, LeavesOnly}

module _ {D : Type 0} (moment : D → ℕ) (images : D → ℕ → List ℕ → Type 0) where
  -- before the first call
  pub started : (old : D) (P : List ℕ → Type 0) → ((image : List ℕ) → images old (moment old) image → P image) → LeavesOnly moment images old old P
  started old P here = record { later = omega arith; each = here; before = λ t image le left. inl left }

  -- one call more, after which a crash leaves what P holds of
  pub goes_on : {T E : Type 0} (old mid new : D) (P : List ℕ → Type 0) (r : Result T E) → LeavesOnly moment images old mid P
      → Elapses (moment mid) (moment new) (images mid) (images new) r
      → ((image : List ℕ) → images new (moment new) image → P image) → LeavesOnly moment images old new P
  goes_on old mid new P r so_far time here = record {
    later = omega (arith, so_far.later, time.later);
    each = λ image left. ⊎_elim (so_far.each image) (here image) (time.adds (moment old) image so_far.later left);
    before = λ t image le left. ⊎_elim (so_far.before t image le) (λ now. inr (here image now)) (time.adds t image (omega (arith, le, so_far.later)) left);
  }

  -- what follows from P
  pub leaves_less : (old new : D) (P Q : List ℕ → Type 0) → ((image : List ℕ) → P image → Q image) → LeavesOnly moment images old new P → LeavesOnly moment images old new Q
  leaves_less old new P Q more so_far = record {
    later = so_far.later;
    each = λ image left. more image (so_far.each image left);
    before = λ t image le left. ⊎_elim (λ past. inl past) (λ p. inr (more image p)) (so_far.before t image le left);
  }
