-- Chains of one leaf that go on side by side, each by steps of its own number: this project's own.
use Rattle.std.specs.Prelude.{◌≡◌, ℕ, zero, suc, ◌<◌, ◌≤◌, List, [], ◌++◌, length, slice_index, slice_index_or}
use Rattle.lms_ots.specs.Ots.{chain}

-- Chains that stood at the steps `from` with the values `starts` have gone on to the steps `at` with
-- `values`, none beyond its step of `to`.
pub record Advanced (id : List ℕ) (q : ℕ) (from : List ℕ) (starts : List (List ℕ)) (to at : List ℕ) (values : List (List ℕ)) : Type 0 where
  pub forward : (i : ℕ) → i < length values → slice_index from i ≤ slice_index at i
  pub within : (i : ℕ) → i < length values → slice_index at i ≤ slice_index to i
  pub reached : (i : ℕ) → i < length values → slice_index_or values i [] ≡ chain id q i (slice_index from i) (slice_index at i) (slice_index_or starts i [])

-- the first n of some values, joined
unfoldable pub joined_to : List (List ℕ) → ℕ → List ℕ
joined_to values zero = []
joined_to values (suc n) = joined_to values n ++ slice_index_or values n []
