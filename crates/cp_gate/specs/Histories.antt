-- Histories that grow, and the items in them that name a seat. All of it is this project's own.
use Rattle.std.specs.Prelude.{◌≡◌, ◌≢◌, ℕ, ◌<◌, ◌==◌, Bool, false, nat_lt, All, List, [], ◌∷◌, ◌++◌, length, filter, count_by, if◌then◌else◌, slice_index_or, Option, Some, None}

module _ {I : Type 0} where
  -- of one list for each place, the one at a place
  abbrev pub seen_of : List (List I) → ℕ → List I
  seen_of seen place = slice_index_or seen place []

  -- the list ys starts with xs
  abbrev pub StartsWith : List I → List I → Type 0
  StartsWith ys xs = (rest : List I) × (ys ≡ xs ++ rest)

  -- ys is xs and then items of which none names the number k
  pub record OthersAdd (names : I → Option ℕ) (k : ℕ) (xs ys : List I) : Type 0 where
    pub rest : List I
    pub is : ys ≡ xs ++ rest
    pub foreign : All (λ x. names x ≢ Some k) rest

  -- ys is xs and then items that name the number k or none
  pub record SeatAdds (names : I → Option ℕ) (k : ℕ) (xs ys : List I) : Type 0 where
    pub rest : List I
    pub is : ys ≡ xs ++ rest
    pub own : All (λ x. (n : ℕ) → names x ≡ Some n → n ≡ k) rest

  -- ys is xs and then items that name numbers below the count or none
  pub record SeatsAdd (names : I → Option ℕ) (count : ℕ) (xs ys : List I) : Type 0 where
    pub added : List I
    pub is : ys ≡ xs ++ added
    pub low : All (λ x. (k : ℕ) → names x ≡ Some k → k < count) added

  abbrev pub longer : List I → List I → List I
  longer xs ys = if nat_lt (length xs) (length ys) then ys else xs

  -- of each place the longer list
  abbrev pub longest : List (List I) → List (List I) → List (List I)
  longest [] ys = []
  longest (x ∷ xs) [] = x ∷ longest xs []
  longest (x ∷ xs) (y ∷ ys) = longer x y ∷ longest xs ys

abbrev pub is_named : Option ℕ → ℕ → Bool
is_named None k = false
is_named (Some n) k = n == k

-- the items that name the number k, in order
abbrev pub items_of : {I : Type 0} → (I → Option ℕ) → ℕ → List I → List I
items_of names k xs = filter (λ x. is_named (names x) k) xs

-- how often the number k stands in the list
abbrev pub times : ℕ → List ℕ → ℕ
times k numbers = count_by (λ n. n == k) numbers

-- 1 where k is below the count, and else 0
abbrev pub once_below : ℕ → ℕ → ℕ
once_below k count = if nat_lt k count then 1 else 0
