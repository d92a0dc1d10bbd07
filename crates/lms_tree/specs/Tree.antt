-- The nodes of the hash tree and the way up to its root (RFC 8554, 5.3 and 5.4.2).
use Rattle.std.specs.Prelude.{ℕ, zero, suc, ◌+◌, ◌-◌, ◌*◌, ◌/◌, ◌%◌, List, ◌++◌, take, drop, ◌==◌, if◌then◌else◌}
use Rattle.sha2.specs.Sha256.{sha256}
use Rattle.lms_ots.specs.Ots.{tagged}

-- D_LEAF and D_INTR (5.3)
abbrev pub d_leaf : ℕ
d_leaf = 0x8282

abbrev pub d_intr : ℕ
d_intr = 0x8383

-- the text that the node r over a leaf's one-time public key hashes
abbrev pub leaf_text : List ℕ → ℕ → List ℕ → List ℕ
leaf_text id r key = tagged id r d_leaf ++ key

-- that node
abbrev pub leaf_node : List ℕ → ℕ → List ℕ → List ℕ
leaf_node id r key = sha256 (leaf_text id r key)

-- the text that the node r over its two children hashes
abbrev pub inner_text : List ℕ → ℕ → List ℕ → List ℕ → List ℕ
inner_text id r left right = tagged id r d_intr ++ left ++ right

-- that node
abbrev pub inner_node : List ℕ → ℕ → List ℕ → List ℕ → List ℕ
inner_node id r left right = sha256 (inner_text id r left right)

-- the number of the node that has the same parent
abbrev pub sibling : ℕ → ℕ
sibling r = if r % 2 == 1 then r - 1 else r + 1

-- the number of the node n levels above the node r
unfoldable pub above : ℕ → ℕ → ℕ
above r zero = r
above r (suc n) = above r n / 2

-- the text that the parent of the node r with the value x hashes: an odd node stands at the right
abbrev pub parent_text : List ℕ → ℕ → List ℕ → List ℕ → List ℕ
parent_text id r x other = inner_text id (r / 2) (if r % 2 == 1 then other else x) (if r % 2 == 1 then x else other)

-- the parent
abbrev pub parent : List ℕ → ℕ → List ℕ → List ℕ → List ℕ
parent id r x other = sha256 (parent_text id r x other)

-- path[i]
abbrev pub path_at : List ℕ → ℕ → List ℕ
path_at path i = take 32 (drop (32 * i) path)

-- the node n levels above the node r with the value x, by the siblings in the path (5.4.2,
-- algorithm 6a, step 4)
unfoldable pub climb : List ℕ → List ℕ → ℕ → List ℕ → ℕ → List ℕ
climb id path r x zero = x
climb id path r x (suc n) = parent id (above r n) (climb id path r x n) (path_at path n)
