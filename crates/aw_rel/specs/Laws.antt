-- What holds of leaves.
use Rattle.std.specs.Prelude.{ℕ, ◌≡◌, ◌≢◌, [], IsTrue}
use Rattle.aw_rel.specs.Hierarchy.{Tree, is_among, children_in, leaves_in, IsHierarchy}

-- a leaf is below one child of a value, and below no other
pub record IsBelowOneChild (tree : Tree) (slot leaf : ℕ) : Type 0 where
  pub child : ℕ
  pub is_child : IsTrue (is_among (children_in tree slot) child)
  pub below : IsTrue (is_among (leaves_in tree child) leaf)
  pub alone : (other : ℕ) → IsTrue (is_among (children_in tree slot) other) → IsTrue (is_among (leaves_in tree other) leaf) → other ≡ child

-- each leaf below a value that has children is below exactly one of them
abbrev pub LeavesAreOfOneChild : Type 0
LeavesAreOfOneChild = (tree : Tree) (slot leaf : ℕ) → IsHierarchy tree → children_in tree slot ≢ [] → IsTrue (is_among (leaves_in tree slot) leaf) → IsBelowOneChild tree slot leaf
