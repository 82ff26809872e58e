-- The dimensions over which a tree lies.
use Rattle.std.specs.Prelude.{ℕ, Bool, not, ◌==◌, List, [], ◌∷◌, ◌++◌, filter}
use Rattle.std.specs.List.{list_any}
use Rattle.dml_kinds.specs.declared.tree.FixedValue.{FixedValue}
use Rattle.dml_kinds.specs.declared.tree.Taken.{Taken}
use Rattle.dml_kinds.specs.declared.tree.Tree.{Tree, fold-Tree}
use Rattle.dml_kinds.specs.declared.tree.Tree.TheOpen.{Tree-F}

-- whether one of these values is fixed in this dimension
abbrev pub is_fixed_at : List FixedValue → ℕ → Bool
is_fixed_at fixes d = list_any (λ (fix : FixedValue). fix.dimension == d) fixes

-- the dimensions of an object, without the fixed ones
abbrev pub taken_dimensions : Taken → List ℕ
taken_dimensions taken = filter (λ d. not (is_fixed_at taken.fixes d)) taken.dimensions

-- what one level of a tree has
abbrev pub level_dimensions : Tree-F (List ℕ) → List ℕ
level_dimensions (Tree-F.Dimension dimension) = dimension ∷ []
level_dimensions (Tree-F.Variable kind taken) = taken_dimensions taken
level_dimensions (Tree-F.Relation target taken) = taken_dimensions taken
level_dimensions (Tree-F.Formula kind taken) = taken_dimensions taken
level_dimensions (Tree-F.Not operand) = operand
level_dimensions (Tree-F.Negative kind operand) = operand
level_dimensions (Tree-F.Abs kind operand) = operand
level_dimensions (Tree-F.AsNumber operand) = operand
level_dimensions (Tree-F.Joined j met left right) = left ++ right
level_dimensions (Tree-F.If met condition first second) = condition ++ (first ++ second)
level_dimensions _ = []

-- those of all names, from left to right
abbrev pub tree_dimensions : Tree → List ℕ
tree_dimensions = fold-Tree (List ℕ) level_dimensions
