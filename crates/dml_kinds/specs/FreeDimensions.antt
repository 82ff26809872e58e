-- The dimensions over which an expression lies.
use Rattle.std.specs.Prelude.{ℕ, Bool, true, false, not, ◌&&◌, ◌==◌, nat_le, List, [], ◌∷◌, ◌++◌, length, filter, Option, Some, None, if◌then◌else◌}
use Rattle.std.specs.List.{list_any, list_all, flat_map}
use Rattle.dml_tree.specs.declared.expr.Fix.{Fix}
use Rattle.dml_tree.specs.declared.expr.Target.{Target}
use Rattle.dml_tree.specs.declared.expr.Expr.{Expr}
use Rattle.dml_kinds.specs.Meanings.{Names, dimension_named, dimensions_named}
use Rattle.dml_kinds.specs.Names.{targets}

abbrev pub is_among : List ℕ → ℕ → Bool
is_among dimensions d = list_any (λ other. other == d) dimensions

-- the first appearances of those that aren't among these
abbrev pub appearing : List ℕ → List ℕ → List ℕ
appearing before [] = []
appearing before (d ∷ ds) = if is_among before d then appearing before ds else d ∷ appearing (before ++ d ∷ []) ds

abbrev pub first_appearances : List ℕ → List ℕ
first_appearances = appearing []

abbrev pub is_some_dimension : ℕ → Option ℕ → Bool
is_some_dimension d (Some other) = other == d
is_some_dimension d None = false

abbrev pub is_some_among : List ℕ → Option ℕ → Bool
is_some_among dimensions (Some d) = is_among dimensions d
is_some_among dimensions None = false

module _ (names : Names) where
  -- whether one of these values is fixed in this dimension
  abbrev pub is_fixed : List Fix → ℕ → Bool
  is_fixed fixes d = list_any (λ (fix : Fix). is_some_dimension d (dimension_named names fix.dimension)) fixes

  -- the dimensions of a name, without the fixed ones
  abbrev pub target_dimensions : Target → List ℕ
  target_dimensions target = filter (λ d. not (is_fixed target.fixes d)) (dimensions_named names target.name)

  -- those of all names, in order of first appearance
  abbrev pub free_dimensions : Expr → List ℕ
  free_dimensions e = first_appearances (flat_map target_dimensions (targets e))

  -- each value is fixed in a dimension that the name has
  abbrev pub fixes_fit : Target → Bool
  fixes_fit target =
      list_all (λ (fix : Fix). is_some_among (dimensions_named names target.name) (dimension_named names fix.dimension)) target.fixes

  -- and at most six are free
  abbrev pub dimensions_fit : Expr → Bool
  dimensions_fit e = list_all fixes_fit (targets e) && nat_le (length (free_dimensions e)) 6
