-- The names of an expression, from left to right, and the first of them that is refused.
use Rattle.std.specs.Prelude.{ℕ, ◌==◌, List, [], ◌∷◌, ◌++◌, map, Option, Some, None, if◌then◌else◌}
use Rattle.std.specs.List.{list_any, flat_map}
use Rattle.std.specs.Option.{option_map, option_and_then, option_or}
use Rattle.dml_tree.specs.declared.expr.Fix.{Fix}
use Rattle.dml_tree.specs.declared.expr.Target.{Target}
use Rattle.dml_tree.specs.declared.expr.Expr.{Expr, fold-Expr}
use Rattle.dml_tree.specs.declared.expr.Expr.TheOpen.{Expr-F}
use Rattle.dml_kinds.specs.declared.meaning.Known.{Known}
use Rattle.dml_kinds.specs.declared.meaning.Role.{Role}
use Rattle.dml_kinds.specs.declared.meaning.Role.TheVariants as role
use Rattle.dml_kinds.specs.declared.meaning.Use.{Use}
use Rattle.dml_kinds.specs.declared.fault.TypeFault.{TypeFault}
use Rattle.dml_kinds.specs.declared.fault.TypeFault.TheVariants.{Unknown, WrongKind, Repeat}
use Rattle.dml_kinds.specs.Meanings.{Names, fits, object_in}

-- ---- the names of an expression

-- what one level of an expression has
abbrev pub level_targets : Expr-F (List Target) → List Target
level_targets (Expr-F.Object target) = target ∷ []
level_targets (Expr-F.Grouped inner) = inner
level_targets (Expr-F.Not operand) = operand
level_targets (Expr-F.Negative operand) = operand
level_targets (Expr-F.Abs operand) = operand
level_targets (Expr-F.Joined joint left right) = left ++ right
level_targets (Expr-F.If condition first second) = condition ++ first ++ second
level_targets _ = []

-- the names with their fixed values, in the order in which they stand
abbrev pub targets : Expr → List Target
targets = fold-Expr (List Target) level_targets

abbrev pub targets_of_all : List Expr → List Target
targets_of_all expressions = flat_map targets expressions

abbrev pub use_as : Role → List ℕ → Use
use_as role name = record { name = name; role = role }

-- the dimensions of the fixed values, as written
abbrev pub fixed_names : List Fix → List (List ℕ)
fixed_names fixes = map (λ (fix : Fix). fix.dimension) fixes

-- a name, which stands in one role without fixed values and in another one with them
abbrev pub role_of : Role → Role → List Fix → Role
role_of plain at_fixes [] = plain
role_of plain at_fixes (fix ∷ fixes) = at_fixes

abbrev pub uses_of : Role → Role → Target → List Use
uses_of plain at_fixes target =
    use_as (role_of plain at_fixes target.fixes) target.name ∷ map (λ (fix : Fix). use_as role.Dimension fix.dimension) target.fixes

-- names are values, and the dimensions of fixed values are dimensions
abbrev pub value_uses : Target → List Use
value_uses target = uses_of role.Value role.Taken target

abbrev pub uses : List Target → List Use
uses targets = flat_map value_uses targets

-- the names that may not stand twice: the dimensions that one name fixes
abbrev pub groups : List Target → List (List (List ℕ))
groups targets = map (λ (target : Target). fixed_names target.fixes) targets

-- ---- the first that is refused

-- the first answer for one of these
abbrev pub first_of : {X Y : Type 0} → (X → Option Y) → List X → Option Y
first_of f [] = None
first_of f (x ∷ xs) = option_or (f x) (first_of f xs)

module _ (names : Names) where
  -- a name of which nothing is known, as written
  abbrev pub unknown : Use → Option (List ℕ)
  unknown needed = elim (names needed.name) [ Some known ↦ None | None ↦ Some needed.name ]

  -- a name that means something of another kind, as defined
  abbrev pub wrong_kind : Use → Option (List ℕ)
  wrong_kind needed =
      elim (names needed.name) [ Some known ↦ if fits needed.role known.meaning then None else Some known.name | None ↦ None ]

  -- the object that a name means: its name as defined, and its number
  abbrev pub named_object : List ℕ → Option (List ℕ × ℕ)
  named_object name =
      option_and_then (λ (known : Known). option_map (λ object. (known.name, object)) (object_in known.meaning)) (names name)

  -- the name as defined, where one of these numbers is that of its object
  abbrev pub repeats : List ℕ → List ℕ → Option (List ℕ)
  repeats before name =
      option_and_then (λ (object : List ℕ × ℕ). if list_any (λ other. other == object.1) before then Some object.0 else None)
      (named_object name)

  -- the number of its object, where it means one
  abbrev pub numbers : List ℕ → List ℕ
  numbers name = elim (named_object name) [ Some object ↦ object.1 ∷ [] | None ↦ [] ]

  -- the first of these names whose object was meant before, among those numbers and by the names before it
  abbrev pub repeated_after : List ℕ → List (List ℕ) → Option (List ℕ)
  repeated_after before [] = None
  repeated_after before (name ∷ more) = option_or (repeats before name) (repeated_after (before ++ numbers name) more)

  -- an object that stands twice in a group, as defined
  abbrev pub repeated : List (List ℕ) → Option (List ℕ)
  repeated group = repeated_after [] group

  -- of all names the first that is unknown, else the first of a wrong kind, else the first that stands twice
  abbrev pub names_refusal : List Use → List (List (List ℕ)) → Option TypeFault
  names_refusal needed groups =
      option_or (option_map Unknown (first_of unknown needed))
      (option_or (option_map WrongKind (first_of wrong_kind needed)) (option_map Repeat (first_of repeated groups)))
