-- Whether a statement is accepted, and what refuses it first.
use Rattle.std.specs.Prelude.{ℕ, ◌&&◌, Bool, List, ◌∷◌, ◌++◌, map, Option, Result, is_some}
use Rattle.std.specs.List.{list_all, filter_map}
use Rattle.aw_cell.specs.declared.cell.Kind.{Kind}
use Rattle.dml_tree.specs.Weight.{weight_of_all}
use Rattle.dml_tree.specs.declared.expr.Expr.{Expr}
use Rattle.dml_tree.specs.declared.statement.Statement.{Statement}
use Rattle.dml_kinds.specs.declared.fault.TypeFault.{TypeFault}
use Rattle.dml_kinds.specs.declared.meaning.Use.{Use}
use Rattle.dml_kinds.specs.Signatures.{Told}
use Rattle.dml_kinds.specs.Meanings.{Names, weight_named}
use Rattle.dml_kinds.specs.Names.{targets_of_all, uses, groups, names_refusal, named_object}
use Rattle.dml_kinds.specs.Types.{type_of}
use Rattle.dml_kinds.specs.FreeDimensions.{free_dimensions, dimensions_fit}
use Rattle.dml_kinds.specs.Checking.{first_refusal, answer, typed}
use Rattle.dml_types.specs.declared.checking.Typed.{Typed}
use Rattle.dml_types.specs.Statements.{own_uses, own_group, expressions, own_types_fit, own_dimensions_fit}

module _ (names : Names) where
  -- with these locals: the objects that its names outside of expressions mean, and its expressions, each in the order written
  abbrev pub typed_statement : List (List ℕ × Kind) → Statement → Typed
  typed_statement locals s =
      record {
        objects = filter_map (λ (needed : Use). named_object names needed.name) (own_uses s);
        expressions = map (typed names locals) (expressions names s);
      }

  abbrev pub are_typed : List Expr → Bool
  are_typed es = list_all (λ e. is_some (type_of names e)) es

  module _ (known : Told) where
    abbrev pub types_fit : Statement → List Expr → Bool
    types_fit s es = are_typed es && own_types_fit names known s (filter_map (type_of names) es)

    abbrev pub statement_dimensions_fit : Statement → List Expr → Bool
    statement_dimensions_fit s es =
        list_all (dimensions_fit names) es && own_dimensions_fit names known s (map (free_dimensions names) es)

    -- the refusal of a statement that has these expressions
    abbrev pub refusal_with : Statement → List Expr → Option TypeFault
    refusal_with s es =
        first_refusal
        (names_refusal names (own_uses s ++ uses (targets_of_all es)) (own_group s ∷ groups (targets_of_all es)))
        (types_fit s es) (statement_dimensions_fit s es)
        (weight_of_all (weight_named names) es)

    abbrev pub statement_refusal : Statement → Option TypeFault
    statement_refusal s = refusal_with s (expressions names s)

    -- where the program has these locals
    abbrev pub statement_answer : List (List ℕ × Kind) → Statement → Result Typed TypeFault
    statement_answer locals s = answer (statement_refusal s) (typed_statement locals s)
