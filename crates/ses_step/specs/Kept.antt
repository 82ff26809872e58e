-- What is defined of the kinds that can be defined so far: those that have generations.
use Rattle.std.specs.Prelude.{Option, Some, None}
use Rattle.dml_tree.specs.declared.definition.Defined.{Defined}
use Rattle.dml_tree.specs.declared.definition.Defined.TheVariants as tree
use Rattle.ses_step.specs.declared.definition.NamedKind.{NamedKind}
use Rattle.ses_step.specs.declared.definition.NamedKind.TheVariants.{Dimension, Relation, Valueset, Variable}

abbrev pub kept_kind : Defined → Option NamedKind
kept_kind tree.Dimension = Some Dimension
kept_kind (tree.Relation target base) = Some (Relation target base)
kept_kind (tree.ValueSet dimension) = Some (Valueset dimension)
kept_kind (tree.Variable kind dimensions) = Some (Variable kind dimensions)
kept_kind _ = None
