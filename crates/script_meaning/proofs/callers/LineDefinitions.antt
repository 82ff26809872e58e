-- What the lines of a script define has a name, and is of a kind that a record has a form for.
use Rattle.std.specs.Prelude.{◌≡◌, ℕ, true, List, Some, Ok, IsTrue, refl}
use Rattle.std.proofs.Common.{subst}
use Rattle.std.proofs.lemmas.Bool.{and_from}
use Rattle.std.proofs.lemmas.Option.{none-some, same_Some}
use Rattle.aw_cell.specs.Names.{is_name}
use Rattle.aw_schema.specs.declared.definition.Def.{Def}
use Rattle.aw_schema.specs.Definitions.{has_form, is_spellable}
use Rattle.dml_tree.specs.declared.definition.Defined.{Defined}
use Rattle.dml_tree.specs.declared.definition.Defined.TheVariants as tree
use Rattle.dml_tree.specs.declared.definition.Definition.{Definition as Tree}
use Rattle.dml_lines.specs.Lines.{definition_in}
use Rattle.script_meaning.proofs.DefinedTrees.{IsTypedTree, definition-named, definition-typed}
use Rattle.ses_step.specs.declared.definition.Definition.{Definition}
use Rattle.ses_step.specs.declared.definition.NamedKind.{NamedKind}
use Rattle.ses_step.specs.declared.definition.NamedKind.TheVariants.{Dimension, Relation, Valueset, Variable}
use Rattle.ses_step.specs.Kept.{kept_kind}
use Rattle.script_meaning.specs.Defining as number
use Rattle.script_meaning.specs.Defining.{IsTyped, IsFormed, def_of}

-- the kind of a tree whose variable has a type
kind-typed : (what : Defined) → IsTypedTree what → (kind : NamedKind) → kept_kind what ≡ Some kind → IsTyped kind
kind-typed tree.Dimension typed kind is = subst IsTyped (same_Some Dimension kind is) tt
kind-typed (tree.Relation target base) typed kind is = subst IsTyped (same_Some (Relation target base) kind is) tt
kind-typed (tree.ValueSet dimension) typed kind is = subst IsTyped (same_Some (Valueset dimension) kind is) tt
kind-typed (tree.Variable type dimensions) typed kind is = subst IsTyped (same_Some (Variable type dimensions) kind is) typed
kind-typed (tree.Formula e from to) typed kind is = absurd (none-some kind is)
kind-typed (tree.Program program) typed kind is = absurd (none-some kind is)
kind-typed (tree.AggMap lines) typed kind is = absurd (none-some kind is)

pub read-formed : (lines : List (List ℕ)) (d : Tree) → definition_in lines ≡ Ok d → (kind : NamedKind) → kept_kind d.what ≡ Some kind → (let it : Definition = record { name = d.name; kind = kind } in IsFormed it)
read-formed lines d is kind kept =
    record { named = definition-named lines d is; typed = kind-typed d.what (definition-typed lines d is) kind kept }

-- a record has a form for it, whatever is defined
form-typed : (definitions : List Def) (kind : NamedKind) → IsTyped kind → has_form (number.kind_of definitions kind) ≡ true
form-typed definitions Dimension typed = refl
form-typed definitions (Relation target base) typed = refl
form-typed definitions (Valueset dimension) typed = refl
form-typed definitions (Variable type dimensions) typed = typed

pub spellable-formed : (definitions : List Def) (d : Definition) → IsFormed d → IsTrue (is_spellable (def_of definitions d))
spellable-formed definitions d it =
    and_from (is_name d.name) (has_form (number.kind_of definitions d.kind)) it.named (form-typed definitions d.kind it.typed)
