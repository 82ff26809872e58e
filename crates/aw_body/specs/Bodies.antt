-- Bodies: what an object that is kept holds.
use Rattle.std.specs.Prelude.{ℕ, ◌≡◌, List, [], length, Option, Some, None}
use Rattle.aw_cell.specs.declared.cell.Kind.{Kind}
use Rattle.aw_cell.specs.declared.cell.Kind.TheVariants.{Slot}
use Rattle.aw_dim.specs.DimensionState.{IsDimension}
use Rattle.aw_dim.specs.Edits as dimension
use Rattle.aw_schema.specs.declared.definition.DefKind.{DefKind}
use Rattle.aw_schema.specs.declared.definition.DefKind.TheVariants.{Dimension, Relation, Valueset, Variable, Formula, Program, Aggmap}
use Rattle.aw_var.specs.Variable.{Contents, IsVariable}
use Rattle.aw_body.specs.declared.body.Body.{Body}
use Rattle.aw_body.specs.declared.body.Body.TheVariants.{Dim, Rel, Set, Var}

-- cells of a kind at keys of so many slots, all NA
abbrev pub no_cells : ℕ → Kind → Contents
no_cells slots kind = record { slots = slots; kind = kind; cells = [] }

-- The first body of an object: no values and the next slot 0, no slots, or all cells NA. Objects that aren't kept have none.
abbrev pub first_body : DefKind → Option Body
first_body Dimension = Some (Dim dimension.empty)
first_body (Relation target base) = Some (Rel (no_cells 1 Slot))
first_body (Valueset dimension) = Some (Set [])
first_body (Variable kind dimensions) = Some (Var (no_cells (length dimensions) kind))
first_body (Formula text) = None
first_body (Program text) = None
first_body (Aggmap text) = None

-- what holds of every body: it is the value of a dimension, a list of slots, or a finite map to cells of one kind
abbrev pub IsBody : Body → Type 0
IsBody (Dim values) = IsDimension values
IsBody (Rel contents) = IsVariable contents
IsBody (Set slots) = Unit {0}
IsBody (Var contents) = IsVariable contents

-- two bodies of one form; their cells are of one kind, at keys of one number of slots
abbrev pub AreAlike : Body → Body → Type 0
AreAlike (Dim one) (Dim other) = Unit {0}
AreAlike (Rel one) (Rel other) = (one.slots ≡ other.slots) × (one.kind ≡ other.kind)
AreAlike (Set one) (Set other) = Unit {0}
AreAlike (Var one) (Var other) = (one.slots ≡ other.slots) × (one.kind ≡ other.kind)
AreAlike _ _ = ⊥

-- a body of the form of a definition: of a relation it has cells that are slots, at keys of one slot
abbrev pub IsBodyOf : DefKind → Body → Type 0
IsBodyOf Dimension (Dim values) = Unit {0}
IsBodyOf (Relation target base) (Rel contents) = (contents.slots ≡ 1) × (contents.kind ≡ Slot)
IsBodyOf (Valueset dimension) (Set slots) = Unit {0}
IsBodyOf (Variable kind dimensions) (Var contents) = (contents.slots ≡ length dimensions) × (contents.kind ≡ kind)
IsBodyOf _ _ = ⊥
