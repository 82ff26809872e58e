-- Patches of bodies. A patch of a dimension or of a valueset is the whole new body; a patch of cells gives a cell or NA
-- for each key that it changes.
use Rattle.std.specs.Prelude.{ℕ, ◌≡◌, ◌==◌, ◌&&◌, Bool, List, [], ◌∷◌, length, Option, Some, None, IsTrue, nat_eq, if◌then◌else◌}
use Rattle.std.specs.List.{list_all}
use Rattle.std.specs.Cmp.Lexicographic.{pointwise}
use Rattle.aw_cell.specs.declared.cell.Cell.{Cell}
use Rattle.aw_cell.specs.declared.cell.Kind.{Kind}
use Rattle.aw_dim.specs.SameValues.{same_values}
use Rattle.aw_dim.specs.DimensionState as dimension
use Rattle.aw_page.specs.Fitting.{is_of_kind}
use Rattle.aw_var.specs.CellMap.{Cells}
use Rattle.aw_var.specs.CellPatch as cells
use Rattle.aw_var.specs.Laws.{IsRising}
use Rattle.aw_var.specs.Variable.{Contents}
use Rattle.aw_body.specs.declared.body.Body.{Body}
use Rattle.aw_body.specs.declared.body.Body.TheVariants.{Dim, Rel, Set, Var}
use Rattle.aw_body.specs.declared.patch.BodyPatch.{BodyPatch}
use Rattle.aw_body.specs.declared.patch.BodyPatch.TheVariants.{Values, Slots, Cells as CellPatch}

-- what a patch makes of a body; a patch of another form leaves it
abbrev pub applied : Body → BodyPatch → Body
applied (Dim values) (Values newer) = Dim newer
applied (Set slots) (Slots newer) = Set newer
applied (Rel contents) (CellPatch patch) = Rel (record contents { cells = cells.overwritten contents.cells patch })
applied (Var contents) (CellPatch patch) = Var (record contents { cells = cells.overwritten contents.cells patch })
applied body _ = body

-- the newer values, or nothing where they are equal to the older ones
abbrev pub some_values : dimension.DimensionState → dimension.DimensionState → Option BodyPatch
some_values older newer = if same_values older newer then None else Some (Values newer)

-- a patch of cells, or nothing where it has no key
abbrev pub some_cells : Cells → Option BodyPatch
some_cells [] = None
some_cells (pair ∷ pairs) = Some (CellPatch (pair ∷ pairs))

-- What makes the newer body of the older one: the newer values or slots, or the cells that differ. It is nothing where the
-- bodies are equal, and of two bodies of different forms.
abbrev pub difference : Body → Body → Option BodyPatch
difference (Dim older) (Dim newer) = some_values older newer
difference (Set older) (Set newer) = if pointwise nat_eq older newer then None else Some (Slots newer)
difference (Rel older) (Rel newer) = some_cells (cells.difference older.cells newer.cells)
difference (Var older) (Var newer) = some_cells (cells.difference older.cells newer.cells)
difference _ _ = None

-- two patches as one; of whole bodies the second alone
abbrev pub composed : BodyPatch → BodyPatch → BodyPatch
composed (CellPatch first) (CellPatch second) = CellPatch (cells.composed first second)
composed first second = second

-- two patches of one form; the keys of cells rise
abbrev pub AreOfOneForm : BodyPatch → BodyPatch → Type 0
AreOfOneForm (Values first) (Values second) = Unit {0}
AreOfOneForm (Slots first) (Slots second) = Unit {0}
AreOfOneForm (CellPatch first) (CellPatch second) = IsRising first × IsRising second
AreOfOneForm _ _ = ⊥

-- a key of so many slots, and a cell that is NA or of the kind
abbrev pub is_change_of : ℕ → Kind → List ℕ × Cell → Bool
is_change_of slots kind change = (length change.0 == slots) && is_of_kind kind change.1

abbrev pub AreChangesOf : Contents → Cells → Type 0
AreChangesOf contents patch = IsTrue (list_all (is_change_of contents.slots contents.kind) patch)

-- the cells of a patch can stand in a body of cells
abbrev pub CanTake : Body → BodyPatch → Type 0
CanTake (Rel contents) (CellPatch patch) = AreChangesOf contents patch
CanTake (Var contents) (CellPatch patch) = AreChangesOf contents patch
CanTake _ _ = Unit {0}

-- a patch of the body's form, with keys that rise
abbrev pub IsOfItsForm : Body → BodyPatch → Type 0
IsOfItsForm (Dim values) (Values newer) = Unit {0}
IsOfItsForm (Set slots) (Slots newer) = Unit {0}
IsOfItsForm (Rel contents) (CellPatch patch) = IsRising patch
IsOfItsForm (Var contents) (CellPatch patch) = IsRising patch
IsOfItsForm _ _ = ⊥
