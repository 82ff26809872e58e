-- Which patches fit an object: those that a record can hold, of the form and the kinds of its definition.
use Rattle.std.specs.Prelude.{ℕ, ◌==◌, ◌&&◌, Bool, true, false, not, List, [], ◌∷◌, length, nat_le, negsuc}
use Rattle.std.specs.Option.{is_none}
use Rattle.std.specs.List.{list_all}
use Rattle.std.specs.Ordering.{int_eq, is_lt}
use Rattle.aw_cell.specs.declared.cell.Cell.{Cell}
use Rattle.aw_cell.specs.declared.cell.Cell.TheVariants.{Na, Num, Int, Text, Bool as Truth, Slot}
use Rattle.aw_cell.specs.declared.cell.Kind.{Kind}
use Rattle.aw_cell.specs.declared.cell.Kind.TheVariants.{Slot as SlotKind}
use Rattle.aw_dim.specs.DimensionState.{IsDimension}
use Rattle.aw_schema.specs.declared.definition.DefKind.{DefKind}
use Rattle.aw_schema.specs.declared.definition.DefKind.TheVariants.{Dimension, Relation, Valueset, Variable}
use Rattle.aw_schema.specs.Checking.{first_repeated}
use Rattle.aw_page.specs.Fitting.{is_of_kind}
use Rattle.aw_var.specs.CellMap.{Cells, by_slots}
use Rattle.aw_var.specs.Laws.{IsRising}
use Rattle.aw_body.specs.declared.body.Body.{Body}
use Rattle.aw_body.specs.declared.body.Body.TheVariants.{Dim}
use Rattle.aw_body.specs.declared.patch.BodyPatch.{BodyPatch}
use Rattle.aw_body.specs.declared.patch.BodyPatch.TheVariants.{Values, Slots, Cells as CellPatch}

-- every cell but the least INTEGER, which no record has
abbrev pub is_recorded : Cell → Bool
is_recorded (Int z) = not (int_eq z (negsuc 2147483647))
is_recorded _ = true

-- each key is above the one before it
abbrev pub rise_from : List ℕ → Cells → Bool
rise_from key [] = true
rise_from key (change ∷ changes) = is_lt (by_slots key change.0) && rise_from change.0 changes

abbrev pub rise : Cells → Bool
rise [] = true
rise (change ∷ changes) = rise_from change.0 changes

-- a change that a record can hold: a key of so many slots, and a cell that is NA or of the kind
abbrev pub is_recorded_change : ℕ → Kind → List ℕ × Cell → Bool
is_recorded_change slots kind change = (length change.0 == slots) && is_of_kind kind change.1 && is_recorded change.1

-- at least one change, each of which a record can hold, with keys that rise
abbrev pub are_changes : ℕ → Kind → Cells → Bool
are_changes slots kind changes = not (length changes == 0) && list_all (is_recorded_change slots kind) changes && rise changes

-- no slot comes twice
abbrev pub are_distinct : List ℕ → Bool
are_distinct slots = is_none (first_repeated [] slots)

-- Whether a patch fits a definition and the latest body. A patch of values is the value of a dimension, and doesn't lower
-- the next slot, so that no slot is given again.
abbrev pub fits : BodyPatch → DefKind → Body → Bool
fits (Values values) Dimension (Dim latest) = nat_le latest.next values.next
fits (Slots slots) (Valueset dimension) latest = are_distinct slots
fits (CellPatch changes) (Relation target base) latest = are_changes 1 SlotKind changes
fits (CellPatch changes) (Variable kind dimensions) latest = are_changes (length dimensions) kind changes
fits _ _ _ = false

-- a patch of values has distinct slots below the next one and distinct names that aren't empty, and the keys of a patch of
-- cells rise
abbrev pub IsPatch : BodyPatch → Type 0
IsPatch (Values values) = IsDimension values
IsPatch (Slots slots) = Unit {0}
IsPatch (CellPatch changes) = IsRising changes
