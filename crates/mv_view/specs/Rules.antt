-- The rules of several writers for one session: what each call makes of its view.
use Rattle.std.specs.Prelude.{ℕ, ◌+◌, ◌==◌, Bool, true, false, cond, min, List, [], ◌∷◌, map, Option, Some, None, find, is_some}
use Rattle.std.specs.Option.{option_map}
use Rattle.aw_cell.specs.declared.cell.Cell.{Cell}
use Rattle.aw_cell.specs.declared.cell.Cell.TheVariants.{Na, Slot}
use Rattle.aw_dim.specs.DimensionState.{DimensionState, name_of}
use Rattle.aw_schema.specs.declared.definition.Def.{Def}
use Rattle.aw_schema.specs.declared.definition.DefKind.{DefKind}
use Rattle.aw_schema.specs.declared.definition.DefKind.TheVariants.{Relation}
use Rattle.aw_var.specs.CellMap.{Cells, cell_at}
use Rattle.aw_var.specs.Pages.{page_count}
use Rattle.aw_body.specs.declared.body.Body.{Body}
use Rattle.aw_body.specs.declared.body.Body.TheVariants.{Dim, Rel, Set, Var}
use Rattle.aw_body.specs.declared.change.Change.{Change}
use Rattle.aw_body.specs.declared.change.Fresh.{Fresh}
use Rattle.aw_body.specs.declared.patch.BodyPatch.{BodyPatch}
use Rattle.aw_body.specs.declared.patch.BodyPatch.TheVariants.{Cells as CellPatch}
use Rattle.aw_body.specs.BodyPatches.{applied, difference}
use Rattle.mv_view.specs.Each.{only, listed, gathered_from}
use Rattle.mv_view.specs.ViewState.{ObjectView, ViewState, object_of, each}

-- ---- what is staged

-- what makes the staged body of the base, and nothing where they are equal
abbrev pub staged_patch : ObjectView → Option BodyPatch
staged_patch object = difference object.base object.staged

abbrev pub is_staged : ObjectView → Bool
is_staged object = is_some (staged_patch object)

-- ---- generations that are handed over

abbrev pub latest_of : List Fresh → ℕ → Option Fresh
latest_of fresh object = find (λ (one : Fresh). one.object == object) fresh

-- all three bodies are a generation
abbrev pub with_latest : Fresh → ObjectView → ObjectView
with_latest fresh object = record object { number = fresh.number; base = fresh.body; staged = fresh.body; private = fresh.body }

abbrev pub renewed : Option Fresh → ObjectView → ObjectView
renewed None object = object
renewed (Some fresh) object = with_latest fresh object

-- ---- attaching

-- an object as it is first seen, which isn't owned
abbrev pub seen : DefKind → Fresh → ObjectView
seen kind fresh = record { kind = kind; number = fresh.number; base = fresh.body; staged = fresh.body; private = fresh.body; owned = false; leaving = false }

-- each definition with the generation that is handed over of it, the first having the number at
abbrev pub seen_from : ℕ → List Def → List Fresh → List (Option ObjectView)
seen_from at [] fresh = []
seen_from at (def ∷ definitions) fresh = option_map (seen def.kind) (latest_of fresh at) ∷ seen_from (at + 1) definitions fresh

-- AW ATTACH: all three bodies of each object are the latest generation, and nothing is owned.
abbrev pub attached : ℕ → List Def → List Fresh → ViewState
attached who definitions fresh = record { who = who; objects = seen_from 0 definitions fresh }

-- ---- reading and writing

abbrev pub cell_in : Body → List ℕ → Cell
cell_in (Rel contents) at = cell_at contents.cells at
cell_in (Var contents) at = cell_at contents.cells at
cell_in body at = Na

-- whether the body of a dimension has a value with a slot
abbrev pub has_slot : Option Body → ℕ → Bool
has_slot (Some (Dim values)) slot = is_some (name_of values slot)
has_slot body slot = false

-- a value that the dimension lacks counts as NA
abbrev pub reached : Cell → Option Body → Cell
reached (Slot slot) dimension = cond (has_slot dimension slot) (Slot slot) Na
reached cell dimension = cell

abbrev pub private_of : ViewState → ℕ → Option Body
private_of view object = option_map (λ (found : ObjectView). found.private) (object_of view object)

-- the values of a dimension
abbrev pub values_of : Option Body → Option DimensionState
values_of (Some (Dim values)) = Some values
values_of body = None

-- those that the session sees, where it sees such a dimension
abbrev pub values_in : ViewState → ℕ → Option DimensionState
values_in view dimension = values_of (private_of view dimension)

abbrev pub reached_by : ViewState → DefKind → Cell → Cell
reached_by view (Relation target base) cell = reached cell (private_of view target)
reached_by view kind cell = cell

-- A session reads its private body. A cell of a relation whose value the session's target dimension lacks reads NA.
abbrev pub read : ViewState → ℕ → List ℕ → Cell
read view object at = elim (object_of view object) [ None ↦ Na | Some found ↦ reached_by view found.kind (cell_in found.private at) ]

-- the cell of the private body, whatever the target dimension has
abbrev pub cell_of : Option ObjectView → List ℕ → Cell
cell_of None at = Na
cell_of (Some found) at = cell_in found.private at

abbrev pub private_cell : ViewState → ℕ → List ℕ → Cell
private_cell view object at = cell_of (object_of view object) at

-- Assignments change the private body: cells of one object, one after the other.
abbrev pub with_cells : Cells → ObjectView → ObjectView
with_cells cells object = record object { private = applied object.private (CellPatch cells) }

abbrev pub written : ViewState → ℕ → Cells → ViewState
written view object cells = each (only object (with_cells cells)) view

-- how many pages the cells of a body are on
abbrev pub pages_of : Body → ℕ
pages_of (Rel contents) = page_count contents.cells
pages_of (Var contents) = page_count contents.cells
pages_of body = 0

-- how many pages the private body of an object is on
abbrev pub private_pages : ViewState → ℕ → ℕ
private_pages view object = elim (object_of view object) [ None ↦ 0 | Some found ↦ pages_of found.private ]

-- LIMIT of a valueset changes its private body.
abbrev pub with_slots : List ℕ → ObjectView → ObjectView
with_slots slots object = record object { private = Set slots }

abbrev pub selected : ViewState → ℕ → List ℕ → ViewState
selected view object slots = each (only object (with_slots slots)) view

-- MAINTAIN changes the staged and the private body of a dimension together.
abbrev pub with_values : DimensionState → ObjectView → ObjectView
with_values values object = record object { staged = Dim values; private = Dim values }

abbrev pub maintained : ViewState → ℕ → DimensionState → ViewState
maintained view object values = each (only object (with_values values)) view

-- ---- staging

-- UPDATE makes the staged body equal to the private body.
abbrev pub staging : ObjectView → ObjectView
staging object = record object { staged = object.private }

abbrev pub updated : ViewState → List ℕ → ViewState
updated view objects = each (listed objects staging) view

-- REVERT makes the private body equal to the staged body.
abbrev pub reverting : ObjectView → ObjectView
reverting object = record object { private = object.staged }

abbrev pub reverted : ViewState → List ℕ → ViewState
reverted view objects = each (listed objects reverting) view

-- ---- owning

-- an object that is owned, and isn't leaving
abbrev pub owning : ObjectView → ObjectView
owning object = record object { owned = true; leaving = false }

abbrev pub objects_of : List Fresh → List ℕ
objects_of fresh = map (λ (one : Fresh). one.object) fresh

-- ACQUIRE that was granted: the objects of the plain list are owned and keep their private changes, and their leaving marks
-- are taken off; those whose latest generation is handed over are owned, and all three bodies are that generation.
abbrev pub acquired : ViewState → List ℕ → List Fresh → ViewState
acquired view keep fresh = each (λ at found. renewed (latest_of fresh at) (listed (objects_of fresh) owning at (listed keep owning at found))) view

-- RESYNC: all three bodies are the latest generation.
abbrev pub resynced : ViewState → List Fresh → ViewState
resynced view fresh = each (λ at found. renewed (latest_of fresh at) found) view

-- an object that is given up
abbrev pub giving_up : ObjectView → ObjectView
giving_up object = record object { owned = false; leaving = false }

-- RELEASE: an object without staged changes is given up at once, any other is marked as leaving.
abbrev pub releasing : ObjectView → ObjectView
releasing object = cond (is_staged object) (record object { leaving = true }) (giving_up object)

abbrev pub released : ViewState → List ℕ → ViewState
released view objects = each (listed objects releasing) view

-- ---- committing

-- COMMIT has one change for each owned object whose staged body differs from its base, by rising object.
abbrev pub change_of : ℕ → ObjectView → Option Change
change_of at object = cond object.owned (option_map (λ (patch : BodyPatch). record { object = at; patch = patch }) (staged_patch object)) None

abbrev pub changes : ViewState → List Change
changes view = gathered_from change_of 0 view.objects

-- a changed object's number rises by one, and its base becomes its staged body
abbrev pub committing : ObjectView → ObjectView
committing object = cond (is_staged object) (record object { number = min (object.number + 1) 18446744073709551615; base = object.staged }) object

-- an object that is marked as leaving is given up
abbrev pub leaving_now : ObjectView → ObjectView
leaving_now object = cond object.leaving (giving_up object) object

-- COMMIT that was granted: the number of each changed object rises by one and its base becomes its staged body, and the
-- objects that are marked as leaving are given up.
abbrev pub after_commit : ObjectView → ObjectView
after_commit object = cond object.owned (leaving_now (committing object)) object

abbrev pub committed : ViewState → ViewState
committed view = each (λ at found. after_commit found) view
