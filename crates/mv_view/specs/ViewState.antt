-- What a session sees of the workspace: of each object that is kept, a generation and three bodies.
use Rattle.std.specs.Prelude.{ℕ, ◌≡◌, Bool, true, cond, IsTrue, List, [], ◌∷◌, map, length, Option, Some, None, IfSome}
use Rattle.std.specs.Option.{option_map, IsSomeAnd}
use Rattle.std.specs.List.{list_all}
use Rattle.aw_cell.specs.declared.cell.Kind.TheVariants.{Slot}
use Rattle.aw_schema.specs.declared.definition.Def.{Def}
use Rattle.aw_schema.specs.declared.definition.DefKind.{DefKind}
use Rattle.aw_schema.specs.declared.definition.DefKind.TheVariants.{Relation, Variable}
use Rattle.aw_schema.specs.Definitions.{is_kept}
use Rattle.aw_var.specs.CellMap.{Cells}
use Rattle.aw_body.specs.declared.body.Body.{Body}
use Rattle.aw_body.specs.declared.change.Fresh.{Fresh}
use Rattle.aw_body.specs.Bodies.{IsBody, IsBodyOf}
use Rattle.aw_body.specs.BodyPatches.{is_change_of}
use Rattle.mv_view.specs.Each.{object_in, each_from, numbers_from}

-- An object as a session sees it. The base body is the generation that has the number. The session reads and writes the
-- private body, and would commit the staged one.
pub record ObjectView : Type 0 where
  pub kind : DefKind
  pub number : ℕ
  pub base : Body
  pub staged : Body
  pub private : Body
  pub owned : Bool
  pub leaving : Bool

-- the session's number, and what it sees of each object in order of definition: nothing of one that isn't kept
pub record ViewState : Type 0 where
  pub who : ℕ
  pub objects : List (Option ObjectView)

-- what it sees of an object
abbrev pub object_of : ViewState → ℕ → Option ObjectView
object_of view object = object_in view.objects object

-- each object is changed by its number
abbrev pub each : (ℕ → ObjectView → ObjectView) → ViewState → ViewState
each change view = record view { objects = each_from 0 change view.objects }

abbrev pub is_owned : ObjectView → Bool
is_owned object = object.owned

-- the objects that the session owns, in rising order
abbrev pub owned_objects : ViewState → List ℕ
owned_objects view = numbers_from is_owned 0 view.objects

-- ---- forms

-- a body of the form of a definition
pub record IsOf (kind : DefKind) (body : Body) : Type 0 where
  pub form : IsBodyOf kind body
  pub valid : IsBody body

-- three bodies of the form of the definition
pub record IsSeen (object : ObjectView) : Type 0 where
  pub base : IsOf object.kind object.base
  pub staged : IsOf object.kind object.staged
  pub private : IsOf object.kind object.private

pub record AreSeen (objects : List (Option ObjectView)) : Type 0 where
  pub each : (object : ℕ) → IfSome (object_in objects object) IsSeen

-- the definition of each object that is kept
abbrev pub kind_of : ObjectView → DefKind
kind_of object = object.kind

abbrev pub kinds_of : ViewState → List (Option DefKind)
kinds_of view = map (option_map kind_of) view.objects

abbrev pub kept_kind : Def → Option DefKind
kept_kind def = cond (is_kept def.kind) (Some def.kind) None

abbrev pub kept_kinds : List Def → List (Option DefKind)
kept_kinds definitions = map kept_kind definitions

-- the number of an object that is kept, and a body of its form
abbrev pub HasForm : List (Option DefKind) → Fresh → Type 0
HasForm kinds fresh = IsSomeAnd (object_in kinds fresh.object) (λ kind. IsBodyOf kind fresh.body)

abbrev pub HaveForms : List (Option DefKind) → List Fresh → Type 0
HaveForms kinds [] = Unit {0}
HaveForms kinds (fresh ∷ rest) = HasForm kinds fresh × HaveForms kinds rest

-- the numbers of the objects that are kept, in order of definition
abbrev pub kept_objects : List (Option DefKind) → List ℕ
kept_objects kinds = numbers_from (λ kind. true) 0 kinds

-- a key of the cells of an object: as many slots as the definition has
abbrev pub IsKeyOf : DefKind → List ℕ → Type 0
IsKeyOf (Relation target base) at = length at ≡ 1
IsKeyOf (Variable kind dimensions) at = length at ≡ length dimensions
IsKeyOf _ at = ⊥

-- cells of an object: keys of its number of slots, and cells that are NA or of its kind
abbrev pub AreCellsOf : DefKind → Cells → Type 0
AreCellsOf (Relation target base) cells = IsTrue (list_all (is_change_of 1 Slot) cells)
AreCellsOf (Variable kind dimensions) cells = IsTrue (list_all (is_change_of (length dimensions) kind) cells)
AreCellsOf _ cells = ⊥

-- the session owns each of these objects
abbrev pub AreOwned : ViewState → List ℕ → Type 0
AreOwned view [] = Unit {0}
AreOwned view (object ∷ rest) = IsSomeAnd (object_of view object) (λ found. found.owned ≡ true) × AreOwned view rest
