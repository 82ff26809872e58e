-- What those who keep bodies cite: a body of a definition's form stays one.
use Rattle.std.specs.Prelude.{ℕ, ◌≡◌, ◌==◌, ◌&&◌, Bool, true, false, not, List, [], ◌∷◌, length, Some, None, IsTrue, MatchOption, ⊤}
use Rattle.std.specs.List.{list_all}
use Rattle.std.proofs.Common.{◌∙◌, ap, sym, refl, subst}
use Rattle.std.proofs.lemmas.Bool.{and_parts, and_from}
use Rattle.aw_cell.specs.declared.cell.Cell.{Cell}
use Rattle.aw_cell.specs.declared.cell.Kind.{Kind}
use Rattle.aw_cell.specs.declared.cell.Kind.TheVariants.{Slot as SlotKind}
use Rattle.aw_page.specs.Fitting.{is_of_kind}
use Rattle.aw_schema.specs.declared.definition.DefKind.{DefKind}
use Rattle.aw_schema.specs.declared.definition.DefKind.TheVariants.{Dimension, Relation, Valueset, Variable, Formula, Program, Aggmap}
use Rattle.aw_schema.specs.Definitions.{is_kept}
use Rattle.aw_var.specs.CellMap.{Cells}
use Rattle.aw_var.specs.Variable.{Contents}
use Rattle.aw_body.specs.declared.body.Body.{Body}
use Rattle.aw_body.specs.declared.body.Body.TheVariants.{Dim, Rel, Set, Var}
use Rattle.aw_body.specs.declared.patch.BodyPatch.{BodyPatch}
use Rattle.aw_body.specs.declared.patch.BodyPatch.TheVariants.{Values, Slots, Cells as CellPatch}
use Rattle.aw_body.specs.Bodies.{first_body, IsBodyOf}
use Rattle.aw_body.specs.BodyPatches.{applied, is_change_of, AreChangesOf, CanTake}
use Rattle.aw_body.specs.Fitting.{is_recorded, is_recorded_change, are_changes, rise, fits}

-- ---- cells that a record can hold can stand in the body

changes-recorded : (slots : ℕ) (kind : Kind) (changes : Cells) → IsTrue (list_all (is_recorded_change slots kind) changes) → IsTrue (list_all (is_change_of slots kind) changes)
changes-recorded slots kind [] recorded = refl
changes-recorded slots kind (change ∷ changes) recorded =
    let parts = and_parts (is_recorded_change slots kind change) (list_all (is_recorded_change slots kind) changes) recorded in
    let shape = and_parts (is_change_of slots kind change) (is_recorded change.1) parts.0 in
    and_from (is_change_of slots kind change) (list_all (is_change_of slots kind) changes) shape.0 (changes-recorded slots kind changes parts.1)

changes-taken : (slots : ℕ) (kind : Kind) (contents : Contents) (changes : Cells) → (contents.slots ≡ slots) × (contents.kind ≡ kind) → IsTrue (are_changes slots kind changes) → AreChangesOf contents changes
changes-taken slots kind contents changes form recorded =
    let all = (and_parts (not (length changes == 0) && list_all (is_recorded_change slots kind) changes) (rise changes) recorded).0 in
    let each = (and_parts (not (length changes == 0)) (list_all (is_recorded_change slots kind) changes) all).1 in
    subst (λ (n : ℕ). IsTrue (list_all (is_change_of n contents.kind) changes)) (sym form.0) (
    subst (λ (k : Kind). IsTrue (list_all (is_change_of slots k) changes)) (sym form.1) (changes-recorded slots kind changes each))

-- a patch that fits an object can be applied to its body
pub CanTake-fits : (patch : BodyPatch) (kind : DefKind) (body : Body) → IsBodyOf kind body → IsTrue (fits patch kind body) → CanTake body patch
CanTake-fits (CellPatch changes) (Relation target base) (Rel contents) form fit = changes-taken 1 SlotKind contents changes form fit
CanTake-fits (CellPatch changes) (Variable kind dimensions) (Var contents) form fit = changes-taken (length dimensions) kind contents changes form fit
CanTake-fits (CellPatch changes) Dimension (Rel contents) form fit = absurd form
CanTake-fits (CellPatch changes) Dimension (Var contents) form fit = absurd form
CanTake-fits (CellPatch changes) (Valueset dimension) (Rel contents) form fit = absurd form
CanTake-fits (CellPatch changes) (Valueset dimension) (Var contents) form fit = absurd form
CanTake-fits (CellPatch changes) (Relation target base) (Var contents) form fit = absurd form
CanTake-fits (CellPatch changes) (Variable kind dimensions) (Rel contents) form fit = absurd form
CanTake-fits (CellPatch changes) (Formula text) (Rel contents) form fit = absurd form
CanTake-fits (CellPatch changes) (Formula text) (Var contents) form fit = absurd form
CanTake-fits (CellPatch changes) (Program text) (Rel contents) form fit = absurd form
CanTake-fits (CellPatch changes) (Program text) (Var contents) form fit = absurd form
CanTake-fits (CellPatch changes) (Aggmap text) (Rel contents) form fit = absurd form
CanTake-fits (CellPatch changes) (Aggmap text) (Var contents) form fit = absurd form
CanTake-fits patch kind (Dim values) form fit = tt
CanTake-fits patch kind (Set slots) form fit = tt
CanTake-fits (Values values) kind (Rel contents) form fit = tt
CanTake-fits (Values values) kind (Var contents) form fit = tt
CanTake-fits (Slots slots) kind (Rel contents) form fit = tt
CanTake-fits (Slots slots) kind (Var contents) form fit = tt

-- ---- a body of a definition's form

-- the first body is one
pub IsBodyOf-first : (kind : DefKind) → MatchOption (first_body kind) ⊤ (IsBodyOf kind)
IsBodyOf-first Dimension = tt
IsBodyOf-first (Relation target base) = (refl, refl)
IsBodyOf-first (Valueset dimension) = tt
IsBodyOf-first (Variable kind dimensions) = (refl, refl)
IsBodyOf-first (Formula text) = tt
IsBodyOf-first (Program text) = tt
IsBodyOf-first (Aggmap text) = tt

-- a patch keeps the form
pub IsBodyOf-applied : (kind : DefKind) (body : Body) (patch : BodyPatch) → IsBodyOf kind body → IsBodyOf kind (applied body patch)
IsBodyOf-applied Dimension (Dim values) (Values newer) form = form
IsBodyOf-applied Dimension (Dim values) (Slots newer) form = form
IsBodyOf-applied Dimension (Dim values) (CellPatch changes) form = form
IsBodyOf-applied Dimension (Rel contents) patch form = absurd form
IsBodyOf-applied Dimension (Set slots) patch form = absurd form
IsBodyOf-applied Dimension (Var contents) patch form = absurd form
IsBodyOf-applied (Relation target base) (Dim values) patch form = absurd form
IsBodyOf-applied (Relation target base) (Rel contents) (Values newer) form = form
IsBodyOf-applied (Relation target base) (Rel contents) (Slots newer) form = form
IsBodyOf-applied (Relation target base) (Rel contents) (CellPatch changes) form = form
IsBodyOf-applied (Relation target base) (Set slots) patch form = absurd form
IsBodyOf-applied (Relation target base) (Var contents) patch form = absurd form
IsBodyOf-applied (Valueset dimension) (Dim values) patch form = absurd form
IsBodyOf-applied (Valueset dimension) (Rel contents) patch form = absurd form
IsBodyOf-applied (Valueset dimension) (Set slots) (Values newer) form = form
IsBodyOf-applied (Valueset dimension) (Set slots) (Slots newer) form = form
IsBodyOf-applied (Valueset dimension) (Set slots) (CellPatch changes) form = form
IsBodyOf-applied (Valueset dimension) (Var contents) patch form = absurd form
IsBodyOf-applied (Variable kind dimensions) (Dim values) patch form = absurd form
IsBodyOf-applied (Variable kind dimensions) (Rel contents) patch form = absurd form
IsBodyOf-applied (Variable kind dimensions) (Set slots) patch form = absurd form
IsBodyOf-applied (Variable kind dimensions) (Var contents) (Values newer) form = form
IsBodyOf-applied (Variable kind dimensions) (Var contents) (Slots newer) form = form
IsBodyOf-applied (Variable kind dimensions) (Var contents) (CellPatch changes) form = form
IsBodyOf-applied (Formula text) (Dim values) patch form = absurd form
IsBodyOf-applied (Formula text) (Rel contents) patch form = absurd form
IsBodyOf-applied (Formula text) (Set slots) patch form = absurd form
IsBodyOf-applied (Formula text) (Var contents) patch form = absurd form
IsBodyOf-applied (Program text) (Dim values) patch form = absurd form
IsBodyOf-applied (Program text) (Rel contents) patch form = absurd form
IsBodyOf-applied (Program text) (Set slots) patch form = absurd form
IsBodyOf-applied (Program text) (Var contents) patch form = absurd form
IsBodyOf-applied (Aggmap text) (Dim values) patch form = absurd form
IsBodyOf-applied (Aggmap text) (Rel contents) patch form = absurd form
IsBodyOf-applied (Aggmap text) (Set slots) patch form = absurd form
IsBodyOf-applied (Aggmap text) (Var contents) patch form = absurd form

-- what has a body is kept
pub kept-kind : (kind : DefKind) (body : Body) → IsBodyOf kind body → is_kept kind ≡ true
kept-kind Dimension body form = refl
kept-kind (Relation target base) body form = refl
kept-kind (Valueset dimension) body form = refl
kept-kind (Variable kind dimensions) body form = refl
kept-kind (Formula text) body form = absurd form
kept-kind (Program text) body form = absurd form
kept-kind (Aggmap text) body form = absurd form
