-- Bodies of one definition's form.
use Rattle.std.specs.Prelude.{ℕ, ◌≡◌, true, false, List, length, IsTrue, Option, Some, None, MatchOption, is_some}
use Rattle.std.specs.List.{list_all}
use Rattle.std.proofs.Common.{◌∙◌, sym, refl, subst}
use Rattle.aw_cell.specs.declared.cell.Kind.{Kind}
use Rattle.aw_cell.specs.declared.cell.Kind.TheVariants.{Slot}
use Rattle.aw_schema.specs.declared.definition.DefKind.{DefKind}
use Rattle.aw_schema.specs.declared.definition.DefKind.TheVariants.{Dimension, Relation, Valueset, Variable, Formula, Program, Aggmap}
use Rattle.aw_var.specs.CellMap.{Cells}
use Rattle.aw_var.specs.Variable.{Contents}
use Rattle.aw_body.specs.declared.body.Body.{Body}
use Rattle.aw_body.specs.declared.body.Body.TheVariants.{Dim, Rel, Set, Var}
use Rattle.aw_body.specs.declared.patch.BodyPatch.{BodyPatch}
use Rattle.aw_body.specs.Bodies.{IsBody, IsBodyOf, AreAlike}
use Rattle.aw_body.specs.BodyPatches.{difference, is_change_of, AreChangesOf}
use Rattle.aw_body.specs.Laws.{DifferenceGivesNewer, MakesNewer}
use Rattle.mv_view.specs.ViewState.{IsOf, IsKeyOf, AreCellsOf}

-- two bodies of one definition's form are of one form
pub alike : (kind : DefKind) (one other : Body) → IsBodyOf kind one → IsBodyOf kind other → AreAlike one other
alike Dimension (Dim a) (Dim b) one_is other_is = tt
alike Dimension (Dim a) (Rel b) one_is other_is = absurd other_is
alike Dimension (Dim a) (Set b) one_is other_is = absurd other_is
alike Dimension (Dim a) (Var b) one_is other_is = absurd other_is
alike Dimension (Rel a) other one_is other_is = absurd one_is
alike Dimension (Set a) other one_is other_is = absurd one_is
alike Dimension (Var a) other one_is other_is = absurd one_is
alike (Relation target base) (Dim a) other one_is other_is = absurd one_is
alike (Relation target base) (Rel a) (Dim b) one_is other_is = absurd other_is
alike (Relation target base) (Rel a) (Rel b) one_is other_is = (one_is.0 ∙ sym other_is.0, one_is.1 ∙ sym other_is.1)
alike (Relation target base) (Rel a) (Set b) one_is other_is = absurd other_is
alike (Relation target base) (Rel a) (Var b) one_is other_is = absurd other_is
alike (Relation target base) (Set a) other one_is other_is = absurd one_is
alike (Relation target base) (Var a) other one_is other_is = absurd one_is
alike (Valueset dimension) (Dim a) other one_is other_is = absurd one_is
alike (Valueset dimension) (Rel a) other one_is other_is = absurd one_is
alike (Valueset dimension) (Set a) (Dim b) one_is other_is = absurd other_is
alike (Valueset dimension) (Set a) (Rel b) one_is other_is = absurd other_is
alike (Valueset dimension) (Set a) (Set b) one_is other_is = tt
alike (Valueset dimension) (Set a) (Var b) one_is other_is = absurd other_is
alike (Valueset dimension) (Var a) other one_is other_is = absurd one_is
alike (Variable kind dimensions) (Dim a) other one_is other_is = absurd one_is
alike (Variable kind dimensions) (Rel a) other one_is other_is = absurd one_is
alike (Variable kind dimensions) (Set a) other one_is other_is = absurd one_is
alike (Variable kind dimensions) (Var a) (Dim b) one_is other_is = absurd other_is
alike (Variable kind dimensions) (Var a) (Rel b) one_is other_is = absurd other_is
alike (Variable kind dimensions) (Var a) (Set b) one_is other_is = absurd other_is
alike (Variable kind dimensions) (Var a) (Var b) one_is other_is = (one_is.0 ∙ sym other_is.0, one_is.1 ∙ sym other_is.1)
alike (Formula text) (Dim a) other one_is other_is = absurd one_is
alike (Formula text) (Rel a) other one_is other_is = absurd one_is
alike (Formula text) (Set a) other one_is other_is = absurd one_is
alike (Formula text) (Var a) other one_is other_is = absurd one_is
alike (Program text) (Dim a) other one_is other_is = absurd one_is
alike (Program text) (Rel a) other one_is other_is = absurd one_is
alike (Program text) (Set a) other one_is other_is = absurd one_is
alike (Program text) (Var a) other one_is other_is = absurd one_is
alike (Aggmap text) (Dim a) other one_is other_is = absurd one_is
alike (Aggmap text) (Rel a) other one_is other_is = absurd one_is
alike (Aggmap text) (Set a) other one_is other_is = absurd one_is
alike (Aggmap text) (Var a) other one_is other_is = absurd one_is

-- ---- differences

not-other : (found : Option BodyPatch) (body : Body) → MatchOption found (body ≡ body) (MakesNewer body body) → is_some found ≡ false
not-other None body same = refl
not-other (Some patch) body newer = absurd (newer.differ refl)

-- a body doesn't differ from itself
pub difference-itself : DifferenceGivesNewer → (kind : DefKind) (body : Body) → IsOf kind body → is_some (difference body body) ≡ false
difference-itself law kind body is = not-other (difference body body) body (law body body is.valid is.valid (alike kind body body is.form is.form))

are-same : (found : Option BodyPatch) (older newer : Body) → MatchOption found (older ≡ newer) (MakesNewer older newer) → is_some found ≡ false → older ≡ newer
are-same None older newer same none = same
are-same (Some patch) older newer makes none = cc

differs : (found : Option BodyPatch) (older newer : Body) → MatchOption found (older ≡ newer) (MakesNewer older newer) → (older ≡ newer → ⊥) → is_some found ≡ true
differs None older newer same differ = absurd (differ same)
differs (Some patch) older newer makes differ = refl

-- where there is no difference, the bodies are equal
pub difference-same : DifferenceGivesNewer → (kind : DefKind) (older newer : Body) → IsOf kind older → IsOf kind newer → is_some (difference older newer) ≡ false → older ≡ newer
difference-same law kind older newer older_is newer_is none =
    are-same (difference older newer) older newer (law older newer older_is.valid newer_is.valid (alike kind older newer older_is.form newer_is.form)) none

-- bodies that aren't equal differ
pub difference-other : DifferenceGivesNewer → (older newer : Body) → IsBody older → IsBody newer → AreAlike older newer → (older ≡ newer → ⊥) → is_some (difference older newer) ≡ true
difference-other law older newer older_is newer_is form differ = differs (difference older newer) older newer (law older newer older_is newer_is form) differ

-- ---- keys and cells

pub key-rel : (kind : DefKind) (contents : Contents) (at : List ℕ) → IsBodyOf kind (Rel contents) → IsKeyOf kind at → length at ≡ contents.slots
key-rel Dimension contents at form key = absurd form
key-rel (Relation target base) contents at form key = key ∙ sym form.0
key-rel (Valueset dimension) contents at form key = absurd form
key-rel (Variable kind dimensions) contents at form key = absurd form
key-rel (Formula text) contents at form key = absurd form
key-rel (Program text) contents at form key = absurd form
key-rel (Aggmap text) contents at form key = absurd form

pub key-var : (kind : DefKind) (contents : Contents) (at : List ℕ) → IsBodyOf kind (Var contents) → IsKeyOf kind at → length at ≡ contents.slots
key-var Dimension contents at form key = absurd form
key-var (Relation target base) contents at form key = absurd form
key-var (Valueset dimension) contents at form key = absurd form
key-var (Variable kind dimensions) contents at form key = key ∙ sym form.0
key-var (Formula text) contents at form key = absurd form
key-var (Program text) contents at form key = absurd form
key-var (Aggmap text) contents at form key = absurd form

taken : (contents : Contents) (cells : Cells) (slots : ℕ) (kind : Kind) → (contents.slots ≡ slots) × (contents.kind ≡ kind) → IsTrue (list_all (is_change_of slots kind) cells) → AreChangesOf contents cells
taken contents cells slots kind form are =
    subst (λ (n : ℕ). IsTrue (list_all (is_change_of n contents.kind) cells)) (sym form.0) (subst (λ (k : Kind). IsTrue (list_all (is_change_of slots k) cells)) (sym form.1) are)

pub cells-rel : (kind : DefKind) (contents : Contents) (cells : Cells) → IsBodyOf kind (Rel contents) → AreCellsOf kind cells → AreChangesOf contents cells
cells-rel Dimension contents cells form are = absurd form
cells-rel (Relation target base) contents cells form are = taken contents cells 1 Slot form are
cells-rel (Valueset dimension) contents cells form are = absurd form
cells-rel (Variable kind dimensions) contents cells form are = absurd form
cells-rel (Formula text) contents cells form are = absurd form
cells-rel (Program text) contents cells form are = absurd form
cells-rel (Aggmap text) contents cells form are = absurd form

pub cells-var : (kind : DefKind) (contents : Contents) (cells : Cells) → IsBodyOf kind (Var contents) → AreCellsOf kind cells → AreChangesOf contents cells
cells-var Dimension contents cells form are = absurd form
cells-var (Relation target base) contents cells form are = absurd form
cells-var (Valueset dimension) contents cells form are = absurd form
cells-var (Variable kind dimensions) contents cells form are = taken contents cells (length dimensions) kind form are
cells-var (Formula text) contents cells form are = absurd form
cells-var (Program text) contents cells form are = absurd form
cells-var (Aggmap text) contents cells form are = absurd form
