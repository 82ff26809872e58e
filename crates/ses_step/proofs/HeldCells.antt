-- Cells that an object can hold are cells of it.
use Rattle.std.specs.Prelude.{ℕ, ◌≡◌, Bool as Truth, true, ◌&&◌, ◌==◌, nat_lt, List, [], ◌∷◌, length, Option, Some, None}
use Rattle.std.specs.List.{list_all}
use Rattle.std.specs.Option.{IsSomeAnd}
use Rattle.std.proofs.Common.{◌∙◌, ap, refl}
use Rattle.std.proofs.lemmas.Bool.{and_parts}
use Rattle.aw_cell.specs.declared.cell.Cell.{Cell}
use Rattle.aw_cell.specs.declared.cell.Kind.{Kind}
use Rattle.aw_cell.specs.declared.cell.Kind.TheVariants.{Slot}
use Rattle.aw_page.specs.Fitting.{is_of_kind}
use Rattle.aw_schema.specs.declared.definition.DefKind.{DefKind}
use Rattle.aw_schema.specs.declared.definition.DefKind.TheVariants.{Dimension, Relation, Valueset, Variable, Formula, Program, Aggmap}
use Rattle.aw_var.specs.CellMap.{Cells}
use Rattle.aw_var.specs.Variable.{is_pair_of}
use Rattle.aw_body.specs.BodyPatches.{is_change_of}
use Rattle.mv_view.specs.ViewState.{ObjectView, AreCellsOf}
use Rattle.ses_value.specs.Held.{is_in_range, is_held}
use Rattle.ses_step.specs.Sessions.{AreHeldBy}

both : (a b : Truth) → a ≡ true → b ≡ true → (a && b) ≡ true
both a b one other = ap (λ (x : Truth). x && b) one ∙ other

pair-held : (slots : ℕ) (kind : Kind) (pair : List ℕ × Cell) → is_held slots kind pair ≡ true → is_change_of slots kind pair ≡ true
pair-held slots kind pair is =
    let of_it : is_pair_of slots kind pair ≡ true = (and_parts (is_pair_of slots kind pair) (is_in_range pair.1) is).0 in
    let parts = and_parts ((length pair.0 == slots) && list_all (λ slot. nat_lt slot 65536) pair.0) (is_of_kind kind pair.1) of_it in
    both (length pair.0 == slots) (is_of_kind kind pair.1) (and_parts (length pair.0 == slots) (list_all (λ slot. nat_lt slot 65536) pair.0) parts.0).0 parts.1

all-held : (slots : ℕ) (kind : Kind) (cells : Cells) → list_all (is_held slots kind) cells ≡ true → list_all (is_change_of slots kind) cells ≡ true
all-held slots kind [] is = refl
all-held slots kind (pair ∷ cells) is =
    let parts = and_parts (is_held slots kind pair) (list_all (is_held slots kind) cells) is in
    both (is_change_of slots kind pair) (list_all (is_change_of slots kind) cells) (pair-held slots kind pair parts.0) (all-held slots kind cells parts.1)

pub held-cells : (kind : DefKind) (cells : Cells) → AreHeldBy kind cells → AreCellsOf kind cells
held-cells (Relation target base) cells are = all-held 1 Slot cells are
held-cells (Variable kind dimensions) cells are = all-held (length dimensions) kind cells are
held-cells Dimension cells are = are
held-cells (Valueset dimension) cells are = are
held-cells (Formula text) cells are = are
held-cells (Program text) cells are = are
held-cells (Aggmap text) cells are = are

pub cells_held : (seen : Option ObjectView) (cells : Cells) → IsSomeAnd seen (λ found. AreHeldBy found.kind cells) → IsSomeAnd seen (λ found. AreCellsOf found.kind cells)
cells_held None cells are = are
cells_held (Some found) cells are = held-cells found.kind cells are
