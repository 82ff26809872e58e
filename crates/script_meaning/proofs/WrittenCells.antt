-- Cells that an object can hold can stand in a record, and what they make of a body of its form can be written.
use Rattle.std.specs.Prelude.{◌≡◌, ◌==◌, ◌≤◌, ◌<◌, ◌&&◌, ℕ, ℤ, pos, negsuc, int_le, true, List, [], ◌∷◌, length, nat_lt, All, refl}
use Rattle.std.specs.List.{list_all}
use Rattle.std.proofs.Common.{sym, subst, arith}
use Rattle.std.proofs.lemmas.Bool.{and_parts, and_from, eqb-true, leb-true, ltb-true}
use Rattle.std.proofs.lemmas.Bool.Decides.{nat_tests}
use Rattle.std.proofs.lemmas.Int.{ints}
use Rattle.std.proofs.lemmas.List.Elements.{All-nil, All-cons}
use Rattle.aw_lists.specs.Coord.{AreSlots}
use Rattle.aw_cell.specs.declared.cell.Cell.{Cell}
use Rattle.aw_cell.specs.declared.cell.Cell.TheVariants.{Na, Num, Int, Text, Bool as Truth, Slot}
use Rattle.aw_cell.specs.declared.cell.Kind.{Kind}
use Rattle.aw_cell.specs.declared.cell.Kind.TheVariants.{Slot as SlotKind}
use Rattle.aw_cell.specs.CellArithmetic.{is_integer}
use Rattle.aw_page.specs.Fitting.{is_of_kind}
use Rattle.aw_schema.specs.declared.definition.DefKind.{DefKind}
use Rattle.aw_schema.specs.declared.definition.DefKind.TheVariants.{Dimension, Relation, Valueset, Variable, Formula, Program, Aggmap}
use Rattle.aw_var.specs.CellMap.{Cells}
use Rattle.aw_var.specs.CellPatch as patch
use Rattle.aw_var.specs.Variable.{Contents, IsVariable, is_pair_of}
use Rattle.aw_body.specs.declared.body.Body.{Body}
use Rattle.aw_body.specs.declared.body.Body.TheVariants.{Dim, Rel, Set, Var}
use Rattle.aw_body.specs.declared.patch.BodyPatch.TheVariants.{Cells as CellPatch}
use Rattle.aw_body.specs.BodyPatches.{applied, is_change_of, AreChangesOf}
use Rattle.aw_codec.specs.Records.{IsSpelled, IsKeyedCell}
use Rattle.mv_view.specs.ViewState.{AreCellsOf}
use Rattle.ses_value.specs.Held.{is_held, is_in_range}
use Rattle.ses_step.specs.Sessions.{AreHeldBy}
use Rattle.script_meaning.specs.Fit.{IsKeptOf}
use Rattle.script_meaning.proofs.StoredBodies.{variable-overwritten, keyed-overwritten}

-- ---- one cell

integer-spelled : (whole : ℤ) → is_integer whole ≡ true → IsSpelled (Int whole)
integer-spelled (pos size) is =
    let most = leb-true size 2147483647 (and_parts (int_le (negsuc 2147483646) (pos size)) (int_le (pos size) (pos 2147483647)) is).1 in
    (record { sfits = omega (arith, most) }, λ same. cc)
integer-spelled (negsuc size) is =
    let most = leb-true size 2147483646 (and_parts (int_le (negsuc 2147483646) (negsuc size)) (int_le (negsuc size) (pos 2147483647)) is).0 in
    (record { sfits = omega (arith, most) }, λ same. absurd (let at : size ≡ 2147483647 = cc in omega (arith, most, at)))

-- a value in the range of its kind can stand in a record
in_range-spelled : (cell : Cell) → is_in_range cell ≡ true → IsSpelled cell
in_range-spelled Na is = tt
in_range-spelled (Num units) is = (grind (arith, ints, nat_tests), grind (arith, ints, nat_tests))
in_range-spelled (Int whole) is = integer-spelled whole is
in_range-spelled (Text text) is = is
in_range-spelled (Truth truth) is = tt
in_range-spelled (Slot slot) is = ltb-true slot 65536 is

small-slots : (slots : List ℕ) → list_all (λ slot. nat_lt slot 65536) slots ≡ true → AreSlots slots
small-slots [] is = All-nil _
small-slots (slot ∷ slots) is =
    let parts = and_parts (nat_lt slot 65536) (list_all (λ one. nat_lt one 65536) slots) is in
    All-cons (λ one. one < 65536) slot slots (ltb-true slot 65536 parts.0) (small-slots slots parts.1)

-- ---- cells of one kind, by keys of so many slots

held-keyed : (slots : ℕ) (kind : Kind) (cells : Cells) → slots ≤ 6 → list_all (is_held slots kind) cells ≡ true → All IsKeyedCell cells
held-keyed slots kind [] few all = All-nil IsKeyedCell
held-keyed slots kind (pair ∷ cells) few all =
    let parts = and_parts (is_held slots kind pair) (list_all (is_held slots kind) cells) all in
    let first = and_parts (is_pair_of slots kind pair) (is_in_range pair.1) parts.0 in
    let shape = and_parts ((length pair.0 == slots) && list_all (λ slot. nat_lt slot 65536) pair.0) (is_of_kind kind pair.1) first.0 in
    let key = and_parts (length pair.0 == slots) (list_all (λ slot. nat_lt slot 65536) pair.0) shape.0 in
    let size = eqb-true (length pair.0) slots key.0 in
    All-cons IsKeyedCell pair cells (small-slots pair.0 key.1, omega (arith, few, size), in_range-spelled pair.1 first.1) (held-keyed slots kind cells few parts.1)

held-changes : (slots : ℕ) (kind : Kind) (cells : Cells) → list_all (is_held slots kind) cells ≡ true → list_all (is_change_of slots kind) cells ≡ true
held-changes slots kind [] all = refl
held-changes slots kind (pair ∷ cells) all =
    let parts = and_parts (is_held slots kind pair) (list_all (is_held slots kind) cells) all in
    let first = and_parts (is_pair_of slots kind pair) (is_in_range pair.1) parts.0 in
    let shape = and_parts ((length pair.0 == slots) && list_all (λ slot. nat_lt slot 65536) pair.0) (is_of_kind kind pair.1) first.0 in
    let key = and_parts (length pair.0 == slots) (list_all (λ slot. nat_lt slot 65536) pair.0) shape.0 in
    and_from (is_change_of slots kind pair) (list_all (is_change_of slots kind) cells) (and_from (length pair.0 == slots) (is_of_kind kind pair.1) key.0 shape.1) (held-changes slots kind cells parts.1)

module _ (slots : ℕ) (kind : Kind) (contents : Contents) (cells : Cells) (same_slots : contents.slots ≡ slots) (same_kind : contents.kind ≡ kind) (held : list_all (is_held slots kind) cells ≡ true) where
  keyed : contents.slots ≤ 6 → All IsKeyedCell cells
  keyed few = held-keyed slots kind cells (omega (arith, few, same_slots)) held

  taken : AreChangesOf contents cells
  taken =
      subst (λ (k : Kind). list_all (is_change_of contents.slots k) cells ≡ true) (sym same_kind)
      (subst (λ (n : ℕ). list_all (is_change_of n kind) cells ≡ true) (sym same_slots) (held-changes slots kind cells held))

  contents-kept : IsVariable contents → All IsKeyedCell contents.cells → IsVariable (record contents { cells = patch.overwritten contents.cells cells }) × All IsKeyedCell (patch.overwritten contents.cells cells)
  contents-kept valid all =
      (variable-overwritten contents cells valid taken (keyed valid.few), keyed-overwritten contents.cells cells all (keyed valid.few))

-- ---- cells of an object

pub held-cells : (kind : DefKind) (cells : Cells) → AreHeldBy kind cells → AreCellsOf kind cells
held-cells (Relation target base) cells held = held-changes 1 SlotKind cells held
held-cells (Variable kind dimensions) cells held = held-changes (length dimensions) kind cells held
held-cells Dimension cells held = absurd held
held-cells (Valueset dimension) cells held = absurd held
held-cells (Formula text) cells held = absurd held
held-cells (Program text) cells held = absurd held
held-cells (Aggmap text) cells held = absurd held

-- a body of the object's form keeps it, and can be written
pub held-kept : (kind : DefKind) (body : Body) (cells : Cells) → AreHeldBy kind cells → IsKeptOf kind body → IsKeptOf kind (applied body (CellPatch cells))
held-kept (Relation target base) (Rel contents) cells held it =
    let new = contents-kept 1 SlotKind contents cells it.form.form.0 it.form.form.1 held it.form.valid it.written in
    record { form = record { form = it.form.form; valid = new.0 }; written = new.1 }
held-kept (Variable kind dimensions) (Var contents) cells held it =
    let new = contents-kept (length dimensions) kind contents cells it.form.form.0 it.form.form.1 held it.form.valid it.written in
    record { form = record { form = it.form.form; valid = new.0 }; written = new.1 }
held-kept (Relation target base) (Dim values) cells held it = absurd it.form.form
held-kept (Relation target base) (Set slots) cells held it = absurd it.form.form
held-kept (Relation target base) (Var contents) cells held it = absurd it.form.form
held-kept (Variable kind dimensions) (Dim values) cells held it = absurd it.form.form
held-kept (Variable kind dimensions) (Rel contents) cells held it = absurd it.form.form
held-kept (Variable kind dimensions) (Set slots) cells held it = absurd it.form.form
held-kept Dimension body cells held it = absurd held
held-kept (Valueset dimension) body cells held it = absurd held
held-kept (Formula text) body cells held it = absurd held
held-kept (Program text) body cells held it = absurd held
held-kept (Aggmap text) body cells held it = absurd held
