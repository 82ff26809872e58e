-- What code reads of a view: cells of the kinds of the catalogue, at keys of their objects.
use Rattle.std.proofs.Common.{◌≡◌, ◌∙◌, ℕ, Bool as Truth, true, false, cond, List, [], ◌∷◌, length, map, slice_get, Option, Some, None, refl, sym, ap, subst}
use Rattle.std.specs.Prelude.{IsTrue, IfSome}
use Rattle.std.specs.Option.{option_map, IsSomeAnd}
use Rattle.std.proofs.lemmas.Option.{slice_get-map}
use Rattle.aw_cell.specs.declared.cell.Cell.{Cell}
use Rattle.aw_cell.specs.declared.cell.Cell.TheVariants.{Na, Num, Int, Text, Bool, Slot}
use Rattle.aw_cell.specs.declared.cell.Kind.{Kind}
use Rattle.aw_cell.specs.declared.cell.Kind.TheVariants.{Slot as SlotKind, Text as TextKind}
use Rattle.aw_page.specs.Fitting.{is_of_kind}
use Rattle.aw_schema.specs.declared.definition.Def.{Def}
use Rattle.aw_schema.specs.declared.definition.DefKind.{DefKind}
use Rattle.aw_schema.specs.declared.definition.DefKind.TheVariants.{Dimension, Relation, Valueset, Variable, Formula, Program, Aggmap}
use Rattle.aw_schema.specs.Definitions.{is_kept}
use Rattle.aw_var.specs.CellMap.{cell_at}
use Rattle.aw_var.specs.Variable.{Contents, IsVariable}
use Rattle.aw_body.specs.declared.body.Body.{Body}
use Rattle.aw_body.specs.declared.body.Body.TheVariants.{Dim, Rel, Set, Var}
use Rattle.mv_view.specs.ViewState.{ObjectView, ViewState, AreSeen, IsSeen, IsOf, IsKeyOf, object_of, kind_of, kinds_of, kept_kind, kept_kinds}
use Rattle.mv_view.specs.Rules.{read, reached, reached_by, cell_in, has_slot, private_of}
use Rattle.mv_view.specs.Each.{object_in}
use Rattle.mv_view.proofs.Setting.{cell_at-kind}
use Rattle.dml_exec.specs.declared.kinds.ObjectKind.TheVariants.{Cells}
use Rattle.dml_compile.specs.Objects.{object_kind, object_kinds}
use Rattle.ses_value.specs.Seeing.{text_or_na}

-- ---- what the view has of an object that has cells

-- it sees the object, which has cells of this kind over these dimensions
record HasCells (found : Option ObjectView) (kind : Kind) (dimensions : List ℕ) : Type 0 where
  pub one : ObjectView
  pub is : found ≡ Some one
  pub cells : object_kind one.kind ≡ Cells kind dimensions

object_in-kinds : (objects : List (Option ObjectView)) (object : ℕ) → object_in (map (option_map kind_of) objects) object ≡ option_map kind_of (object_in objects object)
object_in-kinds objects object = ap (λ (found : Option (Option DefKind)). elim found [ None ↦ None | Some one ↦ one ]) (slice_get-map (option_map kind_of) objects object) ∙ inside (slice_get objects object)
  where
    inside : (found : Option (Option ObjectView)) → ◌≡◌ {A = Option DefKind} (elim (option_map (option_map kind_of) found) [ None ↦ None | Some one ↦ one ]) (option_map kind_of (elim found [ None ↦ None | Some one ↦ one ]))
    inside None = refl
    inside (Some one) = refl

of_found : (found : Option ObjectView) (defined : DefKind) (kind : Kind) (dimensions : List ℕ) → option_map kind_of found ≡ Some defined → object_kind defined ≡ Cells kind dimensions → HasCells found kind dimensions
of_found None defined kind dimensions is cells = absurd cc
of_found (Some one) defined kind dimensions is cells = record { one = one; is = refl; cells = let same : one.kind ≡ defined = cc in ap object_kind same ∙ cells }

of_defined : (found : Option ObjectView) (def : Def) (defined : DefKind) (kind : Kind) (dimensions : List ℕ) → def.kind ≡ defined → option_map kind_of found ≡ kept_kind def → object_kind def.kind ≡ Cells kind dimensions → HasCells found kind dimensions
of_defined found def defined kind dimensions at is cells = by defined (is ∙ ap (λ (k : DefKind). cond (is_kept k) (Some k) None) at) (ap object_kind (sym at) ∙ cells)
  where
    by : (k : DefKind) → option_map kind_of found ≡ cond (is_kept k) (Some k) None → object_kind k ≡ Cells kind dimensions → HasCells found kind dimensions
    by Dimension seen made = absurd cc
    by (Relation target base) seen made = of_found found (Relation target base) kind dimensions seen made
    by (Valueset dimension) seen made = absurd cc
    by (Variable other over) seen made = of_found found (Variable other over) kind dimensions seen made
    by (Formula text) seen made = absurd cc
    by (Program text) seen made = absurd cc
    by (Aggmap text) seen made = absurd cc

of_list : (found : Option ObjectView) (def : Option Def) (kind : Kind) (dimensions : List ℕ) → option_map kind_of found ≡ elim (option_map kept_kind def) [ None ↦ None | Some one ↦ one ] → option_map (λ (one : Def). object_kind one.kind) def ≡ Some (Cells kind dimensions) → HasCells found kind dimensions
of_list found None kind dimensions is cells = absurd cc
of_list found (Some def) kind dimensions is cells = of_defined found def def.kind kind dimensions refl is (let made : object_kind def.kind ≡ Cells kind dimensions = cc in made)

has_cells : (view : ViewState) (definitions : List Def) → kinds_of view ≡ kept_kinds definitions → (object : ℕ) (kind : Kind) (dimensions : List ℕ) → slice_get (object_kinds definitions) object ≡ Some (Cells kind dimensions) → HasCells (object_of view object) kind dimensions
has_cells view definitions sees object kind dimensions is =
    of_list (object_of view object) (slice_get definitions object) kind dimensions
    (sym (object_in-kinds view.objects object)
    ∙ ap (λ (kinds : List (Option DefKind)). object_in kinds object) sees
    ∙ ap (λ (found : Option (Option DefKind)). elim found [ None ↦ None | Some one ↦ one ]) (slice_get-map kept_kind definitions object))
    (sym (slice_get-map (λ (one : Def). object_kind one.kind) definitions object) ∙ is)

-- ---- asking for a cell

cells-kind : (one other : Kind) (these those : List ℕ) → Cells one these ≡ Cells other those → one ≡ other
cells-kind one other these those e = cc

cells-dimensions : (one other : Kind) (these those : List ℕ) → Cells one these ≡ Cells other those → these ≡ those
cells-dimensions one other these those e = cc

key_of : (defined : DefKind) (kind : Kind) (dimensions slots : List ℕ) → object_kind defined ≡ Cells kind dimensions → length slots ≡ length dimensions → IsKeyOf defined slots
key_of Dimension kind dimensions slots is long = absurd cc
key_of (Relation target base) kind dimensions slots is long = long ∙ ap length (sym (cells-dimensions SlotKind kind (base ∷ []) dimensions is))
key_of (Valueset dimension) kind dimensions slots is long = absurd cc
key_of (Variable other over) kind dimensions slots is long = long ∙ ap length (sym (cells-dimensions other kind over dimensions is))
key_of (Formula text) kind dimensions slots is long = absurd cc
key_of (Program text) kind dimensions slots is long = absurd cc
key_of (Aggmap text) kind dimensions slots is long = absurd cc

pub may_read : (view : ViewState) (definitions : List Def) → kinds_of view ≡ kept_kinds definitions → (object : ℕ) (kind : Kind) (dimensions slots : List ℕ) → slice_get (object_kinds definitions) object ≡ Some (Cells kind dimensions) → length slots ≡ length dimensions → IsSomeAnd (object_of view object) (λ found. IsKeyOf found.kind slots)
may_read view definitions sees object kind dimensions slots is long =
    let has = has_cells view definitions sees object kind dimensions is in
    subst (λ (found : Option ObjectView). IsSomeAnd found (λ one. IsKeyOf one.kind slots)) (sym has.is) (key_of has.one.kind kind dimensions slots has.cells long)

-- ---- the kinds of cells

na-kind : (kind : Kind) → IsTrue (is_of_kind kind Na)
na-kind kind = refl

reached-kind : (cell : Cell) (dimension : Option Body) → IsTrue (is_of_kind SlotKind cell) → IsTrue (is_of_kind SlotKind (reached cell dimension))
reached-kind (Slot slot) dimension is = by (has_slot dimension slot)
  where
    by : (b : Truth) → IsTrue (is_of_kind SlotKind (cond b (Slot slot) Na))
    by true = refl
    by false = refl
reached-kind Na dimension is = is
reached-kind (Num units) dimension is = is
reached-kind (Int whole) dimension is = is
reached-kind (Text text) dimension is = is
reached-kind (Bool truth) dimension is = is

contents-kind : (contents : Contents) (kind other : Kind) (at : List ℕ) → IsVariable contents → contents.kind ≡ kind → kind ≡ other → IsTrue (is_of_kind other (cell_at contents.cells at))
contents-kind contents kind other at valid is same = subst (λ (k : Kind). IsTrue (is_of_kind k (cell_at contents.cells at))) (is ∙ same) (cell_at-kind contents at valid)

body-kind : (view : ViewState) (defined : DefKind) (body : Body) (kind : Kind) (dimensions at : List ℕ) → IsOf defined body → object_kind defined ≡ Cells kind dimensions → IsTrue (is_of_kind kind (reached_by view defined (cell_in body at)))
body-kind view Dimension body kind dimensions at form is = absurd cc
body-kind view (Relation target base) (Rel contents) kind dimensions at form is =
    subst (λ (k : Kind). IsTrue (is_of_kind k (reached (cell_at contents.cells at) (private_of view target)))) (cells-kind SlotKind kind (base ∷ []) dimensions is)
    (reached-kind (cell_at contents.cells at) (private_of view target) (contents-kind contents SlotKind SlotKind at form.valid form.form.1 refl))
body-kind view (Relation target base) (Dim values) kind dimensions at form is = absurd form.form
body-kind view (Relation target base) (Set slots) kind dimensions at form is = absurd form.form
body-kind view (Relation target base) (Var contents) kind dimensions at form is = absurd form.form
body-kind view (Valueset dimension) body kind dimensions at form is = absurd cc
body-kind view (Variable other over) (Var contents) kind dimensions at form is = contents-kind contents other kind at form.valid form.form.1 (cells-kind other kind over dimensions is)
body-kind view (Variable other over) (Dim values) kind dimensions at form is = absurd form.form
body-kind view (Variable other over) (Rel contents) kind dimensions at form is = absurd form.form
body-kind view (Variable other over) (Set slots) kind dimensions at form is = absurd form.form
body-kind view (Formula text) body kind dimensions at form is = absurd cc
body-kind view (Program text) body kind dimensions at form is = absurd cc
body-kind view (Aggmap text) body kind dimensions at form is = absurd cc

pub cells_of_kind : (view : ViewState) (definitions : List Def) → AreSeen view.objects → kinds_of view ≡ kept_kinds definitions → (object : ℕ) (kind : Kind) (dimensions slots : List ℕ) → slice_get (object_kinds definitions) object ≡ Some (Cells kind dimensions) → IsTrue (is_of_kind kind (read view object slots))
cells_of_kind view definitions seen sees object kind dimensions slots is =
    let has = has_cells view definitions sees object kind dimensions is in
    let one : IsSeen has.one = subst (λ (found : Option ObjectView). IfSome found IsSeen) has.is (seen.each object) in
    subst (λ (found : Option ObjectView). IsTrue (is_of_kind kind (elim found [ None ↦ Na | Some found ↦ reached_by view found.kind (cell_in found.private slots) ]))) (sym has.is)
    (body-kind view has.one.kind has.one.private kind dimensions slots one.private has.cells)

-- names are texts or NA
pub names_of_kind : (name : Option (List ℕ)) → IsTrue (is_of_kind TextKind (text_or_na name))
names_of_kind None = refl
names_of_kind (Some name) = refl
