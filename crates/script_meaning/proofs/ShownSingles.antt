-- A name of a variable without dimensions shows its private cell, and an INTEGER that is assigned to one is that cell then.
use Rattle.std.specs.Prelude.{◌≡◌, ◌++◌, ◌&&◌, ℕ, ℤ, true, Bool, not, cond, List, [], ◌∷◌, filter, Option, Some, None, Result, Ok, Err, slice_get, refl}
use Rattle.std.specs.Option.{option_map, option_and_then}
use Rattle.std.proofs.Common.{◌∙◌, ap, ap₂, subst}
use Rattle.aw_cell.specs.declared.cell.Cell.{Cell}
use Rattle.aw_cell.specs.declared.cell.Cell.TheVariants.{Na, Int}
use Rattle.aw_cell.specs.declared.cell.Kind.{Kind}
use Rattle.aw_cell.specs.declared.number.Arith.TheVariants.{Overflow}
use Rattle.aw_schema.specs.declared.definition.Def.{Def}
use Rattle.aw_schema.specs.declared.definition.DefKind.{DefKind}
use Rattle.aw_schema.specs.declared.definition.DefKind.TheVariants.{Variable}
use Rattle.aw_schema.specs.Definitions as definition
use Rattle.aw_codec.specs.declared.record.Decoded.{Decoded}
use Rattle.aw_store.specs.StoredRecords.{CanBeOpened}
use Rattle.aw_var.specs.CellMap.{Cells}
use Rattle.dml_tree.specs.declared.expr.Expr.{Expr}
use Rattle.dml_tree.specs.declared.expr.Expr.TheFolds.{fold-roll-Expr}
use Rattle.dml_tree.specs.declared.expr.Expr.TheViews.{rolls-Object, rolls-Integer}
use Rattle.dml_kinds.specs.declared.checking.TypedExpr.{TypedExpr}
use Rattle.dml_kinds.specs.declared.meaning.Meaning.{Meaning}
use Rattle.dml_kinds.specs.declared.meaning.Meaning.TheVariants as meaning
use Rattle.dml_kinds.specs.declared.meaning.Known.{Known}
use Rattle.dml_kinds.specs.declared.tree.Tree.{Tree}
use Rattle.dml_kinds.specs.declared.tree.Tree.TheFolds.{fold-roll-Tree}
use Rattle.dml_kinds.specs.declared.tree.Tree.TheVariants as tree
use Rattle.dml_kinds.specs.declared.tree.Tree.TheViews.{rolls-Variable, rolls-Literal}
use Rattle.dml_kinds.specs.FreeDimensions.{first_appearances, is_fixed, free_dimensions}
use Rattle.dml_kinds.specs.Meanings.{Names, dimensions_in, meaning_of, object_defined, object_known, names_in}
use Rattle.dml_kinds.specs.Trees.{tree_of, taken, meant}
use Rattle.dml_loop.specs.declared.fault.LoopFault.{LoopFault}
use Rattle.dml_loop.specs.declared.fault.LoopFault.TheVariants.{Arith}
use Rattle.mv_view.specs.Rules as rule
use Rattle.mv_view.specs.ViewState.{ObjectView, ViewState, object_of, kept_kinds}
use Rattle.ses_step.specs.Meant.{typed_expression}
use Rattle.ses_value.specs.Evaluating.{shown_in, assigned_in}
use Rattle.script_world.specs.Outcomes.{Outcome}
use Rattle.script_world.specs.Worlds.{Event}
use Rattle.script_meaning.specs.LineAnswers.{name_alone, integer_alone, to_integer, SinglesAreShown, IntegersAreAssigned}
use Rattle.script_meaning.specs.Transcript.{world_at}
use Rattle.script_meaning.proofs.KeptKinds.{seen-kept, kept-here}
use Rattle.script_meaning.proofs.ReachableWorlds.{fits_at, found_at_number}
use Rattle.script_meaning.proofs.TurnCases.{fitting}

-- ---- a name alone

module _ (names : Names) (name : List ℕ) (object : ℕ) (kind : Kind) (known : Known) (is : names name ≡ Some known) (means : known.meaning ≡ meaning.Variable object kind []) where
  tree-named : tree_of names (name_alone name) ≡ tree.Variable kind (taken object [] [])
  tree-named =
      subst (λ (e : Expr). tree_of names e ≡ tree.Variable kind (taken object [] [])) (rolls-Object (record { name = name; fixes = [] }))
      (simp (fold-roll-Expr) (ap (λ (k : Option Known). meant (option_map (λ (one : Known). one.meaning) k) []) is ∙ ap (λ (m : Meaning). meant (Some m) []) means))

  abbrev free_of : List ℕ → List ℕ
  free_of dimensions = first_appearances (filter (λ (d : ℕ). not (is_fixed names [] d)) dimensions ++ [])

  free-named : free_dimensions names (name_alone name) ≡ []
  free-named =
      subst (λ (e : Expr). free_dimensions names e ≡ []) (rolls-Object (record { name = name; fixes = [] }))
      (simp (fold-roll-Expr) (ap (λ (k : Option Known). free_of (elim (option_map (λ (one : Known). one.meaning) k) as (λ _. List ℕ) [ Some m ↦ dimensions_in m | None ↦ [] ])) is ∙ ap (λ (m : Meaning). free_of (dimensions_in m)) means))

-- what a variable without dimensions shows
shown-variable : (view : ViewState) (typed : TypedExpr) (object : ℕ) (kind : Kind) → typed.tree ≡ tree.Variable kind (taken object [] []) → typed.dimensions ≡ [] → shown_in view typed ≡ Ok (rule.read view object [])
shown-variable view typed object kind tree_is free =
    ap₂ (λ (t : Tree) (dimensions : List ℕ). shown_in view (record typed { tree = t; dimensions = dimensions })) tree_is free
    ∙ subst (λ (t : Tree). shown_in view (record typed { tree = t; dimensions = [] }) ≡ Ok (rule.read view object [])) (rolls-Variable kind (taken object [] [])) (simp (fold-roll-Tree) refl)

-- ---- what a name means

known-named : (definitions : List Def) (name : List ℕ) (object : ℕ) (def : Def) (kind : Kind) → definition.object_of definitions name ≡ Some object → slice_get definitions object ≡ Some def → def.kind ≡ Variable kind [] → names_in definitions [] [] name ≡ Some (record { name = def.name; meaning = meaning.Variable object kind [] })
unfolding names_in
known-named definitions name object def kind place there is =
    ap (λ (at : Option ℕ). option_and_then (object_known definitions []) at) place
    ∙ ap (λ (found : Option Def). option_and_then (object_defined [] object) found) there
    ∙ ap (λ (k : DefKind). option_map (λ (m : Meaning). let known : Known = record { name = def.name; meaning = m } in known) (meaning_of [] object k)) is

read-single : (view : ViewState) (object : ℕ) (found : ObjectView) (kind : Kind) → object_of view object ≡ Some found → found.kind ≡ Variable kind [] → rule.read view object [] ≡ rule.cell_in found.private []
read-single view object found kind there single =
    ap (λ (seen : Option ObjectView). elim seen as (λ _. Cell) [ None ↦ Na | Some one ↦ rule.reached_by view one.kind (rule.cell_in one.private []) ]) there
    ∙ ap (λ (k : DefKind). rule.reached_by view k (rule.cell_in found.private [])) single

-- ---- both laws

pub singles_shown : (names : List (List ℕ)) (records : List Decoded) (coming : List Outcome) (events : List Event) → CanBeOpened records → SinglesAreShown (world_at names records coming events)
singles_shown names records coming events can disk who s view is found attached name object one kind place there single =
    let w = world_at names records coming events in
    let all = fits_at names records coming events can disk is in
    let kinds = (fitting w.definitions w.names w.sessions disk.state s all (found_at_number names records coming events can disk who s is found) view attached).fits.kinds ∙ ap kept_kinds all.definitions_are in
    let def = kept-here w.definitions object one.kind (seen-kept w.definitions view object one kinds there) in
    let known = known-named w.definitions name object def.def kind place def.there (def.kind_is ∙ single) in
    let its : Known = record { name = def.def.name; meaning = meaning.Variable object kind [] } in
    shown-variable view (typed_expression w.definitions (name_alone name)) object kind (tree-named (names_in w.definitions [] []) name object kind its known refl) (free-named (names_in w.definitions [] []) name object kind its known refl)
    ∙ ap Ok (read-single view object one kind there single)

tree-integer : (names : Names) (whole : ℤ) → tree_of names (integer_alone whole) ≡ tree.Literal (Int whole)
tree-integer names whole = subst (λ (e : Expr). tree_of names e ≡ tree.Literal (Int whole)) (rolls-Integer whole) (simp (fold-roll-Expr) refl)

pub integers_assigned : IntegersAreAssigned
integers_assigned definitions view whole is =
    let typed = typed_expression definitions (integer_alone whole) in
    ap (λ (t : Tree). assigned_in view to_integer (record typed { tree = t })) (tree-integer (names_in definitions [] []) whole)
    ∙ subst (λ (t : Tree). assigned_in view to_integer (record typed { tree = t }) ≡ Ok (([], Int whole) ∷ [])) (rolls-Literal (Int whole))
    (simp (fold-roll-Tree) (ap (λ (b : Bool). let cells : Result Cells LoopFault = cond (b && true) (Ok (([], Int whole) ∷ [])) (Err (Arith Overflow)) in cells) is))
