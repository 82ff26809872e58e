-- What a line asks for the session is ready for: what is staged or given up it owns, and what is written its object can hold. And
-- a session that attached for reading alone gives no command that acquires, gives up or publishes.
use Rattle.std.specs.Prelude.{ℕ, ◌≡◌, ◌≤◌, Bool, true, false, not, cond, List, [], ◌∷◌, map, length, find, nat_le, Option, Some, None, IfSome, IfOk, IsTrue, Result, Ok, Err}
use Rattle.std.specs.List.{list_all}
use Rattle.std.specs.Option.{IsSomeAnd, option_map, option_or}
use Rattle.std.proofs.Common.{◌∙◌, ap, refl, sym, subst, arith}
use Rattle.std.proofs.lemmas.Bool.{false≢true}
use Rattle.aw_dim.specs.DimensionState.{DimensionState}
use Rattle.aw_cell.specs.declared.cell.Cell.{Cell}
use Rattle.aw_cell.specs.declared.number.Arith.TheVariants as arith_fault
use Rattle.aw_schema.specs.declared.definition.Def.{Def}
use Rattle.aw_schema.specs.declared.definition.DefKind.{DefKind}
use Rattle.aw_schema.specs.declared.definition.DefKind.TheVariants.{Dimension, Relation, Valueset, Variable, Formula, Program, Aggmap}
use Rattle.aw_schema.specs.Definitions as definition
use Rattle.aw_var.specs.CellMap.{Cells}
use Rattle.aw_body.specs.declared.body.Body.{Body}
use Rattle.aw_body.specs.declared.body.Body.TheVariants.{Dim}
use Rattle.mv_view.specs.ViewState.{ObjectView, ViewState, object_of, AreOwned}
use Rattle.dml_tree.specs.declared.expr.Expr.{Expr}
use Rattle.dml_tree.specs.declared.expr.Target.{Target as WrittenTarget}
use Rattle.dml_tree.specs.declared.statement.Mode.{Mode}
use Rattle.dml_tree.specs.declared.statement.Mode.TheVariants.{ReadOnly}
use Rattle.dml_tree.specs.declared.statement.Statement.{Statement}
use Rattle.dml_tree.specs.declared.statement.Statement.TheVariants as statement
use Rattle.dml_grammar.specs.declared.fault.ParseFault.{ParseFault}
use Rattle.dml_lines.specs.Lines.{statement_in}
use Rattle.dml_kinds.specs.declared.checking.TypedExpr.{TypedExpr}
use Rattle.dml_kinds.specs.declared.fault.TypeFault.{TypeFault}
use Rattle.dml_types.specs.declared.checking.Typed.{Typed}
use Rattle.dim_maintain.specs.declared.fault.MaintainFault.{MaintainFault}
use Rattle.dml_exec.specs.declared.kinds.Fix.{Fix}
use Rattle.dml_compile.specs.Compiled.{tree_fixes}
use Rattle.dml_loop.specs.declared.conversion.Target.TheVariants as loop_target
use Rattle.dml_loop.specs.declared.fault.LoopFault.{LoopFault}
use Rattle.dml_loop.specs.declared.fault.LoopFault.TheVariants as loop_fault
use Rattle.dml_loop.specs.Evaluation.{stored, assigned}
use Rattle.dml_loop.specs.Fixes.{slots_of_fixes}
use Rattle.dml_loop.specs.Loops.{places, combinations, on_ok}
use Rattle.ses_report.specs.declared.refusal.Refusal.{Refusal}
use Rattle.ses_report.specs.Refusals.{no_form, not_acquired, no_value, not_attached, read_only}
use Rattle.ses_value.specs.declared.target.AssignedTo.{AssignedTo}
use Rattle.ses_value.specs.Evaluating.{target_kind, value_in, target_lists, within, held, shown_in, assigned_in}
use Rattle.ses_value.specs.Held.{is_held}
use Rattle.ses_value.specs.Seeing.{slot_in}
use Rattle.ses_step.specs.declared.command.Asked.{Asked}
use Rattle.ses_step.specs.declared.command.Asked.TheVariants.{Runs, Refused}
use Rattle.ses_step.specs.declared.command.Command.{Command}
use Rattle.ses_step.specs.declared.command.Command.TheVariants as command
use Rattle.ses_step.specs.declared.session.Known.{Known}
use Rattle.ses_step.specs.Commands.{command_of}
use Rattle.ses_step.specs.Maintaining.{is_dimension, change_of, cause_of, changed, values_held, dimension_in, of_values, maintained_asked}
use Rattle.ses_step.specs.Meant.{runs, given, fixes_of, target_of, typed_expression, written_to, shown_asked, assigned_asked, on_view, meant}
use Rattle.ses_step.specs.Refusing.{attachment_refusal, publishes, mode_refusal, objects_of, checked, owns, owns_seen, first_foreign, held_refusal, missing, checked_refusal, statement_refusal}
use Rattle.ses_step.specs.SessionLines.{asked_unless, asked_by, asked, IsReadyFor}
use Rattle.ses_step.specs.Sessions.{name_of, next_of, AreHeldBy, CanMaintain, IsReady}
use Rattle.ses_step.proofs.callers.GuardedValues.{tells}

abbrev numbers : List (List ℕ × ℕ) → List ℕ
numbers objects = map (λ (named : List ℕ × ℕ). named.1) objects

module _ (s : Known) where
  owned-seen : (found : Option ObjectView) → owns_seen found ≡ true → IsSomeAnd found (λ one. one.owned ≡ true)
  owned-seen None is = cc
  owned-seen (Some found) is = is

  -- where no object is foreign, all are owned
  all-owned : (view : ViewState) → s.view ≡ Some view → (objects : List (List ℕ × ℕ)) → first_foreign s objects ≡ None → AreOwned view (numbers objects)
  all-owned view is [] none = tt
  all-owned view is (named ∷ objects) none = by (owns s named) refl none (all-owned view is objects)
    where
      by : (b : Bool) → owns s named ≡ b → option_map (λ (one : List ℕ × ℕ). not_acquired one.0) (cond (not b) (Some named) (find (λ one. not (owns s one)) objects)) ≡ None
          → (first_foreign s objects ≡ None → AreOwned view (numbers objects)) → AreOwned view (numbers (named ∷ objects))
      by false has none others = cc
      by true has none others = (
        owned-seen (object_of view named.1) (sym (ap (λ (v : Option ViewState). owns_seen (elim v [ None ↦ None | Some one ↦ object_of one named.1 ])) is) ∙ has),
        others none,
      )

  owned-where : (objects : List (List ℕ × ℕ)) → first_foreign s objects ≡ None → IfSome s.view (λ view. AreOwned view (numbers objects))
  owned-where objects none = by s.view refl
    where
      by : (view : Option ViewState) → s.view ≡ view → IfSome view (λ one. AreOwned one (numbers objects))
      by None is = tt
      by (Some view) is = all-owned view is objects none

  -- the command of a statement that shares the workspace and passed
  pub ready : (it : Statement) (objects : List (List ℕ × ℕ)) → held_refusal s it objects ≡ None → IfSome (command_of it (numbers objects)) (IsReady s)
  ready (statement.Release l) objects none = owned-where objects none
  ready (statement.Update l) objects none = owned-where objects none
  ready (statement.Attach mode) objects none = tt
  ready statement.Detach objects none = tt
  ready statement.Commit objects none = tt
  ready (statement.Acquire keep fresh same) objects none = tt
  ready (statement.Resync l) objects none = tt
  ready (statement.Revert l) objects none = tt
  ready (statement.Add dimension l place) objects none = tt
  ready (statement.Delete dimension l) objects none = tt
  ready (statement.Move dimension l place) objects none = tt
  ready (statement.Rename dimension was text) objects none = tt
  ready (statement.Assign target e) objects none = tt
  ready (statement.Show e) objects none = tt
  ready (statement.Report e) objects none = tt
  ready (statement.Limit name how what) objects none = tt
  ready (statement.Aggregate variable map) objects none = tt
  ready (statement.Allocate source basis target map) objects none = tt
  ready (statement.Call program arguments) objects none = tt

  -- and what it asks for
  ready-runs : (own : Option Command) → IfSome own (IsReady s) → IsReadyFor s (runs own)
  ready-runs None is = tt
  ready-runs (Some own) is = is

either-none : {X : Type 0} (one other : Option X) → option_or one other ≡ None → (one ≡ None) × (other ≡ None)
either-none None other none = (refl, none)
either-none (Some x) other none = cc

-- ---- what is assigned

holds-on : {A B E : Type 0} (P : B → Type 0) (f : A → Result B E) (r : Result A E) → ((a : A) → IfOk (f a) P) → IfOk (on_ok f r) P
holds-on P f (Ok a) holds = holds a
holds-on P f (Err why) holds = tt

module _ (view : ViewState) (to : AssignedTo) where
  abbrev AreHeld : Cells → Type 0
  AreHeld cells = IsTrue (list_all (is_held (length to.dimensions) (target_kind to.target)) cells)

  held-ones : (cells : Cells) → IfOk (held view to cells) AreHeld
  held-ones cells = by (list_all (is_held (length to.dimensions) (target_kind to.target)) cells) refl
    where
      by : (b : Bool) → list_all (is_held (length to.dimensions) (target_kind to.target)) cells ≡ b → IfOk (cond b (Ok cells) (Err (loop_fault.Arith arith_fault.Overflow))) AreHeld
      by true is = is
      by false is = tt

  within-ones : (cells : Result Cells LoopFault) → IfOk cells AreHeld → IfOk (within view (target_lists view to) cells) AreHeld
  within-ones cells are = by (nat_le (combinations (target_lists view to)) 4194304)
    where
      by : (b : Bool) → IfOk (cond b cells (Err loop_fault.TooMany)) AreHeld
      by true = are
      by false = tt

  -- what an assignment writes its target can hold
  pub assigned-held : (e : TypedExpr) → IfOk (assigned_in view to e) AreHeld
  assigned-held e =
      holds-on AreHeld _ (slots_of_fixes (slot_in view) to.fixes) (λ slots.
      holds-on AreHeld _ (slots_of_fixes (slot_in view) (tree_fixes [] e.tree)) (λ own.
      within-ones (on_ok (held view to) (assigned (value_in view e.tree) (stored (slot_in view) to.target) (places (target_lists view to))))
      (holds-on AreHeld (held view to) (assigned (value_in view e.tree) (stored (slot_in view) to.target) (places (target_lists view to))) held-ones)))

module _ (definitions : List Def) (s : Known) (view : ViewState) (is : s.view ≡ Some view) where
  -- cells that an object can hold which the session sees
  cells-ready : (object : ℕ) (found : ObjectView) → object_of view object ≡ Some found → (cells : Result Cells LoopFault) → IfOk cells (AreHeldBy found.kind)
      → IsReadyFor s (given definitions (command.Write object) cells)
  cells-ready object found there (Err fault) are = tt
  cells-ready object found there (Ok cells) are =
      subst (λ (v : Option ViewState). IfSome v (λ one. IsSomeAnd (object_of one object) (λ (seen : ObjectView). AreHeldBy seen.kind cells))) (sym is)
      (subst (λ (seen : Option ObjectView). IsSomeAnd seen (λ one. AreHeldBy one.kind cells)) (sym there) are)

  written-ready : (object : ℕ) (found : ObjectView) → object_of view object ≡ Some found → (kind : DefKind) → found.kind ≡ kind → (fixes : List Fix) (e : Expr)
      → IsReadyFor s (written_to definitions view object (target_of kind fixes) e)
  written-ready object found there (Variable kind dimensions) same fixes e =
      let to : AssignedTo = record { target = loop_target.Kind kind; dimensions = dimensions; fixes = fixes } in
      cells-ready object found there (assigned_in view to (typed_expression definitions e))
      (subst (λ (k : DefKind). IfOk (assigned_in view to (typed_expression definitions e)) (AreHeldBy k)) (sym same) (assigned-held view to (typed_expression definitions e)))
  written-ready object found there (Relation goes_to base) same fixes e =
      let to : AssignedTo = record { target = loop_target.Relation goes_to; dimensions = base ∷ []; fixes = fixes } in
      cells-ready object found there (assigned_in view to (typed_expression definitions e))
      (subst (λ (k : DefKind). IfOk (assigned_in view to (typed_expression definitions e)) (AreHeldBy k)) (sym same) (assigned-held view to (typed_expression definitions e)))
  written-ready object found there Dimension same fixes e = tt
  written-ready object found there (Valueset dimension) same fixes e = tt
  written-ready object found there (Formula text) same fixes e = tt
  written-ready object found there (Program text) same fixes e = tt
  written-ready object found there (Aggmap text) same fixes e = tt

  assigned-ready : (to : WrittenTarget) (e : Expr) → IsReadyFor s (assigned_asked definitions view to e)
  assigned-ready to e = by_name (definition.object_of definitions to.name)
    where
      by_seen : (object : ℕ) (seen : Option ObjectView) → object_of view object ≡ seen
          → IsReadyFor s (elim seen [ None ↦ Refused no_form | Some found ↦ written_to definitions view object (target_of found.kind (fixes_of definitions to.fixes)) e ])
      by_seen object None there = tt
      by_seen object (Some found) there = written-ready object found there found.kind refl (fixes_of definitions to.fixes) e

      by_name : (named : Option ℕ) → IsReadyFor s (elim named [
        | None ↦ Refused no_form
        | Some object ↦ elim (object_of view object) [
          | None ↦ Refused no_form
          | Some found ↦ written_to definitions view object (target_of found.kind (fixes_of definitions to.fixes)) e
        ]
      ])
      by_name None = tt
      by_name (Some object) = by_seen object (object_of view object) refl

  shown-ready : (e : Expr) → IsReadyFor s (shown_asked definitions view e)
  shown-ready e = by (shown_in view (typed_expression definitions e))
    where
      by : (cell : Result Cell LoopFault) → IsReadyFor s (given definitions command.Show cell)
      by (Ok cell) = tt
      by (Err fault) = tt

-- ---- what a dimension is maintained to

-- no slot is given again
next-grows : (it : Statement) (values : DimensionState) → values.next ≤ (change_of it values).next
next-grows (statement.Add dimension names place) values = omega arith
next-grows (statement.Delete dimension names) values = omega arith
next-grows (statement.Move dimension names place) values = omega arith
next-grows (statement.Rename dimension old new) values = omega arith
next-grows _ values = omega arith

module _ (definitions : List Def) (s : Known) (view : ViewState) (is : s.view ≡ Some view) (it : Statement) (object : ℕ) (found : ObjectView) (there : object_of view object ≡ Some found) (own : found.owned ≡ true) where
  changed-ready : (name : List ℕ) (cause : Option MaintainFault) (values : DimensionState) → found.kind ≡ Dimension → next_of found.private ≤ values.next → IsReadyFor s (changed name object cause values)
  changed-ready name (Some fault) values kind grows = tt
  changed-ready name None values kind grows = by (is_dimension values) refl
    where
      by : (b : Bool) → is_dimension values ≡ b → IsReadyFor s (cond b (Runs (command.Maintain object values)) (Refused no_form))
      by true valid =
          subst (λ (v : Option ViewState). IfSome v (λ one. IsSomeAnd (object_of one object) (CanMaintain values))) (sym is)
          (subst (λ (seen : Option ObjectView). IsSomeAnd seen (CanMaintain values)) (sym there)
          (record { kind = kind; owned = own; valid = tells values valid; next = grows }))
      by false valid = tt

  values-ready : (kind : DefKind) (private : Body) → found.kind ≡ kind → found.private ≡ private → IsReadyFor s (of_values definitions it object (values_held kind private))
  values-ready Dimension (Dim values) same body =
      changed-ready (name_of definitions object) (cause_of it values) (change_of it values) same
      (subst (λ (held : Body). next_of held ≤ (change_of it values).next) (sym body) (next-grows it values))
  values-ready _ _ same body = tt

module _ (definitions : List Def) (s : Known) (view : ViewState) (is : s.view ≡ Some view) (it : Statement) where
  maintained-ready : (objects : List ℕ) → AreOwned view objects → IsReadyFor s (maintained_asked definitions it view objects)
  maintained-ready [] own = tt
  maintained-ready (object ∷ []) own = by (object_of view object) refl own.0
    where
      by : (seen : Option ObjectView) → object_of view object ≡ seen → IsSomeAnd seen (λ one. one.owned ≡ true)
          → IsReadyFor s (of_values definitions it object (elim seen [ None ↦ None | Some found ↦ values_held found.kind found.private ]))
      by None there owned = tt
      by (Some found) there owned = values-ready definitions s view is it object found there owned found.kind found.private refl refl
  maintained-ready (object ∷ other ∷ objects) own = tt

-- ---- a statement that passed

module _ (definitions : List Def) (s : Known) where
  on-view : (P : Asked → Type 0) (asks : ViewState → Asked) → P (Refused not_attached) → ((view : ViewState) → s.view ≡ Some view → P (asks view)) → P (on_view s asks)
  on-view P asks none some = by s.view refl
    where
      by : (view : Option ViewState) → s.view ≡ view → P (elim view [ None ↦ Refused not_attached | Some one ↦ asks one ])
      by None is = none
      by (Some view) is = some view is

  -- what a statement asks for has a property where its run has it and its command has
  pub meant-cases : (P : Asked → Type 0) (it : Statement)
      → ((e : Expr) → it ≡ statement.Show e → P (on_view s (λ view. shown_asked definitions view e)))
      → ((to : WrittenTarget) (e : Expr) → it ≡ statement.Assign to e → P (on_view s (λ view. assigned_asked definitions view to e)))
      → (publishes it ≡ true → ((objects : List (List ℕ × ℕ)) → held_refusal s it objects ≡ first_foreign s objects)
      → P (on_view s (λ view. maintained_asked definitions it view (objects_of (checked definitions it)))))
      → P (runs (command_of it (objects_of (checked definitions it))))
      → P (meant definitions s it)
  meant-cases P (statement.Release l) shows assigns maintains shares = shares
  meant-cases P (statement.Update l) shows assigns maintains shares = shares
  meant-cases P (statement.Attach mode) shows assigns maintains shares = shares
  meant-cases P statement.Detach shows assigns maintains shares = shares
  meant-cases P statement.Commit shows assigns maintains shares = shares
  meant-cases P (statement.Acquire keep fresh same) shows assigns maintains shares = shares
  meant-cases P (statement.Resync l) shows assigns maintains shares = shares
  meant-cases P (statement.Revert l) shows assigns maintains shares = shares
  meant-cases P (statement.Add dimension l place) shows assigns maintains shares = maintains refl (λ objects. refl)
  meant-cases P (statement.Delete dimension l) shows assigns maintains shares = maintains refl (λ objects. refl)
  meant-cases P (statement.Move dimension l place) shows assigns maintains shares = maintains refl (λ objects. refl)
  meant-cases P (statement.Rename dimension was text) shows assigns maintains shares = maintains refl (λ objects. refl)
  meant-cases P (statement.Assign to e) shows assigns maintains shares = assigns to e refl
  meant-cases P (statement.Show e) shows assigns maintains shares = shows e refl
  meant-cases P (statement.Report e) shows assigns maintains shares = shares
  meant-cases P (statement.Limit name how what) shows assigns maintains shares = shares
  meant-cases P (statement.Aggregate variable map) shows assigns maintains shares = shares
  meant-cases P (statement.Allocate source basis target map) shows assigns maintains shares = shares
  meant-cases P (statement.Call program arguments) shows assigns maintains shares = shares

  meant-ready : (it : Statement) (found : Result Typed TypeFault) → checked definitions it ≡ found → checked_refusal definitions s it found ≡ None → IsReadyFor s (meant definitions s it)
  meant-ready it (Err fault) is none = cc
  meant-ready it (Ok typed) is none =
      let passed : held_refusal s it typed.objects ≡ None = (either-none (held_refusal s it typed.objects) (option_map no_value (missing definitions s it)) none).0 in
      meant-cases (IsReadyFor s) it
      (λ e same. on-view (IsReadyFor s) (λ view. shown_asked definitions view e) tt (λ view there. shown-ready definitions s view there e))
      (λ to e same. on-view (IsReadyFor s) (λ view. assigned_asked definitions view to e) tt (λ view there. assigned-ready definitions s view there to e))
      (λ maintains foreign. on-view (IsReadyFor s) (λ view. maintained_asked definitions it view (objects_of (checked definitions it))) tt
      (λ view there. subst (λ (found : Result Typed TypeFault). IsReadyFor s (maintained_asked definitions it view (objects_of found))) (sym is)
      (maintained-ready definitions s view there it (numbers typed.objects) (all-owned s view there typed.objects (sym (foreign typed.objects) ∙ passed)))))
      (subst (λ (objects : List ℕ). IsReadyFor s (runs (command_of it objects))) (sym (ap objects_of is))
      (ready-runs s (command_of it (numbers typed.objects)) (ready s it typed.objects passed)))

  -- ---- a session that attached for reading alone

  -- what acquires, gives up or publishes, or changes a dimension
  abbrev pub shares : Command → Bool
  shares (command.Acquire keep fresh same) = true
  shares (command.Release objects) = true
  shares (command.Update objects) = true
  shares command.Commit = true
  shares (command.Maintain object values) = true
  shares _ = false

  abbrev pub IsPermitted : Command → Type 0
  IsPermitted own = s.mode ≡ ReadOnly → shares own ≡ false

  abbrev pub IsPermittedFor : Asked → Type 0
  IsPermittedFor (Refused refusal) = Unit {0}
  IsPermittedFor (Runs own) = IsPermitted own

  reader : (it : Statement) → mode_refusal s.mode it ≡ None → s.mode ≡ ReadOnly → mode_refusal ReadOnly it ≡ None
  reader it none is = sym (ap (λ (mode : Mode). mode_refusal mode it) is) ∙ none

  never : {A : Type 0} → Some read_only ≡ None → A
  never is = cc

  permitted : (it : Statement) (objects : List ℕ) → mode_refusal s.mode it ≡ None → IsPermittedFor (runs (command_of it objects))
  permitted (statement.Release l) objects none = λ is. never (reader (statement.Release l) none is)
  permitted (statement.Update l) objects none = λ is. never (reader (statement.Update l) none is)
  permitted (statement.Attach mode) objects none = λ is. refl
  permitted statement.Detach objects none = λ is. refl
  permitted statement.Commit objects none = λ is. never (reader statement.Commit none is)
  permitted (statement.Acquire keep fresh same) objects none = λ is. never (reader (statement.Acquire keep fresh same) none is)
  permitted (statement.Resync l) objects none = λ is. refl
  permitted (statement.Revert l) objects none = λ is. refl
  permitted (statement.Add dimension l place) objects none = tt
  permitted (statement.Delete dimension l) objects none = tt
  permitted (statement.Move dimension l place) objects none = tt
  permitted (statement.Rename dimension was text) objects none = tt
  permitted (statement.Assign to e) objects none = tt
  permitted (statement.Show e) objects none = tt
  permitted (statement.Report e) objects none = tt
  permitted (statement.Limit name how what) objects none = tt
  permitted (statement.Aggregate variable map) objects none = tt
  permitted (statement.Allocate source basis target map) objects none = tt
  permitted (statement.Call program arguments) objects none = tt

  given-permitted : {A : Type 0} (own : A → Command) (run : Result A LoopFault) → ((it : A) → shares (own it) ≡ false) → IsPermittedFor (given definitions own run)
  given-permitted own (Ok it) not = λ is. not it
  given-permitted own (Err fault) not = tt

  assigned-permitted : (view : ViewState) (to : WrittenTarget) (e : Expr) → IsPermittedFor (assigned_asked definitions view to e)
  assigned-permitted view to e = by_name (definition.object_of definitions to.name)
    where
      by_target : (object : ℕ) (target : Option AssignedTo) → IsPermittedFor (written_to definitions view object target e)
      by_target object None = tt
      by_target object (Some target) = given-permitted (command.Write object) (assigned_in view target (typed_expression definitions e)) (λ cells. refl)

      by_seen : (object : ℕ) (seen : Option ObjectView)
          → IsPermittedFor (elim seen [ None ↦ Refused no_form | Some found ↦ written_to definitions view object (target_of found.kind (fixes_of definitions to.fixes)) e ])
      by_seen object None = tt
      by_seen object (Some found) = by_target object (target_of found.kind (fixes_of definitions to.fixes))

      by_name : (named : Option ℕ) → IsPermittedFor (elim named [
        | None ↦ Refused no_form
        | Some object ↦ elim (object_of view object) [
          | None ↦ Refused no_form
          | Some found ↦ written_to definitions view object (target_of found.kind (fixes_of definitions to.fixes)) e
        ]
      ])
      by_name None = tt
      by_name (Some object) = by_seen object (object_of view object)

  maintain-permitted : (view : ViewState) (it : Statement) (objects : List ℕ) → (s.mode ≡ ReadOnly → false ≡ true) → IsPermittedFor (maintained_asked definitions it view objects)
  maintain-permitted view it [] writer = tt
  maintain-permitted view it (object ∷ []) writer = by_values (dimension_in view object)
    where
      by_guard : (b : Bool) (values : DimensionState) → IsPermittedFor (cond b (Runs (command.Maintain object values)) (Refused no_form))
      by_guard true values = λ is. absurd (false≢true (writer is))
      by_guard false values = tt

      by_cause : (cause : Option MaintainFault) (values : DimensionState) → IsPermittedFor (changed (name_of definitions object) object cause values)
      by_cause (Some fault) values = tt
      by_cause None values = by_guard (is_dimension values) values

      by_values : (values : Option DimensionState) → IsPermittedFor (of_values definitions it object values)
      by_values None = tt
      by_values (Some values) = by_cause (cause_of it values) (change_of it values)
  maintain-permitted view it (object ∷ other ∷ objects) writer = tt

  -- a session that attached for reading alone publishes nothing
  no-writer : (it : Statement) → publishes it ≡ true → mode_refusal s.mode it ≡ None → s.mode ≡ ReadOnly → false ≡ true
  no-writer it publishing none is =
      never (sym (ap (λ (b : Bool). cond b (Some read_only) None) publishing) ∙ reader it none is)

  meant-permitted : (it : Statement) → mode_refusal s.mode it ≡ None → IsPermittedFor (meant definitions s it)
  meant-permitted it none =
      meant-cases IsPermittedFor it
      (λ e same. on-view IsPermittedFor (λ view. shown_asked definitions view e) tt (λ view there. given-permitted command.Show (shown_in view (typed_expression definitions e)) (λ cell. refl)))
      (λ to e same. on-view IsPermittedFor (λ view. assigned_asked definitions view to e) tt (λ view there. assigned-permitted view to e))
      (λ publishing foreign. on-view IsPermittedFor (λ view. maintained_asked definitions it view (objects_of (checked definitions it))) tt
      (λ view there. maintain-permitted view it (objects_of (checked definitions it)) (no-writer it publishing none)))
      (permitted it (objects_of (checked definitions it)) none)

  -- ---- a line

  unless-cases : (P : Asked → Type 0) → ((refusal : Refusal) → P (Refused refusal))
      → ((it : Statement) → mode_refusal s.mode it ≡ None → checked_refusal definitions s it (checked definitions it) ≡ None → P (meant definitions s it))
      → (it : Statement) (refusal : Option Refusal) → statement_refusal definitions s it ≡ refusal → P (asked_unless definitions s refusal it)
  unless-cases P refused passed it (Some refusal) is = refused refusal
  unless-cases P refused passed it None is =
      let behind = either-none (attachment_refusal s it) (option_or (mode_refusal s.mode it) (checked_refusal definitions s it (checked definitions it))) is in
      let parts = either-none (mode_refusal s.mode it) (checked_refusal definitions s it (checked definitions it)) behind.1 in
      passed it parts.0 parts.1

  -- what a line asks for is refused, or what a statement asks for that passed
  pub asked-cases : (P : Asked → Type 0) → ((refusal : Refusal) → P (Refused refusal))
      → ((it : Statement) → mode_refusal s.mode it ≡ None → checked_refusal definitions s it (checked definitions it) ≡ None → P (meant definitions s it))
      → (line : List ℕ) (from : ℕ) → P (asked definitions s line from)
  asked-cases P refused passed line from = by (statement_in line from)
    where
      by : (read : Result Statement ParseFault) → P (asked_by definitions s read)
      by (Err fault) = refused _
      by (Ok it) = unless-cases P refused passed it (statement_refusal definitions s it) refl

  pub asked-ready : (line : List ℕ) (from : ℕ) → IsReadyFor s (asked definitions s line from)
  asked-ready line from = asked-cases (IsReadyFor s) (λ refusal. tt) (λ it may none. meant-ready it (checked definitions it) refl none) line from

  pub asked-permitted : (line : List ℕ) (from : ℕ) → IsPermittedFor (asked definitions s line from)
  asked-permitted line from = asked-cases IsPermittedFor (λ refusal. tt) (λ it may none. meant-permitted it may) line from
