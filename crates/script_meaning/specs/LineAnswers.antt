-- Which refusal of a session's line comes first, what SHOW and an assignment come to, and what always goes.
use Rattle.std.specs.Prelude.{◌≡◌, ℕ, ℤ, Bool, true, false, cond, nat_le, List, [], ◌∷◌, None, Some, IsSome, Ok, Err}
use Rattle.aw_cell.specs.declared.cell.Cell.{Cell}
use Rattle.aw_cell.specs.declared.cell.Cell.TheVariants.{Int}
use Rattle.aw_cell.specs.declared.cell.Kind.{Kind}
use Rattle.aw_cell.specs.declared.cell.Kind.TheVariants.{Int as Integer}
use Rattle.aw_cell.specs.CellArithmetic.{is_integer}
use Rattle.aw_dim.specs.DimensionState.{DimensionState}
use Rattle.aw_schema.specs.declared.definition.Def.{Def}
use Rattle.aw_schema.specs.declared.definition.DefKind.TheVariants.{Variable}
use Rattle.aw_schema.specs.Definitions as definition
use Rattle.aw_var.specs.CellMap.{Cells}
use Rattle.dml_tree.specs.declared.expr.Expr.{Expr}
use Rattle.dml_tree.specs.declared.expr.Expr.TheVariants as expression
use Rattle.dml_tree.specs.declared.expr.Target.{Target}
use Rattle.dml_tree.specs.declared.statement.Statement.{Statement}
use Rattle.dml_tree.specs.declared.statement.Statement.TheVariants as statement
use Rattle.dml_grammar.specs.declared.fault.ParseFault.{ParseFault}
use Rattle.dml_kinds.specs.declared.fault.TypeFault.{TypeFault}
use Rattle.dml_types.specs.declared.checking.Typed.{Typed}
use Rattle.dim_maintain.specs.declared.fault.MaintainFault.{MaintainFault}
use Rattle.dml_lines.specs.Lines.{statement_in}
use Rattle.dml_loop.specs.declared.conversion.Target.TheVariants as becomes
use Rattle.dml_loop.specs.declared.fault.LoopFault.{LoopFault}
use Rattle.mv_view.specs.Rules as rule
use Rattle.mv_view.specs.ViewState.{ObjectView, ViewState, object_of, AreOwned}
use Rattle.ses_report.specs.declared.refusal.Refusal.{Refusal}
use Rattle.ses_report.specs.Refusals.{no_form, no_value, full}
use Rattle.ses_report.specs.Reports as report
use Rattle.ses_step.specs.declared.answer.Answer.{Answer}
use Rattle.ses_step.specs.declared.answer.Answer.TheVariants.{Done, Shown, Refused}
use Rattle.ses_step.specs.declared.command.Command.{Command}
use Rattle.ses_step.specs.declared.command.Command.TheVariants as command
use Rattle.ses_step.specs.declared.session.Known.{Known as Session}
use Rattle.ses_step.specs.Answers.{answer_of}
use Rattle.ses_step.specs.Commands.{command_of}
use Rattle.ses_step.specs.Maintaining.{is_dimension, change_of, cause_of, maintain_refusal, dimension_in}
use Rattle.ses_step.specs.Meant.{fault_refusal, typed_expression, fixes_of, target_of, meant}
use Rattle.ses_step.specs.Refusing.{attachment_refusal, mode_refusal, checked, told, objects_named, held_refusal, missing}
use Rattle.ses_step.specs.SessionLines.{parse_refusal}
use Rattle.ses_step.specs.Sessions.{begun, kept_waiting, name_of, AreHeldBy}
use Rattle.ses_value.specs.declared.target.AssignedTo.{AssignedTo}
use Rattle.ses_value.specs.Evaluating.{shown_in, assigned_in}
use Rattle.script_world.specs.Laws.{lines_in}
use Rattle.script_world.specs.Meaning as world
use Rattle.script_world.specs.Outcomes.{Outcome}
use Rattle.script_meaning.specs.Extending.{ForAttached}
use Rattle.script_meaning.specs.Language.{Written, begun_of, begin_asked, begin, HistoryDisk, HistoryWorld, by_history}
use Rattle.script_meaning.specs.Turns.{turn}

-- ---- the order of refusals

-- a line is refused so, and leaves the session as it was
abbrev pub IsRefusedBy : List Def → Session → Written → Refusal → Type 0
IsRefusedBy definitions s written refusal = begin definitions s written ≡ world.said (answer_of (Refused refusal)) s

-- the session is attached where the statement asks for it, and for writing too where the statement shares anything
pub record IsAdmitted (s : Session) (statement : Statement) : Type 0 where
  pub attached : attachment_refusal s statement ≡ None
  pub writes : mode_refusal s.mode statement ≡ None

-- and names, types, what it owns and fixed values don't refuse the statement
pub record HasPassed (definitions : List Def) (s : Session) (statement : Statement) : Type 0 where
  pub admitted : IsAdmitted s statement
  pub typed : Typed
  pub fits : checked definitions statement ≡ Ok typed
  pub held : held_refusal s statement typed.objects ≡ None
  pub values : missing definitions s statement ≡ None

-- ---- what a statement comes to that passed

-- SHOW prints what its expression comes to by the session's view, or is refused as that is; it changes nothing
pub record ShowIsAnswered (definitions : List Def) (s : Session) (written : Written) (view : ViewState) (e : Expr) : Type 0 where
  pub shown : (cell : Cell) → shown_in view (typed_expression definitions e) ≡ Ok cell → begin definitions s written ≡ world.said (answer_of (Shown cell)) s
  pub refused : (fault : LoopFault) → shown_in view (typed_expression definitions e) ≡ Err fault → IsRefusedBy definitions s written (fault_refusal definitions fault)

-- what an assignment is to: an object that the session sees, and what is written to it
pub record IsAssigned (definitions : List Def) (view : ViewState) (target : Target) (object : ℕ) (to : AssignedTo) : Type 0 where
  pub named : definition.object_of definitions target.name ≡ Some object
  pub found : ObjectView
  pub seen : object_of view object ≡ Some found
  pub is : target_of found.kind (fixes_of definitions target.fixes) ≡ Some to

-- on how many pages an object is once these cells are written
abbrev pub pages_written : ViewState → ℕ → Cells → ℕ
pages_written view object cells = rule.private_pages (rule.written view object cells) object

-- An assignment is refused as its expression is, or with 22 where the object would be on more than 65,536 pages, and then changes
-- nothing. Else it is answered `ok`, and changes the cells that are given of the private body of that object alone.
pub record AssignIsAnswered (definitions : List Def) (s : Session) (written : Written) (view : ViewState) (object : ℕ) (to : AssignedTo) (e : Expr) : Type 0 where
  pub refused : (fault : LoopFault) → assigned_in view to (typed_expression definitions e) ≡ Err fault → IsRefusedBy definitions s written (fault_refusal definitions fault)
  pub pages : (cells : Cells) → assigned_in view to (typed_expression definitions e) ≡ Ok cells → nat_le (pages_written view object cells) 65536 ≡ false → IsRefusedBy definitions s written (full (name_of definitions object))
  pub done : (cells : Cells) → assigned_in view to (typed_expression definitions e) ≡ Ok cells → nat_le (pages_written view object cells) 65536 ≡ true → begin definitions s written ≡ world.said (answer_of Done) (record s { view = Some (rule.written view object cells) })

-- MAINTAIN is refused as its change of the values that the session sees is, and then changes nothing. Else it is answered `ok`, and
-- makes the changed values the staged and the private body of that dimension alone.
pub record MaintainIsAnswered (definitions : List Def) (s : Session) (written : Written) (view : ViewState) (one : Statement) (object : ℕ) (values : DimensionState) : Type 0 where
  pub refused : (fault : MaintainFault) → cause_of one values ≡ Some fault → IsRefusedBy definitions s written (maintain_refusal (name_of definitions object) fault)
  pub done : cause_of one values ≡ None → is_dimension (change_of one values) ≡ true → begin definitions s written ≡ world.said (answer_of Done) (record s { view = Some (rule.maintained view object (change_of one values)) })

abbrev pub is_maintain : Statement → Bool
is_maintain (statement.Add dimension names place) = true
is_maintain (statement.Delete dimension names) = true
is_maintain (statement.Move dimension names place) = true
is_maintain (statement.Rename dimension old new) = true
is_maintain _ = false

-- the statements of which expressions are evaluated
abbrev pub is_evaluated : Statement → Bool
is_evaluated (statement.Show e) = true
is_evaluated (statement.Assign target e) = true
is_evaluated _ = false

-- ---- the order

-- Of a line that is this statement: whether the session is attached (15, 16), and for reading alone (23), names, types and weight
-- (2, 3, 7, 4, 5, 14), what the session owns (19, 20), fixed values (6), and at last what its expressions come to, or that it
-- doesn't run yet (1).
pub record StatementIsAnswered (definitions : List Def) (s : Session) (written : Written) (one : Statement) : Type 0 where
  pub attached : (refusal : Refusal) → attachment_refusal s one ≡ Some refusal → IsRefusedBy definitions s written refusal
  pub reads : attachment_refusal s one ≡ None → (refusal : Refusal) → mode_refusal s.mode one ≡ Some refusal → IsRefusedBy definitions s written refusal
  pub fits : IsAdmitted s one → (fault : TypeFault) → checked definitions one ≡ Err fault → IsRefusedBy definitions s written (told fault)
  pub held : IsAdmitted s one → (typed : Typed) → checked definitions one ≡ Ok typed → (refusal : Refusal) → held_refusal s one typed.objects ≡ Some refusal → IsRefusedBy definitions s written refusal
  pub values : IsAdmitted s one → (typed : Typed) → checked definitions one ≡ Ok typed → held_refusal s one typed.objects ≡ None → (text : List ℕ) → missing definitions s one ≡ Some text → IsRefusedBy definitions s written (no_value text)
  pub means : HasPassed definitions s one → begin definitions s written ≡ begin_asked definitions s (meant definitions s one)
  pub shows : HasPassed definitions s one → (e : Expr) → one ≡ statement.Show e → (view : ViewState) → s.view ≡ Some view → ShowIsAnswered definitions s written view e
  pub assigns : HasPassed definitions s one → (target : Target) (e : Expr) → one ≡ statement.Assign target e → (view : ViewState) → s.view ≡ Some view → (object : ℕ) (to : AssignedTo) → IsAssigned definitions view target object to → AssignIsAnswered definitions s written view object to e
  pub maintains : HasPassed definitions s one → is_maintain one ≡ true → (view : ViewState) → s.view ≡ Some view → (object : ℕ) (values : DimensionState) → objects_named definitions one ≡ object ∷ [] → dimension_in view object ≡ Some values → MaintainIsAnswered definitions s written view one object values
  pub shares : HasPassed definitions s one → (own : Command) → command_of one (objects_named definitions one) ≡ Some own → begin definitions s written ≡ begun_of (kept_waiting own (begun definitions s own))
  pub unbuilt : HasPassed definitions s one → is_evaluated one ≡ false → is_maintain one ≡ false → command_of one (objects_named definitions one) ≡ None → IsRefusedBy definitions s written no_form

-- a line that is no statement is refused with 1 at its column
pub record LineIsAnswered (definitions : List Def) (s : Session) (written : Written) : Type 0 where
  pub syntax : (fault : ParseFault) → statement_in written.line written.from ≡ Err fault → IsRefusedBy definitions s written (parse_refusal fault)
  pub statement : (statement : Statement) → statement_in written.line written.from ≡ Ok statement → StatementIsAnswered definitions s written statement

abbrev pub LinesAreAnswered : Type 0
LinesAreAnswered = (definitions : List Def) (s : Session) (written : Written) → LineIsAnswered definitions s written

-- what a session's line is answered is printed in one line
abbrev pub IsOneLine : report.Answer → Type 0
IsOneLine answer = lines_in answer ≡ 1

-- ---- cells that are written

-- an assignment that passed is to a variable or a relation that the session sees
abbrev pub AssignmentsHaveTargets : HistoryWorld → Type 0
AssignmentsHaveTargets w =
    ForAttached w (λ disk session view. (target : Target) (e : Expr) → HasPassed w.definitions session (statement.Assign target e) → (object : ℕ) × (to : AssignedTo) × IsAssigned w.definitions view target object to)

-- an attached session's cells are written, or the object is full
abbrev pub AssignmentsAreDone : List Outcome → Type 0
AssignmentsAreDone coming =
    (definitions : List Def) (names : List (List ℕ)) (disk : HistoryDisk) (session : Session) (view : ViewState) → session.view ≡ Some view → (object : ℕ) (cells : Cells) →
    (turn (by_history coming) definitions names disk session (command.Write object cells)).answer ≡ cond (nat_le (pages_written view object cells) 65536) Done (Refused (full (name_of definitions object)))

-- a variable without dimensions never is
abbrev pub SinglesAreDone : List Outcome → HistoryWorld → Type 0
SinglesAreDone coming w =
    ForAttached w (λ disk session view. (object : ℕ) (found : ObjectView) (kind : Kind) → object_of view object ≡ Some found → found.kind ≡ Variable kind [] → (cells : Cells) → AreHeldBy found.kind cells → (turn (by_history coming) w.definitions w.names disk session (command.Write object cells)).answer ≡ Done)

-- ---- what always goes

-- a session sees each of these objects
abbrev pub AreSeenIn : ViewState → List ℕ → Type 0
AreSeenIn view [] = Unit {0}
AreSeenIn view (object ∷ objects) = IsSome (object_of view object) × AreSeenIn view objects

-- UPDATE, REVERT and AW DETACH are answered `ok`, and so are RESYNC of objects that the session sees, and RELEASE of such as it
-- owns
pub record GoAhead (view : ViewState) (answer : Command → Answer) : Type 0 where
  pub update : (objects : List ℕ) → answer (command.Update objects) ≡ Done
  pub revert : (objects : List ℕ) → answer (command.Revert objects) ≡ Done
  pub detach : answer command.Detach ≡ Done
  pub resync : (objects : List ℕ) → AreSeenIn view objects → answer (command.Resync objects) ≡ Done
  pub release : (objects : List ℕ) → AreOwned view objects → answer (command.Release objects) ≡ Done

abbrev pub SharingGoesAhead : List Outcome → HistoryWorld → Type 0
SharingGoesAhead coming w =
    ForAttached w (λ disk session view. GoAhead view (λ own. (turn (by_history coming) w.definitions w.names disk session own).answer))

-- ---- a variable without dimensions

-- a name with no fixed values
abbrev pub name_alone : List ℕ → Expr
name_alone name = expression.Object (record { name = name; fixes = [] })

abbrev pub integer_alone : ℤ → Expr
integer_alone whole = expression.Integer whole

-- an INTEGER variable without dimensions
abbrev pub to_integer : AssignedTo
to_integer = record { target = becomes.Kind Integer; dimensions = []; fixes = [] }

-- its name shows the one cell that the session reads
abbrev pub SinglesAreShown : HistoryWorld → Type 0
SinglesAreShown w =
    ForAttached w (λ disk session view. (name : List ℕ) (object : ℕ) (found : ObjectView) (kind : Kind) → definition.object_of w.definitions name ≡ Some object → object_of view object ≡ Some found → found.kind ≡ Variable kind [] → shown_in view (typed_expression w.definitions (name_alone name)) ≡ Ok (rule.cell_in found.private []))

-- an INTEGER that is assigned to it is that cell
abbrev pub IntegersAreAssigned : Type 0
IntegersAreAssigned = (definitions : List Def) (view : ViewState) (whole : ℤ) → is_integer whole ≡ true → assigned_in view to_integer (typed_expression definitions (integer_alone whole)) ≡ Ok (([], Int whole) ∷ [])
