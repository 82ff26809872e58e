-- A refused line changes nothing, and the faults of commits are seen.
use Rattle.std.specs.Prelude.{◌≡◌, ◌≢◌, ◌+◌, ℕ, Bool, true, false, not, List, [], ◌∷◌, cond, drop, find, length, min, nat_le, nat_lt, position, take, Option, Some, None, is_some, unwrap_or, Result, Ok, Err, if◌then◌else◌, refl}
use Rattle.std.specs.List.{prefix_len}
use Rattle.std.specs.Option.{ForSome, option_map, option_or}
use Rattle.std.proofs.Common.{◌∙◌, ap, sym, subst, ⊎_elim}
use Rattle.std.proofs.lemmas.Bool.{true≢false}
use Rattle.std.proofs.lemmas.Option.{none-some, same_Some}
use Rattle.aw_dim.specs.DimensionState.{DimensionState}
use Rattle.aw_schema.specs.declared.definition.Def.{Def}
use Rattle.aw_schema.specs.declared.fault.SchemaFault.{SchemaFault}
use Rattle.aw_schema.specs.declared.fault.SchemaFault.TheVariants as schema
use Rattle.aw_schema.specs.declared.fault.SchemaFault.TheVariants.{Repeat, TooMany, Unknown, WrongKind}
use Rattle.aw_schema.specs.Checking.{repeated_name, refusal}
use Rattle.aw_schema.specs.Definitions.{has_name, object_of as object_of_name}
use Rattle.aw_cell.specs.declared.number.Arith.TheVariants as arith
use Rattle.aw_cell.specs.Names.{is_word_byte}
use Rattle.aw_body.specs.KeptBodies.{bodies_of}
use Rattle.dml_tree.specs.declared.definition.Defined.{Defined}
use Rattle.dml_tree.specs.declared.definition.Defined.TheVariants as tree
use Rattle.dml_tree.specs.declared.definition.Definition.{Definition as Tree}
use Rattle.dml_tree.specs.declared.expr.Expr.{Expr}
use Rattle.dml_tree.specs.declared.expr.Target.{Target}
use Rattle.dml_tree.specs.declared.statement.Mode.{Mode}
use Rattle.dml_tree.specs.declared.statement.Mode.TheVariants.{Multi, ReadOnly}
use Rattle.dml_tree.specs.declared.statement.Statement.{Statement}
use Rattle.dml_tree.specs.declared.statement.Statement.TheVariants as statement
use Rattle.dml_grammar.specs.declared.fault.ParseFault.{ParseFault}
use Rattle.dml_grammar.specs.declared.fault.ParseFault.TheVariants as parse
use Rattle.dml_kinds.specs.declared.fault.TypeFault.{TypeFault}
use Rattle.dml_kinds.specs.declared.fault.TypeFault.TheVariants as type
use Rattle.dml_kinds.specs.Checking.{formula_refusal}
use Rattle.dml_kinds.specs.Meanings as typed
use Rattle.dml_types.specs.declared.checking.Typed.{Typed}
use Rattle.dml_lines.specs.Lines.{DefinitionRead, definition_in, statement_in}
use Rattle.dim_maintain.specs.declared.fault.MaintainFault.{MaintainFault}
use Rattle.dim_maintain.specs.declared.fault.MaintainFault.TheVariants as maintain
use Rattle.dml_loop.specs.declared.fault.LoopFault.{LoopFault}
use Rattle.dml_loop.specs.declared.fault.LoopFault.TheVariants as loop
use Rattle.mv_view.specs.ViewState.{ObjectView, ViewState, object_of}
use Rattle.mv_core.specs.declared.entry.Entry.{Entry}
use Rattle.mv_core.specs.declared.entry.Entry.TheVariants.{Acquire, Commit, Release, Detach}
use Rattle.mv_core.specs.declared.entry.Reply.{Reply}
use Rattle.mv_core.specs.declared.entry.Reply.TheVariants.{Attached, Acquired, Resynced, Committed, Released, Detached, Owned, Newer, Stranger, Worn, TooLarge, Fault, NoMemory}
use Rattle.mv_core.specs.SharedStep.{shared_step, workspace_after}
use Rattle.mv_core.specs.Workspace.{Workspace, standing}
use Rattle.aw_store.proofs.callers.SharedReplies.{IsPlain, plain-reply}
use Rattle.ses_report.specs.declared.refusal.Refusal.{Refusal}
use Rattle.ses_step.specs.declared.definition.Definition.{Definition}
use Rattle.ses_step.specs.declared.command.Command.{Command}
use Rattle.ses_step.specs.declared.command.Command.TheVariants as command
use Rattle.ses_step.specs.declared.command.Asked.{Asked}
use Rattle.ses_step.specs.declared.command.Asked.TheVariants.{Runs, Refused}
use Rattle.ses_step.specs.declared.definition.NamedKind.{NamedKind}
use Rattle.ses_step.specs.declared.line.LineForm.{LineForm}
use Rattle.ses_step.specs.declared.line.LineForm.TheVariants as form
use Rattle.ses_step.specs.declared.session.Known.{Known as Session}
use Rattle.ses_step.specs.declared.session.Session.{Session as Waiting}
use Rattle.ses_step.specs.Commands.{command_of}
use Rattle.ses_step.specs.Kept.{kept_kind}
use Rattle.ses_step.specs.Lines.{keeps_form, after_blanks, is_passed_over, has_prefix, is_definition_line, opens_block, is_end, form_behind, line_form}
use Rattle.ses_step.specs.Maintaining.{is_dimension, change_of, cause_of, maintain_refusal, changed, dimension_in, of_values, maintained_asked}
use Rattle.ses_step.specs.Meant.{runs, fault_refusal as run_refusal, given, typed_expression, fixes_of, target_of, shown_asked, written_to, assigned_asked, on_view, meant}
use Rattle.ses_step.specs.Refusing as line
use Rattle.ses_step.specs.Refusing.{attachment_refusal, publishes, mode_refusal, checked, objects_named, owns, first_owned, first_foreign, held_refusal, missing, checked_refusal, statement_refusal}
use Rattle.ses_step.specs.SessionLines.{parse_refusal, asked_unless, asked_by, asked}
use Rattle.ses_step.specs.Sessions.{kept_waiting, name_of}
use Rattle.ses_step.specs.Words.{is_blank}
use Rattle.ses_step.proofs.callers.ReadyLines.{meant-cases}
use Rattle.ses_value.specs.declared.target.AssignedTo.{AssignedTo}
use Rattle.ses_value.specs.Evaluating.{shown_in, assigned_in}
use Rattle.script_meaning.proofs.Begins.{IsOwn, begins}
use Rattle.script_meaning.proofs.CutOff.{cut_off-cases}
use Rattle.script_world.specs.Meaning as world
use Rattle.script_world.specs.Outcomes.{Outcome, on_disk, among}
use Rattle.script_world.proofs.callers.DiskFits.{step-holds}
use Rattle.script_world.specs.Faults.{refuses_so}
use Rattle.script_world.proofs.callers.Faults.{Hears}
use Rattle.script_world.specs.Laws.{RefusalChangesNothing}
use Rattle.script_world.specs.Worlds.{Event}
use Rattle.script_meaning.specs.CommitFaults.{is_fault, fault_answer}
use Rattle.script_meaning.specs.Defining.{def_of, names_in, told, define_refusal, accepted_by}
use Rattle.script_meaning.specs.RecordsOfRuns.{SameState}
use Rattle.ses_report.specs.Reports as report
use Rattle.ses_report.specs.Refusals.{no_form, syntax, no_value, repeated, too_many, not_attached, already_attached, not_acquired, acquired, definitions_closed, read_only, bad_line, in_line}
use Rattle.script_world.proofs.callers.Refusals.{Mild, refusal_changes_nothing}
use Rattle.script_meaning.specs.DefinitionLines.{is_block, at_line, form_refusal, late, name_refusal, unbuilt, define_kind, fault_refusal, define_read, define_unless, define}
use Rattle.script_meaning.specs.Language.{store_writing, Written, form_of, begun_of, begin_asked, begin, finish, HistoryDisk, HistoryWorld, kept_step, history_machine, by_history}
use Rattle.script_meaning.specs.Language as language_is

-- ---- refusals that tell of no fault

abbrev Quiet : Refusal → Type 0
Quiet refusal = is_fault refusal ≡ false

abbrev MayQuiet : Option Refusal → Type 0
MayQuiet None = Unit {0}
MayQuiet (Some refusal) = Quiet refusal

or-quiet : (one other : Option Refusal) → MayQuiet one → MayQuiet other → MayQuiet (option_or one other)
or-quiet None other first second = second
or-quiet (Some refusal) other first second = first

map-quiet : {A : Type 0} (make : A → Refusal) → ((x : A) → Quiet (make x)) → (found : Option A) → MayQuiet (option_map make found)
map-quiet make quiet None = tt
map-quiet make quiet (Some x) = quiet x

given-quiet : (found : Option Refusal) (other : Refusal) → MayQuiet found → Quiet other → Quiet (unwrap_or found other)
given-quiet None other first second = second
given-quiet (Some refusal) other first second = first

in_line-quiet : (line : ℕ) (found : Option Refusal) → MayQuiet found → MayQuiet (option_map (in_line line) found)
in_line-quiet line None quiet = tt
in_line-quiet line (Some refusal) quiet = quiet

at-quiet : (block : Bool) (line : ℕ) → Quiet (at_line block line bad_line)
at-quiet true line = refl
at-quiet false line = refl

form-quiet : (lines : List (List ℕ)) → MayQuiet (form_refusal lines)
form-quiet lines =
    map-quiet (λ (at : ℕ). at_line (is_block lines) (min (at + 1) 4294967295) bad_line) (λ at. at-quiet (is_block lines) (min (at + 1) 4294967295)) (position (λ (text : List ℕ). not (keeps_form text)) lines)

late-quiet : (lines : List (List ℕ)) → Quiet (late lines)
late-quiet lines = given-quiet (form_refusal lines) definitions_closed (form-quiet lines) refl

parse-quiet : (fault : ParseFault) → Quiet (parse_refusal fault)
parse-quiet (parse.Syntax line column) = refl
parse-quiet (parse.NotHere line) = refl
parse-quiet parse.NoMemory = refl

told-type-quiet : (fault : TypeFault) → Quiet (line.told fault)
told-type-quiet (type.Unknown name) = refl
told-type-quiet (type.WrongKind name) = refl
told-type-quiet (type.Repeat name) = refl
told-type-quiet type.Mismatch = refl
told-type-quiet type.Dimensions = refl
told-type-quiet type.TooMany = refl
told-type-quiet type.NoMemory = refl

-- ---- lines

abbrev QuietForm : world.Form Written → Type 0
QuietForm (world.malformed refusal) = Quiet refusal
QuietForm _ = Unit {0}

if-form-quiet : (test : Bool) (one other : world.Form Written) → QuietForm one → QuietForm other → QuietForm (if test then one else other)
if-form-quiet true one other first second = first
if-form-quiet false one other first second = second

abbrev QuietLine : LineForm → Type 0
QuietLine (form.Bad refusal) = Quiet refusal
QuietLine _ = Unit {0}

if-line-quiet : (test : Bool) (one other : LineForm) → QuietLine one → QuietLine other → QuietLine (if test then one else other)
if-line-quiet true one other first second = first
if-line-quiet false one other first second = second

sorted-quiet : (text : List ℕ) → QuietLine (line_form text)
sorted-quiet text =
    let rest = after_blanks text in
    let blanks = prefix_len is_blank text in
    let own : LineForm = form.Session (take (prefix_len is_word_byte rest) rest) (blanks + prefix_len is_word_byte rest + 1) in
    let bad : LineForm = form.Bad (syntax (blanks + 1)) in
    let named : LineForm = if has_prefix rest then own else bad in
    let kept : LineForm = form_behind blanks rest in
    let other : LineForm = if keeps_form text then kept else form.Bad bad_line in
    if-line-quiet (is_definition_line text) form.Definition other tt
    (if-line-quiet (keeps_form text) kept (form.Bad bad_line)
    (if-line-quiet (is_passed_over rest) form.Blank named tt (if-line-quiet (has_prefix rest) own bad tt refl))
    refl)

of-quiet : (text : List ℕ) (l : LineForm) → QuietLine l → QuietForm (form_of text l)
of-quiet text form.Blank quiet = tt
of-quiet text form.Definition quiet = if-form-quiet (opens_block text) world.joins world.ends tt tt
of-quiet text (form.Session name from) quiet = tt
of-quiet text (form.Bad refusal) quiet = quiet

quiet_form : (lines : List (List ℕ)) (text : List ℕ) → QuietForm (language_is.form lines text)
quiet_form [] text = of-quiet text (line_form text) (sorted-quiet text)
quiet_form (first ∷ lines) text = if-form-quiet (is_end text) world.ends world.joins tt tt

abbrev QuietResult : Result (List Def) Refusal → Type 0
QuietResult (Ok d) = Unit {0}
QuietResult (Err refusal) = is_fault refusal ≡ false

-- a definition is refused with 2, 3, 7 or 14
told-quiet : (d : List Def) (definition : Definition) (fault : SchemaFault) → is_fault (told d definition fault) ≡ false
told-quiet d definition (Repeat name) = refl
told-quiet d definition TooMany = refl
told-quiet d definition (Unknown object) = refl
told-quiet d definition (WrongKind name) = refl
told-quiet d definition schema.NoMemory = refl

refusal-quiet : (d : List Def) (definition : Definition) → ForSome (define_refusal d definition) (λ refusal. is_fault refusal ≡ false)
refusal-quiet d definition =
    or-quiet (repeated_name d definition.name) (cond wide (Some too_many) (option_map (told d definition) (refusal d (def_of d definition)))) (cond-quiet wide)
  where
    wide : Bool
    wide = nat_lt 6 (length (names_in definition.kind))

    Quiet : Option Refusal → Type 0
    Quiet found = ForSome found (λ refusal. is_fault refusal ≡ false)

    told-some : (found : Option SchemaFault) → Quiet (option_map (told d definition) found)
    told-some None it is = absurd (none-some it is)
    told-some (Some fault) it is = sym (ap is_fault (same_Some (told d definition fault) it is)) ∙ told-quiet d definition fault

    cond-quiet : (test : Bool) → Quiet (cond test (Some too_many) (option_map (told d definition) (refusal d (def_of d definition))))
    cond-quiet true = λ it is. sym (ap is_fault (same_Some too_many it is))
    cond-quiet false = told-some (refusal d (def_of d definition))

    or-quiet : (found : Option SchemaFault) (later : Option Refusal) → Quiet later → Quiet (option_or (option_map (told d definition) found) later)
    or-quiet None later quiet = quiet
    or-quiet (Some fault) later quiet = told-some (Some fault)

-- what can't be defined yet
name-quiet : (d : List Def) (name : List ℕ) → MayQuiet (name_refusal d name)
name-quiet d name =
    or-quiet (option_map (λ (def : Def). repeated def.name) (find (has_name name) d)) (cond (nat_le 4096 (length d)) (Some too_many) None)
    (map-quiet (λ (def : Def). repeated def.name) (λ def. refl) (find (has_name name) d)) (by (nat_le 4096 (length d)))
  where
    by : (full : Bool) → MayQuiet (cond full (Some too_many) None)
    by true = refl
    by false = tt

block-quiet : (d : List Def) (name : List ℕ) → Quiet (unwrap_or (option_map (in_line 1) (name_refusal d name)) no_form)
block-quiet d name = given-quiet (option_map (in_line 1) (name_refusal d name)) no_form (in_line-quiet 1 (name_refusal d name) (name-quiet d name)) refl

unbuilt-quiet : (d : List Def) (name : List ℕ) (what : Defined) → Quiet (unbuilt d name what)
unbuilt-quiet d name (tree.Formula e from to) =
    let fault : Option TypeFault = formula_refusal (typed.names_in d [] []) e in
    given-quiet (option_or (name_refusal d name) (option_map line.told fault)) no_form
    (or-quiet (name_refusal d name) (option_map line.told fault) (name-quiet d name) (map-quiet line.told told-type-quiet fault)) refl
unbuilt-quiet d name tree.Dimension = block-quiet d name
unbuilt-quiet d name (tree.Relation target base) = block-quiet d name
unbuilt-quiet d name (tree.ValueSet dimension) = block-quiet d name
unbuilt-quiet d name (tree.Variable type dimensions) = block-quiet d name
unbuilt-quiet d name (tree.Program program) = block-quiet d name
unbuilt-quiet d name (tree.AggMap lines) = block-quiet d name

fault-quiet : (block : Bool) (fault : ParseFault) → Quiet (fault_refusal block fault)
fault-quiet true fault = parse-quiet fault
fault-quiet false (parse.Syntax line column) = refl
fault-quiet false (parse.NotHere line) = refl
fault-quiet false parse.NoMemory = refl

quiet_define : (d : List Def) (lines : List (List ℕ)) → QuietResult (define d lines)
quiet_define d lines = by_form (form_refusal lines) (form-quiet lines)
  where
    by_refusal : (definition : Definition) (found : Option Refusal) → ForSome found (λ refusal. is_fault refusal ≡ false) → QuietResult (accepted_by d definition found)
    by_refusal definition None quiet = tt
    by_refusal definition (Some refusal) quiet = quiet refusal refl

    by_kind : (one : Tree) (kind : Option NamedKind) → QuietResult (define_kind d one kind)
    by_kind one None = unbuilt-quiet d one.name one.what
    by_kind one (Some kind) =
        let definition : Definition = record { name = one.name; kind = kind } in
        by_refusal definition (define_refusal d definition) (refusal-quiet d definition)

    by_read : (read : DefinitionRead) → QuietResult (define_read d (is_block lines) read)
    by_read (Err fault) = fault-quiet (is_block lines) fault
    by_read (Ok one) = by_kind one (kept_kind one.what)

    by_form : (found : Option Refusal) → MayQuiet found → QuietResult (define_unless found d lines)
    by_form (Some refusal) quiet = quiet
    by_form None quiet = by_read (definition_in lines)

-- ---- a session's line

detached-quiet : (view : Option ViewState) → MayQuiet (elim view [ None ↦ Some not_attached | Some it ↦ None ])
detached-quiet None = refl
detached-quiet (Some view) = tt

attachment-quiet : (s : Session) (one : Statement) → MayQuiet (attachment_refusal s one)
attachment-quiet s (statement.Attach mode) = by s.view
  where
    by : (view : Option ViewState) → MayQuiet (elim view [ None ↦ None | Some it ↦ Some already_attached ])
    by None = tt
    by (Some view) = refl
attachment-quiet s statement.Detach = detached-quiet s.view
attachment-quiet s statement.Commit = detached-quiet s.view
attachment-quiet s (statement.Acquire keep fresh same) = detached-quiet s.view
attachment-quiet s (statement.Resync names) = detached-quiet s.view
attachment-quiet s (statement.Release names) = detached-quiet s.view
attachment-quiet s (statement.Revert names) = detached-quiet s.view
attachment-quiet s (statement.Update names) = detached-quiet s.view
attachment-quiet s (statement.Add dimension values place) = detached-quiet s.view
attachment-quiet s (statement.Delete dimension values) = detached-quiet s.view
attachment-quiet s (statement.Move dimension values place) = detached-quiet s.view
attachment-quiet s (statement.Rename dimension was text) = detached-quiet s.view
attachment-quiet s (statement.Assign target e) = detached-quiet s.view
attachment-quiet s (statement.Show e) = detached-quiet s.view
attachment-quiet s (statement.Report e) = detached-quiet s.view
attachment-quiet s (statement.Limit name how what) = detached-quiet s.view
attachment-quiet s (statement.Aggregate name map) = detached-quiet s.view
attachment-quiet s (statement.Allocate source basis target map) = detached-quiet s.view
attachment-quiet s (statement.Call program arguments) = detached-quiet s.view

mode-quiet : (mode : Mode) (one : Statement) → MayQuiet (mode_refusal mode one)
mode-quiet Multi one = tt
mode-quiet ReadOnly one = by (publishes one)
  where
    by : (test : Bool) → MayQuiet (cond test (Some read_only) None)
    by true = refl
    by false = tt

owned-quiet : (s : Session) (objects : List (List ℕ × ℕ)) → MayQuiet (first_owned s objects)
owned-quiet s objects = map-quiet (λ (named : List ℕ × ℕ). acquired named.0) (λ named. refl) (find (owns s) objects)

foreign-quiet : (s : Session) (objects : List (List ℕ × ℕ)) → MayQuiet (first_foreign s objects)
foreign-quiet s objects = map-quiet (λ (named : List ℕ × ℕ). not_acquired named.0) (λ named. refl) (find (λ named. not (owns s named)) objects)

held-quiet : (s : Session) (one : Statement) (objects : List (List ℕ × ℕ)) → MayQuiet (held_refusal s one objects)
held-quiet s (statement.Acquire keep fresh same) objects = owned-quiet s (drop (length keep) objects)
held-quiet s (statement.Resync l) objects = owned-quiet s objects
held-quiet s (statement.Release l) objects = foreign-quiet s objects
held-quiet s (statement.Update l) objects = foreign-quiet s objects
held-quiet s (statement.Add dimension values place) objects = foreign-quiet s objects
held-quiet s (statement.Delete dimension values) objects = foreign-quiet s objects
held-quiet s (statement.Move dimension values place) objects = foreign-quiet s objects
held-quiet s (statement.Rename dimension was text) objects = foreign-quiet s objects
held-quiet s (statement.Attach mode) objects = tt
held-quiet s statement.Detach objects = tt
held-quiet s statement.Commit objects = tt
held-quiet s (statement.Revert l) objects = tt
held-quiet s (statement.Assign target e) objects = tt
held-quiet s (statement.Show e) objects = tt
held-quiet s (statement.Report e) objects = tt
held-quiet s (statement.Limit name how what) objects = tt
held-quiet s (statement.Aggregate name map) objects = tt
held-quiet s (statement.Allocate source basis target map) objects = tt
held-quiet s (statement.Call program arguments) objects = tt

statement-quiet : (d : List Def) (s : Session) (one : Statement) → MayQuiet (statement_refusal d s one)
statement-quiet d s one =
    or-quiet (attachment_refusal s one) (option_or (mode_refusal s.mode one) (checked_refusal d s one (checked d one))) (attachment-quiet s one)
    (or-quiet (mode_refusal s.mode one) (checked_refusal d s one (checked d one)) (mode-quiet s.mode one) (by (checked d one)))
  where
    by : (r : Result Typed TypeFault) → MayQuiet (checked_refusal d s one r)
    by (Err fault) = told-type-quiet fault
    by (Ok it) =
        or-quiet (held_refusal s one it.objects) (option_map no_value (missing d s one)) (held-quiet s one it.objects)
        (map-quiet no_value (λ text. refl) (missing d s one))

abbrev QuietAsked : Asked → Type 0
QuietAsked (Refused refusal) = Quiet refusal
QuietAsked (Runs own) = Unit {0}

runs-quiet : (own : Option Command) → QuietAsked (runs own)
runs-quiet None = refl
runs-quiet (Some own) = tt

run-quiet : (d : List Def) (fault : LoopFault) → Quiet (run_refusal d fault)
run-quiet d (loop.Arith arith.Overflow) = refl
run-quiet d (loop.Arith arith.DivideByZero) = refl
run-quiet d (loop.NoValue text) = refl
run-quiet d (loop.Empty dimension) = refl
run-quiet d loop.TooMany = refl
run-quiet d loop.NoMemory = refl

given-asked-quiet : {A : Type 0} (d : List Def) (own : A → Command) (run : Result A LoopFault) → QuietAsked (given d own run)
given-asked-quiet d own (Ok it) = tt
given-asked-quiet d own (Err fault) = run-quiet d fault

view-quiet : (s : Session) (asks : ViewState → Asked) → ((view : ViewState) → QuietAsked (asks view)) → QuietAsked (on_view s asks)
view-quiet s asks quiet = by s.view
  where
    by : (view : Option ViewState) → QuietAsked (elim view [ None ↦ Refused not_attached | Some one ↦ asks one ])
    by None = refl
    by (Some view) = quiet view

assigned-quiet : (d : List Def) (view : ViewState) (target : Target) (e : Expr) → QuietAsked (assigned_asked d view target e)
assigned-quiet d view target e = by_name (object_of_name d target.name)
  where
    by_target : (object : ℕ) (to : Option AssignedTo) → QuietAsked (written_to d view object to e)
    by_target object None = refl
    by_target object (Some to) = given-asked-quiet d (command.Write object) (assigned_in view to (typed_expression d e))

    by_seen : (object : ℕ) (seen : Option ObjectView) → QuietAsked (elim seen [ None ↦ Refused no_form | Some found ↦ written_to d view object (target_of found.kind (fixes_of d target.fixes)) e ])
    by_seen object None = refl
    by_seen object (Some found) = by_target object (target_of found.kind (fixes_of d target.fixes))

    by_name : (named : Option ℕ) → QuietAsked (elim named [
      | None ↦ Refused no_form
      | Some object ↦ elim (object_of view object) [
        | None ↦ Refused no_form
        | Some found ↦ written_to d view object (target_of found.kind (fixes_of d target.fixes)) e
      ]
    ])
    by_name None = refl
    by_name (Some object) = by_seen object (object_of view object)

maintain-quiet : (name : List ℕ) (fault : MaintainFault) → Quiet (maintain_refusal name fault)
maintain-quiet name (maintain.NoValue text) = refl
maintain-quiet name (maintain.Repeated text) = refl
maintain-quiet name maintain.Full = refl
maintain-quiet name maintain.NoMemory = refl

changed-quiet : (name : List ℕ) (object : ℕ) (cause : Option MaintainFault) (values : DimensionState) → QuietAsked (changed name object cause values)
changed-quiet name object (Some fault) values = maintain-quiet name fault
changed-quiet name object None values = by (is_dimension values)
  where
    by : (b : Bool) → QuietAsked (cond b (Runs (command.Maintain object values)) (Refused no_form))
    by true = tt
    by false = refl

maintained-quiet : (d : List Def) (it : Statement) (view : ViewState) (objects : List ℕ) → QuietAsked (maintained_asked d it view objects)
maintained-quiet d it view [] = refl
maintained-quiet d it view (object ∷ []) = by (dimension_in view object)
  where
    by : (found : Option DimensionState) → QuietAsked (of_values d it object found)
    by None = refl
    by (Some values) = changed-quiet (name_of d object) object (cause_of it values) (change_of it values)
maintained-quiet d it view (object ∷ other ∷ objects) = refl

meant-quiet : (d : List Def) (s : Session) (one : Statement) → QuietAsked (meant d s one)
meant-quiet d s one =
    meant-cases d s QuietAsked one
    (λ e same. view-quiet s (λ view. shown_asked d view e) (λ view. given-asked-quiet d command.Show (shown_in view (typed_expression d e))))
    (λ target e same. view-quiet s (λ view. assigned_asked d view target e) (λ view. assigned-quiet d view target e))
    (λ publishing held. view-quiet s (λ view. maintained_asked d one view (objects_named d one)) (λ view. maintained-quiet d one view (objects_named d one)))
    (runs-quiet (command_of one (objects_named d one)))

asked-quiet : (d : List Def) (s : Session) (text : List ℕ) (from : ℕ) → QuietAsked (asked d s text from)
asked-quiet d s text from = by (statement_in text from)
  where
    by_refusal : (one : Statement) (found : Option Refusal) → MayQuiet found → QuietAsked (asked_unless d s found one)
    by_refusal one None quiet = meant-quiet d s one
    by_refusal one (Some refusal) quiet = quiet

    by : (read : Result Statement ParseFault) → QuietAsked (asked_by d s read)
    by (Err fault) = parse-quiet fault
    by (Ok one) = by_refusal one (statement_refusal d s one) (statement-quiet d s one)

-- a session that answers alone tells of no fault, and one that refuses or asks is as it was
abbrev Gentle : Session → world.Begun Entry Session Waiting → Type 0
Gentle s (world.said answer after) = (refuses_so is_fault answer.refusal ≡ false) × (is_some answer.refusal ≡ true → after ≡ s)
Gentle s (world.ask it waiting) = waiting.known ≡ s

own_quiet : (refusal : Refusal) → IsOwn refusal → is_fault refusal ≡ false
own_quiet refusal own =
    ⊎_elim (λ is. ap is_fault is) (λ rest. ⊎_elim (λ is. ap is_fault is) (λ named. ap is_fault named.1) rest) own

gentle_as : (d : List Def) (s : Session) (a : Asked) → QuietAsked a → Gentle s (begin_asked d s a)
gentle_as d s (Refused refusal) quiet = (quiet, λ refused. refl)
gentle_as d s (Runs own) quiet =
    begins d s own (λ b. Gentle s (begun_of (kept_waiting own b))) (record {
      refused = λ refusal its. (own_quiet refusal its, λ refused. refl);
      asks = λ it asked. refl;
      nothing = λ view is attached made left. (refl, λ refused. refl);
      written = λ view object cells is attached. (refl, λ refused. absurd (true≢false (sym refused)));
      maintained = λ view object values is attached. (refl, λ refused. absurd (true≢false (sym refused)));
      shown = λ view cell is attached. (refl, λ refused. refl);
      released = λ view objects is attached left. (refl, λ refused. absurd (true≢false (sym refused)));
      reverted = λ view objects is attached. (refl, λ refused. absurd (true≢false (sym refused)));
      updated = λ view objects is attached. (refl, λ refused. absurd (true≢false (sym refused)));
    })

gentle : (d : List Def) (s : Session) (written : Written) → Gentle s (begin d s written)
gentle d s written = gentle_as d s (asked d s written.line written.from) (asked-quiet d s written.line written.from)

gentle_said : (d : List Def) (s : Session) (statement : Written) (answer : report.Answer) (after : Session) → begin d s statement ≡ world.said answer after → Gentle s (world.said answer after)
gentle_said d s statement answer after is = subst (Gentle s) is (gentle d s statement)

gentle_ask : (d : List Def) (s : Session) (statement : Written) (it : Entry) (waiting : Waiting) → begin d s statement ≡ world.ask it waiting → waiting.known ≡ s
gentle_ask d s statement it waiting is = subst (Gentle s) is (gentle d s statement)

-- a reply of the step tells of no fault, whatever was asked
reply_quiet : (d : List Def) (names : List (List ℕ)) (waiting : Waiting) (reply : Reply) → reply ≢ Fault → refuses_so is_fault (finish d names waiting reply).0.refusal ≡ false
reply_quiet d names waiting (Attached fresh) other = refl
reply_quiet d names waiting (Acquired fresh) other = refl
reply_quiet d names waiting (Resynced fresh) other = refl
reply_quiet d names waiting Committed other = refl
reply_quiet d names waiting Released other = refl
reply_quiet d names waiting Detached other = refl
reply_quiet d names waiting (Owned object by) other = refl
reply_quiet d names waiting (Newer object number) other = refl
reply_quiet d names waiting (Stranger object) other = refl
reply_quiet d names waiting (Worn object) other = refl
reply_quiet d names waiting (TooLarge bytes) other = refl
reply_quiet d names waiting NoMemory other = refl
reply_quiet d names waiting Fault other = absurd (other refl)

no_fault : (shared : Workspace) (it : Entry) → (kept_step shared it).0 ≢ Fault
no_fault shared it =
    cut_off-cases shared it (shared_step (bodies_of shared.definitions) shared it) (λ r. r.0 ≢ Fault) (λ bytes granted long same. cc)
    (λ kept same. absurd (subst IsPlain same (plain-reply shared.definitions (standing (bodies_of shared.definitions) shared) it)))

-- what a refusal leaves of the shared state
abbrev is_grant : Reply → Bool
is_grant (Acquired fresh) = true
is_grant Committed = true
is_grant Released = true
is_grant Detached = true
is_grant _ = false

workspace-refused : (w : Workspace) (asked : Entry) (reply : Reply) → is_grant reply ≡ false → workspace_after w asked reply ≡ w
workspace-refused w (Acquire who keep fresh same) (Acquired latest) refused = cc
workspace-refused w (Commit who changes leave) Committed refused = cc
workspace-refused w (Release who listed) Released refused = cc
workspace-refused w (Detach who) Detached refused = cc
workspace-refused w _ _ refused = refl

-- where a reply refuses, all is as it was
abbrev Calm : List Def → List (List ℕ) → Workspace → Waiting → Reply × Workspace → Type 0
Calm d names shared s r =
    is_some (finish d names s r.0).0.refusal ≡ true → ((finish d names s r.0).1 ≡ s.known) × (r.1 ≡ shared)

calm_reply : (d : List Def) (names : List (List ℕ)) (shared : Workspace) (s : Waiting) (it : Entry) (reply : Reply) → Calm d names shared s (reply, workspace_after shared it reply)
calm_reply d names shared s it (Attached fresh) = λ refused. absurd (true≢false (sym refused))
calm_reply d names shared s it (Acquired fresh) = λ refused. absurd (true≢false (sym refused))
calm_reply d names shared s it (Resynced fresh) = λ refused. absurd (true≢false (sym refused))
calm_reply d names shared s it Committed = λ refused. absurd (true≢false (sym refused))
calm_reply d names shared s it Released = λ refused. absurd (true≢false (sym refused))
calm_reply d names shared s it Detached = λ refused. absurd (true≢false (sym refused))
calm_reply d names shared s it NoMemory = λ refused. absurd (true≢false (sym refused))
calm_reply d names shared s it (Owned object by) = λ refused. (refl, workspace-refused shared it (Owned object by) refl)
calm_reply d names shared s it (Newer object number) = λ refused. (refl, workspace-refused shared it (Newer object number) refl)
calm_reply d names shared s it (Stranger object) = λ refused. (refl, workspace-refused shared it (Stranger object) refl)
calm_reply d names shared s it (Worn object) = λ refused. (refl, workspace-refused shared it (Worn object) refl)
calm_reply d names shared s it (TooLarge bytes) = λ refused. (refl, workspace-refused shared it (TooLarge bytes) refl)
calm_reply d names shared s it Fault = λ refused. (refl, workspace-refused shared it Fault refl)

calm : (d : List Def) (names : List (List ℕ)) (shared : Workspace) (s : Waiting) (it : Entry) → Calm d names shared s (kept_step shared it)
calm d names shared s it =
    let r = shared_step (bodies_of shared.definitions) shared it in
    cut_off-cases shared it r (Calm d names shared s) (λ bytes granted long refused. (refl, refl)) (λ kept. calm_reply d names shared s it r.0)

pub language_hears : Hears is_fault fault_answer store_writing history_machine
language_hears = record {
  forms = λ lines text refusal is. subst QuietForm is (quiet_form lines text);
  definitions = λ d lines refusal is. subst QuietResult is (quiet_define d lines);
  late = late-quiet;
  crowded = refl;
  begins = λ d s statement answer after is. (gentle_said d s statement answer after is).0;
  finishes = λ d names shared waiting it. reply_quiet d names waiting (kept_step shared it).0 (no_fault shared it);
  faults = λ d names waiting. refl;
  fault_tells = refl;
}

-- the commits and the owners are as before
pub language_mild : (next : ℕ → Outcome) → Mild SameState (on_disk store_writing next history_machine)
language_mild next = record {
  same = λ disk. refl;
  begins = λ d s statement answer after is refused. (gentle_said d s statement answer after is).1 refused;
  steps = λ d names disk s statement it waiting is.
      let asked = gentle_ask d s statement it waiting is in
      step-holds store_writing history_machine next (λ reply after. is_some (finish d names waiting reply).0.refusal ≡ true → ((finish d names waiting reply).1 ≡ s) × (after ≡ disk.state)) disk it
      (λ refused. let kept = calm d names disk.state waiting it refused in (kept.0 ∙ asked, kept.1)) (λ refused. (asked, refl));
}

pub refusals_change_nothing : (coming : List Outcome) (w : HistoryWorld) (event : Event) → RefusalChangesNothing SameState (by_history coming) w event
refusals_change_nothing coming w event = refusal_changes_nothing SameState (by_history coming) (language_mild (among coming)) w event
