-- Which refusal of a session's line comes first, and what a statement asks for that passed.
use Rattle.std.specs.Prelude.{◌≡◌, ◌⊎◌, ℕ, Bool, true, false, cond, nat_le, List, [], ◌∷◌, Option, Some, None, Result, Ok, Err, refl}
use Rattle.std.specs.Option.{option_map, option_or}
use Rattle.std.proofs.Common.{◌∙◌, ap, sym, inl, inr, ⊎_elim}
use Rattle.std.proofs.lemmas.Bool.{true≢false}
use Rattle.std.proofs.lemmas.Option.{none-some}
use Rattle.aw_cell.specs.declared.cell.Cell.{Cell}
use Rattle.aw_dim.specs.DimensionState.{DimensionState}
use Rattle.aw_schema.specs.declared.definition.Def.{Def}
use Rattle.aw_var.specs.CellMap.{Cells}
use Rattle.dml_tree.specs.declared.expr.Expr.{Expr}
use Rattle.dml_tree.specs.declared.expr.Target.{Target}
use Rattle.dml_tree.specs.declared.statement.Statement.{Statement}
use Rattle.dml_tree.specs.declared.statement.Statement.TheVariants as statement
use Rattle.dml_grammar.specs.declared.fault.ParseFault.{ParseFault}
use Rattle.dml_kinds.specs.declared.fault.TypeFault.{TypeFault}
use Rattle.dml_types.specs.declared.checking.Typed.{Typed}
use Rattle.dim_maintain.specs.declared.fault.MaintainFault.{MaintainFault}
use Rattle.dml_lines.specs.Lines.{StatementRead, statement_in}
use Rattle.dml_loop.specs.declared.fault.LoopFault.{LoopFault}
use Rattle.mv_view.specs.Rules as rule
use Rattle.mv_view.specs.ViewState.{ObjectView, ViewState, object_of}
use Rattle.ses_report.specs.declared.refusal.Refusal.{Refusal}
use Rattle.ses_report.specs.Refusals.{no_form, no_value, not_attached, full}
use Rattle.ses_value.specs.declared.target.AssignedTo.{AssignedTo}
use Rattle.ses_value.specs.Evaluating.{shown_in, assigned_in}
use Rattle.ses_step.specs.declared.answer.Answer.TheVariants as answer
use Rattle.ses_step.specs.declared.command.Asked.{Asked}
use Rattle.ses_step.specs.declared.command.Asked.TheVariants.{Runs, Refused}
use Rattle.ses_step.specs.declared.command.Command.{Command}
use Rattle.ses_step.specs.declared.command.Command.TheVariants as command
use Rattle.ses_step.specs.declared.session.Begun.{Begun}
use Rattle.ses_step.specs.declared.session.Begun.TheVariants.{Said}
use Rattle.ses_step.specs.declared.session.Known.{Known as Session}
use Rattle.ses_step.specs.Commands.{command_of}
use Rattle.ses_step.specs.Maintaining.{change_of, cause_of, maintain_refusal, changed, dimension_in, of_values, maintained_asked}
use Rattle.ses_step.specs.Meant.{runs, on_view, given, typed_expression, fixes_of, target_of, shown_asked, written_to, assigned_asked, meant}
use Rattle.ses_step.specs.Refusing.{attachment_refusal, mode_refusal, checked, told, objects_named, held_refusal, missing, checked_refusal, statement_refusal}
use Rattle.ses_step.specs.SessionLines.{parse_refusal, asked_unless, asked_by, asked}
use Rattle.ses_step.specs.Sessions.{begun, write_asked, kept_waiting, name_of}
use Rattle.script_meaning.specs.LineAnswers.{IsRefusedBy, IsAdmitted, HasPassed, ShowIsAnswered, IsAssigned, AssignIsAnswered, MaintainIsAnswered, pages_written, is_evaluated, is_maintain, LineIsAnswered, LinesAreAnswered}
use Rattle.script_meaning.specs.Language.{Written, begun_of, begin_asked, begin}
use Rattle.script_meaning.proofs.Begins.{begun-shared}

-- ---- what a statement asks for

module _ (definitions : List Def) (s : Session) where
  pub record Maintains (one : Statement) : Type 0 where
    pub maintains : is_maintain one ≡ true
    pub none : command_of one (objects_named definitions one) ≡ None
    pub means : meant definitions s one ≡ on_view s (λ view. maintained_asked definitions one view (objects_named definitions one))

  pub record Evaluates (one : Statement) : Type 0 where
    pub evaluated : is_evaluated one ≡ true
    pub none : command_of one (objects_named definitions one) ≡ None
    pub other : is_maintain one ≡ false

  pub meant-by : (one : Statement) → Maintains one ⊎ (Evaluates one ⊎ (meant definitions s one ≡ runs (command_of one (objects_named definitions one))))
  meant-by (statement.Attach mode) = inr (inr (refl))
  meant-by statement.Detach = inr (inr (refl))
  meant-by (statement.Acquire keep fresh same) = inr (inr (refl))
  meant-by (statement.Resync names) = inr (inr (refl))
  meant-by (statement.Release names) = inr (inr (refl))
  meant-by (statement.Revert names) = inr (inr (refl))
  meant-by (statement.Update names) = inr (inr (refl))
  meant-by statement.Commit = inr (inr (refl))
  meant-by (statement.Add dimension names place) = inl (record { maintains = refl; none = refl; means = refl })
  meant-by (statement.Delete dimension names) = inl (record { maintains = refl; none = refl; means = refl })
  meant-by (statement.Move dimension names place) = inl (record { maintains = refl; none = refl; means = refl })
  meant-by (statement.Rename dimension old new) = inl (record { maintains = refl; none = refl; means = refl })
  meant-by (statement.Assign target e) = inr (inl (record { evaluated = refl; none = refl; other = refl }))
  meant-by (statement.Show e) = inr (inl (record { evaluated = refl; none = refl; other = refl }))
  meant-by (statement.Report e) = inr (inr (refl))
  meant-by (statement.Limit name how what) = inr (inr (refl))
  meant-by (statement.Aggregate name map) = inr (inr (refl))
  meant-by (statement.Allocate source basis target map) = inr (inr (refl))
  meant-by (statement.Call program arguments) = inr (inr (refl))

  -- one of which nothing is evaluated or maintained
  pub meant-plain : (one : Statement) → is_evaluated one ≡ false → is_maintain one ≡ false → meant definitions s one ≡ runs (command_of one (objects_named definitions one))
  meant-plain one plain other =
      ⊎_elim (λ it. absurd (true≢false (sym it.maintains ∙ other))) (λ rest. ⊎_elim (λ it. absurd (true≢false (sym it.evaluated ∙ plain))) (λ is. is) rest) (meant-by one)

  pub meant-maintains : (one : Statement) → is_maintain one ≡ true → meant definitions s one ≡ on_view s (λ view. maintained_asked definitions one view (objects_named definitions one))
  meant-maintains (statement.Add dimension names place) is = refl
  meant-maintains (statement.Delete dimension names) is = refl
  meant-maintains (statement.Move dimension names place) is = refl
  meant-maintains (statement.Rename dimension old new) is = refl
  meant-maintains (statement.Attach mode) is = absurd (true≢false (sym is))
  meant-maintains statement.Detach is = absurd (true≢false (sym is))
  meant-maintains (statement.Acquire keep fresh same) is = absurd (true≢false (sym is))
  meant-maintains (statement.Resync names) is = absurd (true≢false (sym is))
  meant-maintains (statement.Release names) is = absurd (true≢false (sym is))
  meant-maintains (statement.Revert names) is = absurd (true≢false (sym is))
  meant-maintains (statement.Update names) is = absurd (true≢false (sym is))
  meant-maintains statement.Commit is = absurd (true≢false (sym is))
  meant-maintains (statement.Assign target e) is = absurd (true≢false (sym is))
  meant-maintains (statement.Show e) is = absurd (true≢false (sym is))
  meant-maintains (statement.Report e) is = absurd (true≢false (sym is))
  meant-maintains (statement.Limit name how what) is = absurd (true≢false (sym is))
  meant-maintains (statement.Aggregate name map) is = absurd (true≢false (sym is))
  meant-maintains (statement.Allocate source basis target map) is = absurd (true≢false (sym is))
  meant-maintains (statement.Call program arguments) is = absurd (true≢false (sym is))

  -- one by which the session shares the workspace
  pub meant-shares : (one : Statement) (own : Command) → command_of one (objects_named definitions one) ≡ Some own → meant definitions s one ≡ Runs own
  meant-shares one own some =
      ⊎_elim (λ it. absurd (none-some own (sym it.none ∙ some))) (λ rest. ⊎_elim (λ it. absurd (none-some own (sym it.none ∙ some))) (λ is. is ∙ ap runs some) rest) (meant-by one)

  module _ (view : ViewState) (attached : s.view ≡ Some view) where
    abbrev asked_of_view : (ViewState → Asked) → Option ViewState → Asked
    asked_of_view asks those = elim those [ None ↦ Refused not_attached | Some one ↦ asks one ]

    pub meant-shown : (e : Expr) → meant definitions s (statement.Show e) ≡ given definitions command.Show (shown_in view (typed_expression definitions e))
    meant-shown e = ap (asked_of_view (λ one. shown_asked definitions one e)) attached

    pub meant-assigned : (target : Target) (e : Expr) (object : ℕ) (to : AssignedTo) → IsAssigned definitions view target object to → meant definitions s (statement.Assign target e) ≡ given definitions (command.Write object) (assigned_in view to (typed_expression definitions e))
    meant-assigned target e object to it =
        let by_seen : ℕ → Option ObjectView → Asked = λ at seen. elim seen [ None ↦ Refused no_form | Some found ↦ written_to definitions view at (target_of found.kind (fixes_of definitions target.fixes)) e ] in
        let by_name : Option ℕ → Asked = λ named. elim named [ None ↦ Refused no_form | Some at ↦ by_seen at (object_of view at) ] in
        ap (asked_of_view (λ one. assigned_asked definitions one target e)) attached ∙ ap by_name it.named ∙ ap (by_seen object) it.seen ∙ ap (λ (found : Option AssignedTo). written_to definitions view object found e) it.is

    pub meant-maintained : (one : Statement) (object : ℕ) (values : DimensionState) → is_maintain one ≡ true → objects_named definitions one ≡ object ∷ [] → dimension_in view object ≡ Some values → meant definitions s one ≡ changed (name_of definitions object) object (cause_of one values) (change_of one values)
    meant-maintained one object values is named seen =
        meant-maintains one is ∙ ap (asked_of_view (λ those. maintained_asked definitions one those (objects_named definitions one))) attached
        ∙ ap (maintained_asked definitions one view) named ∙ ap (of_values definitions one object) seen

    -- ---- a command of an attached session

    pub begun-maintained : (object : ℕ) (values : DimensionState) → begun definitions s (command.Maintain object values) ≡ (Said answer.Done, record s { view = Some (rule.maintained view object values) })
    begun-maintained object values = begun-shared definitions s (command.Maintain object values) view attached refl

    pub begun-shown : (cell : Cell) → begun definitions s (command.Show cell) ≡ (Said (answer.Shown cell), s)
    begun-shown cell = begun-shared definitions s (command.Show cell) view attached refl

    pub begun-written : (object : ℕ) (cells : Cells) (few : Bool) → nat_le (pages_written view object cells) 65536 ≡ few → begun definitions s (command.Write object cells) ≡ cond few (Said answer.Done, record s { view = Some (rule.written view object cells) }) (Said (answer.Refused (full (name_of definitions object))), s)
    begun-written object cells few is =
        ap (λ (those : Option ViewState). elim those as (λ _. Begun × Session) [ None ↦ (Said (answer.Refused not_attached), s) | Some one ↦ write_asked definitions s one object cells ]) attached
        ∙ ap (λ (b : Bool). let begins : Begun × Session = cond b (Said answer.Done, record s { view = Some (rule.written view object cells) }) (Said (answer.Refused (full (name_of definitions object))), s) in begins) is

-- ---- the order of refusals

module _ (definitions : List Def) (s : Session) (written : Written) where
  by_asked : (a : Asked) → asked definitions s written.line written.from ≡ a → begin definitions s written ≡ begin_asked definitions s a
  by_asked a is = ap (begin_asked definitions s) is

  read-asked : (read : StatementRead) → statement_in written.line written.from ≡ read → asked definitions s written.line written.from ≡ asked_by definitions s read
  read-asked read is = ap (asked_by definitions s) is

  syntax-refused : (fault : ParseFault) → statement_in written.line written.from ≡ Err fault → IsRefusedBy definitions s written (parse_refusal fault)
  syntax-refused fault is = by_asked (Refused (parse_refusal fault)) (read-asked (Err fault) is)

  module _ (one : Statement) (is : statement_in written.line written.from ≡ Ok one) where
    unless-asked : (found : Option Refusal) → statement_refusal definitions s one ≡ found → asked definitions s written.line written.from ≡ asked_unless definitions s found one
    unless-asked found refused = read-asked (Ok one) is ∙ ap (λ (r : Option Refusal). asked_unless definitions s r one) refused

    statement-asked : (found : Option Refusal) → statement_refusal definitions s one ≡ found → begin definitions s written ≡ begin_asked definitions s (asked_unless definitions s found one)
    statement-asked found refused = by_asked (asked_unless definitions s found one) (unless-asked found refused)

    attached-refused : (refusal : Refusal) → attachment_refusal s one ≡ Some refusal → IsRefusedBy definitions s written refusal
    attached-refused refusal first =
        statement-asked (Some refusal) (ap (λ (r : Option Refusal). option_or r (option_or (mode_refusal s.mode one) (checked_refusal definitions s one (checked definitions one)))) first)

    -- where the session is attached as it has to be
    behind-attached : attachment_refusal s one ≡ None → statement_refusal definitions s one ≡ option_or (mode_refusal s.mode one) (checked_refusal definitions s one (checked definitions one))
    behind-attached attached =
        ap (λ (r : Option Refusal). option_or r (option_or (mode_refusal s.mode one) (checked_refusal definitions s one (checked definitions one)))) attached

    mode-refused : attachment_refusal s one ≡ None → (refusal : Refusal) → mode_refusal s.mode one ≡ Some refusal → IsRefusedBy definitions s written refusal
    mode-refused attached refusal first =
        statement-asked (Some refusal) (behind-attached attached ∙ ap (λ (r : Option Refusal). option_or r (checked_refusal definitions s one (checked definitions one))) first)

    module _ (admitted : IsAdmitted s one) where
      checked-is : (r : Result Typed TypeFault) → checked definitions one ≡ r → statement_refusal definitions s one ≡ checked_refusal definitions s one r
      checked-is r same =
          behind-attached admitted.attached ∙ ap (λ (first : Option Refusal). option_or first (checked_refusal definitions s one (checked definitions one))) admitted.writes ∙ ap (checked_refusal definitions s one) same

      fits-refused : (fault : TypeFault) → checked definitions one ≡ Err fault → IsRefusedBy definitions s written (told fault)
      fits-refused fault same = statement-asked (Some (told fault)) (checked-is (Err fault) same)

      module _ (typed : Typed) (same : checked definitions one ≡ Ok typed) where
        held-refused : (refusal : Refusal) → held_refusal s one typed.objects ≡ Some refusal → IsRefusedBy definitions s written refusal
        held-refused refusal holds =
            statement-asked (Some refusal) (checked-is (Ok typed) same ∙ ap (λ (r : Option Refusal). option_or r (option_map no_value (missing definitions s one))) holds)

        module _ (free : held_refusal s one typed.objects ≡ None) where
          passed : (values : Option (List ℕ)) → missing definitions s one ≡ values → statement_refusal definitions s one ≡ option_map no_value values
          passed values found =
              checked-is (Ok typed) same ∙ ap (λ (r : Option Refusal). option_or r (option_map no_value (missing definitions s one))) free ∙ ap (option_map no_value) found

          values-refused : (text : List ℕ) → missing definitions s one ≡ Some text → IsRefusedBy definitions s written (no_value text)
          values-refused text found = statement-asked (Some (no_value text)) (passed (Some text) found)

    pub meant-asked : HasPassed definitions s one → asked definitions s written.line written.from ≡ meant definitions s one
    meant-asked it = unless-asked None (passed it.admitted it.typed it.fits it.held None it.values)

    run-asked : HasPassed definitions s one → (a : Asked) → meant definitions s one ≡ a → begin definitions s written ≡ begin_asked definitions s a
    run-asked it a means = by_asked a (meant-asked it ∙ means)

    shown : HasPassed definitions s one → (e : Expr) → one ≡ statement.Show e → (view : ViewState) → s.view ≡ Some view → ShowIsAnswered definitions s written view e
    shown it e same view attached =
        let asks = λ (r : Result Cell LoopFault) (is : shown_in view (typed_expression definitions e) ≡ r). run-asked it (given definitions command.Show r) (ap (meant definitions s) same ∙ meant-shown definitions s view attached e ∙ ap (given definitions command.Show) is) in
        record {
          shown = λ cell is. asks (Ok cell) is ∙ ap (λ (b : Begun × Session). begun_of (kept_waiting (command.Show cell) b)) (begun-shown definitions s view attached cell);
          refused = λ fault is. asks (Err fault) is;
        }

    assigned : HasPassed definitions s one → (target : Target) (e : Expr) → one ≡ statement.Assign target e → (view : ViewState) → s.view ≡ Some view → (object : ℕ) (to : AssignedTo) → IsAssigned definitions view target object to → AssignIsAnswered definitions s written view object to e
    assigned it target e same view attached object to its =
        let asks = λ (r : Result Cells LoopFault) (is : assigned_in view to (typed_expression definitions e) ≡ r). run-asked it (given definitions (command.Write object) r) (ap (meant definitions s) same ∙ meant-assigned definitions s view attached target e object to its ∙ ap (given definitions (command.Write object)) is) in
        let writes = λ (cells : Cells) (few : Bool) (is : nat_le (pages_written view object cells) 65536 ≡ few). ap (λ (b : Begun × Session). begun_of (kept_waiting (command.Write object cells) b)) (begun-written definitions s view attached object cells few is) in
        record {
          refused = λ fault is. asks (Err fault) is;
          pages = λ cells is many. asks (Ok cells) is ∙ writes cells false many;
          done = λ cells is few. asks (Ok cells) is ∙ writes cells true few;
        }

    maintained : HasPassed definitions s one → is_maintain one ≡ true → (view : ViewState) → s.view ≡ Some view → (object : ℕ) (values : DimensionState) → objects_named definitions one ≡ object ∷ [] → dimension_in view object ≡ Some values → MaintainIsAnswered definitions s written view one object values
    maintained it maintains view attached object values named seen =
        let means = meant-maintained definitions s view attached one object values maintains named seen in
        record {
          refused = λ fault cause. run-asked it (Refused (maintain_refusal (name_of definitions object) fault)) (means ∙ ap (λ (found : Option MaintainFault). changed (name_of definitions object) object found (change_of one values)) cause);
          done = λ none valid. run-asked it (Runs (command.Maintain object (change_of one values))) (means ∙ ap (λ (found : Option MaintainFault). changed (name_of definitions object) object found (change_of one values)) none ∙ ap (λ (b : Bool). cond b (Runs (command.Maintain object (change_of one values))) (Refused no_form)) valid)
              ∙ ap (λ (b : Begun × Session). begun_of (kept_waiting (command.Maintain object (change_of one values)) b)) (begun-maintained definitions s view attached object (change_of one values));
        }

  pub line-answered : LineIsAnswered definitions s written
  line-answered = record {
    syntax = syntax-refused;
    statement = λ one is. record {
      attached = attached-refused one is;
      reads = λ attached. mode-refused one is attached;
      fits = λ admitted. fits-refused one is admitted;
      held = λ admitted typed same. held-refused one is admitted typed same;
      values = λ admitted typed same free. values-refused one is admitted typed same free;
      means = λ it. run-asked one is it (meant definitions s one) refl;
      shows = shown one is;
      assigns = assigned one is;
      maintains = maintained one is;
      shares = λ it own some. run-asked one is it (Runs own) (meant-shares definitions s one own some);
      unbuilt = λ it plain other none. run-asked one is it (Refused no_form) (meant-plain definitions s one plain other ∙ ap runs none);
    };
  }

pub lines_answered : LinesAreAnswered
lines_answered = line-answered
