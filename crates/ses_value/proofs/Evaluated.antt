-- What code of a session's expression gives is the value of the expression, by what the session sees.
use Rattle.std.proofs.Common.{◌≡◌, ◌∙◌, ℕ, ◌==◌, ◌≤◌, Bool as Truth, true, false, cond, List, [], ◌∷◌, length, map, slice_get, Option, Result, Ok, Err, refl, sym, ap, subst, arith}
use Rattle.std.specs.Prelude.{IsTrue, ◌||◌, is_none, unwrap_or, nat_le, find}
use Rattle.std.specs.List.{list_all}
use Rattle.std.proofs.lemmas.Bool.{and_parts, false≢true, true≢false}
use Rattle.std.proofs.lemmas.Bool.Decides.{Decides-eqb}
use Rattle.std.proofs.lemmas.List.{length-map}
use Rattle.std.proofs.lemmas.Option.{none-some}
use Rattle.aw_cell.specs.declared.cell.Cell.{Cell}
use Rattle.aw_cell.specs.declared.cell.Cell.TheVariants.{Na}
use Rattle.aw_cell.specs.declared.cell.Kind.{Kind}
use Rattle.aw_cell.specs.declared.number.Arith.{Arith}
use Rattle.aw_cell.specs.declared.number.Arith.TheVariants.{Overflow}
use Rattle.aw_schema.specs.declared.definition.Def.{Def}
use Rattle.aw_var.specs.CellMap.{Cells}
use Rattle.mv_view.specs.ViewState.{ViewState}
use Rattle.mv_view.specs.Rules.{read}
use Rattle.dml_kinds.specs.declared.checking.TypedExpr.{TypedExpr}
use Rattle.dml_kinds.specs.FreeDimensions.{is_among}
use Rattle.dml_exec.specs.declared.code.Code.{Code}
use Rattle.dml_exec.specs.declared.kinds.Fix.{Fix}
use Rattle.dml_exec.specs.declared.kinds.Kinds.{Kinds}
use Rattle.dml_exec.specs.Operators.{when}
use Rattle.dml_exec.specs.CodeRuns.{Fits, MayAsk}
use Rattle.dml_compile.specs.Compiled.{LooksUp, tree_fixes}
use Rattle.dml_compile.specs.FormulasView.{kinds_with}
use Rattle.dml_compile.specs.Objects.{object_kinds}
use Rattle.dml_loop.specs.declared.fault.LoopFault.{LoopFault}
use Rattle.dml_loop.specs.declared.fault.LoopFault.TheVariants.{Arith as Refused, NoValue, Empty, TooMany, NoMemory}
use Rattle.dml_loop.specs.Evaluation.{or_refused, stored, entry_of, slots_at, shown, first_place, first_places}
use Rattle.dml_loop.specs.Fixes.{slots_of_fixes, Answers}
use Rattle.dml_loop.specs.Loops.{Place, places, combinations, on_ok, ok_map}
use Rattle.dml_loop.proofs.CallerLemmas.{Reads, is_looped, loop-fits, can-loop, first-fits, can-show, all-same, slots-found, values-found}
use Rattle.ses_value.specs.declared.target.AssignedTo.{AssignedTo}
use Rattle.ses_value.specs.Evaluating.{target_kind, value_in, looked_up, lists_in, shown_in, slots_for, list_for, target_lists, within, held, assigned_in}
use Rattle.ses_value.specs.Held.{is_held}
use Rattle.ses_value.specs.Seeing.{slot_in, name_in, status_in}
use Rattle.ses_value.specs.inside.Running.{IsPrepared, inputs, code_value, MayRead, MayName, Runs, stored_at}
use Rattle.ses_value.proofs.SeenCells.{may_read, cells_of_kind, names_of_kind}
use Rattle.ses_value.proofs.SlotNames.{slots_have_names}

-- ---- lists of dimensions

listed-looped : (slots : ℕ → List ℕ) (dimensions : List ℕ) (dimension : ℕ) → is_looped (map (λ (one : ℕ). (one, slots one)) dimensions) dimension ≡ is_among dimensions dimension
listed-looped slots [] dimension = refl
listed-looped slots (one ∷ rest) dimension = ap (λ (t : Truth). (one == dimension) || t) (listed-looped slots rest dimension)

all-among : (those these : List ℕ) (dimension : ℕ) → IsTrue (list_all (is_among those) these) → IsTrue (is_among these dimension) → IsTrue (is_among those dimension)
all-among those [] dimension all among = absurd (false≢true among)
all-among those (one ∷ rest) dimension all among =
    let parts = and_parts (is_among those one) (list_all (is_among those) rest) all in
    by (one == dimension) refl parts.0 (all-among those rest dimension parts.1) among
  where
    by : (same : Truth) → (one == dimension) ≡ same → IsTrue (is_among those one) → (IsTrue (is_among rest dimension) → IsTrue (is_among those dimension)) → IsTrue (same || is_among rest dimension) → IsTrue (is_among those dimension)
    by true is here later found = subst (λ (d : ℕ). IsTrue (is_among those d)) ((Decides-eqb one dimension).0 is) here
    by false is here later found = later found

-- ---- answers

pub refused : {A : Type 0} (meant : Result A LoopFault) (why : LoopFault) → meant ≡ Err why → Answers meant (Err why)
refused meant (Refused a) is = is
refused meant (NoValue value) is = is
refused meant (Empty dimension) is = is
refused meant TooMany is = is
refused meant NoMemory is = tt

-- what is refused before is refused
pub refused_before : {A B : Type 0} (f : A → Result B LoopFault) (meant : Result A LoopFault) (why : LoopFault) → Answers meant (Err why) → Answers (on_ok f meant) (Err why)
refused_before {A} {B} f meant (Refused a) is = ap (λ (r : Result A LoopFault). on_ok f r) is
refused_before {A} {B} f meant (NoValue value) is = ap (λ (r : Result A LoopFault). on_ok f r) is
refused_before {A} {B} f meant (Empty dimension) is = ap (λ (r : Result A LoopFault). on_ok f r) is
refused_before {A} {B} f meant TooMany is = ap (λ (r : Result A LoopFault). on_ok f r) is
refused_before f meant NoMemory is = tt

pub answers-same : {A : Type 0} (meant other : Result A LoopFault) (answer : Result A LoopFault) → meant ≡ other → Answers meant answer → Answers other answer
answers-same {A} meant other answer is h = subst (λ (r : Result A LoopFault). Answers r answer) is h

-- a count that is within the limit
pub counted : {A : Type 0} (few : Truth) (count : ℕ) (meant answer : Result A LoopFault) → is_none (when few count) ≡ false → Answers meant answer → Answers (cond few meant (Err TooMany)) answer
counted true count meant answer some h = h
counted false count meant answer some h = absurd (true≢false some)

-- ---- code of an expression over a view

module _ (view : ViewState) (definitions : List Def) (expression : TypedExpr) (code : Code) (fixed : List ℕ) where
  abbrev kinds : Kinds
  kinds = kinds_with (object_kinds definitions) expression.locals

  abbrev slot : ℕ → List ℕ → ℕ
  slot dimension value = unwrap_or (slot_in view dimension value) 0

  module _ (facts : IsPrepared view definitions expression code fixed) where
    may_ask : MayAsk kinds (MayRead view) (MayName view)
    may_ask = record {
      cells = λ object kind dimensions slots is long. may_read view definitions facts.sees object kind dimensions slots is long;
      names = λ dimension slot is. tt;
    }

    as_many : length code.fixes ≤ length fixed
    as_many = omega (arith, ap length (slots-found (slot_in view) code.fixes fixed facts.found), length-map code.fixes (λ (fix : Fix). slot fix.dimension fix.value))

    reads : Reads kinds code (read view) (name_in view) fixed []
    reads = record {
      slots = as_many;
      kept = λ number kind contains is. absurd (none-some kind (sym (ap (λ (locals : List Kind). slice_get locals number) facts.line.locals) ∙ is));
      cells = λ object kind dimensions slots is long. cells_of_kind view definitions facts.seen facts.sees object kind dimensions slots is;
      names = λ dimension slot is. names_of_kind _;
    }

    looks_up : (place : Place) → LooksUp (inputs view fixed place) slot code.fixes
    looks_up place = record {
      slots = slots-found (slot_in view) code.fixes fixed facts.found;
      names = λ k d less. slots_have_names view facts.seen _ _ _ (values-found (slot_in view) code.fixes fixed facts.found k d less);
    }

    same-value : (place : Place) → Fits kinds code (inputs view fixed place) → code_value view code fixed place ≡ value_in view expression.tree place
    same-value place fits =
        ap (λ (meant : Option (Result Cell Arith)). or_refused (unwrap_or meant (Ok Na))) (facts.compiled.value (inputs view fixed place) slot (looks_up place) fits)

    free : code.free ≡ expression.dimensions
    free = facts.compiled.free tt facts.line.formulas ∙ sym facts.line.dimensions

    -- each free dimension is in the lists
    abbrev AreLooped : List (ℕ × List ℕ) → Type 0
    AreLooped lists = (dimension : ℕ) → IsTrue (is_among expression.dimensions dimension) → IsTrue (is_looped lists dimension)

    free-looped : (lists : List (ℕ × List ℕ)) → AreLooped lists → (dimension : ℕ) → IsTrue (is_among code.free dimension) → IsTrue (is_looped lists dimension)
    free-looped lists looped dimension among = looped dimension (subst (λ (dimensions : List ℕ). IsTrue (is_among dimensions dimension)) free among)

    before : {A : Type 0} (answer : Result A LoopFault) → looked_up view (tree_fixes [] expression.tree) answer ≡ answer
    before {A} answer = ap (λ (fixes : List Fix). looked_up view fixes answer) (sym facts.compiled.fixes) ∙ ap (λ (r : Result (List ℕ) LoopFault). on_ok (λ (slots : List ℕ). answer) r) facts.found

    -- ---- SHOW

    status-looped : AreLooped (lists_in view expression.dimensions)
    status-looped dimension among = subst (λ (t : Truth). IsTrue t) (sym (listed-looped (status_in view) expression.dimensions dimension)) among

    module _ (lists : List (ℕ × List ℕ)) (are : lists ≡ lists_in view expression.dimensions) where
      shown-looped : (dimension : ℕ) → IsTrue (is_among code.free dimension) → IsTrue (is_looped lists dimension)
      shown-looped = free-looped lists (subst AreLooped (sym are) status-looped)

      pub show_runs : Runs view code fixed (first_places lists)
      show_runs = can-show kinds code (read view) (name_in view) fixed [] lists (MayRead view) (MayName view) facts.compiled.accepted may_ask reads shown-looped

      first-value : (first : Result Place LoopFault) → first_place lists ≡ first → on_ok (code_value view code fixed) first ≡ on_ok (value_in view expression.tree) first
      first-value (Ok place) is = same-value place (first-fits kinds code (read view) (name_in view) fixed [] lists reads shown-looped place is)
      first-value (Err why) is = refl

      pub show_answers : (result : Result Cell LoopFault) → Answers (shown (code_value view code fixed) lists) result → Answers (shown_in view expression) result
      show_answers result =
          answers-same (shown (code_value view code fixed) lists) (shown_in view expression) result
          (first-value (first_place lists) refl
          ∙ ap (λ (all : List (ℕ × List ℕ)). shown (value_in view expression.tree) all) are
          ∙ sym (before (shown (value_in view expression.tree) (lists_in view expression.dimensions))))

    -- ---- an assignment

    module _ (to : AssignedTo) (over : IsTrue (list_all (is_among to.dimensions) expression.dimensions)) (lists : List (ℕ × List ℕ)) (are : lists ≡ target_lists view to) where
      target-looped : AreLooped (target_lists view to)
      target-looped dimension among =
          subst (λ (t : Truth). IsTrue t) (sym (listed-looped (λ (one : ℕ). slots_for view (find (λ (fix : Fix). fix.dimension == one) to.fixes) one) to.dimensions dimension))
          (all-among to.dimensions expression.dimensions dimension over among)

      lists-looped : (dimension : ℕ) → IsTrue (is_among code.free dimension) → IsTrue (is_looped lists dimension)
      lists-looped = free-looped lists (subst AreLooped (sym are) target-looped)

      pub assign_runs : Runs view code fixed (places lists)
      assign_runs = can-loop kinds code (read view) (name_in view) fixed [] lists (MayRead view) (MayName view) facts.compiled.accepted may_ask reads lists-looped

      pub few_lists : length to.dimensions ≤ 6 → length lists ≤ 6
      few_lists few = omega (arith, few, ap length are, length-map to.dimensions (list_for view to.fixes))

      -- what is stored at each place
      same-entry : (place : Place) → Fits kinds code (inputs view fixed place) → entry_of (code_value view code fixed) (stored (slot_in view) to.target) place ≡ entry_of (value_in view expression.tree) (stored (slot_in view) to.target) place
      same-entry place fits = ap (λ (value : Result Cell LoopFault). ok_map (λ (cell : Cell). (slots_at place, cell)) (on_ok (stored (slot_in view) to.target) value)) (same-value place fits)

      same-cells : stored_at view to.target (code_value view code fixed) lists ≡ stored_at view to.target (value_in view expression.tree) lists
      same-cells =
          let fit = loop-fits kinds code (read view) (name_in view) fixed [] lists reads lists-looped in
          all-same (entry_of (code_value view code fixed) (stored (slot_in view) to.target)) (entry_of (value_in view expression.tree) (stored (slot_in view) to.target)) (places lists)
          (λ k d less. same-entry _ (fit k d less))

      held-within : (few : Truth) (cells : Result Cells LoopFault) → cond few (on_ok (held view to) cells) (Err TooMany) ≡ on_ok (held view to) (cond few cells (Err TooMany))
      held-within true cells = refl
      held-within false cells = refl

      module _ (slots : List ℕ) (known : slots_of_fixes (slot_in view) to.fixes ≡ Ok slots) where
        abbrev meant : Result Cells LoopFault
        meant = within view lists (stored_at view to.target (code_value view code fixed) lists)

        -- the cells of code, and then whether they can be held
        assigned-is : on_ok (held view to) meant ≡ assigned_in view to expression
        assigned-is =
            sym (held-within (nat_le (combinations lists) 4194304) (stored_at view to.target (code_value view code fixed) lists))
            ∙ ap (λ (cells : Result Cells LoopFault). within view lists (on_ok (held view to) cells)) same-cells
            ∙ ap (λ (all : List (ℕ × List ℕ)). within view all (on_ok (held view to) (stored_at view to.target (value_in view expression.tree) all))) are
            ∙ sym (before (within view (target_lists view to) (on_ok (held view to) (stored_at view to.target (value_in view expression.tree) (target_lists view to)))))
            ∙ sym (ap (λ (r : Result (List ℕ) LoopFault). on_ok (λ (some : List ℕ). looked_up view (tree_fixes [] expression.tree) (within view (target_lists view to) (on_ok (held view to) (stored_at view to.target (value_in view expression.tree) (target_lists view to))))) r) known)

        pub cells_refused : (why : LoopFault) → Answers meant (Err why) → Answers (assigned_in view to expression) (Err why)
        cells_refused why h = answers-same (on_ok (held view to) meant) (assigned_in view to expression) (Err why) assigned-is (refused_before (held view to) meant why h)

        pub cells_answer : (cells : Cells) (result : Result Cells LoopFault) → meant ≡ Ok cells → result ≡ held view to cells → Answers (assigned_in view to expression) result
        cells_answer cells result is held_is =
            answers-same (held view to cells) (assigned_in view to expression) result (ap (λ (r : Result Cells LoopFault). on_ok (held view to) r) (sym is) ∙ assigned-is)
            (subst (λ (r : Result Cells LoopFault). Answers (held view to cells) r) (sym held_is) (itself (list_all (is_held (length to.dimensions) (target_kind to.target)) cells)))
          where
            itself : (b : Truth) → Answers {A = Cells} (cond b (Ok cells) (Err (Refused Overflow))) (cond b (Ok cells) (Err (Refused Overflow)))
            itself true = refl
            itself false = refl

-- ---- fixed values

-- where a fixed value of the expression is refused, so is all that comes behind it
pub show_refused : (view : ViewState) (expression : TypedExpr) (why : LoopFault) → Answers (slots_of_fixes (slot_in view) (tree_fixes [] expression.tree)) (Err why) → Answers (shown_in view expression) (Err why)
show_refused view expression why h = refused_before (λ (slots : List ℕ). shown (value_in view expression.tree) (lists_in view expression.dimensions)) (slots_of_fixes (slot_in view) (tree_fixes [] expression.tree)) why h

abbrev pub assigned_then : ViewState → AssignedTo → TypedExpr → Result Cells LoopFault
assigned_then view to expression = within view (target_lists view to) (on_ok (held view to) (stored_at view to.target (value_in view expression.tree) (target_lists view to)))

abbrev pub then_fixes : ViewState → AssignedTo → TypedExpr → List ℕ → Result Cells LoopFault
then_fixes view to expression slots = looked_up view (tree_fixes [] expression.tree) (assigned_then view to expression)

-- those of a target are looked up first
pub target_refused : (view : ViewState) (to : AssignedTo) (expression : TypedExpr) (why : LoopFault) → Answers (slots_of_fixes (slot_in view) to.fixes) (Err why) → Answers (assigned_in view to expression) (Err why)
target_refused view to expression why h = refused_before (then_fixes view to expression) (slots_of_fixes (slot_in view) to.fixes) why h

pub fix_refused : (view : ViewState) (to : AssignedTo) (expression : TypedExpr) (slots : List ℕ) (why : LoopFault) → slots_of_fixes (slot_in view) to.fixes ≡ Ok slots → Answers (slots_of_fixes (slot_in view) (tree_fixes [] expression.tree)) (Err why) → Answers (assigned_in view to expression) (Err why)
fix_refused view to expression slots why known h =
    subst (λ (r : Result (List ℕ) LoopFault). Answers (on_ok (then_fixes view to expression) r) (Err why)) (sym known)
    (refused_before (λ (some : List ℕ). assigned_then view to expression) (slots_of_fixes (slot_in view) (tree_fixes [] expression.tree)) why h)
