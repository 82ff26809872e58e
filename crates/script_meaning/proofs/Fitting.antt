-- What keeps that the view of a session fits: its own commands, what follows a reply, and what other sessions do.
use Rattle.std.specs.Prelude.{◌≡◌, ◌≢◌, ◌≤◌, ◌+◌, ℕ, ℤ, negsuc, min, Bool, true, false, not, cond, [], ◌∷◌, All, Option, Some, None, IfSome, refl}
use Rattle.std.specs.Option.{option_map}
use Rattle.std.specs.Ordering.{int_eq}
use Rattle.std.proofs.Common.{sym, subst, arith}
use Rattle.std.proofs.lemmas.Bool.{and_from}
use Rattle.std.proofs.lemmas.Bool.Decides.{Decides-int_eq}
use Rattle.std.proofs.lemmas.List.Elements.{All-head, All-tail}
use Rattle.aw_cell.specs.declared.cell.Cell.{Cell}
use Rattle.aw_cell.specs.declared.cell.Cell.TheVariants.{Na, Num, Int, Text, Bool as Truth, Slot}
use Rattle.aw_dim.specs.DimensionState.{DimensionState}
use Rattle.aw_schema.specs.declared.definition.DefKind.{DefKind}
use Rattle.aw_schema.specs.declared.definition.DefKind.TheVariants.{Dimension, Relation, Valueset, Variable, Formula, Program, Aggmap}
use Rattle.aw_var.specs.CellMap.{Cells}
use Rattle.aw_body.specs.declared.body.Body.{Body}
use Rattle.aw_body.specs.declared.body.Body.TheVariants.{Dim, Rel, Set, Var}
use Rattle.aw_body.specs.declared.patch.BodyPatch.TheVariants.{Cells as CellPatch}
use Rattle.aw_body.specs.Bodies.{IsBodyOf}
use Rattle.aw_body.specs.BodyPatches.{applied}
use Rattle.aw_body.specs.Fitting.{is_recorded}
use Rattle.aw_codec.specs.Records.{IsSpelled, IsKeyedCell}
use Rattle.mv_view.specs.Recording.{CanBeRecorded, are_recorded}
use Rattle.mv_view.specs.Rules as rule
use Rattle.mv_view.specs.ViewState.{ObjectView, ViewState, IsSeen, object_of, each}
use Rattle.mv_view.specs.Fit as seen
use Rattle.mv_view.proofs.callers.Each.{object_in-each}
use Rattle.aw_body.specs.declared.change.Fresh.{Fresh}
use Rattle.aw_body.specs.KeptBodies.{bodies_of}
use Rattle.mv_core.specs.Workspace.{Workspace}
use Rattle.ses_step.specs.Sessions.{AreHeldBy, CanMaintain, next_of}
use Rattle.script_meaning.specs.Fit.{CanBeWritten, CanBeCommitted, IsKeptOf, ViewFits}
use Rattle.script_meaning.proofs.WrittenCells.{held-kept}

-- ---- bodies that can be recorded

differs-test : (z : ℤ) → z ≢ negsuc 2147483647 → not (int_eq z (negsuc 2147483647)) ≡ true
differs-test z differs = step (int_eq z (negsuc 2147483647)) refl
  where
    step : (same : Bool) → int_eq z (negsuc 2147483647) ≡ same → not same ≡ true
    step true is = absurd (differs ((Decides-int_eq z (negsuc 2147483647)).0 is))
    step false is = refl

pub spelled-recorded : (cell : Cell) → IsSpelled cell → is_recorded cell ≡ true
spelled-recorded Na is = refl
spelled-recorded (Num units) is = refl
spelled-recorded (Int z) is = differs-test z is.1
spelled-recorded (Text text) is = refl
spelled-recorded (Truth truth) is = refl
spelled-recorded (Slot slot) is = refl

recorded-cells : (pairs : Cells) → All IsKeyedCell pairs → are_recorded pairs ≡ true
recorded-cells [] all = refl
recorded-cells (pair ∷ pairs) all =
    and_from (is_recorded pair.1) (are_recorded pairs) (spelled-recorded pair.1 (All-head IsKeyedCell pair pairs all).2) (recorded-cells pairs (All-tail IsKeyedCell pair pairs all))

-- a body that can be written can be recorded over one of its form, which of a dimension is the same one
pub recorded-over : (kind : DefKind) (base body : Body) → IsBodyOf kind base → IsBodyOf kind body → CanBeWritten body → (kind ≡ Dimension → body ≡ base) → CanBeRecorded base body
recorded-over Dimension (Dim values) body base_is body_is can same =
    subst (CanBeRecorded (Dim values)) (sym (same refl)) (omega arith)
recorded-over Dimension (Rel older) body base_is body_is can same = absurd base_is
recorded-over Dimension (Set older) body base_is body_is can same = absurd base_is
recorded-over Dimension (Var older) body base_is body_is can same = absurd base_is
recorded-over (Relation target of) (Dim older) body base_is body_is can same = absurd base_is
recorded-over (Relation target of) (Rel older) (Dim newer) base_is body_is can same = absurd body_is
recorded-over (Relation target of) (Rel older) (Rel newer) base_is body_is can same = recorded-cells newer.cells can
recorded-over (Relation target of) (Rel older) (Set newer) base_is body_is can same = absurd body_is
recorded-over (Relation target of) (Rel older) (Var newer) base_is body_is can same = absurd body_is
recorded-over (Relation target of) (Set older) body base_is body_is can same = absurd base_is
recorded-over (Relation target of) (Var older) body base_is body_is can same = absurd base_is
recorded-over (Valueset dimension) (Dim older) body base_is body_is can same = absurd base_is
recorded-over (Valueset dimension) (Rel older) body base_is body_is can same = absurd base_is
recorded-over (Valueset dimension) (Set older) (Dim newer) base_is body_is can same = absurd body_is
recorded-over (Valueset dimension) (Set older) (Rel newer) base_is body_is can same = absurd body_is
recorded-over (Valueset dimension) (Set older) (Set newer) base_is body_is can same = can.0
recorded-over (Valueset dimension) (Set older) (Var newer) base_is body_is can same = absurd body_is
recorded-over (Valueset dimension) (Var older) body base_is body_is can same = absurd base_is
recorded-over (Variable cell dimensions) (Dim older) body base_is body_is can same = absurd base_is
recorded-over (Variable cell dimensions) (Rel older) body base_is body_is can same = absurd base_is
recorded-over (Variable cell dimensions) (Set older) body base_is body_is can same = absurd base_is
recorded-over (Variable cell dimensions) (Var older) (Dim newer) base_is body_is can same = absurd body_is
recorded-over (Variable cell dimensions) (Var older) (Rel newer) base_is body_is can same = absurd body_is
recorded-over (Variable cell dimensions) (Var older) (Set newer) base_is body_is can same = absurd body_is
recorded-over (Variable cell dimensions) (Var older) (Var newer) base_is body_is can same = recorded-cells newer.cells can
recorded-over (Formula text) (Dim older) body base_is body_is can same = absurd base_is
recorded-over (Formula text) (Rel older) body base_is body_is can same = absurd base_is
recorded-over (Formula text) (Set older) body base_is body_is can same = absurd base_is
recorded-over (Formula text) (Var older) body base_is body_is can same = absurd base_is
recorded-over (Program text) (Dim older) body base_is body_is can same = absurd base_is
recorded-over (Program text) (Rel older) body base_is body_is can same = absurd base_is
recorded-over (Program text) (Set older) body base_is body_is can same = absurd base_is
recorded-over (Program text) (Var older) body base_is body_is can same = absurd base_is
recorded-over (Aggmap text) (Dim older) body base_is body_is can same = absurd base_is
recorded-over (Aggmap text) (Rel older) body base_is body_is can same = absurd base_is
recorded-over (Aggmap text) (Set older) body base_is body_is can same = absurd base_is
recorded-over (Aggmap text) (Var older) body base_is body_is can same = absurd base_is

-- ---- what a session sees of one object

-- three bodies of the definition's form, which can be committed
pub record IsGood (found : ObjectView) : Type 0 where
  pub forms : IsSeen found
  pub commits : CanBeCommitted found

pub good-if : (b : Bool) (changed found : ObjectView) → (b ≡ true → IsGood changed) → IsGood found → IsGood (cond b changed found)
good-if true changed found new old = new refl
good-if false changed found new old = old

-- a generation that is seen for the first time
pub good-seen : (kind : DefKind) (number : ℕ) (body : Body) → IsKeptOf kind body → IsGood (record { kind = kind; number = number; base = body; staged = body; private = body; owned = false; leaving = false })
good-seen kind number body it =
    let recorded = recorded-over kind body body it.form.form it.form.form it.written (λ dimension. refl) in
    record {
      forms = record { base = it.form; staged = it.form; private = it.form };
      commits = record { base = it.written; staged = (it.written, recorded); private = (it.written, recorded) };
    }

pub good-staging : (found : ObjectView) → IsGood found → IsGood (rule.staging found)
good-staging found it = record {
  forms = record { base = it.forms.base; staged = it.forms.private; private = it.forms.private };
  commits = record { base = it.commits.base; staged = it.commits.private; private = it.commits.private };
}

pub good-owning : (found : ObjectView) → IsGood found → IsGood (rule.owning found)
good-owning found it = record {
  forms = record { base = it.forms.base; staged = it.forms.staged; private = it.forms.private };
  commits = record { base = it.commits.base; staged = it.commits.staged; private = it.commits.private };
}

-- a generation that replaces all three bodies
pub good-renewed : (found : ObjectView) (one : Fresh) → IsKeptOf found.kind one.body → IsGood (rule.with_latest one found)
good-renewed found one it =
    let recorded = recorded-over found.kind one.body one.body it.form.form it.form.form it.written (λ dimension. refl) in
    record {
      forms = record { base = it.form; staged = it.form; private = it.form };
      commits = record { base = it.written; staged = (it.written, recorded); private = (it.written, recorded) };
    }

pub good-reverting : (found : ObjectView) → IsGood found → IsGood (rule.reverting found)
good-reverting found it = record {
  forms = record { base = it.forms.base; staged = it.forms.staged; private = it.forms.staged };
  commits = record { base = it.commits.base; staged = it.commits.staged; private = it.commits.staged };
}

good-marked : (found : ObjectView) → IsGood found → IsGood (record found { leaving = true })
good-marked found it = record {
  forms = record { base = it.forms.base; staged = it.forms.staged; private = it.forms.private };
  commits = record { base = it.commits.base; staged = it.commits.staged; private = it.commits.private };
}

good-giving_up : (found : ObjectView) → IsGood found → IsGood (rule.giving_up found)
good-giving_up found it = record {
  forms = record { base = it.forms.base; staged = it.forms.staged; private = it.forms.private };
  commits = record { base = it.commits.base; staged = it.commits.staged; private = it.commits.private };
}

pub good-releasing : (found : ObjectView) → IsGood found → IsGood (rule.releasing found)
good-releasing found it = good-either (rule.is_staged found) (good-marked found it) (good-giving_up found it)
  where
    good-either : (b : Bool) → IsGood (record found { leaving = true }) → IsGood (rule.giving_up found) → IsGood (cond b (record found { leaving = true }) (rule.giving_up found))
    good-either true marked given = marked
    good-either false marked given = given

-- the staged body is the base
abbrev moved_on : ObjectView → ObjectView
moved_on found = record found { number = min (found.number + 1) 18446744073709551615; base = found.staged }

good-moved_on : (found : ObjectView) → (found.kind ≡ Dimension → found.private ≡ found.staged) → IsGood found → IsGood (moved_on found)
good-moved_on found dimension it = record {
  forms = record { base = it.forms.staged; staged = it.forms.staged; private = it.forms.private };
  commits = record {
    base = it.commits.staged.0;
    staged = (it.commits.staged.0, recorded-over found.kind found.staged found.staged it.forms.staged.form it.forms.staged.form it.commits.staged.0 (λ same. refl));
    private = (it.commits.private.0, recorded-over found.kind found.staged found.private it.forms.staged.form it.forms.private.form it.commits.private.0 dimension);
  };
}

pub good-committed : (found : ObjectView) → (found.kind ≡ Dimension → found.private ≡ found.staged) → IsGood found → IsGood (rule.after_commit found)
good-committed found dimension it =
    let committing = good-if (rule.is_staged found) (moved_on found) found (λ staged. good-moved_on found dimension it) it in
    good-if found.owned (rule.leaving_now (rule.committing found)) found (λ own. good-if (rule.committing found).leaving (rule.giving_up (rule.committing found)) (rule.committing found) (λ leaving. good-giving_up (rule.committing found) committing) committing) it

-- ---- an assignment, MAINTAIN

-- cells that the object can hold
pub good-written : (found : ObjectView) (cells : Cells) → AreHeldBy found.kind cells → IsGood found → IsGood (rule.with_cells cells found)
good-written found cells held it =
    let new = held-kept found.kind found.private cells held (record { form = it.forms.private; written = it.commits.private.0 }) in
    record {
      forms = record { base = it.forms.base; staged = it.forms.staged; private = new.form };
      commits = record {
        base = it.commits.base;
        staged = it.commits.staged;
        private = (new.written, recorded-over found.kind found.base (applied found.private (CellPatch cells)) it.forms.base.form new.form.form new.written (λ dimension. never dimension));
      };
    }
  where
    never : {A : Type 0} → found.kind ≡ Dimension → A
    never dimension = absurd (subst (λ (kind : DefKind). AreHeldBy kind cells) dimension held)

-- values that give no slot again can be recorded, where those before them can
values-recorded : (base private : Body) (values : DimensionState) → IsBodyOf Dimension base → IsBodyOf Dimension private → CanBeRecorded base private → next_of private ≤ values.next → CanBeRecorded base (Dim values)
values-recorded (Dim older) (Dim newer) values base_is private_is can next = omega (arith, can, next)
values-recorded (Dim older) (Rel contents) values base_is private_is can next = absurd private_is
values-recorded (Dim older) (Set slots) values base_is private_is can next = absurd private_is
values-recorded (Dim older) (Var contents) values base_is private_is can next = absurd private_is
values-recorded (Rel contents) private values base_is private_is can next = absurd base_is
values-recorded (Set slots) private values base_is private_is can next = absurd base_is
values-recorded (Var contents) private values base_is private_is can next = absurd base_is

-- other values of a dimension
pub good-maintained : (found : ObjectView) (values : DimensionState) → CanMaintain values found → IsGood found → IsGood (rule.with_values values found)
good-maintained found values can it =
    let form : IsBodyOf found.kind (Dim values) = subst (λ (kind : DefKind). IsBodyOf kind (Dim values)) (sym can.kind) tt in
    let of_kind : (body : Body) → IsBodyOf found.kind body → IsBodyOf Dimension body = λ body is. subst (λ (kind : DefKind). IsBodyOf kind body) can.kind is in
    let recorded = values-recorded found.base found.private values (of_kind found.base it.forms.base.form) (of_kind found.private it.forms.private.form) it.commits.private.1 can.next in
    record {
      forms = record { base = it.forms.base; staged = record { form = form; valid = can.valid }; private = record { form = form; valid = can.valid } };
      commits = record { base = it.commits.base; staged = (tt, recorded); private = (tt, recorded) };
    }

-- ---- all objects

pub goods : (w : Workspace) (who : ℕ) (view : ViewState) → ViewFits w who view → (object : ℕ) → IfSome (object_of view object) IsGood
goods w who view it object = both (object_of view object) (it.forms.each object) (it.each object)
  where
    both : (found : Option ObjectView) → IfSome found IsSeen → IfSome found CanBeCommitted → IfSome found IsGood
    both None forms commits = tt
    both (Some one) forms commits = record { forms = forms; commits = commits }

each-good : (change : ℕ → ObjectView → ObjectView) (view : ViewState) → ((object : ℕ) (found : ObjectView) → object_of view object ≡ Some found → IsGood found → IsGood (change object found)) → ((object : ℕ) → IfSome (object_of view object) IsGood) → (object : ℕ) → IfSome (object_of (each change view) object) IsGood
each-good change view keeps good object =
    subst (λ (found : Option ObjectView). IfSome found IsGood) (sym (object_in-each 0 change view.objects object object (omega arith))) (some (object_of view object) refl (good object))
  where
    some : (found : Option ObjectView) → object_of view object ≡ found → IfSome found IsGood → IfSome (option_map (change object) found) IsGood
    some None is old = tt
    some (Some one) is old = keeps object one is old

-- a view of good objects that fits
pub view-fits : (w : Workspace) (who : ℕ) (view : ViewState) → view.who ≡ who → seen.Fits w.definitions (bodies_of w.definitions) w.history w.owners view → ((object : ℕ) → IfSome (object_of view object) IsGood) → ViewFits w who view
view-fits w who view number fit good = record {
  number = number;
  fits = fit;
  forms = record { each = λ object. forms (object_of view object) (good object) };
  each = λ object. commits (object_of view object) (good object);
}
  where
    forms : (found : Option ObjectView) → IfSome found IsGood → IfSome found IsSeen
    forms None it = tt
    forms (Some one) it = it.forms

    commits : (found : Option ObjectView) → IfSome found IsGood → IfSome found CanBeCommitted
    commits None it = tt
    commits (Some one) it = it.commits

-- the objects of a view that fits are changed, each to a good one
pub view-changed : (w after : Workspace) (who : ℕ) (view : ViewState) (change : ℕ → ObjectView → ObjectView) → ViewFits w who view → seen.Fits after.definitions (bodies_of after.definitions) after.history after.owners (each change view) → ((object : ℕ) (found : ObjectView) → object_of view object ≡ Some found → IsGood found → IsGood (change object found)) → ViewFits after who (each change view)
view-changed w after who view change it fit keeps = view-fits after who (each change view) it.number fit (each-good change view keeps (goods w who view it))
