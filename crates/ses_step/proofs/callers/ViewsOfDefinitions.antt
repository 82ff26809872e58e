-- What a session does keeps that its view is of the definitions.
use Rattle.std.specs.Prelude.{ℕ, ◌≡◌, ◌==◌, List, Option, Some, None, IfSome, is_some}
use Rattle.std.specs.Option.{option_map}
use Rattle.std.proofs.Common.{◌∙◌, ap, sym, refl, subst, arith}
use Rattle.aw_dim.specs.DimensionState.{DimensionState}
use Rattle.aw_schema.specs.declared.definition.Def.{Def}
use Rattle.aw_var.specs.CellMap.{Cells}
use Rattle.aw_body.specs.declared.change.Fresh.{Fresh}
use Rattle.mv_core.specs.declared.entry.Reply.{Reply}
use Rattle.mv_core.specs.declared.entry.Reply.TheVariants.{Attached, Acquired, Resynced, Committed, Released, Detached, Owned, Newer, Stranger, Worn, TooLarge, Fault, NoMemory}
use Rattle.mv_view.specs.Each.{object_in, only, listed, names}
use Rattle.mv_view.specs.ViewState.{ObjectView, ViewState, kinds_of, kept_kinds, kept_objects}
use Rattle.mv_view.specs.Rules as rule
use Rattle.mv_view.proofs.callers.Fitting.{kinds-each, kind-cond}
use Rattle.mv_view.proofs.callers.Committing.{handed-over, kinds-seen}
use Rattle.ses_step.specs.declared.command.Asked.{Asked}
use Rattle.ses_step.specs.declared.command.Asked.TheVariants.{Runs, Refused}
use Rattle.ses_step.specs.declared.command.Command.{Command}
use Rattle.ses_step.specs.declared.session.Begun.{Begun}
use Rattle.ses_step.specs.declared.session.Begun.TheVariants.{Said, Ask}
use Rattle.ses_step.specs.declared.session.Known.{Known}
use Rattle.ses_step.specs.declared.session.Session.{Session}
use Rattle.ses_step.specs.SessionLines.{asked, begun_as, line_begun}
use Rattle.ses_step.specs.Sessions.{begun, kept_waiting, finished, kept_asked, given_asked, Sees, Allows}
use Rattle.ses_step.proofs.Begins.{begun-cases, sharing-cases}

-- ---- what a change makes of an object is of its definition

kind-renewed : (fresh : Option Fresh) (found : ObjectView) → (rule.renewed fresh found).kind ≡ found.kind
kind-renewed None found = refl
kind-renewed (Some fresh) found = refl

kind-acquired : (keep : List ℕ) (fresh : List Fresh) (at : ℕ) (found : ObjectView)
    → (rule.renewed (rule.latest_of fresh at) (listed (rule.objects_of fresh) rule.owning at (listed keep rule.owning at found))).kind ≡ found.kind
kind-acquired keep fresh at found =
    let kept = listed keep rule.owning at found in
    let owned = listed (rule.objects_of fresh) rule.owning at kept in
    kind-renewed (rule.latest_of fresh at) owned
    ∙ kind-cond (names (rule.objects_of fresh) at) (rule.owning kept) kept refl
    ∙ kind-cond (names keep at) (rule.owning found) found refl

kind-committed : (found : ObjectView) → (rule.after_commit found).kind ≡ found.kind
kind-committed found =
    let next = rule.committing found in
    kind-cond found.owned (rule.leaving_now next) found
    (kind-cond next.leaving (rule.giving_up next) next refl ∙ kind-cond (rule.is_staged found) _ found refl)

kind-released : (found : ObjectView) → (rule.releasing found).kind ≡ found.kind
kind-released found = kind-cond (rule.is_staged found) _ (rule.giving_up found) refl

-- ---- attaching

sees-attached : (definitions : List Def) (who : ℕ) (fresh : List Fresh) → rule.objects_of fresh ≡ kept_objects (kept_kinds definitions) → kinds_of (rule.attached who definitions fresh) ≡ kept_kinds definitions
sees-attached definitions who fresh objects =
    kinds-seen 0 definitions fresh (λ k object is. handed-over (kept_kinds definitions) fresh object objects ∙ ap (λ n. is_some (object_in (kept_kinds definitions) n)) (let e : object ≡ k = omega arith in e))

-- ---- a view that changes

module _ (definitions : List Def) where
  abbrev IsOfThem : ViewState → Type 0
  IsOfThem view = kinds_of view ≡ kept_kinds definitions

  sees-mapped : (change : ViewState → ViewState) (view : Option ViewState) → ((v : ViewState) → IsOfThem v → IsOfThem (change v)) → IfSome view IsOfThem → IfSome (option_map change view) IsOfThem
  sees-mapped change None keeps sees = tt
  sees-mapped change (Some view) keeps sees = keeps view sees

  sees-written : (object : ℕ) (cells : Cells) (view : ViewState) → IsOfThem view → IsOfThem (rule.written view object cells)
  sees-written object cells view sees =
      kinds-each 0 (only object (rule.with_cells cells)) view.objects (λ at found. kind-cond (object == at) (rule.with_cells cells found) found refl) ∙ sees

  sees-maintained : (object : ℕ) (values : DimensionState) (view : ViewState) → IsOfThem view → IsOfThem (rule.maintained view object values)
  sees-maintained object values view sees =
      kinds-each 0 (only object (rule.with_values values)) view.objects (λ at found. kind-cond (object == at) (rule.with_values values found) found refl) ∙ sees

  sees-updated : (objects : List ℕ) (view : ViewState) → IsOfThem view → IsOfThem (rule.updated view objects)
  sees-updated objects view sees =
      kinds-each 0 (listed objects rule.staging) view.objects (λ at found. kind-cond (names objects at) (rule.staging found) found refl) ∙ sees

  sees-reverted : (objects : List ℕ) (view : ViewState) → IsOfThem view → IsOfThem (rule.reverted view objects)
  sees-reverted objects view sees =
      kinds-each 0 (listed objects rule.reverting) view.objects (λ at found. kind-cond (names objects at) (rule.reverting found) found refl) ∙ sees

  sees-released : (objects : List ℕ) (view : ViewState) → IsOfThem view → IsOfThem (rule.released view objects)
  sees-released objects view sees =
      kinds-each 0 (listed objects rule.releasing) view.objects (λ at found. kind-cond (names objects at) (rule.releasing found) found (kind-released found)) ∙ sees

  sees-acquired : (keep : List ℕ) (fresh : List Fresh) (view : ViewState) → IsOfThem view → IsOfThem (rule.acquired view keep fresh)
  sees-acquired keep fresh view sees =
      kinds-each 0 (λ at found. rule.renewed (rule.latest_of fresh at) (listed (rule.objects_of fresh) rule.owning at (listed keep rule.owning at found))) view.objects (kind-acquired keep fresh) ∙ sees

  sees-resynced : (fresh : List Fresh) (view : ViewState) → IsOfThem view → IsOfThem (rule.resynced view fresh)
  sees-resynced fresh view sees =
      kinds-each 0 (λ at found. rule.renewed (rule.latest_of fresh at) found) view.objects (λ at found. kind-renewed (rule.latest_of fresh at) found) ∙ sees

  sees-committed : (view : ViewState) → IsOfThem view → IsOfThem (rule.committed view)
  sees-committed view sees = kinds-each 0 (λ at found. rule.after_commit found) view.objects (λ at found. kind-committed found) ∙ sees

-- ---- a session

-- beginning a command keeps it
pub sees-begun : (definitions : List Def) (s : Known) (own : Command) → Sees definitions s → Sees definitions (begun definitions s own).1
sees-begun definitions s own sees =
    begun-cases (λ after. Sees definitions after.1) definitions s (λ b. sees)
    (λ view is object cells room. sees-written definitions object cells view (of_them view is))
    (λ view is. sharing-cases (λ after. Sees definitions after.1) s view (λ b. sees)
    (λ objects. sees-released definitions objects view (of_them view is))
    (λ objects. sees-reverted definitions objects view (of_them view is))
    (λ objects. sees-updated definitions objects view (of_them view is))
    (λ object values. sees-maintained definitions object values view (of_them view is)))
    own
  where
    of_them : (view : ViewState) → s.view ≡ Some view → kinds_of view ≡ kept_kinds definitions
    of_them view is = subst (λ (v : Option ViewState). IfSome v (λ one. kinds_of one ≡ kept_kinds definitions)) is sees

-- the session that waits knows what it knew
waiting-knows : (own : Command) (b : Begun) (s : Known) → (kept_waiting own (b, s)).1.known ≡ s
waiting-knows own (Said answer) s = refl
waiting-knows own (Ask entry) s = refl

-- a line
pub sees-line_begun : (definitions : List Def) (s : Known) (line : List ℕ) (from : ℕ) → Sees definitions s → Sees definitions (line_begun definitions s line from).1.known
sees-line_begun definitions s line from sees = by (asked definitions s line from)
  where
    by : (it : Asked) → Sees definitions (begun_as definitions s it).1.known
    by (Refused refusal) = sees
    by (Runs own) =
        let b = begun definitions s own in
        subst (Sees definitions) (sym (waiting-knows own b.0 b.1)) (sees-begun definitions s own sees)

-- a reply keeps it
pub sees-finished : (definitions : List Def) (given : List (List ℕ)) (s : Session) (reply : Reply) → Sees definitions s.known → Allows definitions s reply → Sees definitions (finished definitions given s reply).1
sees-finished definitions given s (Attached fresh) sees allowed = sees-attached definitions s.known.who fresh allowed.0
sees-finished definitions given s (Acquired fresh) sees allowed = sees-mapped definitions (λ v. rule.acquired v (kept_asked s.asked) fresh) s.known.view (sees-acquired definitions (kept_asked s.asked) fresh) sees
sees-finished definitions given s (Resynced fresh) sees allowed = sees-mapped definitions (λ v. rule.resynced v fresh) s.known.view (sees-resynced definitions fresh) sees
sees-finished definitions given s Committed sees allowed = sees-mapped definitions rule.committed s.known.view (sees-committed definitions) sees
sees-finished definitions given s Released sees allowed = sees-mapped definitions (λ v. rule.released v (given_asked s.asked)) s.known.view (sees-released definitions (given_asked s.asked)) sees
sees-finished definitions given s Detached sees allowed = tt
sees-finished definitions given s (Owned object by) sees allowed = sees
sees-finished definitions given s (Newer object number) sees allowed = sees
sees-finished definitions given s (Stranger object) sees allowed = sees
sees-finished definitions given s (Worn object) sees allowed = sees
sees-finished definitions given s (TooLarge bytes) sees allowed = sees
sees-finished definitions given s Fault sees allowed = sees
sees-finished definitions given s NoMemory sees allowed = sees
