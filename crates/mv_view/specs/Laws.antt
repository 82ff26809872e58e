-- What holds of a view: every call keeps that it fits, and what a commit of it has.
use Rattle.std.specs.Prelude.{ℕ, ◌≡◌, ◌≢◌, ◌↔◌, ◌<◌, ◌≤◌, ◌+◌, ◌++◌, true, false, not, List, [], ◌∷◌, filter, Option, Some, None, IfSome, MatchOption, cond, unwrap_or}
use Rattle.std.specs.Option.{IsSomeAnd}
use Rattle.std.specs.Ordering.{eq_by_cmp}
use Rattle.aw_cell.specs.declared.cell.Cell.{Cell}
use Rattle.aw_dim.specs.DimensionState.{DimensionState}
use Rattle.aw_schema.specs.declared.definition.Def.{Def}
use Rattle.aw_var.specs.CellMap.{Cells, by_slots}
use Rattle.aw_body.specs.declared.body.Body.{Body}
use Rattle.aw_body.specs.declared.body.Body.TheVariants.{Set}
use Rattle.aw_body.specs.declared.change.Change.{Change}
use Rattle.aw_body.specs.declared.change.Fresh.{Fresh}
use Rattle.aw_body.specs.Bodies.{IsBodyOf}
use Rattle.aw_body.specs.BodyPatches.{applied}
use Rattle.aw_body.specs.Generations.{Bodies, change_of, latest_number, latest_body}
use Rattle.aw_body.specs.KeptBodies.{bodies_from}
use Rattle.aw_body.specs.Owners.{Owners, owner_of, taken, given_up}
use Rattle.mv_view.specs.Each.{names, numbers_from, passes}
use Rattle.mv_view.specs.ViewState.{ObjectView, ViewState, object_of, AreSeen, AreOwned, AreCellsOf, kept_kinds, kept_objects}
use Rattle.mv_view.specs.Rules as rule
use Rattle.mv_view.specs.Fit.{Fits}
use Rattle.mv_view.specs.Recording.{AreRecordable}

-- ---- what a session does by itself

-- Cells that are written, slots that are selected, values of an owned dimension that are maintained, updating what is owned
-- and reverting keep that a view fits.
pub record OwnCallsFit (definitions : List Def) (bodies : Bodies Body Change) (history : List (List Change)) (owners : Owners) (view : ViewState) : Type 0 where
  pub written : (object : ℕ) (cells : Cells) → IsSomeAnd (object_of view object) (λ found. AreCellsOf found.kind cells) → Fits definitions bodies history owners (rule.written view object cells)
  pub selected : (object : ℕ) (slots : List ℕ) → IsSomeAnd (object_of view object) (λ found. IsBodyOf found.kind (Set slots)) → Fits definitions bodies history owners (rule.selected view object slots)
  pub maintained : (object : ℕ) (values : DimensionState) → IsSomeAnd (object_of view object) (λ found. found.owned ≡ true) → Fits definitions bodies history owners (rule.maintained view object values)
  pub updated : (objects : List ℕ) → AreOwned view objects → Fits definitions bodies history owners (rule.updated view objects)
  pub reverted : (objects : List ℕ) → Fits definitions bodies history owners (rule.reverted view objects)

abbrev pub OwnCallsKeepTheFit : Type 0
OwnCallsKeepTheFit =
    (definitions : List Def) (numbers : ℕ → ℕ) (firsts : ℕ → Body) (history : List (List Change)) (owners : Owners) (view : ViewState) →
    Fits definitions (bodies_from definitions numbers firsts) history owners view → OwnCallsFit definitions (bodies_from definitions numbers firsts) history owners view

-- ---- what follows a reply, counted with its step

-- what is handed over are latest generations
abbrev pub AreLatest : Bodies Body Change → List (List Change) → List Fresh → Type 0
AreLatest bodies history [] = Unit {0}
AreLatest bodies history (fresh ∷ rest) = (fresh.number ≡ latest_number bodies history fresh.object) × (fresh.body ≡ latest_body bodies history fresh.object) × AreLatest bodies history rest

-- attaching with the latest generation of each object, where the session owns nothing
abbrev pub AttachingFits : Type 0
AttachingFits =
    (definitions : List Def) (numbers : ℕ → ℕ) (firsts : ℕ → Body) (history : List (List Change)) (owners : Owners) (who : ℕ) (fresh : List Fresh) →
    rule.objects_of fresh ≡ kept_objects (kept_kinds definitions) →
    AreLatest (bodies_from definitions numbers firsts) history fresh →
    ((object : ℕ) → owner_of owners object ≢ Some who) →
    Fits definitions (bodies_from definitions numbers firsts) history owners (rule.attached who definitions fresh)

-- of each object of the plain list the session has the latest generation, or owns it
abbrev pub MayBeKept : Bodies Body Change → List (List Change) → ViewState → List ℕ → Type 0
MayBeKept bodies history view [] = Unit {0}
MayBeKept bodies history view (object ∷ rest) = IsSomeAnd (object_of view object) (λ found. found.owned ≡ false → latest_number bodies history object ≤ found.number) × MayBeKept bodies history view rest

-- ACQUIRE that was granted
abbrev pub AcquiringFits : Type 0
AcquiringFits =
    (definitions : List Def) (numbers : ℕ → ℕ) (firsts : ℕ → Body) (history : List (List Change)) (owners : Owners) (view : ViewState) (keep : List ℕ) (fresh : List Fresh) →
    Fits definitions (bodies_from definitions numbers firsts) history owners view →
    MayBeKept (bodies_from definitions numbers firsts) history view keep →
    AreLatest (bodies_from definitions numbers firsts) history fresh →
    Fits definitions (bodies_from definitions numbers firsts) history (taken owners view.who (keep ++ rule.objects_of fresh)) (rule.acquired view keep fresh)

-- RESYNC
abbrev pub ResyncingFits : Type 0
ResyncingFits =
    (definitions : List Def) (numbers : ℕ → ℕ) (firsts : ℕ → Body) (history : List (List Change)) (owners : Owners) (view : ViewState) (fresh : List Fresh) →
    Fits definitions (bodies_from definitions numbers firsts) history owners view →
    AreLatest (bodies_from definitions numbers firsts) history fresh →
    Fits definitions (bodies_from definitions numbers firsts) history owners (rule.resynced view fresh)

-- a commit is added where it changes anything
abbrev pub grown : List (List Change) → List Change → List (List Change)
grown history [] = history
grown history (change ∷ changes) = history ++ (change ∷ changes) ∷ []

-- the objects that are marked as leaving
abbrev pub leaving_objects : ViewState → List ℕ
leaving_objects view = numbers_from (λ (found : ObjectView). found.leaving) 0 view.objects

-- the number of each object that a commit changes can rise
abbrev pub CanRise : ViewState → Type 0
CanRise view =
    (object : ℕ) → IfSome (object_of view object) (λ found. found.owned ≡ true → rule.is_staged found ≡ true → found.number < 18446744073709551615)

-- COMMIT that was granted: its changes are added, and what was leaving is given up
abbrev pub CommittingFits : Type 0
CommittingFits =
    (definitions : List Def) (numbers : ℕ → ℕ) (firsts : ℕ → Body) (history : List (List Change)) (owners : Owners) (view : ViewState) →
    AreSeen view.objects → CanRise view →
    Fits definitions (bodies_from definitions numbers firsts) history owners view →
    Fits definitions (bodies_from definitions numbers firsts) (grown history (rule.changes view)) (given_up owners view.who (leaving_objects view)) (rule.committed view)

-- the objects of a list of which nothing is staged
abbrev pub unstaged_in : ViewState → List ℕ → List ℕ
unstaged_in view objects = filter (λ object. not (passes rule.is_staged (object_of view object))) objects

-- RELEASE: those of which nothing is staged are given up
abbrev pub ReleasingFits : Type 0
ReleasingFits =
    (definitions : List Def) (numbers : ℕ → ℕ) (firsts : ℕ → Body) (history : List (List Change)) (owners : Owners) (view : ViewState) (objects : List ℕ) →
    AreSeen view.objects → AreOwned view objects →
    Fits definitions (bodies_from definitions numbers firsts) history owners view →
    Fits definitions (bodies_from definitions numbers firsts) history (given_up owners view.who (unstaged_in view objects)) (rule.released view objects)

-- ---- what another session does

-- a commit that changes nothing that the session owns, and owners that change at other objects
abbrev pub OthersKeepTheFit : Type 0
OthersKeepTheFit =
    (definitions : List Def) (numbers : ℕ → ℕ) (firsts : ℕ → Body) (history : List (List Change)) (owners after : Owners) (commit : List Change) (view : ViewState) →
    ((object : ℕ) → owner_of owners object ≡ Some view.who → change_of (bodies_from definitions numbers firsts) object commit ≡ None) →
    ((object : ℕ) → (owner_of after object ≡ Some view.who) ↔ (owner_of owners object ≡ Some view.who)) →
    Fits definitions (bodies_from definitions numbers firsts) history owners view →
    Fits definitions (bodies_from definitions numbers firsts) (grown history commit) after view

-- ---- what a commit has

-- changes that a session may commit: by rising object, each of an object of its own, and fitting its latest body
abbrev pub MayCommit : Bodies Body Change → List (List Change) → Owners → ℕ → ℕ → List Change → Type 0
MayCommit bodies history owners who least [] = Unit {0}
MayCommit bodies history owners who least (change ∷ rest) = (least ≤ change.object) × (owner_of owners change.object ≡ Some who) × (bodies.fits (latest_body bodies history change.object) change ≡ true) × MayCommit bodies history owners who (change.object + 1) rest

-- so that a commit of them is never refused as a stranger's
abbrev pub ChangesMayBeCommitted : Type 0
ChangesMayBeCommitted =
    (definitions : List Def) (numbers : ℕ → ℕ) (firsts : ℕ → Body) (history : List (List Change)) (owners : Owners) (view : ViewState) →
    AreSeen view.objects → AreRecordable view →
    Fits definitions (bodies_from definitions numbers firsts) history owners view →
    MayCommit (bodies_from definitions numbers firsts) history owners view.who 0 (rule.changes view)

-- a change of an owned object whose staged body differs from its base, which makes the staged body of the base
abbrev pub ChangeTells : ObjectView → Change → Type 0
ChangeTells found change = (found.owned ≡ true) × (found.staged ≢ found.base) × (applied found.base change.patch ≡ found.staged)

-- A commit has a change of an object exactly where it is owned and its staged body differs from its base.
abbrev pub ChangesAreWhatIsStaged : Type 0
ChangesAreWhatIsStaged =
    (definitions : List Def) (numbers : ℕ → ℕ) (firsts : ℕ → Body) (view : ViewState) (object : ℕ) → AreSeen view.objects →
    MatchOption (change_of (bodies_from definitions numbers firsts) object (rule.changes view))
    (IfSome (object_of view object) (λ found. found.owned ≡ true → found.staged ≡ found.base))
    (λ change. IsSomeAnd (object_of view object) (λ found. ChangeTells found change))

-- What is written, selected or reverted is in no commit: it is the same before and after.
pub record PrivateStaysPrivate (view : ViewState) : Type 0 where
  pub written : (object : ℕ) (cells : Cells) → rule.changes (rule.written view object cells) ≡ rule.changes view
  pub selected : (object : ℕ) (slots : List ℕ) → rule.changes (rule.selected view object slots) ≡ rule.changes view
  pub reverted : (objects : List ℕ) → rule.changes (rule.reverted view objects) ≡ rule.changes view

abbrev pub WhatIsPrivateIsNotCommitted : Type 0
WhatIsPrivateIsNotCommitted = (view : ViewState) → PrivateStaysPrivate view

-- Behind a commit that was granted nothing is staged.
abbrev pub NothingIsLeftStaged : Type 0
NothingIsLeftStaged = (view : ViewState) → AreSeen view.objects → rule.changes (rule.committed view) ≡ []

-- REVERT gives back what was staged.
abbrev pub RevertGivesBack : Type 0
RevertGivesBack =
    (view : ViewState) (objects : List ℕ) (object : ℕ) →
    IfSome (object_of view object) (λ found. rule.private_of (rule.reverted view objects) object ≡ Some (cond (names objects object) found.staged found.private))

-- the last cell that a list has for a key
abbrev pub last_at : Cells → List ℕ → Option Cell
last_at [] key = None
last_at (pair ∷ rest) key = elim (last_at rest key) [ None ↦ cond (eq_by_cmp by_slots key pair.0) (Some pair.1) None | Some last ↦ Some last ]

-- A write changes the private cells of one object at exactly its keys, to the last cell that it has for each, and leaves
-- every other object as it was.
pub record WritesCells (view : ViewState) (object : ℕ) (cells : Cells) : Type 0 where
  pub private : (key : List ℕ) → rule.private_cell (rule.written view object cells) object key ≡ unwrap_or (last_at cells key) (rule.private_cell view object key)
  pub others : (other : ℕ) → other ≢ object → object_of (rule.written view object cells) other ≡ object_of view other

abbrev pub WritesThoseCells : Type 0
WritesThoseCells = (view : ViewState) (object : ℕ) (cells : Cells) → AreSeen view.objects → IsSomeAnd (object_of view object) (λ found. AreCellsOf found.kind cells) → WritesCells view object cells
