-- What a commit can record of a staged body: a dimension's next slot isn't below that of the base, the slots of a valueset
-- are distinct, and no cell is the least INTEGER.
use Rattle.std.specs.Prelude.{ℕ, ◌≡◌, ◌≤◌, Bool, true, IfSome}
use Rattle.std.specs.List.{list_all}
use Rattle.aw_var.specs.CellMap.{Cells}
use Rattle.aw_body.specs.declared.body.Body.{Body}
use Rattle.aw_body.specs.declared.body.Body.TheVariants.{Dim, Rel, Set, Var}
use Rattle.aw_body.specs.Fitting.{is_recorded, are_distinct}
use Rattle.mv_view.specs.ViewState.{ViewState, object_of}

abbrev pub are_recorded : Cells → Bool
are_recorded cells = list_all (λ pair. is_recorded pair.1) cells

abbrev pub CanBeRecorded : Body → Body → Type 0
CanBeRecorded (Dim base) (Dim staged) = base.next ≤ staged.next
CanBeRecorded base (Set slots) = are_distinct slots ≡ true
CanBeRecorded base (Rel contents) = are_recorded contents.cells ≡ true
CanBeRecorded base (Var contents) = are_recorded contents.cells ≡ true
CanBeRecorded base staged = ⊥

-- what a session staged of each object
abbrev pub AreRecordable : ViewState → Type 0
AreRecordable view = (object : ℕ) → IfSome (object_of view object) (λ found. CanBeRecorded found.base found.staged)
