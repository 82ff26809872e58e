-- Why differences and compositions of bodies do what they are to do.
use Rattle.std.specs.Prelude.{ℕ, ◌≡◌, ◌≢◌, Bool, true, false, List, [], ◌∷◌, Some, None, MatchOption, nat_eq, if◌then◌else◌}
use Rattle.std.specs.Cmp.Lexicographic.{pointwise, bytes_decides}
use Rattle.std.proofs.Common.{◌∙◌, ap, sym, refl, subst}
use Rattle.std.proofs.lemmas.Bool.{false≢true}
use Rattle.aw_dim.specs.DimensionState as dimension
use Rattle.aw_dim.specs.SameValues.{same_values, same_values-Decides}
use Rattle.aw_var.specs.CellMap.{Cells}
use Rattle.aw_var.specs.CellPatch as cells
use Rattle.aw_var.specs.Variable.{Contents}
use Rattle.aw_var.specs.Laws as laws
use Rattle.aw_body.specs.declared.body.Body.{Body}
use Rattle.aw_body.specs.declared.body.Body.TheVariants.{Dim, Rel, Set, Var}
use Rattle.aw_body.specs.declared.patch.BodyPatch.{BodyPatch}
use Rattle.aw_body.specs.declared.patch.BodyPatch.TheVariants.{Values, Slots, Cells as CellPatch}
use Rattle.aw_body.specs.Bodies.{IsBody, AreAlike}
use Rattle.aw_body.specs.BodyPatches.{applied, difference, composed, AreChangesOf, IsOfItsForm, some_cells}
use Rattle.aw_body.specs.Laws.{MakesNewer}
use Rattle.aw_body.proofs.DifferenceForm.{difference-form}

-- ---- what is composed does what both do

pub composed-does-both : laws.ComposedDoesBoth → (body : Body) (first second : BodyPatch) → IsBody body → IsOfItsForm body first → IsOfItsForm body second → applied (applied body first) second ≡ applied body (composed first second)
composed-does-both both (Dim v) (Values p) (Values q) is first_form second_form = refl
composed-does-both both (Dim v) (Values p) (Slots q) is first_form second_form = absurd second_form
composed-does-both both (Dim v) (Values p) (CellPatch q) is first_form second_form = absurd second_form
composed-does-both both (Dim v) (Slots p) second is first_form second_form = absurd first_form
composed-does-both both (Dim v) (CellPatch p) second is first_form second_form = absurd first_form
composed-does-both both (Set v) (Values p) second is first_form second_form = absurd first_form
composed-does-both both (Set v) (Slots p) (Values q) is first_form second_form = absurd second_form
composed-does-both both (Set v) (Slots p) (Slots q) is first_form second_form = refl
composed-does-both both (Set v) (Slots p) (CellPatch q) is first_form second_form = absurd second_form
composed-does-both both (Set v) (CellPatch p) second is first_form second_form = absurd first_form
composed-does-both both (Rel c) (Values p) second is first_form second_form = absurd first_form
composed-does-both both (Rel c) (Slots p) second is first_form second_form = absurd first_form
composed-does-both both (Rel c) (CellPatch p) (Values q) is first_form second_form = absurd second_form
composed-does-both both (Rel c) (CellPatch p) (Slots q) is first_form second_form = absurd second_form
composed-does-both both (Rel c) (CellPatch p) (CellPatch q) is first_form second_form = ap (λ (all : Cells). Rel (record c { cells = all })) (both c.cells p q is.map first_form)
composed-does-both both (Var c) (Values p) second is first_form second_form = absurd first_form
composed-does-both both (Var c) (Slots p) second is first_form second_form = absurd first_form
composed-does-both both (Var c) (CellPatch p) (Values q) is first_form second_form = absurd second_form
composed-does-both both (Var c) (CellPatch p) (Slots q) is first_form second_form = absurd second_form
composed-does-both both (Var c) (CellPatch p) (CellPatch q) is first_form second_form = ap (λ (all : Cells). Var (record c { cells = all })) (both c.cells p q is.map first_form)

-- ---- a difference gives the newer body

same-contents : (one other : Contents) → (one.slots ≡ other.slots) × (one.kind ≡ other.kind) → one.cells ≡ other.cells → one ≡ other
same-contents one other alike same =
    let contents : one ≡ other = λ i. record { slots = alike.0 i; kind = alike.1 i; cells = same i } in contents

some-change : {A : Type 0} {patch changes : List A} {change : A} → patch ≡ change ∷ changes → patch ≡ [] → ⊥
some-change is none = cc

abbrev values_of : Body → dimension.DimensionState
values_of (Dim values) = values
values_of (Rel contents) = record { entries = []; next = 0 }
values_of (Set slots) = record { entries = []; next = 0 }
values_of (Var contents) = record { entries = []; next = 0 }

abbrev slots_of : Body → List ℕ
slots_of (Dim values) = []
slots_of (Rel contents) = []
slots_of (Set slots) = slots
slots_of (Var contents) = []

abbrev cells_of : Body → Cells
cells_of (Dim values) = []
cells_of (Rel contents) = contents.cells
cells_of (Set slots) = []
cells_of (Var contents) = contents.cells

values-newer : (older newer : dimension.DimensionState) → MatchOption (difference (Dim older) (Dim newer)) (Dim older ≡ Dim newer) (MakesNewer (Dim older) (Dim newer))
values-newer older newer = by (same_values older newer) refl
  where
    by : (same : Bool) → same_values older newer ≡ same → MatchOption (if same then None else Some (Values newer)) (Dim older ≡ Dim newer) (MakesNewer (Dim older) (Dim newer))
    by true is = ap Dim ((same_values-Decides older newer).0 is)
    by false is = record { differ = λ same. false≢true (sym is ∙ (same_values-Decides older newer).1 (ap values_of same)); makes = refl; form = tt; fits = tt }

slots-newer : (older newer : List ℕ) → MatchOption (difference (Set older) (Set newer)) (Set older ≡ Set newer) (MakesNewer (Set older) (Set newer))
slots-newer older newer = by (pointwise nat_eq older newer) refl
  where
    by : (same : Bool) → pointwise nat_eq older newer ≡ same → MatchOption (if same then None else Some (Slots newer)) (Set older ≡ Set newer) (MakesNewer (Set older) (Set newer))
    by true is = ap Set ((bytes_decides older newer).0 is)
    by false is = record { differ = λ same. false≢true (sym is ∙ (bytes_decides older newer).1 (ap slots_of same)); makes = refl; form = tt; fits = tt }

rel-newer : (older newer : Contents) → AreChangesOf older (cells.difference older.cells newer.cells) → cells.overwritten older.cells (cells.difference older.cells newer.cells) ≡ newer.cells → laws.TellsApart older.cells newer.cells (cells.difference older.cells newer.cells) → (older.slots ≡ newer.slots) × (older.kind ≡ newer.kind) → (patch : Cells) → cells.difference older.cells newer.cells ≡ patch → MatchOption (some_cells patch) (Rel older ≡ Rel newer) (MakesNewer (Rel older) (Rel newer))
rel-newer older newer form gives apart alike [] is = ap Rel (same-contents older newer alike (apart.empty.0 is))
rel-newer older newer form gives apart alike (change ∷ changes) is = record {
  differ = λ same. some-change is (apart.empty.1 (ap cells_of same));
  makes = ap Rel (same-contents (record older { cells = cells.overwritten older.cells (change ∷ changes) }) newer alike (sym (ap (cells.overwritten older.cells) is) ∙ gives));
  form = subst laws.IsRising is apart.rising;
  fits = subst (λ (patch : Cells). AreChangesOf older patch) is form;
}

var-newer : (older newer : Contents) → AreChangesOf older (cells.difference older.cells newer.cells) → cells.overwritten older.cells (cells.difference older.cells newer.cells) ≡ newer.cells → laws.TellsApart older.cells newer.cells (cells.difference older.cells newer.cells) → (older.slots ≡ newer.slots) × (older.kind ≡ newer.kind) → (patch : Cells) → cells.difference older.cells newer.cells ≡ patch → MatchOption (some_cells patch) (Var older ≡ Var newer) (MakesNewer (Var older) (Var newer))
var-newer older newer form gives apart alike [] is = ap Var (same-contents older newer alike (apart.empty.0 is))
var-newer older newer form gives apart alike (change ∷ changes) is = record {
  differ = λ same. some-change is (apart.empty.1 (ap cells_of same));
  makes = ap Var (same-contents (record older { cells = cells.overwritten older.cells (change ∷ changes) }) newer alike (sym (ap (cells.overwritten older.cells) is) ∙ gives));
  form = subst laws.IsRising is apart.rising;
  fits = subst (λ (patch : Cells). AreChangesOf older patch) is form;
}

pub difference-gives-newer : laws.DifferenceGivesNewer → laws.DifferenceTellsApart → (older newer : Body) → IsBody older → IsBody newer → AreAlike older newer → MatchOption (difference older newer) (older ≡ newer) (MakesNewer older newer)
difference-gives-newer gives apart (Dim one) (Dim other) is newer_is alike = values-newer one other
difference-gives-newer gives apart (Dim one) (Rel other) is newer_is alike = absurd alike
difference-gives-newer gives apart (Dim one) (Set other) is newer_is alike = absurd alike
difference-gives-newer gives apart (Dim one) (Var other) is newer_is alike = absurd alike
difference-gives-newer gives apart (Rel one) (Dim other) is newer_is alike = absurd alike
difference-gives-newer gives apart (Rel one) (Rel other) is newer_is alike = rel-newer one other (difference-form one other is newer_is alike) (gives one.cells other.cells is.map newer_is.map) (apart one.cells other.cells is.map newer_is.map) alike (cells.difference one.cells other.cells) refl
difference-gives-newer gives apart (Rel one) (Set other) is newer_is alike = absurd alike
difference-gives-newer gives apart (Rel one) (Var other) is newer_is alike = absurd alike
difference-gives-newer gives apart (Set one) (Dim other) is newer_is alike = absurd alike
difference-gives-newer gives apart (Set one) (Rel other) is newer_is alike = absurd alike
difference-gives-newer gives apart (Set one) (Set other) is newer_is alike = slots-newer one other
difference-gives-newer gives apart (Set one) (Var other) is newer_is alike = absurd alike
difference-gives-newer gives apart (Var one) (Dim other) is newer_is alike = absurd alike
difference-gives-newer gives apart (Var one) (Rel other) is newer_is alike = absurd alike
difference-gives-newer gives apart (Var one) (Set other) is newer_is alike = absurd alike
difference-gives-newer gives apart (Var one) (Var other) is newer_is alike = var-newer one other (difference-form one other is newer_is alike) (gives one.cells other.cells is.map newer_is.map) (apart one.cells other.cells is.map newer_is.map) alike (cells.difference one.cells other.cells) refl
