-- What the rules do together.
use Rattle.std.specs.Prelude.{ℕ, ◌≡◌, ◌+◌, ◌||◌, false, ◌∷◌, [], ◌⊎◌, List, length, IsTrue}
use Rattle.aw_dim.specs.DimensionState.{DimensionState}
use Rattle.aw_status.specs.Rules.{is_among, all_slots, limited_to, added, kept, removed, complement, AreValues}

-- no slot stands twice
abbrev pub AreOnce : List ℕ → Type 0
AreOnce [] = Unit {0}
AreOnce (slot ∷ slots) = (is_among slots slot ≡ false) × AreOnce slots

-- KEEP and REMOVE of one list part a status: each of its values is in just one of the two, and they are as many together
pub record Parts (status list : List ℕ) : Type 0 where
  pub either : (slot : ℕ) → is_among status slot ≡ (is_among (kept status list) slot || is_among (removed status list) slot)
  pub not_both : (slot : ℕ) → IsTrue (is_among (kept status list) slot) → IsTrue (is_among (removed status list) slot) → ⊥
  pub count : length (kept status list) + length (removed status list) ≡ length status

abbrev pub KeepingAndRemovingPart : Type 0
KeepingAndRemovingPart = (status list : List ℕ) → Parts status list

-- a list is another one without some of its slots
abbrev pub IsThinned : List ℕ → List ℕ → Type 0
IsThinned [] slots = Unit {0}
IsThinned (slot ∷ rest) [] = ⊥
IsThinned (slot ∷ rest) (other ∷ slots) = ((slot ≡ other) × IsThinned rest slots) ⊎ IsThinned (slot ∷ rest) slots

-- KEEP takes values out of the status, and never reorders it, whatever the order of the list
abbrev pub KeepingKeepsTheOrder : Type 0
KeepingKeepsTheOrder =
    ((status list : List ℕ) → IsThinned (kept status list) status) ×
    ((status list other : List ℕ) → ((slot : ℕ) → is_among list slot ≡ is_among other slot) → kept status list ≡ kept status other)

-- ADD never repeats: where no value stands twice in a status, none does after it
abbrev pub AddingNeverRepeats : Type 0
AddingNeverRepeats = (status list : List ℕ) → AreOnce status → AreOnce (added status list)

-- the complement of the complement is the list's values in the dimension's order
abbrev pub ComplementOfComplement : Type 0
ComplementOfComplement = (values : DimensionState) (list : List ℕ) → complement values (complement values list) ≡ kept (all_slots values) list

-- what is selected are values of the dimension
pub record SelectsValues (values : DimensionState) (status list : List ℕ) : Type 0 where
  pub to : AreValues values (limited_to list)
  pub add : AreValues values (added status list)
  pub keep : AreValues values (kept status list)
  pub remove : AreValues values (removed status list)
  pub complement_is : AreValues values (complement values list)

abbrev pub RulesSelectValues : Type 0
RulesSelectValues = (values : DimensionState) (status list : List ℕ) → AreValues values status → AreValues values list → SelectsValues values status list
