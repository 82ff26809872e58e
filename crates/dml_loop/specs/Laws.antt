-- What holds of loops.
use Rattle.std.specs.Prelude.{◌≡◌, ◌≢◌, ℕ, ◌∷◌, [], ◌++◌, List, length, map, Result, Ok, Err, IsOk, All}
use Rattle.aw_cell.specs.declared.cell.Cell.{Cell}
use Rattle.dml_loop.specs.declared.fault.LoopFault.{LoopFault}
use Rattle.dml_loop.specs.Loops.{Place, places, combinations}
use Rattle.dml_loop.specs.Evaluation.{slots_at, entry_of, assigned}

-- there are as many places as the product of the lengths
abbrev pub PlacesAreTheProduct : Type 0
PlacesAreTheProduct = (lists : List (ℕ × List ℕ)) → length (places lists) ≡ combinations lists

-- no element stands twice
abbrev pub AreApart : {A : Type 0} → List A → Type 0
AreApart [] = Unit {0}
AreApart (x ∷ xs) = All (λ y. x ≢ y) xs × AreApart xs

-- what is stored: one cell at the coordinate of each place, in loop order, so many as there are combinations; and where
-- no list has a slot twice, no coordinate comes twice
pub record IsAssigned (lists : List (ℕ × List ℕ)) (entries : List (List ℕ × Cell)) : Type 0 where
  pub at_places : map (λ entry. entry.0) entries ≡ map slots_at (places lists)
  pub count : length entries ≡ combinations lists
  pub once : All (λ list. AreApart list.1) lists → AreApart (map (λ entry. entry.0) entries)

abbrev pub EachPlaceIsAssigned : Type 0
EachPlaceIsAssigned = (value : Place → Result Cell LoopFault) (becomes : Cell → Result Cell LoopFault) (lists : List (ℕ × List ℕ)) (entries : List (List ℕ × Cell)) → assigned value becomes (places lists) ≡ Ok entries → IsAssigned lists entries

-- the first place that is refused, in loop order
pub record IsFirstRefusal (entry : Place → Result (List ℕ × Cell) LoopFault) (all : List Place) (why : LoopFault) : Type 0 where
  pub before : List Place
  pub place : Place
  pub after : List Place
  pub is : all ≡ before ++ place ∷ after
  pub fine : All (λ other. IsOk (entry other)) before
  pub refused : entry place ≡ Err why

abbrev pub FirstRefusalDecides : Type 0
FirstRefusalDecides = (value : Place → Result Cell LoopFault) (becomes : Cell → Result Cell LoopFault) (lists : List (ℕ × List ℕ)) (why : LoopFault) → assigned value becomes (places lists) ≡ Err why → IsFirstRefusal (entry_of value becomes) (places lists) why
