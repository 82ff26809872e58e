-- `same_cell` tells whether two cells are one value.
use Rattle.std.specs.Prelude.{◌≡◌, refl}
use Rattle.std.specs.Bool.{Decides}
use Rattle.std.specs.Cmp.{IsEquivalence, IsPartialEquivalence, partial_equiv_from_equiv, decided, booleans_Decides}
use Rattle.std.proofs.Common.{ap}
use Rattle.std.proofs.lemmas.Bool.Decides.{Decides-eqb, Decides-int_eq}
use Rattle.std.proofs.lemmas.Slice.Eq.{bytes_eq-Decides}
use Rattle.aw_cell.specs.declared.cell.Cell.{Cell}
use Rattle.aw_cell.specs.declared.cell.Cell.TheVariants.{Na, Num, Int, Text, Bool, Slot}
use Rattle.aw_cell.specs.Cell.{same_cell}

-- `same_cell a b` is true exactly where a and b are equal
pub same_cell-Decides : (a b : Cell) → Decides (same_cell a b) (a ≡ b)
same_cell-Decides Na Na = (λ e. refl, λ e. refl)
same_cell-Decides (Num a) (Num b) = let d = Decides-int_eq a b in (λ e. ap Num (d.0 e), λ e. d.1 cc)
same_cell-Decides (Int a) (Int b) = let d = Decides-int_eq a b in (λ e. ap Int (d.0 e), λ e. d.1 cc)
same_cell-Decides (Text a) (Text b) = let d = bytes_eq-Decides a b in (λ e. ap Text (d.0 e), λ e. d.1 cc)
same_cell-Decides (Bool a) (Bool b) = let d = booleans_Decides a b in (λ e. ap Bool (d.0 e), λ e. d.1 cc)
same_cell-Decides (Slot a) (Slot b) = let d = Decides-eqb a b in (λ e. ap Slot (d.0 e), λ e. d.1 cc)
same_cell-Decides _ _ = (λ e. cc, λ e. cc)

pub same_cell_equivalence : IsEquivalence same_cell
same_cell_equivalence = decided same_cell same_cell-Decides

pub same_cell_partial_equivalence : IsPartialEquivalence same_cell
same_cell_partial_equivalence = partial_equiv_from_equiv same_cell_equivalence
