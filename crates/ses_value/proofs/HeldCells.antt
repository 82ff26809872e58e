-- What holds of cells that can be held.
use Rattle.std.proofs.Common.{◌≡◌, ℕ, suc, ◌==◌, Bool as Truth, true, false, ◌&&◌, List, [], ◌∷◌, length, get_or, Fits, w16, ℤ, refl, arith}
use Rattle.std.specs.Prelude.{IsTrue, nat_lt}
use Rattle.std.specs.List.{list_all}
use Rattle.std.proofs.lemmas.Bool.{and_from}
use Rattle.std.proofs.lemmas.Bool.Decides.{Decides-ltb, nat_tests}
use Rattle.std.proofs.lemmas.Int.{ints}
use Rattle.aw_cell.specs.declared.cell.Cell.{Cell}
use Rattle.aw_cell.specs.declared.cell.Cell.TheVariants.{Num}
use Rattle.aw_cell.specs.declared.cell.Kind.{Kind}
use Rattle.aw_cell.specs.Number.{IsInRange}
use Rattle.aw_page.specs.Fitting.{is_of_kind}
use Rattle.ses_value.specs.Held.{is_in_range, is_held}

pub number_in_range : (units : ℤ) → IsInRange units → IsTrue (is_in_range (Num units))
number_in_range units h = grind (arith, ints, nat_tests)

pub slots_in_range : (slots : List ℕ) → ((k : ℕ) → Fits w16 (get_or slots k 0)) → IsTrue (list_all (λ slot. nat_lt slot 65536) slots)
slots_in_range [] each = refl
slots_in_range (slot ∷ slots) each = and_from (nat_lt slot 65536) (list_all (λ one. nat_lt one 65536) slots) ((Decides-ltb slot 65536).1 (omega (arith, each 0))) (slots_in_range slots (λ k. each (suc k)))

regrouped : (long all kind range : Truth) → all ≡ true → (long && (kind && range)) ≡ (long && all && kind && range)
regrouped true true kind range is = refl
regrouped false true kind range is = refl
regrouped long false kind range is = absurd cc

-- a key of the length has slots of 16 bits
pub held_by_parts : (slots : ℕ) (kind : Kind) (at : List ℕ) (cell : Cell) → IsTrue (list_all (λ slot. nat_lt slot 65536) at) →
    ((length at == slots) && (is_of_kind kind cell && is_in_range cell)) ≡ is_held slots kind (at, cell)
held_by_parts slots kind at cell all = regrouped (length at == slots) (list_all (λ slot. nat_lt slot 65536) at) (is_of_kind kind cell) (is_in_range cell) all
