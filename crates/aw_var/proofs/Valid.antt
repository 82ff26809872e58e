-- What holds of every variable.
use Rattle.std.proofs.Common.{◌≡◌, ℕ, ◌+◌, ◌*◌, ◌^◌, ◌<◌, Bool, true, false, cond, not, ◌&&◌, ◌==◌, List, [], ◌∷◌, length, refl, sym, ap, subst, ◌∙◌}
use Rattle.std.specs.Prelude.{nat_lt}
use Rattle.std.specs.List.{list_all}
use Rattle.std.specs.Ordering.{nat_cmp, is_lt}
use Rattle.std.specs.FinMap.{is_sorted}
use Rattle.std.specs.FinMap.Entries.{below_all}
use Rattle.std.proofs.lemmas.Bool.Decides.{Decides-ltb, Decides-eqb}
use Rattle.aw_cell.specs.declared.cell.Cell.{Cell}
use Rattle.aw_cell.specs.declared.cell.Kind.{Kind}
use Rattle.aw_page.specs.Fitting.{is_na, is_of_kind}
use Rattle.aw_lists.specs.Coord.{AreSlots}
use Rattle.aw_var.specs.CellMap.{by_slots}
use Rattle.aw_var.specs.Variable.{Contents, IsVariable, is_pair_of}
use Rattle.aw_var.specs.inside.NumberedMap.{NumberedMap, IsNumberedMap}
use Rattle.aw_var.specs.inside.Sheets.{Sheets, numbered, all_numbered, AreSheets}
use Rattle.aw_var.specs.inside.Unpacking.{unpacked, with_coords, AreNumbersOf}
use Rattle.aw_var.proofs.callers.FiniteMaps.{both_true, and_true, slots_all}
use Rattle.aw_var.proofs.Numbers.{list_all-append}
use Rattle.aw_var.proofs.Sheets.{EachSheet, EachSheet-AreSheets, IsMapBy-all}
use Rattle.aw_var.proofs.Puts.{shown}
use Rattle.aw_var.proofs.Unpacking.{below, contents, by_slots-unpacked, AreSlots-unpacked, length-unpacked}

fitting-numbered : (kind : Kind) (from : ℕ) (cells : List Cell) → list_all (is_of_kind kind) cells ≡ true → list_all (λ pair. is_of_kind kind pair.1) (numbered from cells) ≡ true
fitting-numbered kind from [] h = refl
fitting-numbered kind from (c ∷ cs) h =
    let parts = both_true (is_of_kind kind c) (list_all (is_of_kind kind) cs) h in
    let rest = fitting-numbered kind (from + 1) cs parts.1 in
    elim (is_na c) as (λ b. list_all (λ (pair : ℕ × Cell). is_of_kind kind pair.1) (cond b (numbered (from + 1) cs) ((from, c) ∷ numbered (from + 1) cs)) ≡ true) [
      | true ↦ rest
      | false ↦ and_true (is_of_kind kind c) (list_all (λ pair. is_of_kind kind pair.1) (numbered (from + 1) cs)) parts.0 rest
    ]

fitting-all : (kind : Kind) (es : Sheets) → EachSheet kind es → list_all (λ pair. is_of_kind kind pair.1) (all_numbered es) ≡ true
fitting-all kind [] each = refl
fitting-all kind (e ∷ es) each =
    list_all-append (λ pair. is_of_kind kind pair.1) (numbered (64 * e.0) e.1.1) (all_numbered es) (fitting-numbered kind (64 * e.0) e.1.1 each.0.fitting) (fitting-all kind es each.1)

pub numbered_valid : (kind : Kind) (es : Sheets) (now : NumberedMap) → AreSheets kind es → shown kind es ≡ now → IsNumberedMap now
numbered_valid kind es now h is =
    subst (λ (m : NumberedMap). IsNumberedMap m) is (record { cells = IsMapBy-all kind es h; fitting = fitting-all kind es (EachSheet-AreSheets kind es h) })

below_all-coords : (slots q : ℕ) (cells : List (ℕ × Cell)) → q < 65536 ^ slots → below slots cells ≡ true → below_all by_slots (unpacked slots q) (with_coords slots cells) ≡ below_all nat_cmp q cells
below_all-coords slots q [] h all = refl
below_all-coords slots q (e ∷ es) h all =
    let parts = both_true (nat_lt e.0 (65536 ^ slots)) (below slots es) all in
    λ i. is_lt (by_slots-unpacked slots q e.0 h ((Decides-ltb e.0 (65536 ^ slots)).0 parts.0) i) && below_all-coords slots q es h parts.1 i

is_sorted-coords : (slots : ℕ) (cells : List (ℕ × Cell)) → below slots cells ≡ true → is_sorted by_slots (with_coords slots cells) ≡ is_sorted nat_cmp cells
is_sorted-coords slots [] all = refl
is_sorted-coords slots (e ∷ es) all =
    let parts = both_true (nat_lt e.0 (65536 ^ slots)) (below slots es) all in
    λ i. below_all-coords slots e.0 es ((Decides-ltb e.0 (65536 ^ slots)).0 parts.0) parts.1 i && is_sorted-coords slots es parts.1 i

present-coords : (slots : ℕ) (cells : List (ℕ × Cell)) → list_all (λ pair. not (is_na pair.1)) (with_coords slots cells) ≡ list_all (λ pair. not (is_na pair.1)) cells
present-coords slots [] = refl
present-coords slots (e ∷ es) = ap (λ b. not (is_na e.1) && b) (present-coords slots es)

pairs-coords : (slots : ℕ) (kind : Kind) (cells : List (ℕ × Cell)) → below slots cells ≡ true → list_all (λ pair. is_of_kind kind pair.1) cells ≡ true → list_all (is_pair_of slots kind) (with_coords slots cells) ≡ true
pairs-coords slots kind [] all fits = refl
pairs-coords slots kind (e ∷ es) all fits =
    let parts = both_true (nat_lt e.0 (65536 ^ slots)) (below slots es) all in
    let kinds = both_true (is_of_kind kind e.1) (list_all (λ pair. is_of_kind kind pair.1) es) fits in
    let key = unpacked slots e.0 in
    let long : (length key == slots) ≡ true = (Decides-eqb (length key) slots).1 (length-unpacked slots e.0) in
    let range = slots_all key (AreSlots-unpacked slots e.0 ((Decides-ltb e.0 (65536 ^ slots)).0 parts.0)) in
    and_true (is_pair_of slots kind (key, e.1)) (list_all (is_pair_of slots kind) (with_coords slots es))
    (and_true ((length key == slots) && list_all (λ slot. nat_lt slot 65536) key) (is_of_kind kind e.1) (and_true (length key == slots) (list_all (λ slot. nat_lt slot 65536) key) long range) kinds.0)
    (pairs-coords slots kind es parts.1 kinds.1)

pub variable_valid : (slots : ℕ) (map : NumberedMap) (now : Contents) → AreNumbersOf slots map.cells → contents slots map.kind map.cells ≡ now → IsNumberedMap map → IsVariable now
variable_valid slots map now numbers is valid =
    subst (λ (c : Contents). IsVariable c) is (record {
      few = numbers.few;
      map = record { rising = is_sorted-coords slots map.cells numbers.below ∙ valid.cells.rising; present = present-coords slots map.cells ∙ valid.cells.present };
      pairs = pairs-coords slots map.kind map.cells numbers.below valid.fitting;
    })

no_pairs : (slots : ℕ) (cells : List (ℕ × Cell)) → with_coords slots cells ≡ [] → cells ≡ []
no_pairs slots [] none = refl
no_pairs slots (e ∷ es) none = cc

pub empty_variable : (slots : ℕ) (map : NumberedMap) (now : Contents) (r : Bool) → contents slots map.kind map.cells ≡ now → (r ≡ true → map.cells ≡ []) × (map.cells ≡ [] → r ≡ true) → (r ≡ true → now.cells ≡ []) × (now.cells ≡ [] → r ≡ true)
empty_variable slots map now r is tells = (
  λ t. ap (λ (c : Contents). c.cells) (sym is) ∙ ap (λ cells. with_coords slots cells) (tells.0 t),
  λ none. tells.1 (no_pairs slots map.cells (ap (λ (c : Contents). c.cells) is ∙ none)),
)
