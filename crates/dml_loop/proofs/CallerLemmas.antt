-- For the crates above: what a loop asks, from what is known of the code and of what it reads; fixed values that were
-- looked up; and values that are given by other words.
use Rattle.std.proofs.Common.{◌≡◌, ◌∙◌, ℕ, ◌≤◌, Bool as Truth, true, false, cond, List, [], ◌∷◌, length, map, Option, Some, None, Result, Ok, Err, refl, sym, ap, subst}
use Rattle.std.specs.Prelude.{All, IsTrue, IsSome, ◌||◌, ◌==◌, slice_get, unwrap_or}
use Rattle.std.specs.Option.{IsSomeAnd, option_map}
use Rattle.std.specs.List.{Contains, list_any, find}
use Rattle.std.proofs.lemmas.Bool.{false≢true}
use Rattle.std.proofs.lemmas.List.Elements.{All-nil, All-cons, All-head, All-tail}
use Rattle.aw_cell.specs.declared.cell.Cell.{Cell}
use Rattle.aw_cell.specs.declared.cell.Kind.{Kind}
use Rattle.aw_cell.specs.declared.cell.Kind.TheVariants.{Text as TextKind}
use Rattle.aw_page.specs.Fitting.{is_of_kind}
use Rattle.dml_exec.specs.declared.code.Code.{Code}
use Rattle.dml_exec.specs.declared.kinds.Fix.{Fix}
use Rattle.dml_exec.specs.declared.kinds.Kinds.{Kinds}
use Rattle.dml_exec.specs.declared.kinds.ObjectKind.TheVariants.{Dimension, Cells}
use Rattle.dml_exec.specs.declared.op.Op.TheVariants.{Local}
use Rattle.dml_exec.specs.CodeRuns.{Accepts, Fits, MayAsk}
use Rattle.dml_exec.specs.Free.{is_among}
use Rattle.dml_exec.specs.Meaning.{slot_at}
use Rattle.dml_loop.specs.declared.fault.LoopFault.{LoopFault}
use Rattle.dml_loop.specs.declared.fault.LoopFault.TheVariants.{NoValue, Empty}
use Rattle.dml_loop.specs.Evaluation.{read_at, CanLoop, first_of, first_place, places_of, first_places}
use Rattle.dml_loop.specs.Fixes.{slot_or, slots_of_fixes}
use Rattle.dml_loop.specs.Loops.{Place, places, all_of, on_ok, ok_map}
use Rattle.dml_loop.proofs.AllOf.{ok-same, err-ok}
use Rattle.dml_loop.proofs.EachPlace.{each-later}

-- ---- what a loop asks

-- what code reads fits the kinds, wherever it is run
pub record Reads (kinds : Kinds) (code : Code) (cell : ℕ → List ℕ → Cell) (name : ℕ → ℕ → Cell) (fixed : List ℕ) (locals : List Cell) : Type 0 where
  pub slots : length code.fixes ≤ length fixed
  pub kept : (number : ℕ) (kind : Kind) → Contains code.ops (Local number) → slice_get kinds.locals number ≡ Some kind → IsSomeAnd (slice_get locals number) (λ cell. IsTrue (is_of_kind kind cell))
  pub cells : (object : ℕ) (kind : Kind) (dimensions slots : List ℕ) → slice_get kinds.objects object ≡ Some (Cells kind dimensions) → length slots ≡ length dimensions → IsTrue (is_of_kind kind (cell object slots))
  pub names : (dimension slot : ℕ) → slice_get kinds.objects dimension ≡ Some Dimension → IsTrue (is_of_kind TextKind (name dimension slot))

-- whether a place has a slot for a dimension, and a list of lists one for it
abbrev has_entry : Place → ℕ → Truth
has_entry place dimension = list_any (λ (entry : ℕ × ℕ). entry.0 == dimension) place

abbrev pub is_looped : List (ℕ × List ℕ) → ℕ → Truth
is_looped lists dimension = list_any (λ (list : ℕ × List ℕ). list.0 == dimension) lists

entries-looped : (lists : List (ℕ × List ℕ)) (dimension : ℕ) → All (λ (place : Place). has_entry place dimension ≡ is_looped lists dimension) (places lists)
entries-looped [] dimension = All-cons (λ (place : Place). has_entry place dimension ≡ false) [] [] refl (All-nil (λ (place : Place). has_entry place dimension ≡ false))
entries-looped (list ∷ lists) dimension =
    each-later (λ (place : Place). has_entry place dimension ≡ is_looped lists dimension) (λ (place : Place). has_entry place dimension ≡ is_looped (list ∷ lists) dimension) list.0 (places lists) list.1
    (λ slot place same. ap (λ (t : Truth). (list.0 == dimension) || t) same) (entries-looped lists dimension)

found-entry : (entry : ℕ × ℕ) (place : Place) (dimension : ℕ) (t : Truth) → (entry.0 == dimension) ≡ t → (IsTrue (has_entry place dimension) → IsSome (slot_at place dimension)) → IsTrue (t || has_entry place dimension) → IsSome (slot_at (entry ∷ place) dimension)
found-entry entry place dimension true e later h = subst (λ (t : Truth). IsSome (option_map (λ (found : ℕ × ℕ). found.1) (cond t (Some entry) (find (λ (found : ℕ × ℕ). found.0 == dimension) place)))) (sym e) refl
found-entry entry place dimension false e later h = subst (λ (t : Truth). IsSome (option_map (λ (found : ℕ × ℕ). found.1) (cond t (Some entry) (find (λ (found : ℕ × ℕ). found.0 == dimension) place)))) (sym e) (later h)

has-slot : (place : Place) (dimension : ℕ) → IsTrue (has_entry place dimension) → IsSome (slot_at place dimension)
has-slot [] dimension h = absurd (false≢true h)
has-slot (entry ∷ place) dimension h = found-entry entry place dimension (entry.0 == dimension) refl (has-slot place dimension) h

-- where each free dimension is looped, what is read at each place fits
pub loop-fits : (kinds : Kinds) (code : Code) (cell : ℕ → List ℕ → Cell) (name : ℕ → ℕ → Cell) (fixed : List ℕ) (locals : List Cell) (lists : List (ℕ × List ℕ)) → Reads kinds code cell name fixed locals →
    ((dimension : ℕ) → IsTrue (is_among code.free dimension) → IsTrue (is_looped lists dimension)) →
    All (λ (place : Place). Fits kinds code (read_at cell name fixed locals place)) (places lists)
loop-fits kinds code cell name fixed locals lists reads looped = λ k d less. record {
  places = λ dimension among. has-slot _ dimension (subst (λ (t : Truth). IsTrue t) (sym (entries-looped lists dimension k d less)) (looped dimension among));
  fixed = reads.slots;
  locals = reads.kept;
  cells = reads.cells;
  names = reads.names;
}

-- so that code may be run there
pub can-loop : (kinds : Kinds) (code : Code) (cell : ℕ → List ℕ → Cell) (name : ℕ → ℕ → Cell) (fixed : List ℕ) (locals : List Cell) (lists : List (ℕ × List ℕ)) (may_read : ℕ → List ℕ → Type 0) (may_name : ℕ → ℕ → Type 0) →
    Accepts kinds code → MayAsk kinds may_read may_name → Reads kinds code cell name fixed locals →
    ((dimension : ℕ) → IsTrue (is_among code.free dimension) → IsTrue (is_looped lists dimension)) →
    CanLoop code (read_at cell name fixed locals) (places lists) may_read may_name
can-loop kinds code cell name fixed locals lists may_read may_name accepted may_ask reads looped = record {
  kinds = kinds;
  accepted = accepted;
  fits = loop-fits kinds code cell name fixed locals lists reads looped;
  may_ask = may_ask;
}

-- ---- values by other words

-- what is the same at each place is the same in all
pub all-same : {A B : Type 0} (f g : A → Result B LoopFault) (xs : List A) → All (λ x. f x ≡ g x) xs → all_of f xs ≡ all_of g xs
all-same f g [] same = refl
all-same {A} {B} f g (x ∷ xs) same =
    ap (λ (r : Result B LoopFault). on_ok (λ (y : B). ok_map (λ (ys : List B). y ∷ ys) (all_of f xs)) r) (All-head (λ (z : A). f z ≡ g z) x xs same)
    ∙ ap (λ (r : Result (List B) LoopFault). on_ok (λ (y : B). ok_map (λ (ys : List B). y ∷ ys) r) (g x)) (all-same f g xs (All-tail (λ (z : A). f z ≡ g z) x xs same))

-- ---- fixed values

-- the slot of a value, where it has one
abbrev pub slot_found : (ℕ → List ℕ → Option ℕ) → ℕ → List ℕ → ℕ
slot_found slot_of dimension value = unwrap_or (slot_of dimension value) 0

slots-step : (slot_of : ℕ → List ℕ → Option ℕ) (fix : Fix) (found : Option ℕ) (rest : Result (List ℕ) LoopFault) (others slots : List ℕ) → slot_of fix.dimension fix.value ≡ found → ((some : List ℕ) → rest ≡ Ok some → some ≡ others) → on_ok (λ (slot : ℕ). ok_map (λ (some : List ℕ). slot ∷ some) rest) (slot_or fix.value found) ≡ Ok slots → slots ≡ slot_found slot_of fix.dimension fix.value ∷ others
slots-step slot_of fix (Some slot) (Ok some) others slots e known is =
    sym (ok-same (slot ∷ some) slots is) ∙ ap (λ (xs : List ℕ). slot ∷ xs) (known some refl) ∙ ap (λ (found : Option ℕ). unwrap_or found 0 ∷ others) (sym e)
slots-step slot_of fix (Some slot) (Err why) others slots e known is = absurd (err-ok why slots is)
slots-step slot_of fix None rest others slots e known is = absurd (err-ok (NoValue fix.value) slots is)

-- the slots that were looked up are those of the fixes in order, as a compiled code's value asks
pub slots-found : (slot_of : ℕ → List ℕ → Option ℕ) (fixes : List Fix) (slots : List ℕ) → slots_of_fixes slot_of fixes ≡ Ok slots → slots ≡ map (λ (fix : Fix). slot_found slot_of fix.dimension fix.value) fixes
slots-found slot_of [] slots is = sym (ok-same [] slots is)
slots-found slot_of (fix ∷ fixes) slots is =
    slots-step slot_of fix (slot_of fix.dimension fix.value) (slots_of_fixes slot_of fixes) (map (λ (fix : Fix). slot_found slot_of fix.dimension fix.value) fixes) slots refl (slots-found slot_of fixes) is

-- and each fixed value is there
pub values-found : (slot_of : ℕ → List ℕ → Option ℕ) (fixes : List Fix) (slots : List ℕ) → slots_of_fixes slot_of fixes ≡ Ok slots → All (λ (fix : Fix). slot_of fix.dimension fix.value ≡ Some (slot_found slot_of fix.dimension fix.value)) fixes
values-found slot_of [] slots is = All-nil (λ (fix : Fix). slot_of fix.dimension fix.value ≡ Some (slot_found slot_of fix.dimension fix.value))
values-found slot_of (fix ∷ fixes) slots is = value-step slot_of fix fixes (slot_of fix.dimension fix.value) (slots_of_fixes slot_of fixes) slots refl (λ some e. values-found slot_of fixes some e) is
  where
    value-step : (slot_of : ℕ → List ℕ → Option ℕ) (fix : Fix) (fixes : List Fix) (found : Option ℕ) (rest : Result (List ℕ) LoopFault) (slots : List ℕ) → slot_of fix.dimension fix.value ≡ found → ((some : List ℕ) → rest ≡ Ok some → All (λ (fix : Fix). slot_of fix.dimension fix.value ≡ Some (slot_found slot_of fix.dimension fix.value)) fixes) → on_ok (λ (slot : ℕ). ok_map (λ (some : List ℕ). slot ∷ some) rest) (slot_or fix.value found) ≡ Ok slots → All (λ (fix : Fix). slot_of fix.dimension fix.value ≡ Some (slot_found slot_of fix.dimension fix.value)) (fix ∷ fixes)
    value-step slot_of fix fixes (Some slot) (Ok some) slots e known is =
        All-cons (λ (fix : Fix). slot_of fix.dimension fix.value ≡ Some (slot_found slot_of fix.dimension fix.value)) fix fixes (e ∙ ap (λ (found : Option ℕ). Some (unwrap_or found 0)) (sym e)) (known some refl)
    value-step slot_of fix fixes (Some slot) (Err why) slots e known is = absurd (err-ok why slots is)
    value-step slot_of fix fixes None rest slots e known is = absurd (err-ok (NoValue fix.value) slots is)

-- ---- what SHOW asks

first-step : (number : ℕ) (slots : List ℕ) (rest : Result Place LoopFault) (lists : List (ℕ × List ℕ)) (dimension : ℕ) (place : Place) → ((some : Place) → rest ≡ Ok some → has_entry some dimension ≡ is_looped lists dimension) → on_ok (λ (entry : ℕ × ℕ). ok_map (λ (some : Place). entry ∷ some) rest) (first_of number slots) ≡ Ok place → has_entry place dimension ≡ ((number == dimension) || is_looped lists dimension)
first-step number (slot ∷ slots) (Ok some) lists dimension place known is =
    ap (λ (at : Place). has_entry at dimension) (sym (ok-same ((number, slot) ∷ some) place is)) ∙ ap (λ (t : Truth). (number == dimension) || t) (known some refl)
first-step number (slot ∷ slots) (Err why) lists dimension place known is = absurd (err-ok why place is)
first-step number [] rest lists dimension place known is = absurd (err-ok (Empty number) place is)

first-looped : (lists : List (ℕ × List ℕ)) (dimension : ℕ) (place : Place) → first_place lists ≡ Ok place → has_entry place dimension ≡ is_looped lists dimension
first-looped [] dimension place is = ap (λ (at : Place). has_entry at dimension) (sym (ok-same [] place is))
first-looped (list ∷ lists) dimension place is = first-step list.0 list.1 (first_place lists) lists dimension place (first-looped lists dimension) is

fits-first : (P : Place → Type 0) (r : Result Place LoopFault) → ((place : Place) → r ≡ Ok place → P place) → All P (places_of r)
fits-first P (Ok place) h = All-cons P place [] (h place refl) (All-nil P)
fits-first P (Err why) h = All-nil P

-- what is read at the first place fits
pub first-fits : (kinds : Kinds) (code : Code) (cell : ℕ → List ℕ → Cell) (name : ℕ → ℕ → Cell) (fixed : List ℕ) (locals : List Cell) (lists : List (ℕ × List ℕ)) → Reads kinds code cell name fixed locals →
    ((dimension : ℕ) → IsTrue (is_among code.free dimension) → IsTrue (is_looped lists dimension)) →
    (place : Place) → first_place lists ≡ Ok place → Fits kinds code (read_at cell name fixed locals place)
first-fits kinds code cell name fixed locals lists reads looped place is = record {
  places = λ dimension among. has-slot place dimension (subst (λ (t : Truth). IsTrue t) (sym (first-looped lists dimension place is)) (looped dimension among));
  fixed = reads.slots;
  locals = reads.kept;
  cells = reads.cells;
  names = reads.names;
}

-- so that code may be run there
pub can-show : (kinds : Kinds) (code : Code) (cell : ℕ → List ℕ → Cell) (name : ℕ → ℕ → Cell) (fixed : List ℕ) (locals : List Cell) (lists : List (ℕ × List ℕ)) (may_read : ℕ → List ℕ → Type 0) (may_name : ℕ → ℕ → Type 0) →
    Accepts kinds code → MayAsk kinds may_read may_name → Reads kinds code cell name fixed locals →
    ((dimension : ℕ) → IsTrue (is_among code.free dimension) → IsTrue (is_looped lists dimension)) →
    CanLoop code (read_at cell name fixed locals) (first_places lists) may_read may_name
can-show kinds code cell name fixed locals lists may_read may_name accepted may_ask reads looped = record {
  kinds = kinds;
  accepted = accepted;
  fits = fits-first (λ (place : Place). Fits kinds code (read_at cell name fixed locals place)) (first_place lists) (first-fits kinds code cell name fixed locals lists reads looped);
  may_ask = may_ask;
}
