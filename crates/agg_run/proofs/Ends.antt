-- What a call answers: the patch, or the first refusal.
use Rattle.std.proofs.Common.{◌≡◌, ◌≢◌, ℕ, ◌<◌, ◌≤◌, nat_lt, cond, Bool, true, false, not, ◌&&◌, ℤ, List, [], ◌∷◌, length, map, Option, Some, None, Ok, Err, unwrap_or, refl, sym, ap, subst, ◌∙◌, arith}
use Rattle.std.specs.List.{find}
use Rattle.std.specs.List.Sorted.{IsStrictlySortedBy}
use Rattle.std.specs.Map.{lookup, keys_of}
use Rattle.std.specs.Option.{option_map}
use Rattle.std.specs.BTreeMap.{is_at}
use Rattle.std.specs.FinMap as fin
use Rattle.std.specs.Cmp.Lexicographic.{nat_list_cmp_total}
use Rattle.std.proofs.lemmas.Bool.Decides.{Decides-ltb}
use Rattle.std.proofs.lemmas.Map.Lookups.{exact_bytes}
use Rattle.aw_cell.specs.declared.cell.Cell.{Cell}
use Rattle.aw_cell.specs.declared.cell.Cell.TheVariants.{Na}
use Rattle.aw_cell.specs.declared.cell.Kind.{Kind}
use Rattle.aw_cell.specs.declared.cell.Kind.TheVariants as kinds
use Rattle.aw_dim.specs.DimensionState.{DimensionState}
use Rattle.aw_var.specs.CellMap.{Cells, KeyedCell, cell_at, by_slots, IsCellMap}
use Rattle.aw_rel.specs.Hierarchy.{Tree}
use Rattle.aw_var.specs.Variable.{Contents}
use Rattle.aw_var.specs.CellPatch.{difference}
use Rattle.agg_map.specs.Maps.{Map}
use Rattle.aw_var.proofs.callers.FiniteMaps.{same_map}
use Rattle.agg_run.specs.Numbers.{number_in, cell_of, is_in_range}
use Rattle.agg_run.specs.Aggregates.{Line, Answer, is_combination, combination_count, numbers_at, passes, number_after, aggregated, is_outside, is_out_of_range, first_out_of_range, first_line_with_loop, without_loop, within_size, within_range, aggregate_of}
use Rattle.agg_run.specs.Calls.{values_of, lines_of, IsNumeric}
use Rattle.agg_run.specs.inside.Levels.{Held, held_at}
use Rattle.agg_run.specs.inside.Cells.{is_refused, settled, written, AreSettled}
use Rattle.agg_run.specs.inside.Lines.{lines_with, trees_of, IsLoopCause}
use Rattle.agg_run.specs.declared.fault.AggFault.{AggFault}
use Rattle.agg_run.specs.declared.fault.AggFault.TheVariants.{Loop, TooLarge, Overflow, NoMemory}
use Rattle.agg_run.proofs.Cells.{aggregated_at, aggregated_map}
use Rattle.agg_run.proofs.Firsts.{passes_at, IsFirst, same_first, found_first, rising_sorted, rising_keys}
use Rattle.agg_run.proofs.Gathering.{combination_length}
use Rattle.agg_run.proofs.Lines.{with_trees, passes_same}

number_of_cell : (kind : Kind) (n : Option ℤ) → IsNumeric kind → number_in (cell_of kind n) ≡ n
number_of_cell kinds.Num None numeric = refl
number_of_cell kinds.Num (Some z) numeric = refl
number_of_cell kinds.Int None numeric = refl
number_of_cell kinds.Int (Some z) numeric = refl
number_of_cell kinds.Text n numeric = absurd numeric
number_of_cell kinds.Bool n numeric = absurd numeric
number_of_cell kinds.Slot n numeric = absurd numeric

na_of : (kind : Kind) → IsNumeric kind → cell_of kind None ≡ Na
na_of kinds.Num numeric = refl
na_of kinds.Int numeric = refl
na_of kinds.Text numeric = absurd numeric
na_of kinds.Bool numeric = absurd numeric
na_of kinds.Slot numeric = absurd numeric

find_lookup : (key : List ℕ) (cells : Cells) → lookup (is_at (by_slots key)) cells ≡ fin.find by_slots key cells
find_lookup key [] = refl
find_lookup key (e ∷ cells) = ap (λ c. cond (is_at (by_slots key) e.0) (Some e.1) c) (find_lookup key cells)

abbrev accepted : Cells → Answer
accepted patch = Ok patch

abbrev pub refused_by : AggFault → Answer
refused_by fault = Err fault

module _ (kind : Kind) (dimensions : List DimensionState) (lines : List Line) (cells : Cells) (after : Held) (numeric : IsNumeric kind)
    (is : (key : List ℕ) → length key ≡ length dimensions → held_at after key ≡ number_after kind (values_of dimensions) lines cells key) where
  abbrev is_out : KeyedCell → Bool
  is_out pair = is_combination (values_of dimensions) pair.0 && is_out_of_range kind pair.1

  abbrev all_cells : Cells
  all_cells = aggregated kind (values_of dimensions) lines cells

  nothing_out : (b : Bool) → (b && false) ≡ false
  nothing_out true = refl
  nothing_out false = refl

  out_at : (key : List ℕ) → passes_at is_out key (lookup (is_at (by_slots key)) all_cells) ≡ (is_combination (values_of dimensions) key && is_out_of_range kind (cell_at all_cells key))
  out_at key =
      cases (lookup (is_at (by_slots key)) all_cells)
      ∙ ap (λ c. is_combination (values_of dimensions) key && is_out_of_range kind (unwrap_or c Na)) (find_lookup key all_cells)
    where
      cases : (c : Option Cell) → passes_at (λ (pair : KeyedCell). is_combination (values_of dimensions) pair.0 && is_out_of_range kind pair.1) key c ≡ (is_combination (values_of dimensions) key && is_out_of_range kind (unwrap_or c Na))
      cases None = sym (nothing_out (is_combination (values_of dimensions) key))
      cases (Some c) = refl

  refused_at : (key : List ℕ) → (is_combination (values_of dimensions) key && is_out_of_range kind (cell_at all_cells key)) ≡ passes_at (is_refused kind (values_of dimensions)) key (held_at after key)
  refused_at key =
      ap (λ c. is_combination (values_of dimensions) key && is_out_of_range kind c) (aggregated_at kind (values_of dimensions) lines cells key)
      ∙ elim (is_combination (values_of dimensions) key) as (λ b. is_combination (values_of dimensions) key ≡ b → (b && is_out_of_range kind (cond b (cell_of kind (number_after kind (values_of dimensions) lines cells key)) (cell_at cells key))) ≡ passes_at (λ (entry : List ℕ × ℤ). b && not (is_in_range kind entry.1)) key (held_at after key)) [
        | true ↦ λ t.
            ap (is_outside kind) (number_of_cell kind (number_after kind (values_of dimensions) lines cells key) numeric ∙ sym (is key (combination_length dimensions key t)))
            ∙ inside (held_at after key)
        | false ↦ λ _. outside (held_at after key)
      ] refl
      ∙ back (held_at after key)
    where
      inside : (n : Option ℤ) → is_outside kind n ≡ passes_at (λ (entry : List ℕ × ℤ). true && not (is_in_range kind entry.1)) key n
      inside None = refl
      inside (Some z) = refl

      outside : (n : Option ℤ) → false ≡ passes_at (λ (entry : List ℕ × ℤ). false && not (is_in_range kind entry.1)) key n
      outside None = refl
      outside (Some z) = refl

      back : (n : Option ℤ) → passes_at (λ (entry : List ℕ × ℤ). is_combination (values_of dimensions) key && not (is_in_range kind entry.1)) key n ≡ passes_at (is_refused kind (values_of dimensions)) key n
      back None = refl
      back (Some z) = refl

  -- the first key out of range, by the cells and by the numbers
  pub first_key : IsCellMap cells → IsStrictlySortedBy by_slots (keys_of after) →
      option_map (λ pair. pair.0) (first_out_of_range kind (values_of dimensions) (aggregated kind (values_of dimensions) lines cells)) ≡ option_map (λ entry. entry.0) (find (is_refused kind (values_of dimensions)) after)
  first_key map sorted =
      same_first (λ key. passes_at is_out key (lookup (is_at (by_slots key)) all_cells)) (λ key. passes_at (is_refused kind (values_of dimensions)) key (held_at after key)) _ _ (λ key. out_at key ∙ refused_at key)
      (found_first is_out all_cells (rising_sorted all_cells (aggregated_map kind (values_of dimensions) lines cells map).rising))
      (found_first (is_refused kind (values_of dimensions)) after (rising_keys after sorted))

  -- where none is, all numbers at combinations are in range
  settled_all : IsFirst (λ key. passes_at (is_refused kind (values_of dimensions)) key (held_at after key)) None → (key : List ℕ) (cell : Cell) → is_combination (values_of dimensions) key ≡ true → settled kind (held_at after key) cell ≡ cell_of kind (held_at after key)
  settled_all none key cell there = cases (held_at after key) (none key)
    where
      cases : (n : Option ℤ) → passes_at (is_refused kind (values_of dimensions)) key n ≡ false → settled kind n cell ≡ cell_of kind n
      cases None fine = sym (na_of kind numeric)
      cases (Some z) fine =
          let fine' : not (is_in_range kind z) ≡ false = ap (λ b. b && not (is_in_range kind z)) (sym there) ∙ fine in
          elim (is_in_range kind z) as (λ b. not b ≡ false → written (cond b (Some (cell_of kind (Some z))) None) cell ≡ cell_of kind (Some z)) [
            | true ↦ λ _. refl
            | false ↦ λ f. cc
          ] fine'

  none_of : (r : Option (List ℕ × ℤ)) → option_map (λ entry. entry.0) r ≡ None → r ≡ None
  none_of None e = refl
  none_of (Some x) e = cc

  pub closing_is : (closing : Cells) → IsCellMap cells → IsCellMap closing → IsStrictlySortedBy by_slots (keys_of after) → option_map (λ entry. entry.0) (find (is_refused kind (values_of dimensions)) after) ≡ None →
      AreSettled kind (values_of dimensions) cells after closing → closing ≡ aggregated kind (values_of dimensions) lines cells
  closing_is closing map made sorted none are =
      same_map nat_list_cmp_total (λ x y e. exact_bytes x y e) closing (aggregated kind (values_of dimensions) lines cells) made (aggregated_map kind (values_of dimensions) lines cells map) (λ key.
      are key
      ∙ elim (is_combination (values_of dimensions) key) as (λ b. is_combination (values_of dimensions) key ≡ b → cond b (settled kind (held_at after key) (cell_at cells key)) (cell_at cells key) ≡ cond b (cell_of kind (number_after kind (values_of dimensions) lines cells key)) (cell_at cells key)) [
        | true ↦ λ t. settled_all (subst (λ r. IsFirst (λ key. passes_at (is_refused kind (values_of dimensions)) key (held_at after key)) r) none (found_first (is_refused kind (values_of dimensions)) after (rising_keys after sorted))) key (cell_at cells key) t
            ∙ ap (cell_of kind) (is key (combination_length dimensions key t))
        | false ↦ λ _. refl
      ] refl
      ∙ sym (aggregated_at kind (values_of dimensions) lines cells key))

  no_cell : (r : Option KeyedCell) → option_map (λ pair. pair.0) r ≡ None → r ≡ None
  no_cell None e = refl
  no_cell (Some x) e = cc

  not_large : (n : ℕ) → n ≤ 4194304 → nat_lt 4194304 n ≡ false
  not_large n few = elim (nat_lt 4194304 n) as (λ b. nat_lt 4194304 n ≡ b → b ≡ false) [
    | true ↦ λ t. let more = (Decides-ltb 4194304 n).0 t in absurd (omega (arith, more, few))
    | false ↦ λ _. refl
  ] refl

  within_both : first_line_with_loop 0 lines ≡ None → combination_count (values_of dimensions) ≤ 4194304 →
      aggregate_of kind (values_of dimensions) lines cells ≡ within_range cells (aggregated kind (values_of dimensions) lines cells) (first_out_of_range kind (values_of dimensions) (aggregated kind (values_of dimensions) lines cells))
  within_both straight few =
      let rest : Answer = within_range cells (aggregated kind (values_of dimensions) lines cells) (first_out_of_range kind (values_of dimensions) (aggregated kind (values_of dimensions) lines cells)) in
      ap (λ l. without_loop l (within_size (combination_count (values_of dimensions)) rest)) straight
      ∙ ap (λ b. cond b (Err (TooLarge (combination_count (values_of dimensions)))) rest) (not_large (combination_count (values_of dimensions)) few)

  pub answers_patch : (closing patch : Cells) → first_line_with_loop 0 lines ≡ None → combination_count (values_of dimensions) ≤ 4194304 → IsCellMap cells → IsCellMap closing → IsStrictlySortedBy by_slots (keys_of after) →
      option_map (λ entry. entry.0) (find (is_refused kind (values_of dimensions)) after) ≡ None → AreSettled kind (values_of dimensions) cells after closing → patch ≡ difference cells closing → aggregate_of kind (values_of dimensions) lines cells ≡ Ok patch
  answers_patch closing patch straight few map made sorted none are is_patch =
      let fine = no_cell (first_out_of_range kind (values_of dimensions) (aggregated kind (values_of dimensions) lines cells)) (first_key map sorted ∙ none) in
      within_both straight few ∙ ap (within_range cells (aggregated kind (values_of dimensions) lines cells)) fine
      ∙ ap (λ (c : Cells). accepted (difference cells c)) (sym (closing_is closing map made sorted none are)) ∙ ap accepted (sym is_patch)

  overflow_of : (r : Option KeyedCell) (at : List ℕ) → option_map (λ pair. pair.0) r ≡ Some at → within_range cells (aggregated kind (values_of dimensions) lines cells) r ≡ Err (Overflow at)
  overflow_of None at e = cc
  overflow_of (Some x) at e = let here : Some x.0 ≡ Some at = e in let same : x.0 ≡ at = cc in ap (λ k. within_range cells (aggregated kind (values_of dimensions) lines cells) (Some (k, x.1))) same

  pub answers_overflow : (at : List ℕ) → first_line_with_loop 0 lines ≡ None → combination_count (values_of dimensions) ≤ 4194304 → IsCellMap cells → IsStrictlySortedBy by_slots (keys_of after) →
      option_map (λ entry. entry.0) (find (is_refused kind (values_of dimensions)) after) ≡ Some at → aggregate_of kind (values_of dimensions) lines cells ≡ Err (Overflow at)
  answers_overflow at straight few map sorted some =
      within_both straight few ∙ overflow_of (first_out_of_range kind (values_of dimensions) (aggregated kind (values_of dimensions) lines cells)) at (first_key map sorted ∙ some)

pub answers_large : (kind : Kind) (dimensions : List DimensionState) (lines : List Line) (cells : Cells) (count : ℕ) → first_line_with_loop 0 lines ≡ None → count ≡ combination_count (values_of dimensions) → 4194304 < count → aggregate_of kind (values_of dimensions) lines cells ≡ Err (TooLarge count)
answers_large kind dimensions lines cells count straight is more =
    let rest : Answer = within_range cells (aggregated kind (values_of dimensions) lines cells) (first_out_of_range kind (values_of dimensions) (aggregated kind (values_of dimensions) lines cells)) in
    ap (λ l. without_loop l (within_size (combination_count (values_of dimensions)) rest)) straight
    ∙ ap (λ n. within_size n rest) (sym is)
    ∙ ap (λ b. cond b (Err (TooLarge count)) rest) ((Decides-ltb 4194304 count).1 more)

-- the refusal for a loop
pub answers_loop : (kind : Kind) (dimensions : List DimensionState) (lines : List Line) (cells : Cells) (fault : AggFault) → IsLoopCause (first_line_with_loop 0 lines) fault → fault ≢ NoMemory → aggregate_of kind (values_of dimensions) lines cells ≡ Err fault
answers_loop kind dimensions lines cells NoMemory cause other = absurd (other refl)
answers_loop kind dimensions lines cells (Loop line slot) cause other =
    let rest : Answer = within_range cells (aggregated kind (values_of dimensions) lines cells) (first_out_of_range kind (values_of dimensions) (aggregated kind (values_of dimensions) lines cells)) in
    ap (λ l. without_loop l (within_size (combination_count (values_of dimensions)) rest)) cause
answers_loop kind dimensions lines cells (TooLarge count) cause other = absurd cause
answers_loop kind dimensions lines cells (Overflow key) cause other = absurd cause

-- the numbers after the passes are those after the call's lines
pub after_is : (kind : Kind) (mapped : Map) (over : List ℕ) (dimensions : List DimensionState) (parents : List Contents) (cells : Cells) (trees : List Tree) (before after : Held) → length dimensions ≡ length over →
    trees ≡ trees_of (lines_of mapped over dimensions parents) → ((key : List ℕ) → held_at before key ≡ numbers_at (values_of dimensions) cells key) →
    ((key : List ℕ) → length key ≡ length over → held_at after key ≡ passes kind (lines_with mapped.lines mapped.dimensions over trees) (held_at before) key) →
    (key : List ℕ) → length key ≡ length dimensions → held_at after key ≡ number_after kind (values_of dimensions) (lines_of mapped over dimensions parents) cells key
after_is kind mapped over dimensions parents cells trees before after sizes is_trees opened passed key long =
    passed key (long ∙ sizes)
    ∙ ap (λ (l : List Line). passes kind l (held_at before) key) (ap (λ (t : List Tree). lines_with mapped.lines mapped.dimensions over t) is_trees ∙ with_trees mapped.lines mapped.dimensions over dimensions parents)
    ∙ passes_same kind (lines_of mapped over dimensions parents) (length dimensions) (held_at before) (numbers_at (values_of dimensions) cells) (λ k _. opened k) key long

-- a relation, where one has to be named
abbrev pub no_relation : Contents
no_relation = record { slots = 0; kind = kinds.Int; cells = [] }
