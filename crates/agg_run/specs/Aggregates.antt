-- What AGGREGATE makes of a variable's cells. Line by line, each cell whose value in the line's dimension has children becomes
-- the operator over the cells at the leaves below that value, afresh from the cells as the line before left them. Cells at the
-- combinations of the dimensions' values take part; a cell at any other key stays.
use Rattle.std.specs.Prelude.{ℕ, suc, ◌*◌, ℤ, nat_lt, Bool, true, false, ◌&&◌, not, cond, length, map, fold, slice_set, slice_index_or, List, [], ◌∷◌, Option, Some, None, Result, Ok, Err}
use Rattle.std.specs.List.{find, flat_map}
use Rattle.aw_cell.specs.declared.cell.Cell.{Cell}
use Rattle.aw_cell.specs.declared.cell.Kind.{Kind}
use Rattle.aw_cell.specs.declared.operator.Operator.{Operator}
use Rattle.aw_rel.specs.Hierarchy.{Tree, is_among, is_leaf, leaves_in, first_loop}
use Rattle.aw_var.specs.CellMap.{KeyedCell, Cells, cell_at, set_at}
use Rattle.aw_var.specs.CellPatch.{difference}
use Rattle.agg_run.specs.Numbers.{number_in, cell_of, is_in_range, operated}
use Rattle.agg_run.specs.declared.fault.AggFault.{AggFault}
use Rattle.agg_run.specs.declared.fault.AggFault.TheVariants.{Loop, TooLarge, Overflow}

-- a line: a hierarchy of the dimension at a place of the keys, and what is done along it
pub record Line : Type 0 where
  pub tree : Tree
  pub place : ℕ
  pub operator : Operator

-- which number stands at each key, where it isn't NA
abbrev pub Numbers : Type 0
Numbers = List ℕ → Option ℤ

-- ---- the combinations of the dimensions' values, each by its slots

abbrev pub is_combination : List (List ℕ) → List ℕ → Bool
is_combination [] [] = true
is_combination (slots ∷ dimensions) (slot ∷ key) = is_among slots slot && is_combination dimensions key
is_combination _ _ = false

abbrev pub combinations : List (List ℕ) → List (List ℕ)
combinations [] = [] ∷ []
combinations (slots ∷ dimensions) = flat_map (λ slot. map (λ key. slot ∷ key) (combinations dimensions)) slots

-- how many there are
abbrev pub combination_count : List (List ℕ) → ℕ
combination_count dimensions = fold (λ count slots. count * length slots) 1 dimensions

-- ---- the lines

abbrev pub slot_at : List ℕ → ℕ → ℕ
slot_at key place = slice_index_or key place 0

-- the numbers at the leaves below a key's value, the other values being the same
abbrev pub at_leaves : Line → Numbers → List ℕ → List (Option ℤ)
at_leaves line numbers key = map (λ leaf. numbers (slice_set key line.place leaf)) (leaves_in line.tree (slot_at key line.place))

-- the numbers after a line: a value that is nobody's parent keeps its own
abbrev pub pass : Kind → Numbers → Line → Numbers
pass kind numbers line key = cond (is_leaf line.tree (slot_at key line.place)) (numbers key) (operated kind line.operator (at_leaves line numbers key))

abbrev pub passes : Kind → List Line → Numbers → Numbers
passes kind lines numbers = fold (pass kind) numbers lines

-- the numbers that take part
abbrev pub numbers_at : List (List ℕ) → Cells → Numbers
numbers_at dimensions cells key = cond (is_combination dimensions key) (number_in (cell_at cells key)) None

abbrev pub number_after : Kind → List (List ℕ) → List Line → Cells → Numbers
number_after kind dimensions lines cells = passes kind lines (numbers_at dimensions cells)

-- ---- the answer

-- the cells afterwards, whatever their range
abbrev pub aggregated : Kind → List (List ℕ) → List Line → Cells → Cells
aggregated kind dimensions lines cells = fold (λ so_far key. set_at so_far key (cell_of kind (number_after kind dimensions lines cells key))) cells (combinations dimensions)

abbrev pub is_outside : Kind → Option ℤ → Bool
is_outside kind None = false
is_outside kind (Some number) = not (is_in_range kind number)

abbrev pub is_out_of_range : Kind → Cell → Bool
is_out_of_range kind cell = is_outside kind (number_in cell)

-- the first cell at a combination that is out of range, in rising order
abbrev pub first_out_of_range : Kind → List (List ℕ) → Cells → Option KeyedCell
first_out_of_range kind dimensions cells = find (λ pair. is_combination dimensions pair.0 && is_out_of_range kind pair.1) cells

abbrev pub loop_at : ℕ → Option ℕ → Option (ℕ × ℕ) → Option (ℕ × ℕ)
loop_at number (Some slot) later = Some (number, slot)
loop_at number None later = later

-- the first line with a loop, counted from this number, and the first value on it
abbrev pub first_line_with_loop : ℕ → List Line → Option (ℕ × ℕ)
first_line_with_loop number [] = None
first_line_with_loop number (line ∷ lines) = loop_at number (first_loop line.tree) (first_line_with_loop (suc number) lines)

abbrev pub Answer : Type 0
Answer = Result Cells AggFault

abbrev pub within_range : Cells → Cells → Option KeyedCell → Answer
within_range cells after None = Ok (difference cells after)
within_range cells after (Some pair) = Err (Overflow pair.0)

abbrev pub within_size : ℕ → Answer → Answer
within_size count answer = cond (nat_lt 4194304 count) (Err (TooLarge count)) answer

abbrev pub without_loop : Option (ℕ × ℕ) → Answer → Answer
without_loop None answer = answer
without_loop (Some loop) answer = Err (Loop loop.0 loop.1)

-- the patch, or the first refusal: a loop, then too many combinations, then a cell out of range
abbrev pub aggregate_of : Kind → List (List ℕ) → List Line → Cells → Answer
aggregate_of kind dimensions lines cells =
    without_loop (first_line_with_loop 0 lines)
    (within_size (combination_count dimensions)
    (within_range cells (aggregated kind dimensions lines cells) (first_out_of_range kind dimensions (aggregated kind dimensions lines cells))))
