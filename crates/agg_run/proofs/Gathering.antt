-- The numbers that are taken from cells, and the cells that are settled by numbers, one cell more at a time.
use Rattle.std.proofs.Common.{◌≡◌, ℕ, suc, zero, ◌==◌, ◌+◌, ◌*◌, ◌^◌, ◌<◌, ◌≤◌, cond, Bool, true, false, not, ◌&&◌, ◌||◌, ℤ, List, [], ◌∷◌, length, map, fold, drop, get_or, unwrap_or, is_some, Option, Some, None, refl, sym, ap, subst, ◌∙◌, arith, unsigned_abs}
use Rattle.std.specs.Prelude.{IfSome}
use Rattle.std.specs.List.{IsDistinct, position_from}
use Rattle.std.specs.Map.{keys_of}
use Rattle.std.specs.BTreeMap.{is_at}
use Rattle.std.specs.FinMap.{find, is_sorted}
use Rattle.std.specs.FinMap.Entries.{below_all}
use Rattle.std.specs.Ordering.{eq_by_cmp}
use Rattle.std.specs.Cmp.{eq_by_cmp_equiv}
use Rattle.std.specs.Cmp.Lexicographic.{nat_list_cmp_total}
use Rattle.std.proofs.lemmas.Nat.{mul-le, pow-add}
use Rattle.std.proofs.Math.Pow.{pow_mono}
use Rattle.std.proofs.lemmas.Bool.Decides.{Decides-eqb}
use Rattle.std.proofs.lemmas.Map.{lookup-none}
use Rattle.std.proofs.lemmas.Map.Entries.{none_past_head}
use Rattle.std.proofs.lemmas.Map.Keys.{IsDistinct-tail}
use Rattle.aw_cell.specs.declared.cell.Cell.{Cell}
use Rattle.aw_cell.specs.declared.cell.Cell.TheVariants.{Na}
use Rattle.aw_cell.specs.declared.cell.Kind.{Kind}
use Rattle.aw_dim.specs.DimensionState.{DimensionState, Entry, position_of}
use Rattle.aw_rel.proofs.CallerLemmas.{same_number, same_tests}
use Rattle.aw_rel.specs.Hierarchy.{is_among}
use Rattle.aw_var.specs.CellMap.{Cells, cell_at, by_slots}
use Rattle.aw_var.proofs.callers.FiniteMaps.{absent, equal_of, both_true}
use Rattle.agg_run.specs.Numbers.{number_in}
use Rattle.agg_run.specs.Aggregates.{Numbers, is_combination, numbers_at}
use Rattle.agg_run.specs.Calls.{values_of}
use Rattle.agg_run.specs.inside.Levels.{Held, held_at, or_else}
use Rattle.agg_run.specs.inside.Cells.{written, settled, pending, combined_cell, fitting_cell, is_cleared, is_in, AreOfCells}
use Rattle.agg_run.proofs.Climbing.{same_key}
use Rattle.agg_run.proofs.Sums.{key_turned}
use Rattle.agg_run.proofs.Heights.{length-entries}

-- ---- combinations

pub combination_step : (dimensions : List DimensionState) (slots : List ℕ) (place : ℕ) (d : DimensionState) (s : ℕ) → place < length dimensions → place < length slots →
    is_combination (values_of (drop place dimensions)) (drop place slots) ≡ (is_among (map (λ entry. entry.0) (get_or dimensions place d).entries) (get_or slots place s) && is_combination (values_of (drop (suc place) dimensions)) (drop (suc place) slots))
combination_step [] slots place d s within there = absurd (omega (arith, within))
combination_step (x ∷ dimensions) [] place d s within there = absurd (omega (arith, there))
combination_step (x ∷ dimensions) (slot ∷ slots) zero d s within there = refl
combination_step (x ∷ dimensions) (slot ∷ slots) (suc place) d s within there = combination_step dimensions slots place d s (omega (arith, within)) (omega (arith, there))

-- one value more is there
pub combination_more : (dimensions : List DimensionState) (slots : List ℕ) (place next : ℕ) (d : DimensionState) (s : ℕ) (goal : Bool) → next ≡ suc place → place < length dimensions → place < length slots →
    is_among (map (λ entry. entry.0) (get_or dimensions place d).entries) (get_or slots place s) ≡ true → is_combination (values_of (drop place dimensions)) (drop place slots) ≡ goal → is_combination (values_of (drop next dimensions)) (drop next slots) ≡ goal
combination_more dimensions slots place next d s goal is within there has before =
    ap (λ n. is_combination (values_of (drop n dimensions)) (drop n slots)) is
    ∙ ap (λ b. b && is_combination (values_of (drop (suc place) dimensions)) (drop (suc place) slots)) (sym has)
    ∙ sym (combination_step dimensions slots place d s within there) ∙ before

-- one is not
pub combination_not : (dimensions : List DimensionState) (slots : List ℕ) (place : ℕ) (d : DimensionState) (s : ℕ) (goal : Bool) → place < length dimensions → place < length slots →
    is_among (map (λ entry. entry.0) (get_or dimensions place d).entries) (get_or slots place s) ≡ false → is_combination (values_of (drop place dimensions)) (drop place slots) ≡ goal → false ≡ goal
combination_not dimensions slots place d s goal within there has before =
    ap (λ b. b && is_combination (values_of (drop (suc place) dimensions)) (drop (suc place) slots)) (sym has)
    ∙ sym (combination_step dimensions slots place d s within there) ∙ before

pub combination_all : (dimensions : List DimensionState) (slots : List ℕ) (place : ℕ) → length dimensions ≡ length slots → length slots ≤ place → is_combination (values_of (drop place dimensions)) (drop place slots) ≡ true
combination_all [] [] zero same end = refl
combination_all [] [] (suc place) same end = refl
combination_all [] (slot ∷ slots) place same end = absurd (omega (arith, same))
combination_all (x ∷ dimensions) [] place same end = absurd (omega (arith, same))
combination_all (x ∷ dimensions) (slot ∷ slots) zero same end = absurd (omega (arith, end))
combination_all (x ∷ dimensions) (slot ∷ slots) (suc place) same end = combination_all dimensions slots place (omega (arith, same)) (omega (arith, end))

pub combination_length : (dimensions : List DimensionState) (slots : List ℕ) → is_combination (values_of dimensions) slots ≡ true → length slots ≡ length dimensions
combination_length [] [] is = refl
combination_length [] (slot ∷ slots) is = cc
combination_length (x ∷ dimensions) [] is = cc
combination_length (x ∷ dimensions) (slot ∷ slots) is = ap suc (combination_length dimensions slots (both_true (is_among (map (λ entry. entry.0) x.entries) slot) (is_combination (values_of dimensions) slots) is).1)

pub no_combination : (dimensions : List DimensionState) (slots : List ℕ) → (length slots ≡ length dimensions → ⊥) → is_combination (values_of dimensions) slots ≡ false
no_combination dimensions slots other = elim (is_combination (values_of dimensions) slots) as (λ b. is_combination (values_of dimensions) slots ≡ b → b ≡ false) [
  | true ↦ λ t. absurd (other (combination_length dimensions slots t))
  | false ↦ λ _. refl
] refl

-- a value has a place exactly where it is one
pub position_among : (values : DimensionState) (slot : ℕ) → is_some (position_of values slot) ≡ is_among (map (λ entry. entry.0) values.entries) slot
position_among values slot = each values.entries 0
  where
    turned : (a b : ℕ) → (a == b) ≡ (b == a)
    turned a b = same_tests (a == b) (b == a) (λ t. (Decides-eqb b a).1 (sym (same_number a b t))) (λ t. (Decides-eqb a b).1 (sym (same_number b a t)))

    each : (entries : List Entry) (from : ℕ) → is_some (position_from (λ (entry : Entry). entry.0 == slot) from entries) ≡ is_among (map (λ entry. entry.0) entries) slot
    each [] from = refl
    each (e ∷ entries) from =
        elim (e.0 == slot) as (λ b. (e.0 == slot) ≡ b → is_some (cond b (Some from) (position_from (λ (entry : Entry). entry.0 == slot) (from + 1) entries)) ≡ ((slot == e.0) || is_among (map (λ entry. entry.0) entries) slot)) [
          | true ↦ λ t. ap (λ b. b || is_among (map (λ entry. entry.0) entries) slot) (sym t ∙ turned e.0 slot)
          | false ↦ λ f. each entries (from + 1) ∙ ap (λ b. b || is_among (map (λ entry. entry.0) entries) slot) (sym f ∙ turned e.0 slot)
        ] refl

-- ---- how many there are

pub count_power : (count size place : ℕ) → count ≤ 2 ^ (16 * place) → size ≤ 65536 → count * size ≤ 2 ^ (16 * (place + 1))
count_power count size place small few =
    let times = mul-le count size (2 ^ (16 * place)) 65536 small few in
    let power : 2 ^ (16 * place + 16) ≡ 2 ^ (16 * place) * 2 ^ 16 = pow-add 2 (16 * place) 16 in
    let is : 16 * place + 16 ≡ 16 * (place + 1) = omega arith in
    let same = ap (λ n. 2 ^ n) is in
    omega (arith, times, power, same)

pub count_room : (count size place most : ℕ) → count ≤ 2 ^ (16 * place) → size ≤ 65536 → place < most → most < 7 → count * size ≤ 2 ^ 96
count_room count size place most small few within limit =
    let times = mul-le count size (2 ^ (16 * place)) 65536 small few in
    let power : 2 ^ (16 * place + 16) ≡ 2 ^ (16 * place) * 2 ^ 16 = pow-add 2 (16 * place) 16 in
    let more = pow_mono {i = 16 * place + 16} {j = 96} (omega (arith, within, limit)) in
    omega (arith, times, power, more)

count_step : (dimensions : List DimensionState) (place count : ℕ) (d : DimensionState) → place < length dimensions →
    fold (λ count slots. count * length slots) count (values_of (drop place dimensions)) ≡ fold (λ count slots. count * length slots) (count * length (get_or dimensions place d).entries) (values_of (drop (suc place) dimensions))
count_step [] place count d within = absurd (omega (arith, within))
count_step (x ∷ dimensions) zero count d within = ap (λ n. fold (λ count slots. count * length slots) (count * n) (values_of dimensions)) (length-entries x.entries)
count_step (x ∷ dimensions) (suc place) count d within = count_step dimensions place count d (omega (arith, within))

pub count_more : (dimensions : List DimensionState) (place next count new goal : ℕ) (d : DimensionState) → next ≡ suc place → place < length dimensions → new ≡ count * length (get_or dimensions place d).entries →
    fold (λ count slots. count * length slots) count (values_of (drop place dimensions)) ≡ goal → fold (λ count slots. count * length slots) new (values_of (drop next dimensions)) ≡ goal
count_more dimensions place next count new goal d is within made before =
    (λ i. fold (λ count slots. count * length slots) (made i) (values_of (drop (is i) dimensions))) ∙ sym (count_step dimensions place count d within) ∙ before

pub count_all : (dimensions : List DimensionState) (place count : ℕ) → length dimensions ≤ place → fold (λ count slots. count * length slots) count (values_of (drop place dimensions)) ≡ count
count_all [] zero count end = refl
count_all [] (suc place) count end = refl
count_all (x ∷ dimensions) zero count end = absurd (omega (arith, end))
count_all (x ∷ dimensions) (suc place) count end = count_all dimensions place count (omega (arith, end))

-- ---- numbers from cells

-- what a cell gives at a key
abbrev given : List ℕ → Option ℤ → List ℕ → Option ℤ
given at taken key = cond (is_at (by_slots at) key) taken None

pub given_some : (at key : List ℕ) (taken : Option ℤ) (number : ℤ) (was : Option ℤ) → taken ≡ Some number → cond (is_at (by_slots at) key) (Some number) was ≡ or_else (given at taken key) was
given_some at key taken number was is = elim (is_at (by_slots at) key) as (λ b. cond b (Some number) was ≡ or_else (cond b taken None) was) [
  | true ↦ ap (λ t. or_else t was) (sym is)
  | false ↦ refl
]

pub given_none : (at key : List ℕ) (taken was : Option ℤ) → taken ≡ None → was ≡ or_else (given at taken key) was
given_none at key taken was is = elim (is_at (by_slots at) key) as (λ b. was ≡ or_else (cond b taken None) was) [
  | true ↦ ap (λ t. or_else t was) (sym is)
  | false ↦ refl
]

cell_past : (key at : List ℕ) (cell : Cell) (rest : Cells) → is_sorted by_slots ((at, cell) ∷ rest) ≡ true → is_at (by_slots key) at ≡ true → cell_at rest key ≡ Na
cell_past key at cell rest rising t =
    let below = both_true (below_all by_slots at rest) (is_sorted by_slots rest) rising in
    ap (λ c. unwrap_or c Na) (absent nat_list_cmp_total key at rest below.0 (equal_of (by_slots key at) t))

nothing_taken : (b : Bool) → cond b (number_in Na) None ≡ None
nothing_taken true = refl
nothing_taken false = refl

-- a cell stays where nothing is written
pub cell_kept : (b flag : Bool) (cell : Cell) → flag ≡ false → cell ≡ cond b (cond flag Na cell) cell
cell_kept b flag cell is = elim b as (λ t. cell ≡ cond t (cond flag Na cell) cell) [ true ↦ ap (λ f. cond f Na cell) (sym is) | false ↦ refl ]

pub cell_unwritten : (b : Bool) (new : Option Cell) (cell : Cell) → new ≡ None → cell ≡ cond b (written new cell) cell
cell_unwritten b new cell is = elim b as (λ t. cell ≡ cond t (written new cell) cell) [ true ↦ ap (λ n. written n cell) (sym is) | false ↦ refl ]

pub taken_step : (dimensions : List (List ℕ)) (at : List ℕ) (cell : Cell) (left rest : Cells) (was now : Option ℤ) (key : List ℕ) (goal : Option ℤ) → left ≡ (at, cell) ∷ rest → is_sorted by_slots left ≡ true →
    now ≡ or_else (cond (is_at (by_slots at) key) (cond (is_combination dimensions at) (number_in cell) None) None) was → or_else (numbers_at dimensions left key) was ≡ goal → or_else (numbers_at dimensions rest key) now ≡ goal
taken_step dimensions at cell left rest was now key goal first rising is before =
    let sorted : is_sorted by_slots ((at, cell) ∷ rest) ≡ true = ap (is_sorted by_slots) (sym first) ∙ rising in
    let whole : or_else (numbers_at dimensions ((at, cell) ∷ rest) key) was ≡ goal = ap (λ (l : Cells). or_else (numbers_at dimensions l key) was) (sym first) ∙ before in
    ap (or_else (numbers_at dimensions rest key)) (is ∙ ap (λ b. or_else (cond b (cond (is_combination dimensions at) (number_in cell) None) None) was) (key_turned at key))
    ∙ elim (is_at (by_slots key) at) as (λ b. is_at (by_slots key) at ≡ b → or_else (cond (is_combination dimensions key) (number_in (unwrap_or (cond b (Some cell) (find by_slots key rest)) Na)) None) was ≡ goal →
    or_else (numbers_at dimensions rest key) (or_else (cond b (cond (is_combination dimensions at) (number_in cell) None) None) was) ≡ goal) [
      | true ↦ λ t have.
          ap (λ c. or_else (cond (is_combination dimensions key) (number_in c) None) (or_else (cond (is_combination dimensions at) (number_in cell) None) was)) (cell_past key at cell rest sorted t)
          ∙ ap (λ n. or_else n (or_else (cond (is_combination dimensions at) (number_in cell) None) was)) (nothing_taken (is_combination dimensions key))
          ∙ ap (λ k. or_else (cond (is_combination dimensions k) (number_in cell) None) was) (sym (same_key key at t)) ∙ have
      | false ↦ λ _ have. have
    ] refl whole

pub sorted_rest : (left rest : Cells) (at : List ℕ) (cell : Cell) → left ≡ (at, cell) ∷ rest → is_sorted by_slots left ≡ true → is_sorted by_slots rest ≡ true
sorted_rest left rest at cell first rising = (both_true (below_all by_slots at rest) (is_sorted by_slots rest) (ap (is_sorted by_slots) (sym first) ∙ rising)).1

pub none_taken : (dimensions : List (List ℕ)) (left : Cells) (was : Option ℤ) (key : List ℕ) → left ≡ [] → or_else (numbers_at dimensions left key) was ≡ was
none_taken dimensions left was key none =
    ap (λ (l : Cells). or_else (numbers_at dimensions l key) was) none ∙ ap (λ n. or_else n was) (nothing_taken (is_combination dimensions key))

pub or_none : (n : Option ℤ) → or_else n None ≡ n
or_none None = refl
or_none (Some n) = refl

pub of_cells_more : (was now : Numbers) (at : List ℕ) (number : ℤ) → unsigned_abs number ≤ 10 ^ 18 → ((key : List ℕ) → now key ≡ cond (is_at (by_slots at) key) (Some number) (was key)) → AreOfCells was → AreOfCells now
of_cells_more was now at number small set each key =
    subst (λ n. IfSome n (λ z. unsigned_abs z ≤ 10 ^ 18)) (sym (set key))
    (elim (is_at (by_slots at) key) as (λ b. IfSome (cond b (Some number) (was key)) (λ z. unsigned_abs z ≤ 10 ^ 18)) [ true ↦ small | false ↦ each key ])

-- ---- cells that are taken away

pub clear_step : (cleared : List ℕ → Bool) (at : List ℕ) (cell : Cell) (left rest : Cells) (was now : Cells) (flag : Bool) (key : List ℕ) (goal : Cell) → left ≡ (at, cell) ∷ rest → flag ≡ cleared at →
    cell_at now key ≡ cond (is_at (by_slots key) at) (cond flag Na (cell_at was key)) (cell_at was key) →
    cond (is_in left key) (cond (cleared key) Na (cell_at was key)) (cell_at was key) ≡ goal → cond (is_in rest key) (cond (cleared key) Na (cell_at now key)) (cell_at now key) ≡ goal
clear_step cleared at cell left rest was now flag key goal first is set before =
    let whole : cond (is_in ((at, cell) ∷ rest) key) (cond (cleared key) Na (cell_at was key)) (cell_at was key) ≡ goal = ap (λ (l : Cells). cond (is_in l key) (cond (cleared key) Na (cell_at was key)) (cell_at was key)) (sym first) ∙ before in
    ap (λ c. cond (is_in rest key) (cond (cleared key) Na c) c) set
    ∙ elim (is_at (by_slots key) at) as (λ b. is_at (by_slots key) at ≡ b → cond (b || is_in rest key) (cond (cleared key) Na (cell_at was key)) (cell_at was key) ≡ goal →
    cond (is_in rest key) (cond (cleared key) Na (cond b (cond flag Na (cell_at was key)) (cell_at was key))) (cond b (cond flag Na (cell_at was key)) (cell_at was key)) ≡ goal) [
      | true ↦ λ t have.
          let here : cleared key ≡ flag = ap cleared (same_key key at t) ∙ sym is in
          ap (λ f. cond (is_in rest key) (cond f Na (cond flag Na (cell_at was key))) (cond flag Na (cell_at was key))) here
          ∙ elim flag as (λ f. cond f Na (cell_at was key) ≡ goal → cond (is_in rest key) (cond f Na (cond f Na (cell_at was key))) (cond f Na (cell_at was key)) ≡ goal) [
            | true ↦ λ h. either (is_in rest key) Na ∙ h
            | false ↦ λ h. either (is_in rest key) (cell_at was key) ∙ h
          ] (ap (λ f. cond f Na (cell_at was key)) (sym here) ∙ have)
      | false ↦ λ _ have. have
    ] refl whole
  where
    either : (b : Bool) (c : Cell) → cond b c c ≡ c
    either true c = refl
    either false c = refl

not_in : (cells : Cells) (key : List ℕ) → is_in cells key ≡ false → cell_at cells key ≡ Na
not_in [] key out = refl
not_in (e ∷ cells) key out =
    elim (is_at (by_slots key) e.0) as (λ b. (b || is_in cells key) ≡ false → unwrap_or (cond b (Some e.1) (find by_slots key cells)) Na ≡ Na) [
      | true ↦ λ o. cc
      | false ↦ λ o. not_in cells key o
    ] out

pub clear_first : (cells all : Cells) (cleared : Bool) (key : List ℕ) → all ≡ cells → cond (is_in all key) (cond cleared Na (cell_at cells key)) (cell_at cells key) ≡ cond cleared Na (cell_at cells key)
clear_first cells all cleared key same =
    ap (λ (l : Cells). cond (is_in l key) (cond cleared Na (cell_at cells key)) (cell_at cells key)) same
    ∙ elim (is_in cells key) as (λ b. is_in cells key ≡ b → cond b (cond cleared Na (cell_at cells key)) (cell_at cells key) ≡ cond cleared Na (cell_at cells key)) [
      | true ↦ λ _. refl
      | false ↦ λ out.
          let na = not_in cells key out in
          na ∙ elim cleared as (λ f. Na ≡ cond f Na (cell_at cells key)) [ true ↦ refl | false ↦ sym na ]
    ] refl

-- ---- cells that are written

pub written_step : (kind : Kind) (dimensions : List (List ℕ)) (at : List ℕ) (number : ℤ) (left rest : Held) (was now : Cells) (key : List ℕ) (goal : Cell) → left ≡ (at, number) ∷ rest → IsDistinct (eq_by_cmp by_slots) (keys_of left) →
    cell_at now key ≡ cond (is_at (by_slots key) at) (written (combined_cell kind dimensions (at, number)) (cell_at was key)) (cell_at was key) →
    written (pending kind dimensions key (held_at left key)) (cell_at was key) ≡ goal → written (pending kind dimensions key (held_at rest key)) (cell_at now key) ≡ goal
written_step kind dimensions at number left rest was now key goal first apart set before =
    let distinct : IsDistinct (eq_by_cmp by_slots) (keys_of ((at, number) ∷ rest)) = subst (λ (l : Held). IsDistinct (eq_by_cmp by_slots) (keys_of l)) first apart in
    let whole : written (pending kind dimensions key (held_at ((at, number) ∷ rest) key)) (cell_at was key) ≡ goal = ap (λ (l : Held). written (pending kind dimensions key (held_at l key)) (cell_at was key)) (sym first) ∙ before in
    ap (written (pending kind dimensions key (held_at rest key))) set
    ∙ elim (is_at (by_slots key) at) as (λ b. is_at (by_slots key) at ≡ b → written (pending kind dimensions key (cond b (Some number) (held_at rest key))) (cell_at was key) ≡ goal →
    written (pending kind dimensions key (held_at rest key)) (cond b (written (combined_cell kind dimensions (at, number)) (cell_at was key)) (cell_at was key)) ≡ goal) [
      | true ↦ λ t have.
          let none = lookup-none (is_at (by_slots key)) rest (none_past_head (eq_by_cmp_equiv nat_list_cmp_total) key (at, number) rest distinct t) in
          ap (λ n. written (pending kind dimensions key n) (written (combined_cell kind dimensions (at, number)) (cell_at was key))) none
          ∙ ap (λ k. written (combined_cell kind dimensions (k, number)) (cell_at was key)) (sym (same_key key at t)) ∙ have
      | false ↦ λ _ have. have
    ] refl whole

pub distinct_rest : (left rest : Held) (at : List ℕ) (number : ℤ) → left ≡ (at, number) ∷ rest → IsDistinct (eq_by_cmp by_slots) (keys_of left) → IsDistinct (eq_by_cmp by_slots) (keys_of rest)
distinct_rest left rest at number first apart = IsDistinct-tail (eq_by_cmp by_slots) at (keys_of rest) (subst (λ (l : Held). IsDistinct (eq_by_cmp by_slots) (keys_of l)) first apart)

pub written_first : (kind : Kind) (dimensions : List (List ℕ)) (held numbers : Held) (cells cleared : Cells) (key : List ℕ) → held ≡ numbers → cell_at cleared key ≡ cond (is_cleared dimensions numbers key) Na (cell_at cells key) →
    written (pending kind dimensions key (held_at held key)) (cell_at cleared key) ≡ cond (is_combination dimensions key) (settled kind (held_at numbers key) (cell_at cells key)) (cell_at cells key)
written_first kind dimensions held numbers cells cleared key same is =
    (λ i. written (pending kind dimensions key (held_at (same i) key)) (is i))
    ∙ elim (held_at numbers key) as (λ n. written (pending kind dimensions key n) (cond (is_combination dimensions key && not (is_some n)) Na (cell_at cells key)) ≡ cond (is_combination dimensions key) (settled kind n (cell_at cells key)) (cell_at cells key)) [
      | None ↦ elim (is_combination dimensions key) as (λ b. cond (b && true) Na (cell_at cells key) ≡ cond b Na (cell_at cells key)) [ true ↦ refl | false ↦ refl ]
      | Some n ↦ elim (is_combination dimensions key) as (λ b. written (cond b (fitting_cell kind n) None) (cond (b && false) Na (cell_at cells key)) ≡ cond b (written (fitting_cell kind n) (cell_at cells key)) (cell_at cells key)) [ true ↦ refl | false ↦ refl ]
    ]

pub written_last : (kind : Kind) (dimensions : List (List ℕ)) (left : Held) (cells : Cells) (key : List ℕ) → left ≡ [] → cell_at cells key ≡ written (pending kind dimensions key (held_at left key)) (cell_at cells key)
written_last kind dimensions left cells key none = ap (λ (l : Held). written (pending kind dimensions key (held_at l key)) (cell_at cells key)) (sym none)
