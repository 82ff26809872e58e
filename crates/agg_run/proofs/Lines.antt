-- The lines of a call one by one: their hierarchies, the first loop, and the numbers after each.
use Rattle.std.proofs.Common.{◌≡◌, ℕ, suc, zero, ◌==◌, ◌||◌, ◌<◌, ◌≤◌, ◌+◌, cond, true, false, List, [], ◌∷◌, ◌++◌, length, map, take, drop, slice_set, get_or, Option, Some, None, refl, sym, ap, subst, ◌∙◌, arith}
use Rattle.std.specs.Prelude.{nat_eq}
use Rattle.std.specs.List.{IsDistinct}
use Rattle.std.proofs.lemmas.Cmp.{nat_eq_equiv}
use Rattle.std.proofs.lemmas.Bool.Decides.{Decides-eqb}
use Rattle.std.proofs.lemmas.Map.Made.{length-le_from_is_member}
use Rattle.std.proofs.Math.Seq.{drop-cons, take-suc}
use Rattle.std.proofs.Math.ListN.{length-set}
use Rattle.aw_cell.specs.declared.cell.Kind.{Kind}
use Rattle.aw_cell.specs.declared.operator.Operator.{Operator}
use Rattle.aw_dim.specs.DimensionState.{DimensionState, Entry}
use Rattle.aw_rel.specs.Hierarchy.{Tree, tree_of, parent_of, slots_in, is_among, is_leaf, leaves_in, first_loop}
use Rattle.aw_rel.proofs.CallerLemmas.{same_number}
use Rattle.aw_var.specs.CellMap.{Cells, cell_at}
use Rattle.aw_var.specs.Variable.{Contents}
use Rattle.agg_map.specs.declared.line.MapLine.{MapLine}
use Rattle.agg_run.specs.Numbers.{operated}
use Rattle.agg_run.specs.Aggregates.{Line, Numbers, slot_at, at_leaves, pass, passes, loop_at, first_line_with_loop}
use Rattle.agg_run.specs.Calls.{place_in, no_values, lines_along, AreAmong}
use Rattle.agg_run.specs.inside.Lines.{no_line, some_line, lines_with, AreOfValues, IsLoopCause, IsCauseAt}
use Rattle.agg_run.specs.declared.fault.AggFault.{AggFault}
use Rattle.agg_run.specs.declared.fault.AggFault.TheVariants.{Loop, TooLarge, Overflow, NoMemory}
use Rattle.agg_run.specs.inside.Passes.{HaveRoom}
use Rattle.agg_run.proofs.Bounds.{room_after}
use Rattle.agg_run.proofs.Sums.{place_of}

-- ---- places

pub place_step : (over : List ℕ) (number place goal : ℕ) (next : ℕ) → next ≡ suc place → place < length over → (get_or over place 0 == number) ≡ false → place + place_in (drop place over) number ≡ goal → next + place_in (drop next over) number ≡ goal
place_step over number place goal next is within other before =
    let here : place_in (drop place over) number ≡ suc (place_in (drop (suc place) over) number) =
    ap (λ l. place_in l number) (drop-cons over place 0 within) ∙ ap (λ b. cond b 0 (suc (place_in (drop (suc place) over) number))) other in
    let same = ap (λ n. place_in (drop n over) number) is in
    omega (arith, here, is, before, same)

pub place_here : (over : List ℕ) (number place goal : ℕ) → place < length over → get_or over place 0 ≡ number → place + place_in (drop place over) number ≡ goal → place ≡ goal
place_here over number place goal within same before =
    let is = (Decides-eqb (get_or over place 0) number).1 same in
    let here : place_in (drop place over) number ≡ 0 =
    ap (λ l. place_in l number) (drop-cons over place 0 within) ∙ ap (λ b. cond b 0 (suc (place_in (drop (suc place) over) number))) is in
    omega (arith, here, before)

pub place_end : (over : List ℕ) (number place goal : ℕ) → length over ≤ place → place ≤ length over → place + place_in (drop place over) number ≡ goal → length over ≡ goal
place_end over number place goal end within before =
    let none : place_in (drop place over) number ≡ 0 = nothing over place end in
    omega (arith, none, before, end, within)
  where
    nothing : (xs : List ℕ) (n : ℕ) → length xs ≤ n → place_in (drop n xs) number ≡ 0
    nothing [] zero h = refl
    nothing [] (suc n) h = refl
    nothing (x ∷ xs) zero h = absurd (omega (arith, h))
    nothing (x ∷ xs) (suc n) h = nothing xs n (omega (arith, h))

-- a number that is there stands at its place
pub place_among : (over : List ℕ) (number : ℕ) → is_among over number ≡ true → (place_in over number < length over) × (get_or over (place_in over number) 0 ≡ number)
place_among [] number among = cc
place_among (x ∷ over) number among =
    elim (x == number) as (λ b. (x == number) ≡ b → (cond b 0 (suc (place_in over number)) < suc (length over)) × (get_or (x ∷ over) (cond b 0 (suc (place_in over number))) 0 ≡ number)) [
      | true ↦ λ t. (omega arith, same_number x number t)
      | false ↦ λ f.
          let turned : (number == x) ≡ false = elim (number == x) as (λ b. (number == x) ≡ b → b ≡ false) [
            | true ↦ λ t. let back = (Decides-eqb x number).1 (sym (same_number number x t)) in cc
            | false ↦ λ _. refl
          ] refl in
          let r = place_among over number (ap (λ b. b || is_among over number) (sym turned) ∙ among) in
          (omega (arith, r.0), r.1)
    ] refl

pub among_at : (over numbers : List ℕ) (k : ℕ) → AreAmong numbers over → k < length numbers → is_among over (get_or numbers k 0) ≡ true
among_at over numbers k along within = along k 0 within

pub place_within : (over numbers : List ℕ) (k : ℕ) → AreAmong numbers over → k < length numbers → place_in over (get_or numbers k 0) < length over
place_within over numbers k along within = (place_among over (get_or numbers k 0) (among_at over numbers k along within)).0

-- lines with dimensions of their own are no more than dimensions
pub lines_most : (over numbers : List ℕ) → IsDistinct nat_eq numbers → AreAmong numbers over → length numbers ≤ length over
lines_most over numbers apart along = length-le_from_is_member nat_eq_equiv numbers over apart (λ q member.
    let p = place_of numbers q 0 member in
    ap (is_among over) (sym p.2) ∙ among_at over numbers p.0 along p.1)

-- ---- the lines of a call

pub line_is : (lines : List MapLine) (numbers over : List ℕ) (dimensions : List DimensionState) (parents : List Contents) (k : ℕ) (line : MapLine) (relation : Contents) → length numbers ≡ length lines → length parents ≡ length lines → k < length lines →
    get_or (lines_along lines numbers over dimensions parents) k no_line ≡ record {
      tree = tree_of (get_or dimensions (place_in over (get_or numbers k 0)) no_values) (get_or parents k relation).cells;
      place = place_in over (get_or numbers k 0);
      operator = (get_or lines k line).operator;
    }
line_is [] numbers over dimensions parents k line relation paired as_many within = absurd (omega (arith, within))
line_is (l ∷ lines) [] over dimensions parents k line relation paired as_many within = absurd (omega (arith, paired))
line_is (l ∷ lines) (n ∷ numbers) over dimensions [] k line relation paired as_many within = absurd (omega (arith, as_many))
line_is (l ∷ lines) (n ∷ numbers) over dimensions (p ∷ parents) zero line relation paired as_many within = refl
line_is (l ∷ lines) (n ∷ numbers) over dimensions (p ∷ parents) (suc k) line relation paired as_many within = line_is lines numbers over dimensions parents k line relation (omega (arith, paired)) (omega (arith, as_many)) (omega (arith, within))

pub length-along : (lines : List MapLine) (numbers over : List ℕ) (dimensions : List DimensionState) (parents : List Contents) → length numbers ≡ length lines → length parents ≡ length lines → length (lines_along lines numbers over dimensions parents) ≡ length lines
length-along [] numbers over dimensions parents paired as_many = refl
length-along (l ∷ lines) [] over dimensions parents paired as_many = absurd (omega (arith, paired))
length-along (l ∷ lines) (n ∷ numbers) over dimensions [] paired as_many = absurd (omega (arith, as_many))
length-along (l ∷ lines) (n ∷ numbers) over dimensions (p ∷ parents) paired as_many = ap suc (length-along lines numbers over dimensions parents (omega (arith, paired)) (omega (arith, as_many)))

pub with_is : (lines : List MapLine) (numbers over : List ℕ) (trees : List Tree) (k : ℕ) (line : MapLine) (tree : Tree) → length numbers ≡ length lines → length trees ≡ length lines → k < length lines →
    get_or (lines_with lines numbers over trees) k no_line ≡ record { tree = get_or trees k tree; place = place_in over (get_or numbers k 0); operator = (get_or lines k line).operator }
with_is [] numbers over trees k line tree paired as_many within = absurd (omega (arith, within))
with_is (l ∷ lines) [] over trees k line tree paired as_many within = absurd (omega (arith, paired))
with_is (l ∷ lines) (n ∷ numbers) over [] k line tree paired as_many within = absurd (omega (arith, as_many))
with_is (l ∷ lines) (n ∷ numbers) over (t ∷ trees) zero line tree paired as_many within = refl
with_is (l ∷ lines) (n ∷ numbers) over (t ∷ trees) (suc k) line tree paired as_many within = with_is lines numbers over trees k line tree (omega (arith, paired)) (omega (arith, as_many)) (omega (arith, within))

pub length-with : (lines : List MapLine) (numbers over : List ℕ) (trees : List Tree) → length numbers ≡ length lines → length trees ≡ length lines → length (lines_with lines numbers over trees) ≡ length lines
length-with [] numbers over trees paired as_many = refl
length-with (l ∷ lines) [] over trees paired as_many = absurd (omega (arith, paired))
length-with (l ∷ lines) (n ∷ numbers) over [] paired as_many = absurd (omega (arith, as_many))
length-with (l ∷ lines) (n ∷ numbers) over (t ∷ trees) paired as_many = ap suc (length-with lines numbers over trees (omega (arith, paired)) (omega (arith, as_many)))

-- with their own hierarchies the lines are those of the call
pub with_trees : (lines : List MapLine) (numbers over : List ℕ) (dimensions : List DimensionState) (parents : List Contents) → lines_with lines numbers over (map (λ line. line.tree) (lines_along lines numbers over dimensions parents)) ≡ lines_along lines numbers over dimensions parents
with_trees [] numbers over dimensions parents = refl
with_trees (l ∷ lines) [] over dimensions parents = refl
with_trees (l ∷ lines) (n ∷ numbers) over dimensions [] = refl
with_trees (l ∷ lines) (n ∷ numbers) over dimensions (p ∷ parents) = ap (λ (rest : List Line). record { tree = tree_of (get_or dimensions (place_in over n) no_values) p.cells; place = place_in over n; operator = l.operator } ∷ rest) (with_trees lines numbers over dimensions parents)

pub slots_of_tree : (values : DimensionState) (cells : Cells) → slots_in (tree_of values cells) ≡ map (λ entry. entry.0) values.entries
slots_of_tree values cells = each values.entries
  where
    each : (entries : List Entry) → slots_in (map (λ entry. (entry.0, parent_of values (cell_at cells (entry.0 ∷ [])))) entries) ≡ map (λ entry. entry.0) entries
    each [] = refl
    each (e ∷ entries) = ap (λ (l : List ℕ). e.0 ∷ l) (each entries)

tree_at : (lines : List Line) (k : ℕ) → get_or (map (λ (line : Line). line.tree) lines) k [] ≡ (get_or lines k no_line).tree
tree_at [] zero = refl
tree_at [] (suc k) = refl
tree_at (l ∷ lines) zero = refl
tree_at (l ∷ lines) (suc k) = tree_at lines k

length-trees : (lines : List Line) → length (map (λ (line : Line). line.tree) lines) ≡ length lines
length-trees [] = refl
length-trees (l ∷ lines) = ap suc (length-trees lines)

pub as_many_trees : (lines : List MapLine) (numbers over : List ℕ) (dimensions : List DimensionState) (parents : List Contents) (trees : List Tree) → length numbers ≡ length lines → length parents ≡ length lines →
    trees ≡ map (λ line. line.tree) (lines_along lines numbers over dimensions parents) → length trees ≡ length lines
as_many_trees lines numbers over dimensions parents trees paired as_many is =
    ap (λ (l : List Tree). length l) is ∙ length-trees (lines_along lines numbers over dimensions parents) ∙ length-along lines numbers over dimensions parents paired as_many

pub are_of_values : (lines : List MapLine) (line : MapLine) (relation : Contents) (numbers over : List ℕ) (dimensions : List DimensionState) (parents : List Contents) (trees : List Tree) → length numbers ≡ length lines → length parents ≡ length lines →
    trees ≡ map (λ line. line.tree) (lines_along lines numbers over dimensions parents) → AreOfValues trees numbers over dimensions
are_of_values lines line relation numbers over dimensions parents trees paired as_many is k within =
    let size = as_many_trees lines numbers over dimensions parents trees paired as_many is in
    ap (λ (l : List Tree). slots_in (get_or l k [])) is
    ∙ ap slots_in (tree_at (lines_along lines numbers over dimensions parents) k ∙ ap (λ (l : Line). l.tree) (line_is lines numbers over dimensions parents k line relation paired as_many (omega (arith, within, size))))
    ∙ slots_of_tree (get_or dimensions (place_in over (get_or numbers k 0)) no_values) (get_or parents k relation).cells

-- ---- one line of a call

get_same : {X : Type 0} (xs : List X) (k : ℕ) (d e : X) → k < length xs → get_or xs k d ≡ get_or xs k e
get_same [] k d e within = absurd (omega (arith, within))
get_same (x ∷ xs) zero d e within = refl
get_same (x ∷ xs) (suc k) d e within = get_same xs k d e (omega (arith, within))

pub tree_here : (lines : List MapLine) (numbers over : List ℕ) (dimensions : List DimensionState) (parents : List Contents) (k place : ℕ) (dimension : DimensionState) (relation : Contents) → length numbers ≡ length lines → length parents ≡ length lines → k < length lines →
    place ≡ place_in over (get_or numbers k 0) → place < length dimensions → dimension ≡ get_or dimensions place dimension → relation ≡ get_or parents k relation →
    tree_of dimension relation.cells ≡ (get_or (lines_along lines numbers over dimensions parents) k no_line).tree
tree_here lines numbers over dimensions parents k place dimension relation paired as_many within at inside is_dimension is_relation =
    ap (λ (v : Contents). tree_of dimension v.cells) is_relation
    ∙ ap (λ (d : DimensionState). tree_of d (get_or parents k relation).cells) (is_dimension ∙ get_same dimensions place dimension no_values inside ∙ ap (λ p. get_or dimensions p no_values) at)
    ∙ ap (λ (l : Line). l.tree) (sym (line_is lines numbers over dimensions parents k some_line relation paired as_many within))

pub values_here : (trees : List Tree) (numbers over : List ℕ) (dimensions : List DimensionState) (k place : ℕ) (tree : Tree) (dimension : DimensionState) → AreOfValues trees numbers over dimensions → k < length trees →
    tree ≡ get_or trees k tree → place ≡ place_in over (get_or numbers k 0) → place < length dimensions → dimension ≡ get_or dimensions place dimension → slots_in tree ≡ map (λ entry. entry.0) dimension.entries
values_here trees numbers over dimensions k place tree dimension are within is_tree at inside is_dimension =
    ap slots_in (is_tree ∙ get_same trees k tree [] within) ∙ are k within
    ∙ ap (λ (d : DimensionState). map (λ (entry : Entry). entry.0) d.entries) (ap (λ p. get_or dimensions p no_values) (sym at) ∙ get_same dimensions place no_values dimension inside ∙ sym is_dimension)

pub line_here : (lines : List MapLine) (numbers over : List ℕ) (trees : List Tree) (k place : ℕ) (tree : Tree) (operator : Operator) → length numbers ≡ length lines → length trees ≡ length lines → k < length lines →
    tree ≡ get_or trees k tree → place ≡ place_in over (get_or numbers k 0) → operator ≡ (get_or lines k some_line).operator → record { tree = tree; place = place; operator = operator } ≡ get_or (lines_with lines numbers over trees) k no_line
line_here lines numbers over trees k place tree operator paired as_many within is_tree at is_operator =
    let same : made tree place operator ≡ made (get_or trees k tree) (place_in over (get_or numbers k 0)) (get_or lines k some_line).operator = λ i. made (is_tree i) (at i) (is_operator i) in
    same ∙ sym (with_is lines numbers over trees k some_line tree paired as_many within)
  where
    made : Tree → ℕ → Operator → Line
    made t p o = record { tree = t; place = p; operator = o }

-- ---- the hierarchies of the first lines

pub trees_more : (lines : List Line) (k next : ℕ) (trees : List Tree) (tree : Tree) → next ≡ suc k → k < length lines → tree ≡ (get_or lines k no_line).tree → trees ≡ map (λ line. line.tree) (take k lines) → trees ++ tree ∷ [] ≡ map (λ line. line.tree) (take next lines)
trees_more lines k next trees tree is within here before =
    (λ i. before i ++ here i ∷ []) ∙ sym (mapped (take k lines) (get_or lines k no_line))
    ∙ ap (λ (l : List Line). map (λ (line : Line). line.tree) l) (sym (take-suc lines k no_line within)) ∙ ap (λ n. map (λ (line : Line). line.tree) (take n lines)) (sym is)
  where
    mapped : (xs : List Line) (x : Line) → map (λ (line : Line). line.tree) (xs ++ x ∷ []) ≡ map (λ (line : Line). line.tree) xs ++ x.tree ∷ []
    mapped [] x = refl
    mapped (y ∷ xs) x = ap (λ (l : List Tree). y.tree ∷ l) (mapped xs x)

pub trees_all : (lines : List Line) (k : ℕ) (trees : List Tree) → length lines ≤ k → trees ≡ map (λ line. line.tree) (take k lines) → trees ≡ map (λ line. line.tree) lines
trees_all lines k trees end is = is ∙ ap (λ (l : List Line). map (λ (line : Line). line.tree) l) (all lines k end)
  where
    all : (xs : List Line) (n : ℕ) → length xs ≤ n → take n xs ≡ xs
    all [] zero h = refl
    all [] (suc n) h = refl
    all (x ∷ xs) zero h = absurd (omega (arith, h))
    all (x ∷ xs) (suc n) h = ap (λ (l : List Line). x ∷ l) (all xs n (omega (arith, h)))

loops_from : (lines : List Line) (k : ℕ) → k < length lines → first_line_with_loop k (drop k lines) ≡ loop_at k (first_loop (get_or lines k no_line).tree) (first_line_with_loop (suc k) (drop (suc k) lines))
loops_from lines k within = ap (first_line_with_loop k) (drop-cons lines k no_line within)

pub loop_more : (lines : List Line) (k next : ℕ) (goal : Option (ℕ × ℕ)) → next ≡ suc k → k < length lines → first_loop (get_or lines k no_line).tree ≡ None → first_line_with_loop k (drop k lines) ≡ goal → first_line_with_loop next (drop next lines) ≡ goal
loop_more lines k next goal is within none before =
    ap (λ n. first_line_with_loop n (drop n lines)) is ∙ ap (λ o. loop_at k o (first_line_with_loop (suc k) (drop (suc k) lines))) (sym none) ∙ sym (loops_from lines k within) ∙ before

pub loop_here : (lines : List Line) (k slot : ℕ) (goal : Option (ℕ × ℕ)) → k < length lines → first_loop (get_or lines k no_line).tree ≡ Some slot → first_line_with_loop k (drop k lines) ≡ goal → goal ≡ Some (k, slot)
loop_here lines k slot goal within some before = sym before ∙ loops_from lines k within ∙ ap (λ o. loop_at k o (first_line_with_loop (suc k) (drop (suc k) lines))) some

pub cause_here : (lines : List Line) (k : ℕ) (fault : AggFault) (goal : Option (ℕ × ℕ)) → k < length lines → IsCauseAt k (first_loop (get_or lines k no_line).tree) fault → first_line_with_loop k (drop k lines) ≡ goal → IsLoopCause goal fault
cause_here lines k NoMemory goal within cause before = tt
cause_here lines k (Loop line slot) goal within cause before = loop_here lines k slot goal within cause.1 before ∙ ap (λ (n : ℕ). Some (n, slot)) (sym cause.0)
cause_here lines k (TooLarge count) goal within cause before = cause
cause_here lines k (Overflow key) goal within cause before = cause

pub loop_none : (lines : List Line) (k : ℕ) (goal : Option (ℕ × ℕ)) → length lines ≤ k → first_line_with_loop k (drop k lines) ≡ goal → goal ≡ None
loop_none lines k goal end before = sym before ∙ nothing lines k k end
  where
    nothing : (xs : List Line) (n m : ℕ) → length xs ≤ n → first_line_with_loop m (drop n xs) ≡ None
    nothing [] zero m h = refl
    nothing [] (suc n) m h = refl
    nothing (x ∷ xs) zero m h = absurd (omega (arith, h))
    nothing (x ∷ xs) (suc n) m h = nothing xs n m (omega (arith, h))

-- ---- the numbers after the first lines

pass_same : (kind : Kind) (line : Line) (slots : ℕ) (f g : Numbers) → ((key : List ℕ) → length key ≡ slots → f key ≡ g key) → (key : List ℕ) → length key ≡ slots → pass kind f line key ≡ pass kind g line key
pass_same kind line slots f g same key long =
    (λ i. cond (is_leaf line.tree (slot_at key line.place)) (same key long i) (operated kind line.operator (at_leaves line f key)))
    ∙ ap (λ l. cond (is_leaf line.tree (slot_at key line.place)) (g key) (operated kind line.operator l)) (each (leaves_in line.tree (slot_at key line.place)))
  where
    each : (leaves : List ℕ) → map (λ leaf. f (slice_set key line.place leaf)) leaves ≡ map (λ leaf. g (slice_set key line.place leaf)) leaves
    each [] = refl
    each (leaf ∷ leaves) = λ i. same (slice_set key line.place leaf) (length-set key line.place leaf ∙ long) i ∷ each leaves i

pub passes_same : (kind : Kind) (lines : List Line) (slots : ℕ) (f g : Numbers) → ((key : List ℕ) → length key ≡ slots → f key ≡ g key) → (key : List ℕ) → length key ≡ slots → passes kind lines f key ≡ passes kind lines g key
passes_same kind [] slots f g same key long = same key long
passes_same kind (line ∷ lines) slots f g same key long = passes_same kind lines slots (pass kind f line) (pass kind g line) (pass_same kind line slots f g same) key long

pub passes_more : (kind : Kind) (lines : List Line) (slots k next : ℕ) (was now : Numbers) (goal : Numbers) → next ≡ suc k → k < length lines → ((key : List ℕ) → length key ≡ slots → now key ≡ pass kind was (get_or lines k no_line) key) →
    ((key : List ℕ) → length key ≡ slots → passes kind (drop k lines) was key ≡ goal key) → (key : List ℕ) → length key ≡ slots → passes kind (drop next lines) now key ≡ goal key
passes_more kind lines slots k next was now goal is within same before key long =
    ap (λ n. passes kind (drop n lines) now key) is
    ∙ passes_same kind (drop (suc k) lines) slots now (pass kind was (get_or lines k no_line)) same key long
    ∙ ap (λ (l : List Line). passes kind l was key) (sym (drop-cons lines k no_line within)) ∙ before key long

pub passes_all : (kind : Kind) (lines : List Line) (k : ℕ) (numbers : Numbers) (key : List ℕ) → length lines ≤ k → passes kind (drop k lines) numbers key ≡ numbers key
passes_all kind [] zero numbers key h = refl
passes_all kind [] (suc k) numbers key h = refl
passes_all kind (x ∷ lines) zero numbers key h = absurd (omega (arith, h))
passes_all kind (x ∷ lines) (suc k) numbers key h = passes_all kind lines k numbers key (omega (arith, h))

pub room_more : (kind : Kind) (lines : List Line) (slots k next : ℕ) (was now : Numbers) → next ≡ suc k → k < length lines → ((key : List ℕ) → length key ≡ slots → now key ≡ pass kind was (get_or lines k no_line) key) → HaveRoom slots (drop k lines) was → HaveRoom slots (drop next lines) now
room_more kind lines slots k next was now is within same has =
    subst (λ n. HaveRoom slots (drop n lines) now) (sym is) (room_after kind slots (get_or lines k no_line) (drop (suc k) lines) was now same (subst (λ (l : List Line). HaveRoom slots l was) (drop-cons lines k no_line within) has))
