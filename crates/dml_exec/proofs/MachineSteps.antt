-- An op that takes the kinds of the cells isn't stuck on cells of these kinds, and goes on as it does with the kinds.
use Rattle.std.proofs.Common.{◌≡◌, ◌∙◌, ℕ, ◌+◌, ◌<◌, ◌≤◌, Bool as Truth, true, false, ◌&&◌, leb, ltb, List, [], ◌∷◌, length, Option, Some, None, Result, Ok, Err, refl, sym, ap, subst, inl, inr, arith, eqb, eq-eqb, get_or, suc, ◌||◌, unwrap_or}
use Rattle.std.specs.Bool.{IsTrue}
use Rattle.std.specs.List.{slice_get, list_all}
use Rattle.std.specs.Option.{IsSome, IsSomeAnd, option_map, option_and_then}
use Rattle.std.proofs.lemmas.Bool.{false≢true, and_parts, or_left, or_right, eqb-true, ltb-true, leb-true}
use Rattle.std.proofs.lemmas.Option.{slice_get-get_or}
use Rattle.aw_cell.specs.declared.cell.Cell.{Cell}
use Rattle.aw_cell.specs.declared.cell.Cell.TheVariants.{Na, Bool, Slot}
use Rattle.aw_cell.specs.declared.cell.Kind.{Kind}
use Rattle.aw_cell.specs.declared.cell.Kind.TheVariants.{Num as NumberKind, Int as IntegerKind, Text as TextKind, Bool as BooleanKind, Slot as SlotKind}
use Rattle.aw_cell.specs.declared.number.Arith.{Arith}
use Rattle.aw_page.specs.Fitting.{is_of_kind}
use Rattle.dml_exec.specs.declared.kinds.Kinds.{Kinds}
use Rattle.dml_exec.specs.declared.kinds.ObjectKind.{ObjectKind}
use Rattle.dml_exec.specs.declared.kinds.ObjectKind.TheVariants.{Dimension, Cells, Other}
use Rattle.dml_exec.specs.declared.flow.Way.{Way}
use Rattle.dml_exec.specs.declared.flow.Way.TheVariants.{Next, Leap, Fork}
use Rattle.dml_exec.specs.declared.op.Axis.{Axis}
use Rattle.dml_exec.specs.declared.op.Axis.TheVariants.{Free, Fixed}
use Rattle.dml_exec.specs.declared.op.Op.{Op}
use Rattle.dml_exec.specs.declared.op.Op.TheVariants.{Push, Local, Load, Name, NameOf, Add, Sub, Mul, Div, Neg, Abs, Min, Max, NaFill, Convert, Compare, And, Or, Not, Branch, Jump}
use Rattle.dml_exec.specs.declared.operator.Unary.{Unary}
use Rattle.dml_exec.specs.declared.operator.Unary.TheVariants.{Neg as Negates, Abs as Sizes, Convert as Converts, Not as Inverts}
use Rattle.dml_exec.specs.declared.operator.Binary.{Binary}
use Rattle.dml_exec.specs.declared.operator.Binary.TheVariants.{Add as Adds, Sub as Subtracts, Mul as Multiplies, Div as Divides, Min as TakesLeast, Max as TakesGreatest, NaFill as Fills, Compare as Compares, And as Joins, Or as Offers}
use Rattle.dml_exec.specs.Free.{is_among, free_in_axes, free_in_op}
use Rattle.dml_exec.specs.Meaning.{CodeInputs, Outcome, slot_at, slot_of_axis, slots_of, coordinate, answered, pushed, on_one, on_two, name_of, named, on_branch, turn}
use Rattle.dml_exec.specs.Operators.{when, of_one, of_two, kind_of_one, kind_of_two}
use Rattle.dml_exec.specs.Verified.{Rules, onward, kind_pushed, kinds_on_one, kinds_on_two, kinds_named, name_of_kind, kind_named, kind_read, are_axes, is_axis, is_dimension, is_dimension_kind, is_ahead, forked, GoesTo}
use Rattle.dml_exec.specs.inside.MachineSteps.{AreOf}
use Rattle.dml_exec.proofs.OperatorKinds.{Of, Gives, when-some, one-gives, two-gives}

same_Some : {A : Type 0} (a b : A) → Some a ≡ Some b → a ≡ b
same_Some a b e = cc

none-some : {A : Type 0} (a : A) → None ≡ Some a → ⊥
none-some a e = cc

-- how an op ends that may go a way with some kinds
abbrev pub Turned : ℕ → Way → List Kind → Outcome → Type 0
Turned at way kinds None = ⊥
Turned at way kinds (Some (Ok standing)) = GoesTo at way standing.0 × AreOf kinds standing.1
Turned at way kinds (Some (Err why)) = Unit {0}

abbrev Goes : Type 0
Goes = Way × List Kind

-- ---- what is pushed

answered-turned : (at : ℕ) (stack : List Kind) (cells : List Cell) (kind : Kind) (answer : Option (Result Cell Arith)) → Gives kind answer → AreOf stack cells → Turned at Next (kind ∷ stack) (option_map (answered (at + 1) cells) answer)
answered-turned at stack cells kind None g are = g
answered-turned at stack cells kind (Some (Ok cell)) g are = (refl, (g, are))
answered-turned at stack cells kind (Some (Err why)) g are = tt

pushed-turned : (at : ℕ) (stack : List Kind) (cells : List Cell) (kind : Kind) (cell : Option Cell) → IsSomeAnd cell (Of kind) → AreOf stack cells → Turned at Next (kind ∷ stack) (pushed (at + 1) cells cell)
pushed-turned at stack cells kind None g are = g
pushed-turned at stack cells kind (Some cell) g are = (refl, (g, are))

-- the kind that was pushed, where one was
push-turned : (at : ℕ) (stack : List Kind) (pushes : Option Kind) (way : Way) (after : List Kind) (outcome : Outcome) → kind_pushed stack pushes ≡ Some (way, after) → ((kind : Kind) → pushes ≡ Some kind → Turned at Next (kind ∷ stack) outcome) → Turned at way after outcome
push-turned at stack None way after outcome e h = absurd (none-some (way, after) e)
push-turned at stack (Some kind) way after outcome e h =
    let same : (Next, kind ∷ stack) ≡ (way, after) = same_Some (Next, kind ∷ stack) (way, after) e in
    subst (λ (g : Goes). Turned at g.0 g.1 outcome) same (h kind refl)

one-turned : (at : ℕ) (operator : Unary) (stack : List Kind) (cells : List Cell) (way : Way) (after : List Kind) → kinds_on_one operator stack ≡ Some (way, after) → AreOf stack cells → Turned at way after (on_one operator (at + 1) cells)
one-turned at operator [] cells way after e are = absurd (none-some (way, after) e)
one-turned at operator (k ∷ stack) [] way after e are = absurd are
one-turned at operator (k ∷ stack) (a ∷ cells) way after e are =
    push-turned at stack (kind_of_one operator k) way after (on_one operator (at + 1) (a ∷ cells)) e
    (λ kind is. answered-turned at stack cells kind (of_one operator a) (one-gives operator k kind a is are.0) are.1)

two-turned : (at : ℕ) (operator : Binary) (stack : List Kind) (cells : List Cell) (way : Way) (after : List Kind) → kinds_on_two operator stack ≡ Some (way, after) → AreOf stack cells → Turned at way after (on_two operator (at + 1) cells)
two-turned at operator [] cells way after e are = absurd (none-some (way, after) e)
two-turned at operator (l ∷ []) cells way after e are = absurd (none-some (way, after) e)
two-turned at operator (l ∷ k ∷ stack) [] way after e are = absurd are
two-turned at operator (l ∷ k ∷ stack) (b ∷ []) way after e are = absurd are.1
two-turned at operator (l ∷ k ∷ stack) (b ∷ a ∷ cells) way after e are =
    push-turned at stack (kind_of_two operator k l) way after (on_two operator (at + 1) (b ∷ a ∷ cells)) e
    (λ kind is. answered-turned at stack cells kind (of_two operator a b) (two-gives operator k l kind a b is are.1.0 are.0) are.1.1)

-- ---- names

names-of : (kinds : Kinds) (dimension : ℕ) (name : ℕ → Cell) (k kind : Kind) (cell : Cell) → ((slot : ℕ) → IsTrue (is_dimension kinds dimension) → Of TextKind (name slot)) → name_of_kind kinds dimension k ≡ Some kind → Of k cell → IsSomeAnd (name_of name cell) (Of kind)
names-of kinds dimension name SlotKind kind Na h e p =
    let w = when-some (is_dimension kinds dimension) TextKind kind e in subst (λ (x : Kind). Of x Na) w.1 refl
names-of kinds dimension name SlotKind kind (Slot slot) h e p =
    let w = when-some (is_dimension kinds dimension) TextKind kind e in subst (λ (x : Kind). Of x (name slot)) w.1 (h slot w.0)
names-of kinds dimension name SlotKind kind _ h e p = absurd (false≢true p)
names-of kinds dimension name _ kind cell h e p = absurd (none-some kind e)

named-turned : (kinds : Kinds) (dimension at : ℕ) (name : ℕ → Cell) (stack : List Kind) (cells : List Cell) (way : Way) (after : List Kind) → ((slot : ℕ) → IsTrue (is_dimension kinds dimension) → Of TextKind (name slot)) → kinds_named kinds dimension stack ≡ Some (way, after) → AreOf stack cells → Turned at way after (named name (at + 1) cells)
named-turned kinds dimension at name [] cells way after h e are = absurd (none-some (way, after) e)
named-turned kinds dimension at name (k ∷ stack) [] way after h e are = absurd are
named-turned kinds dimension at name (k ∷ stack) (cell ∷ cells) way after h e are =
    push-turned at stack (name_of_kind kinds dimension k) way after (named name (at + 1) (cell ∷ cells)) e
    (λ kind is. pushed-turned at stack cells kind (name_of name cell) (names-of kinds dimension name k kind cell h is are.0) are.1)

-- ---- jumps

branch-turned : (count at at_no at_na : ℕ) (stack : List Kind) (cells : List Cell) (way : Way) (after : List Kind) → forked count at at_no at_na stack ≡ Some (way, after) → AreOf stack cells → Turned at way after (on_branch (at + 1) at_no at_na cells)
branch-turned count at at_no at_na [] cells way after e are = absurd (none-some (way, after) e)
branch-turned count at at_no at_na (NumberKind ∷ stack) cells way after e are = absurd (none-some (way, after) e)
branch-turned count at at_no at_na (IntegerKind ∷ stack) cells way after e are = absurd (none-some (way, after) e)
branch-turned count at at_no at_na (TextKind ∷ stack) cells way after e are = absurd (none-some (way, after) e)
branch-turned count at at_no at_na (SlotKind ∷ stack) cells way after e are = absurd (none-some (way, after) e)
branch-turned count at at_no at_na (BooleanKind ∷ stack) [] way after e are = absurd are
branch-turned count at at_no at_na (BooleanKind ∷ stack) (cell ∷ cells) way after e are =
    let w = when-some (is_ahead count at at_no && is_ahead count at at_na) (Fork at_no at_na, stack) (way, after) e in
    subst (λ (g : Goes). Turned at g.0 g.1 (on_branch (at + 1) at_no at_na (cell ∷ cells))) w.1 (at_cell cell are.0)
  where
    at_cell : (cell : Cell) → Of BooleanKind cell → Turned at (Fork at_no at_na) stack (on_branch (at + 1) at_no at_na (cell ∷ cells))
    at_cell (Bool true) p = (inr (inr refl), are.1)
    at_cell (Bool false) p = (inl refl, are.1)
    at_cell Na p = (inr (inl refl), are.1)
    at_cell _ p = absurd (false≢true p)

-- ---- what is loaded

is-some : (slot : Option ℕ) → IsSome slot → (s : ℕ) × (slot ≡ Some s)
is-some None h = absurd (false≢true h)
is-some (Some slot) h = (slot, refl)

axis-found : (kinds : Kinds) (fixes : ℕ) (place : List (ℕ × ℕ)) (fixed : List ℕ) (axis : Axis) → IsTrue (is_axis kinds fixes axis) → ((dimension : ℕ) → axis ≡ Free dimension → IsSome (slot_at place dimension)) → fixes ≤ length fixed → (slot : ℕ) × (slot_of_axis place fixed axis ≡ Some slot)
axis-found kinds fixes place fixed (Free dimension) t h f = is-some (slot_at place dimension) (h dimension refl)
axis-found kinds fixes place fixed (Fixed fix) t h f =
    let less : fix < fixes = ltb-true fix fixes t in (get_or fixed fix 0, slice_get-get_or fixed fix 0 (omega arith))

among-first : (axis : Axis) (axes : List Axis) (dimension : ℕ) → axis ≡ Free dimension → IsTrue (is_among (free_in_axes (axis ∷ axes)) dimension)
among-first axis axes dimension e =
    subst (λ (a : Axis). IsTrue (is_among (free_in_axes (a ∷ axes)) dimension)) (sym e)
    (ap (λ (b : Truth). b || is_among (free_in_axes axes) dimension) (eq-eqb dimension dimension refl))

among-rest : (axis : Axis) (axes : List Axis) (dimension : ℕ) → IsTrue (is_among (free_in_axes axes) dimension) → IsTrue (is_among (free_in_axes (axis ∷ axes)) dimension)
among-rest (Free other) axes dimension is = or_right (eqb other dimension) (is_among (free_in_axes axes) dimension) is
among-rest (Fixed fix) axes dimension is = is

pub axes-found : (kinds : Kinds) (fixes : ℕ) (place : List (ℕ × ℕ)) (fixed : List ℕ) (axes : List Axis) → IsTrue (list_all (is_axis kinds fixes) axes) → ((dimension : ℕ) → IsTrue (is_among (free_in_axes axes) dimension) → IsSome (slot_at place dimension)) → fixes ≤ length fixed → (slots : List ℕ) × (slots_of place fixed axes ≡ Some slots) × (length slots ≡ length axes)
axes-found kinds fixes place fixed [] t h f = ([], refl, refl)
axes-found kinds fixes place fixed (axis ∷ axes) t h f =
    let both = and_parts (is_axis kinds fixes axis) (list_all (is_axis kinds fixes) axes) t in
    let first = axis-found kinds fixes place fixed axis both.0 (λ dimension is. h dimension (among-first axis axes dimension is)) f in
    let rest = axes-found kinds fixes place fixed axes both.1 (λ dimension is. h dimension (among-rest axis axes dimension is)) f in
    let len : length rest.0 ≡ length axes = rest.2 in (
      first.0 ∷ rest.0,
      ap (λ (o : Option ℕ). option_and_then (λ (slot : ℕ). option_map (λ (slots : List ℕ). slot ∷ slots) (slots_of place fixed axes)) o) first.1 ∙ ap (λ (o : Option (List ℕ)). option_map (λ (slots : List ℕ). first.0 ∷ slots) o) rest.1,
      ap suc len,
    )

-- ---- an op

-- what an op names, and reads, is there
pub record OpFits (r : Rules) (reads : CodeInputs) (op : Op) : Type 0 where
  pub places : (dimension : ℕ) → IsTrue (is_among (free_in_op op) dimension) → IsSome (slot_at reads.place dimension)
  pub fixed : r.fixes ≤ length reads.fixed
  pub locals : (number : ℕ) (kind : Kind) → op ≡ Local number → slice_get r.kinds.locals number ≡ Some kind → IsSomeAnd (slice_get reads.locals number) (Of kind)
  pub cells : (object : ℕ) (kind : Kind) (dimensions slots : List ℕ) → slice_get r.kinds.objects object ≡ Some (Cells kind dimensions) → length slots ≡ length dimensions → Of kind (reads.cell object slots)
  pub names : (dimension slot : ℕ) → slice_get r.kinds.objects dimension ≡ Some Dimension → Of TextKind (reads.name dimension slot)

pub dimension-is : (kind : Option ObjectKind) → IsTrue (is_dimension_kind kind) → kind ≡ Some Dimension
dimension-is (Some Dimension) t = refl
dimension-is _ t = absurd (false≢true t)

pub kind-read : (kinds : Kinds) (fixes : ℕ) (axes : List Axis) (object : Option ObjectKind) (kind : Kind) → kind_read kinds fixes axes object ≡ Some kind → (dimensions : List ℕ) × (object ≡ Some (Cells kind dimensions)) × IsTrue (are_axes kinds fixes dimensions axes)
kind-read kinds fixes axes (Some (Cells k dimensions)) kind e =
    let w = when-some (are_axes kinds fixes dimensions axes) k kind e in
    (dimensions, ap (λ (x : Kind). Some (Cells x dimensions)) w.1, w.0)
kind-read kinds fixes axes (Some Dimension) kind e = absurd (none-some kind e)
kind-read kinds fixes axes (Some Other) kind e = absurd (none-some kind e)
kind-read kinds fixes axes None kind e = absurd (none-some kind e)

loaded : (r : Rules) (reads : CodeInputs) (object : ℕ) (axes : List Axis) (kind : Kind) → OpFits r reads (Load object axes) → kind_read r.kinds r.fixes axes (slice_get r.kinds.objects object) ≡ Some kind → IsSomeAnd (option_map (reads.cell object) (coordinate reads.place reads.fixed axes)) (Of kind)
loaded r reads object axes kind fits e =
    let k = kind-read r.kinds r.fixes axes (slice_get r.kinds.objects object) kind e in
    let outer = and_parts (eqb (length axes) (length k.0) && leb (length axes) 6) (list_all (is_axis r.kinds r.fixes) axes) k.2 in
    let inner = and_parts (eqb (length axes) (length k.0)) (leb (length axes) 6) outer.0 in
    let found = axes-found r.kinds r.fixes reads.place reads.fixed axes outer.1 fits.places fits.fixed in
    let len : length found.0 ≡ length k.0 = found.2 ∙ eqb-true (length axes) (length k.0) inner.0 in
    let is : coordinate reads.place reads.fixed axes ≡ Some found.0 = ap (λ (t : Truth). option_and_then (λ (slots : Option (List ℕ)). slots) (when t (slots_of reads.place reads.fixed axes))) inner.1 ∙ found.1 in
    subst (λ (o : Option (List ℕ)). IsSomeAnd (option_map (reads.cell object) o) (Of kind)) (sym is) (fits.cells object kind k.0 found.0 k.1 len)

slot-there : (reads : CodeInputs) (dimension : ℕ) (slot : Option ℕ) → IsSome slot → Of TextKind (reads.name dimension (unwrap_or slot 0)) → IsSomeAnd (option_map (reads.name dimension) slot) (Of TextKind)
slot-there reads dimension None h p = absurd (false≢true h)
slot-there reads dimension (Some slot) h p = p

placed : (r : Rules) (reads : CodeInputs) (dimension : ℕ) (kind : Kind) → OpFits r reads (Name dimension) → kind_named r.kinds dimension ≡ Some kind → IsSomeAnd (option_map (reads.name dimension) (slot_at reads.place dimension)) (Of kind)
placed r reads dimension kind fits e =
    let w = when-some (is_dimension r.kinds dimension) TextKind kind e in
    let there : IsSome (slot_at reads.place dimension) = fits.places dimension (or_left (eqb dimension dimension) false (eq-eqb dimension dimension refl)) in
    subst (λ (x : Kind). IsSomeAnd (option_map (reads.name dimension) (slot_at reads.place dimension)) (Of x)) w.1
    (slot-there reads dimension (slot_at reads.place dimension) there (fits.names dimension (unwrap_or (slot_at reads.place dimension) 0) (dimension-is (slice_get r.kinds.objects dimension) w.0)))

pub turned : (r : Rules) (reads : CodeInputs) (at : ℕ) (op : Op) (stack : List Kind) (cells : List Cell) (way : Way) (after : List Kind) → OpFits r reads op → onward r at op stack ≡ Some (way, after) → AreOf stack cells → Turned at way after (turn reads at op cells)
turned r reads at (Push cell kind) stack cells way after fits e are =
    push-turned at stack (when (is_of_kind kind cell) kind) way after (pushed (at + 1) cells (Some cell)) e
    (λ k is. let w = when-some (is_of_kind kind cell) kind k is in pushed-turned at stack cells k (Some cell) (subst (λ (x : Kind). Of x cell) w.1 w.0) are)
turned r reads at (Local number) stack cells way after fits e are =
    push-turned at stack (slice_get r.kinds.locals number) way after (pushed (at + 1) cells (slice_get reads.locals number)) e
    (λ k is. pushed-turned at stack cells k (slice_get reads.locals number) (fits.locals number k refl is) are)
turned r reads at (Load object axes) stack cells way after fits e are =
    push-turned at stack (kind_read r.kinds r.fixes axes (slice_get r.kinds.objects object)) way after (pushed (at + 1) cells (option_map (reads.cell object) (coordinate reads.place reads.fixed axes))) e
    (λ k is. pushed-turned at stack cells k (option_map (reads.cell object) (coordinate reads.place reads.fixed axes)) (loaded r reads object axes k fits is) are)
turned r reads at (Name dimension) stack cells way after fits e are =
    push-turned at stack (kind_named r.kinds dimension) way after (pushed (at + 1) cells (option_map (reads.name dimension) (slot_at reads.place dimension))) e
    (λ k is. pushed-turned at stack cells k (option_map (reads.name dimension) (slot_at reads.place dimension)) (placed r reads dimension k fits is) are)
turned r reads at (NameOf dimension) stack cells way after fits e are =
    named-turned r.kinds dimension at (reads.name dimension) stack cells way after (λ slot t. fits.names dimension slot (dimension-is (slice_get r.kinds.objects dimension) t)) e are
turned r reads at Add stack cells way after fits e are = two-turned at Adds stack cells way after e are
turned r reads at Sub stack cells way after fits e are = two-turned at Subtracts stack cells way after e are
turned r reads at Mul stack cells way after fits e are = two-turned at Multiplies stack cells way after e are
turned r reads at Div stack cells way after fits e are = two-turned at Divides stack cells way after e are
turned r reads at Neg stack cells way after fits e are = one-turned at Negates stack cells way after e are
turned r reads at Abs stack cells way after fits e are = one-turned at Sizes stack cells way after e are
turned r reads at Min stack cells way after fits e are = two-turned at TakesLeast stack cells way after e are
turned r reads at Max stack cells way after fits e are = two-turned at TakesGreatest stack cells way after e are
turned r reads at NaFill stack cells way after fits e are = two-turned at Fills stack cells way after e are
turned r reads at (Convert kind) stack cells way after fits e are = one-turned at (Converts kind) stack cells way after e are
turned r reads at (Compare order) stack cells way after fits e are = two-turned at (Compares order) stack cells way after e are
turned r reads at And stack cells way after fits e are = two-turned at Joins stack cells way after e are
turned r reads at Or stack cells way after fits e are = two-turned at Offers stack cells way after e are
turned r reads at Not stack cells way after fits e are = one-turned at Inverts stack cells way after e are
turned r reads at (Branch at_no at_na) stack cells way after fits e are = branch-turned (length r.ops) at at_no at_na stack cells way after e are
turned r reads at (Jump to) stack cells way after fits e are =
    let w = when-some (is_ahead (length r.ops) at to) (Leap to, stack) (way, after) e in
    subst (λ (g : Goes). Turned at g.0 g.1 (Some (Ok (to, cells)))) w.1 (refl, are)

-- ---- a way goes ahead

abbrev pub IsAhead : ℕ → ℕ → ℕ → Type 0
IsAhead count at to = (at < to) × (to ≤ count)

abbrev pub GoesAhead : ℕ → ℕ → Way → Type 0
GoesAhead count at Next = Unit {0}
GoesAhead count at (Leap to) = IsAhead count at to
GoesAhead count at (Fork at_no at_na) = IsAhead count at at_no × IsAhead count at at_na

ahead-is : (count at to : ℕ) → IsTrue (is_ahead count at to) → IsAhead count at to
ahead-is count at to t = let both = and_parts (ltb at to) (leb to count) t in (ltb-true at to both.0, leb-true to count both.1)

push-ahead : (count at : ℕ) (stack : List Kind) (pushes : Option Kind) (way : Way) (after : List Kind) → kind_pushed stack pushes ≡ Some (way, after) → GoesAhead count at way
push-ahead count at stack None way after e = absurd (none-some (way, after) e)
push-ahead count at stack (Some kind) way after e =
    let same : (Next, kind ∷ stack) ≡ (way, after) = same_Some (Next, kind ∷ stack) (way, after) e in
    subst (λ (g : Goes). GoesAhead count at g.0) same tt

one-ahead : (count at : ℕ) (operator : Unary) (stack : List Kind) (way : Way) (after : List Kind) → kinds_on_one operator stack ≡ Some (way, after) → GoesAhead count at way
one-ahead count at operator [] way after e = absurd (none-some (way, after) e)
one-ahead count at operator (k ∷ stack) way after e = push-ahead count at stack (kind_of_one operator k) way after e

two-ahead : (count at : ℕ) (operator : Binary) (stack : List Kind) (way : Way) (after : List Kind) → kinds_on_two operator stack ≡ Some (way, after) → GoesAhead count at way
two-ahead count at operator [] way after e = absurd (none-some (way, after) e)
two-ahead count at operator (l ∷ []) way after e = absurd (none-some (way, after) e)
two-ahead count at operator (l ∷ k ∷ stack) way after e = push-ahead count at stack (kind_of_two operator k l) way after e

named-ahead : (count at : ℕ) (kinds : Kinds) (dimension : ℕ) (stack : List Kind) (way : Way) (after : List Kind) → kinds_named kinds dimension stack ≡ Some (way, after) → GoesAhead count at way
named-ahead count at kinds dimension [] way after e = absurd (none-some (way, after) e)
named-ahead count at kinds dimension (k ∷ stack) way after e = push-ahead count at stack (name_of_kind kinds dimension k) way after e

branch-ahead : (count at at_no at_na : ℕ) (stack : List Kind) (way : Way) (after : List Kind) → forked count at at_no at_na stack ≡ Some (way, after) → GoesAhead count at way
branch-ahead count at at_no at_na (BooleanKind ∷ stack) way after e =
    let w = when-some (is_ahead count at at_no && is_ahead count at at_na) (Fork at_no at_na, stack) (way, after) e in
    let both = and_parts (is_ahead count at at_no) (is_ahead count at at_na) w.0 in
    subst (λ (g : Goes). GoesAhead count at g.0) w.1 (ahead-is count at at_no both.0, ahead-is count at at_na both.1)
branch-ahead count at at_no at_na (NumberKind ∷ stack) way after e = absurd (none-some (way, after) e)
branch-ahead count at at_no at_na (IntegerKind ∷ stack) way after e = absurd (none-some (way, after) e)
branch-ahead count at at_no at_na (TextKind ∷ stack) way after e = absurd (none-some (way, after) e)
branch-ahead count at at_no at_na (SlotKind ∷ stack) way after e = absurd (none-some (way, after) e)
branch-ahead count at at_no at_na [] way after e = absurd (none-some (way, after) e)

pub goes-ahead : (r : Rules) (at : ℕ) (op : Op) (stack : List Kind) (way : Way) (after : List Kind) → onward r at op stack ≡ Some (way, after) → GoesAhead (length r.ops) at way
goes-ahead r at (Push cell kind) stack way after e = push-ahead (length r.ops) at stack (when (is_of_kind kind cell) kind) way after e
goes-ahead r at (Local number) stack way after e = push-ahead (length r.ops) at stack (slice_get r.kinds.locals number) way after e
goes-ahead r at (Load object axes) stack way after e = push-ahead (length r.ops) at stack (kind_read r.kinds r.fixes axes (slice_get r.kinds.objects object)) way after e
goes-ahead r at (Name dimension) stack way after e = push-ahead (length r.ops) at stack (kind_named r.kinds dimension) way after e
goes-ahead r at (NameOf dimension) stack way after e = named-ahead (length r.ops) at r.kinds dimension stack way after e
goes-ahead r at Add stack way after e = two-ahead (length r.ops) at Adds stack way after e
goes-ahead r at Sub stack way after e = two-ahead (length r.ops) at Subtracts stack way after e
goes-ahead r at Mul stack way after e = two-ahead (length r.ops) at Multiplies stack way after e
goes-ahead r at Div stack way after e = two-ahead (length r.ops) at Divides stack way after e
goes-ahead r at Neg stack way after e = one-ahead (length r.ops) at Negates stack way after e
goes-ahead r at Abs stack way after e = one-ahead (length r.ops) at Sizes stack way after e
goes-ahead r at Min stack way after e = two-ahead (length r.ops) at TakesLeast stack way after e
goes-ahead r at Max stack way after e = two-ahead (length r.ops) at TakesGreatest stack way after e
goes-ahead r at NaFill stack way after e = two-ahead (length r.ops) at Fills stack way after e
goes-ahead r at (Convert kind) stack way after e = one-ahead (length r.ops) at (Converts kind) stack way after e
goes-ahead r at (Compare order) stack way after e = two-ahead (length r.ops) at (Compares order) stack way after e
goes-ahead r at And stack way after e = two-ahead (length r.ops) at Joins stack way after e
goes-ahead r at Or stack way after e = two-ahead (length r.ops) at Offers stack way after e
goes-ahead r at Not stack way after e = one-ahead (length r.ops) at Inverts stack way after e
goes-ahead r at (Branch at_no at_na) stack way after e = branch-ahead (length r.ops) at at_no at_na stack way after e
goes-ahead r at (Jump to) stack way after e =
    let w = when-some (is_ahead (length r.ops) at to) (Leap to, stack) (way, after) e in
    subst (λ (g : Goes). GoesAhead (length r.ops) at g.0) w.1 (ahead-is (length r.ops) at to w.0)
