-- The ops of a formula, moved to another place, take the same kinds there.
use Rattle.std.proofs.Common.{◌≡◌, ◌∙◌, ℕ, suc, ◌+◌, ◌-◌, ◌≤◌, ◌&&◌, inl, inr, Bool as Truth, true, false, cond, eqb, List, [], ◌∷◌, ◌++◌, length, map, Option, Some, None, refl, ap, subst, arith}
use Rattle.std.specs.Prelude.{nat_le, nat_lt, slice_get}
use Rattle.std.specs.List.{list_all}
use Rattle.std.proofs.lemmas.Bool.{leb-true, lt-ltb, ltb-true, and_parts}
use Rattle.aw_cell.specs.declared.cell.Kind.{Kind}
use Rattle.aw_cell.specs.declared.cell.Kind.TheVariants.{Num as NUMBER, Int as INTEGER, Text as TEXT, Bool as BOOLEAN, Slot as SLOT}
use Rattle.aw_page.specs.Fitting.{is_of_kind}
use Rattle.dml_kinds.specs.declared.tree.FixedValue.{FixedValue}
use Rattle.dml_exec.specs.declared.flow.Way.{Way}
use Rattle.dml_exec.specs.declared.flow.Way.TheVariants.{Next, Leap, Fork}
use Rattle.dml_exec.specs.declared.kinds.Kinds.{Kinds}
use Rattle.dml_exec.specs.declared.kinds.ObjectKind.{ObjectKind}
use Rattle.dml_exec.specs.declared.kinds.ObjectKind.TheVariants.{Dimension, Cells, Other}
use Rattle.dml_exec.specs.declared.op.Axis.{Axis}
use Rattle.dml_exec.specs.declared.op.Axis.TheVariants.{Free, Fixed}
use Rattle.dml_exec.specs.declared.op.Op.{Op}
use Rattle.dml_exec.specs.declared.op.Op.TheVariants.{Push, Local, Load, Name, NameOf, Add, Sub, Mul, Div, Neg, Abs, Min, Max, NaFill, Convert, Compare, And, Or, Not, Branch, Jump}
use Rattle.dml_exec.specs.declared.operator.Unary.{Unary}
use Rattle.dml_exec.specs.declared.operator.Unary.TheVariants.{Neg as Negates, Abs as Sizes, Convert as Converts, Not as Inverts}
use Rattle.dml_exec.specs.declared.operator.Binary.{Binary}
use Rattle.dml_exec.specs.declared.operator.Binary.TheVariants.{Add as Adds, Sub as Subtracts, Mul as Multiplies, Div as Divides, Min as TakesLeast, Max as TakesGreatest, NaFill as Fills, Compare as Compares, And as Joins, Or as Offers}
use Rattle.dml_exec.specs.Operators.{when, kind_of_one, kind_of_two}
use Rattle.dml_exec.specs.Verified.{Rules, rules_of, Onward, is_dimension, is_axis, are_axes, kind_read, kind_named, kind_pushed, kinds_on_one, kinds_on_two, kinds_named, is_ahead, forked, onward, GoesTo}
use Rattle.dml_compile.specs.inside.Emitted.{axis_of, fixed_in, moved_axis, moved_name, moved}
use Rattle.dml_compile.proofs.SoundOps.{Step, Steps, Flows, ahead}

-- ---- axes

-- the axis of a dimension is that dimension, or one of the values that are fixed
pub axis_names : (kinds : Kinds) (fixes number dimension : ℕ) (values : List FixedValue) → number + length values ≤ fixes → is_dimension kinds dimension ≡ true → is_axis kinds fixes (axis_of values number dimension) ≡ true
axis_names kinds fixes number dimension [] room is = is
axis_names kinds fixes number dimension (value ∷ values) room is =
    by (eqb value.dimension dimension) (axis_names kinds fixes (number + 1) dimension values (omega (arith, room)) is)
  where
    by : (t : Truth) → is_axis kinds fixes (axis_of values (number + 1) dimension) ≡ true → is_axis kinds fixes (cond t (Fixed number) (axis_of values (number + 1) dimension)) ≡ true
    by true others = lt-ltb number fixes (omega (arith, room))
    by false others = others

module _ (kinds : Kinds) (few fixes base first : ℕ) (values : List FixedValue) (within : base + few ≤ fixes) (room : first + length values ≤ fixes) where
  moved_names : (axis : Axis) → is_axis kinds few axis ≡ true → is_axis kinds fixes (moved_axis values base first axis) ≡ true
  moved_names (Free dimension) is = axis_names kinds fixes first dimension values room is
  moved_names (Fixed fix) is = lt-ltb (base + fix) fixes (omega (arith, within, ltb-true fix few is))

  each_names : (axes : List Axis) → list_all (is_axis kinds few) axes ≡ true → list_all (is_axis kinds fixes) (map (moved_axis values base first) axes) ≡ true
  each_names [] is = refl
  each_names (axis ∷ axes) is =
      let both = and_parts (is_axis kinds few axis) (list_all (is_axis kinds few) axes) is in
      ap (λ (t : Truth). t && list_all (is_axis kinds fixes) (map (moved_axis values base first) axes)) (moved_names axis both.0) ∙ each_names axes both.1

  same_length : (axes : List Axis) → length (map (moved_axis values base first) axes) ≡ length axes
  same_length [] = refl
  same_length (axis ∷ axes) = ap suc (same_length axes)

  axes_are : (dimensions : List ℕ) (axes : List Axis) → are_axes kinds few dimensions axes ≡ true → are_axes kinds fixes dimensions (map (moved_axis values base first) axes) ≡ true
  axes_are dimensions axes is =
      let both = and_parts (eqb (length axes) (length dimensions) && nat_le (length axes) 6) (list_all (is_axis kinds few) axes) is in
      let lengths = and_parts (eqb (length axes) (length dimensions)) (nat_le (length axes) 6) both.0 in
      ap (λ (n : ℕ). eqb n (length dimensions) && nat_le n 6 && list_all (is_axis kinds fixes) (map (moved_axis values base first) axes)) (same_length axes)
      ∙ ap (λ (t : Truth). t && nat_le (length axes) 6 && list_all (is_axis kinds fixes) (map (moved_axis values base first) axes)) lengths.0
      ∙ ap (λ (t : Truth). t && list_all (is_axis kinds fixes) (map (moved_axis values base first) axes)) lengths.1
      ∙ each_names axes both.1

  when_is : (t u : Truth) (kind own : Kind) → (t ≡ true → u ≡ true) → when t own ≡ Some kind → when u own ≡ Some kind
  when_is true u kind own same e = ap (λ (b : Truth). when b own) (same refl) ∙ e
  when_is false u kind own same e = absurd (cc)

  pub read_moved : (object : Option ObjectKind) (axes : List Axis) (kind : Kind) → kind_read kinds few axes object ≡ Some kind → kind_read kinds fixes (map (moved_axis values base first) axes) object ≡ Some kind
  read_moved (Some (Cells own dimensions)) axes kind e =
      when_is (are_axes kinds few dimensions axes) (are_axes kinds fixes dimensions (map (moved_axis values base first) axes)) kind own (axes_are dimensions axes) e
  read_moved (Some Dimension) axes kind e = absurd (cc)
  read_moved (Some Other) axes kind e = absurd (cc)
  read_moved None axes kind e = absurd (cc)

-- ---- ops

abbrev further : ℕ → Way → Way
further start Next = Next
further start (Leap to) = Leap (start + to)
further start (Fork one other) = Fork (start + one) (start + other)

-- at another place, over other kinds
abbrev shifted : ℕ → List Kind → Onward → Onward
shifted start stack None = None
shifted start stack (Some onward) = Some (further start onward.0, onward.1 ++ stack)

pub ops_length : (values : List FixedValue) (start base first : ℕ) (ops : List Op) → length (map (moved values start base first) ops) ≡ length ops
ops_length values start base first [] = refl
ops_length values start base first (op ∷ ops) = ap suc (ops_length values start base first ops)

module _ (objects : List ObjectKind) (locals : List Kind) (few fixes base first start : ℕ) (values : List FixedValue) (own all : List Op) (within : base + few ≤ fixes) (room : first + length values ≤ fixes) (fits : start + length own ≤ length all) (stack : List Kind) where
  abbrev inside : Rules
  inside = rules_of (record { objects = objects; locals = [] }) few own

  abbrev outside : Rules
  outside = rules_of (record { objects = objects; locals = locals }) fixes all

  pushed : (s : List Kind) (one other : Option Kind) (x : Way × List Kind) → ((kind : Kind) → one ≡ Some kind → other ≡ Some kind) → kind_pushed s one ≡ Some x → kind_pushed (s ++ stack) other ≡ shifted start stack (Some x)
  pushed s (Some kind) other x same e = ap (kind_pushed (s ++ stack)) (same kind refl) ∙ ap (shifted start stack) e
  pushed s None other x same e = absurd (cc)

  on_one : (operator : Unary) (s : List Kind) (x : Way × List Kind) → kinds_on_one operator s ≡ Some x → kinds_on_one operator (s ++ stack) ≡ shifted start stack (Some x)
  on_one operator [] x e = absurd (cc)
  on_one operator (a ∷ s) x e = pushed s (kind_of_one operator a) (kind_of_one operator a) x (λ kind is. is) e

  on_two : (operator : Binary) (s : List Kind) (x : Way × List Kind) → kinds_on_two operator s ≡ Some x → kinds_on_two operator (s ++ stack) ≡ shifted start stack (Some x)
  on_two operator [] x e = absurd (cc)
  on_two operator (b ∷ []) x e = absurd (cc)
  on_two operator (b ∷ a ∷ s) x e = pushed s (kind_of_two operator a b) (kind_of_two operator a b) x (λ kind is. is) e

  named : (dimension : ℕ) (s : List Kind) (x : Way × List Kind) → kinds_named inside.kinds dimension s ≡ Some x → kinds_named outside.kinds dimension (s ++ stack) ≡ shifted start stack (Some x)
  named dimension [] x e = absurd (cc)
  named dimension (SLOT ∷ s) x e = pushed s (kind_named inside.kinds dimension) (kind_named outside.kinds dimension) x (λ kind is. is) e
  named dimension (NUMBER ∷ s) x e = absurd (cc)
  named dimension (INTEGER ∷ s) x e = absurd (cc)
  named dimension (TEXT ∷ s) x e = absurd (cc)
  named dimension (BOOLEAN ∷ s) x e = absurd (cc)

  name_moved : (k dimension : ℕ) (fixed : Option FixedValue) (s : List Kind) (x : Way × List Kind) → kind_pushed s (kind_named inside.kinds dimension) ≡ Some x → onward outside (start + k) (moved_name dimension fixed) (s ++ stack) ≡ shifted start stack (Some x)
  name_moved k dimension None s x e = pushed s (kind_named inside.kinds dimension) (kind_named outside.kinds dimension) x (λ kind is. is) e
  name_moved k dimension (Some fix) s x e = pushed s (kind_named inside.kinds dimension) (Some TEXT) x (λ kind is. is_text (is_dimension inside.kinds dimension) kind is) e
    where
      is_text : (t : Truth) (kind : Kind) → when t TEXT ≡ Some kind → Some TEXT ≡ Some kind
      is_text true kind e = e
      is_text false kind e = absurd (cc)

  ahead_moved : (k to : ℕ) → is_ahead (length own) k to ≡ true → is_ahead (length all) (start + k) (start + to) ≡ true
  ahead_moved k to is =
      let both = and_parts (nat_lt k to) (nat_le to (length own)) is in
      ahead outside (length all) (start + k) (start + to) (omega (arith, ltb-true k to both.0)) (omega (arith, leb-true to (length own) both.1, fits))

  when_moved : (one other : Truth) (way : Way) (s : List Kind) (x : Way × List Kind) → (one ≡ true → other ≡ true) → when one (way, s) ≡ Some x → when other (further start way, s ++ stack) ≡ shifted start stack (Some x)
  when_moved true other way s x same e = ap (λ (t : Truth). when t (further start way, s ++ stack)) (same refl) ∙ ap (shifted start stack) e
  when_moved false other way s x same e = absurd (cc)

  forked_moved : (k one other : ℕ) (s : List Kind) (x : Way × List Kind) → forked (length own) k one other s ≡ Some x → forked (length all) (start + k) (start + one) (start + other) (s ++ stack) ≡ shifted start stack (Some x)
  forked_moved k one other [] x e = absurd (cc)
  forked_moved k one other (SLOT ∷ s) x e = absurd (cc)
  forked_moved k one other (NUMBER ∷ s) x e = absurd (cc)
  forked_moved k one other (INTEGER ∷ s) x e = absurd (cc)
  forked_moved k one other (TEXT ∷ s) x e = absurd (cc)
  forked_moved k one other (BOOLEAN ∷ s) x e =
      when_moved (is_ahead (length own) k one && is_ahead (length own) k other) (is_ahead (length all) (start + k) (start + one) && is_ahead (length all) (start + k) (start + other)) (Fork one other) s x
      (λ are.
      let both = and_parts (is_ahead (length own) k one) (is_ahead (length own) k other) are in
      ap (λ (t : Truth). t && is_ahead (length all) (start + k) (start + other)) (ahead_moved k one both.0) ∙ ahead_moved k other both.1)
      e

  none_local : (number : ℕ) (kind : Kind) → slice_get inside.kinds.locals number ≡ Some kind → slice_get locals number ≡ Some kind
  none_local number kind e = absurd (cc)

  op_moved : (k : ℕ) (op : Op) (s : List Kind) (x : Way × List Kind) → onward inside k op s ≡ Some x → onward outside (start + k) (moved values start base first op) (s ++ stack) ≡ shifted start stack (Some x)
  op_moved k (Push cell kind) s x e = pushed s (when (is_of_kind kind cell) kind) (when (is_of_kind kind cell) kind) x (λ kind is. is) e
  op_moved k (Local number) s x e = pushed s (slice_get inside.kinds.locals number) (slice_get locals number) x (none_local number) e
  op_moved k (Load object axes) s x e =
      pushed s (kind_read inside.kinds few axes (slice_get objects object)) (kind_read outside.kinds fixes (map (moved_axis values base first) axes) (slice_get objects object)) x
      (λ kind is. read_outside object axes kind is) e
    where
      read_outside : (object : ℕ) (axes : List Axis) (kind : Kind) → kind_read inside.kinds few axes (slice_get objects object) ≡ Some kind → kind_read outside.kinds fixes (map (moved_axis values base first) axes) (slice_get objects object) ≡ Some kind
      read_outside object axes kind is = read_moved outside.kinds few fixes base first values within room (slice_get objects object) axes kind is
  op_moved k (Name dimension) s x e = name_moved k dimension (fixed_in values dimension) s x e
  op_moved k (NameOf dimension) s x e = named dimension s x e
  op_moved k Add s x e = on_two Adds s x e
  op_moved k Sub s x e = on_two Subtracts s x e
  op_moved k Mul s x e = on_two Multiplies s x e
  op_moved k Div s x e = on_two Divides s x e
  op_moved k Neg s x e = on_one Negates s x e
  op_moved k Abs s x e = on_one Sizes s x e
  op_moved k Min s x e = on_two TakesLeast s x e
  op_moved k Max s x e = on_two TakesGreatest s x e
  op_moved k NaFill s x e = on_two Fills s x e
  op_moved k (Convert kind) s x e = on_one (Converts kind) s x e
  op_moved k (Compare order) s x e = on_two (Compares order) s x e
  op_moved k And s x e = on_two Joins s x e
  op_moved k Or s x e = on_two Offers s x e
  op_moved k Not s x e = on_one Inverts s x e
  op_moved k (Branch one other) s x e = forked_moved k one other s x e
  op_moved k (Jump to) s x e = when_moved (is_ahead (length own) k to) (is_ahead (length all) (start + k) (start + to)) (Leap to) s x (ahead_moved k to) e

  -- ---- where they go

  goes_back : (k : ℕ) (way : Way) (p : ℕ) → GoesTo (start + k) (further start way) p → GoesTo k way (p - start) × (p ≡ start + (p - start))
  goes_back k Next p e = (omega (arith, e), omega (arith, e))
  goes_back k (Leap to) p e = (omega (arith, e), omega (arith, e))
  goes_back k (Fork one other) p (inl e) = (inl (omega (arith, e)), omega (arith, e))
  goes_back k (Fork one other) p (inr (inl e)) = (inr (inl (omega (arith, e))), omega (arith, e))
  goes_back k (Fork one other) p (inr (inr e)) = (inr (inr (omega (arith, e))), omega (arith, e))

  module _ (table : ℕ → List Kind) where
    abbrev there : ℕ → List Kind
    there p = table (p - start) ++ stack

    step_moved : (end k : ℕ) (op : Op) → Step inside table end k op → Step outside there (start + end) (start + k) (moved values start base first op)
    step_moved end k op s =
        let here : k ≡ start + k - start = omega arith in
        record {
          way = further start s.way;
          after = s.after ++ stack;
          takes = subst (λ (n : ℕ). onward outside (start + k) (moved values start base first op) (table n ++ stack) ≡ Some (further start s.way, s.after ++ stack)) here (op_moved k op (table k) (s.way, s.after) s.takes);
          there = λ place goes.
              let back = goes_back k s.way place goes in
              let t = s.there (place - start) back.0 in
              (omega (arith, back.1, t.0), omega (arith, back.1, t.1), ap (λ (xs : List Kind). xs ++ stack) t.2);
        }

    steps_moved : (end k : ℕ) (ops : List Op) → Steps inside table end k ops → Steps outside there (start + end) (start + k) (map (moved values start base first) ops)
    steps_moved end k [] s = tt
    steps_moved end k (op ∷ ops) s =
        let next : start + (k + 1) ≡ start + k + 1 = omega arith in
        (step_moved end k op s.0, subst (λ (n : ℕ). Steps outside there (start + end) n (map (moved values start base first) ops)) next (steps_moved end (k + 1) ops s.1))

  pub flows_moved : (kind : Kind) → Flows inside 0 own [] (kind ∷ []) → Flows outside start (map (moved values start base first) own) stack (kind ∷ stack)
  flows_moved kind f =
      let len : start + (0 + length own) ≡ start + length (map (moved values start base first) own) = omega (arith, ops_length values start base first own) in
      let from : start - start ≡ 0 = omega arith in
      let to : start + length (map (moved values start base first) own) - start ≡ 0 + length own = omega (arith, ops_length values start base first own) in
      let none : start + 0 ≡ start = omega arith in
      record {
        table = there f.table;
        first = ap (λ (n : ℕ). f.table n ++ stack) from ∙ ap (λ (xs : List Kind). xs ++ stack) f.first;
        last = ap (λ (n : ℕ). f.table n ++ stack) to ∙ ap (λ (xs : List Kind). xs ++ stack) f.last;
        steps = subst (λ (n : ℕ). Steps outside (there f.table) n start (map (moved values start base first) own)) len
            (subst (λ (n : ℕ). Steps outside (there f.table) (start + (0 + length own)) n (map (moved values start base first) own)) none
            (steps_moved f.table (0 + length own) 0 own f.steps));
      }
