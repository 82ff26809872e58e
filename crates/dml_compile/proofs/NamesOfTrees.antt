-- The ops of names have their values, where the slots of fixed values were looked up.
use Rattle.std.proofs.Common.{◌≡◌, ℕ, ◌+◌, Bool as Truth, true, false, cond, eqb, List, [], ◌∷◌, ◌++◌, length, map, Option, Some, None, Ok, option_map, option_and_then, refl, sym, ap, subst, arith}
use Rattle.std.specs.Prelude.{nat_le, unwrap_or, slice_get}
use Rattle.std.specs.List.{find}
use Rattle.aw_cell.specs.declared.cell.Cell.{Cell}
use Rattle.aw_cell.specs.declared.cell.Cell.TheVariants.{Na, Num, Int, Text as Chars, Bool, Slot}
use Rattle.dml_kinds.specs.declared.tree.FixedValue.{FixedValue}
use Rattle.dml_kinds.specs.declared.tree.Taken.{Taken}
use Rattle.dml_exec.specs.declared.kinds.Fix.{Fix}
use Rattle.dml_exec.specs.declared.op.Axis.TheVariants.{Fixed}
use Rattle.dml_exec.specs.declared.op.Op.TheVariants.{Local, Name, NameOf}
use Rattle.dml_exec.specs.Operators.{when}
use Rattle.dml_exec.specs.Meaning.{CodeInputs, slot_at, slot_of_axis, slots_of, coordinate, pushed}
use Rattle.dml_exec.specs.Meaning.{name_of as named_cell}
use Rattle.dml_compile.specs.Values.{Value, Place, slot_in, at_fixes, cell_taken, name_of}
use Rattle.dml_compile.specs.Compiled.{fixes_of, seen_by}
use Rattle.dml_compile.specs.inside.Emitted.{axis_of, load}
use Rattle.dml_compile.proofs.ValuesOfOps.{Told, stood, Computes, op_computes, one_computes}

-- from a number on the fixed slots are those of these values, and they have these names
abbrev pub KnownAt : CodeInputs → (ℕ → List ℕ → ℕ) → ℕ → List Fix → Type 0
KnownAt r slot number [] = Unit {0}
KnownAt r slot number (fix ∷ fixes) =
    (slice_get r.fixed number ≡ Some (slot fix.dimension fix.value))
    × (r.name fix.dimension (slot fix.dimension fix.value) ≡ Chars fix.value)
    × KnownAt r slot (number + 1) fixes

abbrev value_of : Cell → Value
value_of cell = Ok cell

pushed_is : {A : Type 0} (next : ℕ) (cells : List Cell) (f : A → Cell) (o : Option A) → pushed next cells (option_map f o) ≡ stood next cells (option_map (λ (a : A). value_of (f a)) o)
pushed_is next cells f None = refl
pushed_is next cells f (Some a) = refl

told_map : {A : Type 0} (f : A → Cell) (o : Option A) (a : A) → Told o a → Told (option_map (λ (x : A). value_of (f x)) o) (value_of (f a))
told_map f None a h = tt
told_map {A} f (Some b) a h = ap (λ (x : A). value_of (f x)) h

told_or : {A : Type 0} (o : Option A) (d : A) → Told o (unwrap_or o d)
told_or None d = tt
told_or (Some a) d = refl

module _ (r : CodeInputs) (slot : ℕ → List ℕ → ℕ) where
  pub known_front : (xs ys : List Fix) (number : ℕ) → KnownAt r slot number (xs ++ ys) → KnownAt r slot number xs
  known_front [] ys number h = tt
  known_front (fix ∷ xs) ys number h = (h.0, h.1, known_front xs ys (number + 1) h.2)

  pub known_back : (xs ys : List Fix) (number : ℕ) → KnownAt r slot number (xs ++ ys) → KnownAt r slot (number + length xs) ys
  known_back [] ys number h = let e : number ≡ number + 0 = omega arith in subst (λ (n : ℕ). KnownAt r slot n ys) e h
  known_back (fix ∷ xs) ys number h =
      let e : number + 1 + length xs ≡ number + length (fix ∷ xs) = omega arith in
      subst (λ (n : ℕ). KnownAt r slot n ys) e (known_back xs ys (number + 1) h.2)

  -- an axis has the slot that the place has where these values are fixed
  pub axis_is : (fixes : List FixedValue) (number dimension : ℕ) → KnownAt r slot number (fixes_of fixes) → slot_of_axis r.place r.fixed (axis_of fixes number dimension) ≡ slot_at (at_fixes (seen_by r slot) fixes r.place) dimension
  axis_is [] number dimension h = refl
  axis_is (fix ∷ fixes) number dimension h = by (eqb fix.dimension dimension) (axis_is fixes (number + 1) dimension h.2)
    where
      by : (t : Truth) → slot_of_axis r.place r.fixed (axis_of fixes (number + 1) dimension) ≡ slot_at (at_fixes (seen_by r slot) fixes r.place) dimension → slot_of_axis r.place r.fixed (cond t (Fixed number) (axis_of fixes (number + 1) dimension)) ≡ option_map (λ (entry : ℕ × ℕ). entry.1) (cond t (Some (fix.dimension, slot fix.dimension fix.value)) (find (λ (entry : ℕ × ℕ). eqb entry.0 dimension) (at_fixes (seen_by r slot) fixes r.place)))
      by true later = h.0
      by false later = later

  module _ (fixes : List FixedValue) (number : ℕ) (known : KnownAt r slot number (fixes_of fixes)) where
    abbrev place : Place
    place = at_fixes (seen_by r slot) fixes r.place

    slot_told : (o : Option ℕ) (rest : Option (List ℕ)) (slots : List ℕ) → Told rest slots → Told (option_and_then (λ (s : ℕ). option_map (λ (ss : List ℕ). s ∷ ss) rest) o) (unwrap_or o 0 ∷ slots)
    slot_told None rest slots h = tt
    slot_told (Some s) None slots h = tt
    slot_told (Some s) (Some ss) slots h = ap (λ (xs : List ℕ). s ∷ xs) h

    slots_told : (dimensions : List ℕ) → Told (slots_of r.place r.fixed (map (axis_of fixes number) dimensions)) (map (slot_in place) dimensions)
    slots_told [] = refl
    slots_told (d ∷ dimensions) =
        subst
        (λ (o : Option ℕ). Told (option_and_then (λ (s : ℕ). option_map (λ (ss : List ℕ). s ∷ ss) (slots_of r.place r.fixed (map (axis_of fixes number) dimensions))) o) (slot_in place d ∷ map (slot_in place) dimensions))
        (sym (axis_is fixes number d known))
        (slot_told (slot_at place d) (slots_of r.place r.fixed (map (axis_of fixes number) dimensions)) (map (slot_in place) dimensions) (slots_told dimensions))

    limited : (few : Truth) (o : Option (List ℕ)) (slots : List ℕ) → Told o slots → Told (option_and_then (λ (s : Option (List ℕ)). s) (when few o)) slots
    limited true o slots h = h
    limited false o slots h = tt

    coordinate_told : (dimensions : List ℕ) → Told (coordinate r.place r.fixed (map (axis_of fixes number) dimensions)) (map (slot_in place) dimensions)
    coordinate_told dimensions =
        limited (nat_le (length (map (axis_of fixes number) dimensions)) 6) (slots_of r.place r.fixed (map (axis_of fixes number) dimensions)) (map (slot_in place) dimensions) (slots_told dimensions)

  -- the cell of an object
  pub load_computes : (taken : Taken) (start number : ℕ) → KnownAt r slot number (fixes_of taken.fixes) → Computes r start (load taken number ∷ []) (Ok (cell_taken (seen_by r slot) r.place taken))
  load_computes taken start number known =
      op_computes r start (load taken number)
      (option_map (λ (slots : List ℕ). value_of (r.cell taken.object slots)) (coordinate r.place r.fixed (map (axis_of taken.fixes number) taken.dimensions)))
      (Ok (cell_taken (seen_by r slot) r.place taken))
      (told_map (r.cell taken.object) (coordinate r.place r.fixed (map (axis_of taken.fixes number) taken.dimensions)) (map (slot_in (at_fixes (seen_by r slot) taken.fixes r.place)) taken.dimensions) (coordinate_told taken.fixes number known taken.dimensions))
      (λ cells. pushed_is (start + 1) cells (r.cell taken.object) (coordinate r.place r.fixed (map (axis_of taken.fixes number) taken.dimensions)))

  name_told : (name : ℕ → Cell) (a : Cell) → Told (option_map value_of (named_cell name a)) (Ok (name_of name a))
  name_told name (Slot s) = refl
  name_told name Na = refl
  name_told name (Num n) = tt
  name_told name (Int n) = tt
  name_told name (Chars t) = tt
  name_told name (Bool b) = tt

  pushed_cell : (next : ℕ) (cells : List Cell) (o : Option Cell) → pushed next cells o ≡ stood next cells (option_map value_of o)
  pushed_cell next cells None = refl
  pushed_cell next cells (Some c) = refl

  -- the name of the value to which a relation goes
  pub relation_computes : (taken : Taken) (target start number : ℕ) → KnownAt r slot number (fixes_of taken.fixes) → Computes r start (load taken number ∷ NameOf target ∷ []) (Ok (name_of (r.name target) (cell_taken (seen_by r slot) r.place taken)))
  relation_computes taken target start number known =
      one_computes r start (load taken number ∷ []) (NameOf target) (Ok (cell_taken (seen_by r slot) r.place taken))
      (λ a. option_map value_of (named_cell (r.name target) a))
      (λ a. Ok (name_of (r.name target) a))
      (λ a. name_told (r.name target) a)
      (λ at cells a. pushed_cell (at + 1) cells (named_cell (r.name target) a))
      (load_computes taken start number known)

  -- the name of the place's value
  pub name_computes : (dimension start : ℕ) → Computes r start (Name dimension ∷ []) (Ok (r.name dimension (slot_in r.place dimension)))
  name_computes dimension start =
      op_computes r start (Name dimension)
      (option_map (λ (s : ℕ). value_of (r.name dimension s)) (slot_at r.place dimension))
      (Ok (r.name dimension (slot_in r.place dimension)))
      (told_map (r.name dimension) (slot_at r.place dimension) (slot_in r.place dimension) (told_or (slot_at r.place dimension) 0))
      (λ cells. pushed_is (start + 1) cells (r.name dimension) (slot_at r.place dimension))

  pub local_computes : (number start : ℕ) → Computes r start (Local number ∷ []) (Ok (unwrap_or (slice_get r.locals number) Na))
  local_computes number start =
      op_computes r start (Local number)
      (option_map value_of (slice_get r.locals number))
      (Ok (unwrap_or (slice_get r.locals number) Na))
      (told_map (λ (c : Cell). c) (slice_get r.locals number) (unwrap_or (slice_get r.locals number) Na) (told_or (slice_get r.locals number) Na))
      (λ cells. pushed_cell (start + 1) cells (slice_get r.locals number))
