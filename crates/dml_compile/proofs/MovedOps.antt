-- The ops of a formula at another place, with values that are fixed.
use Rattle.std.proofs.Common.{◌≡◌, ◌∙◌, ℕ, zero, suc, ◌+◌, Bool as Truth, true, false, cond, eqb, eq-eqb, List, [], ◌∷◌, ◌++◌, length, map, drop, Option, Some, None, Ok, Err, option_map, option_and_then, refl, sym, ap, subst, ⊎_elim, arith}
use Rattle.std.specs.Prelude.{nat_le, slice_get}
use Rattle.std.specs.List.{find}
use Rattle.std.proofs.lemmas.Bool.{ne_eqb, eqb-true, cases_eq}
use Rattle.aw_cell.specs.declared.cell.Cell.{Cell}
use Rattle.aw_cell.specs.declared.cell.Cell.TheVariants.{Na, Num, Int, Text as Chars, Bool, Slot}
use Rattle.dml_kinds.specs.declared.tree.FixedValue.{FixedValue}
use Rattle.dml_exec.specs.declared.op.Axis.{Axis}
use Rattle.dml_exec.specs.declared.op.Axis.TheVariants.{Free, Fixed}
use Rattle.dml_exec.specs.declared.op.Op.{Op}
use Rattle.dml_exec.specs.declared.op.Op.TheVariants.{Push, Local, Load, Name, NameOf, Add, Sub, Mul, Div, Neg, Abs, Min, Max, NaFill, Convert, Compare, And, Or, Not, Branch, Jump}
use Rattle.dml_exec.specs.declared.operator.Unary.{Unary}
use Rattle.dml_exec.specs.declared.operator.Unary.TheVariants.{Neg as Negates, Abs as Sizes, Convert as Converts, Not as Inverts}
use Rattle.dml_exec.specs.declared.operator.Binary.{Binary}
use Rattle.dml_exec.specs.declared.operator.Binary.TheVariants.{Add as Adds, Sub as Subtracts, Mul as Multiplies, Div as Divides, Min as TakesLeast, Max as TakesGreatest, NaFill as Fills, Compare as Compares, And as Joins, Or as Offers}
use Rattle.dml_exec.specs.Operators.{when, of_one, of_two}
use Rattle.dml_exec.specs.Meaning.{CodeInputs, Standing, Outcome, slot_at, slot_of_axis, slots_of, coordinate, answered, pushed, on_one, on_two, name_of, named, on_branch, turn, then_on, going}
use Rattle.dml_compile.specs.Values.{Value, at_fixes}
use Rattle.dml_compile.specs.Compiled.{fixes_of, seen_by}
use Rattle.dml_compile.specs.inside.Emitted.{fixed_in, moved_axis, moved_name, moved}
use Rattle.dml_compile.proofs.ValuesOfOps.{stood, Computes}
use Rattle.dml_compile.proofs.NamesOfTrees.{KnownAt, axis_is}

-- a standing so many places further on
abbrev further : ℕ → Standing → Standing
further start standing = (start + standing.0, standing.1)

abbrev shifted : ℕ → Outcome → Outcome
shifted start None = None
shifted start (Some (Ok standing)) = Some (Ok (further start standing))
shifted start (Some (Err why)) = Some (Err why)

abbrev at_next : ℕ → List Cell → Outcome
at_next next cells = Some (Ok (next, cells))

module _ (start next after : ℕ) (e : after ≡ start + next) where
  answered-shifted : (cells : List Cell) (v : Value) → Some (answered after cells v) ≡ shifted start (Some (answered next cells v))
  answered-shifted cells (Ok cell) = ap (λ (n : ℕ). at_next n (cell ∷ cells)) e
  answered-shifted cells (Err why) = refl

  pushed-shifted : (cells : List Cell) (o : Option Cell) → pushed after cells o ≡ shifted start (pushed next cells o)
  pushed-shifted cells None = refl
  pushed-shifted cells (Some cell) = answered-shifted cells (Ok cell)

  told-shifted : (cells : List Cell) (o : Option Value) → stood after cells o ≡ shifted start (stood next cells o)
  told-shifted cells None = refl
  told-shifted cells (Some v) = answered-shifted cells v

  one-shifted : (operator : Unary) (cells : List Cell) → on_one operator after cells ≡ shifted start (on_one operator next cells)
  one-shifted operator [] = refl
  one-shifted operator (a ∷ cells) = told-shifted cells (of_one operator a)

  two-shifted : (operator : Binary) (cells : List Cell) → on_two operator after cells ≡ shifted start (on_two operator next cells)
  two-shifted operator [] = refl
  two-shifted operator (b ∷ []) = refl
  two-shifted operator (b ∷ a ∷ cells) = told-shifted cells (of_two operator a b)

  named-shifted : (name : ℕ → Cell) (cells : List Cell) → named name after cells ≡ shifted start (named name next cells)
  named-shifted name [] = refl
  named-shifted name (a ∷ cells) = pushed-shifted cells (name_of name a)

  branch-shifted : (at_no at_na : ℕ) (cells : List Cell) → on_branch after (start + at_no) (start + at_na) cells ≡ shifted start (on_branch next at_no at_na cells)
  branch-shifted at_no at_na [] = refl
  branch-shifted at_no at_na (Bool true ∷ cells) = ap (λ (n : ℕ). at_next n cells) e
  branch-shifted at_no at_na (Bool false ∷ cells) = refl
  branch-shifted at_no at_na (Na ∷ cells) = refl
  branch-shifted at_no at_na (Num n ∷ cells) = refl
  branch-shifted at_no at_na (Int n ∷ cells) = refl
  branch-shifted at_no at_na (Chars t ∷ cells) = refl
  branch-shifted at_no at_na (Slot s ∷ cells) = refl

pub slice_get-behind : {A : Type 0} (xs : List A) (base at : ℕ) → slice_get xs (base + at) ≡ slice_get (drop base xs) at
slice_get-behind xs zero at = let e : 0 + at ≡ at = omega arith in ap (slice_get xs) e
slice_get-behind [] (suc base) at = refl
slice_get-behind (x ∷ xs) (suc base) at = let e : suc base + at ≡ suc (base + at) = omega arith in ap (slice_get (x ∷ xs)) e ∙ slice_get-behind xs base at

module _ (r : CodeInputs) (slot : ℕ → List ℕ → ℕ) (fixes : List FixedValue) (start base first : ℕ) (known : KnownAt r slot first (fixes_of fixes)) where
  -- what the ops read where they stand alone: the values are fixed at the place
  abbrev pub inner : CodeInputs
  inner = record { cell = r.cell; name = r.name; place = at_fixes (seen_by r slot) fixes r.place; fixed = drop base r.fixed; locals = r.locals }

  abbrev mv : Op → Op
  mv = moved fixes start base first

  axis-same : (axis : Axis) → slot_of_axis r.place r.fixed (moved_axis fixes base first axis) ≡ slot_of_axis inner.place inner.fixed axis
  axis-same (Fixed fix) = slice_get-behind r.fixed base fix
  axis-same (Free dimension) = axis_is r slot fixes first dimension known

  slots-same : (axes : List Axis) → slots_of r.place r.fixed (map (moved_axis fixes base first) axes) ≡ slots_of inner.place inner.fixed axes
  slots-same [] = refl
  slots-same (axis ∷ axes) =
      ap (λ (o : Option ℕ). option_and_then (λ (s : ℕ). option_map (λ (ss : List ℕ). s ∷ ss) (slots_of r.place r.fixed (map (moved_axis fixes base first) axes))) o) (axis-same axis)
      ∙ ap (λ (o : Option (List ℕ)). option_and_then (λ (s : ℕ). option_map (λ (ss : List ℕ). s ∷ ss) o) (slot_of_axis inner.place inner.fixed axis)) (slots-same axes)

  length-same : (axes : List Axis) → length (map (moved_axis fixes base first) axes) ≡ length axes
  length-same [] = refl
  length-same (axis ∷ axes) = ap suc (length-same axes)

  coordinate-same : (axes : List Axis) → coordinate r.place r.fixed (map (moved_axis fixes base first) axes) ≡ coordinate inner.place inner.fixed axes
  coordinate-same axes =
      ap (λ (n : ℕ). option_and_then (λ (s : Option (List ℕ)). s) (when (nat_le n 6) (slots_of r.place r.fixed (map (moved_axis fixes base first) axes)))) (length-same axes)
      ∙ ap (λ (o : Option (List ℕ)). option_and_then (λ (s : Option (List ℕ)). s) (when (nat_le (length axes) 6) o)) (slots-same axes)

  -- the name of a fixed value is the value
  name-same : (after dimension : ℕ) (cells : List Cell) (values : List FixedValue) (number : ℕ) → KnownAt r slot number (fixes_of values) → turn r after (moved_name dimension (fixed_in values dimension)) cells ≡ pushed (after + 1) cells (option_map (r.name dimension) (slot_at (at_fixes (seen_by r slot) values r.place) dimension))
  name-same after dimension cells [] number h = refl
  name-same after dimension cells (fix ∷ values) number h =
      by (eqb fix.dimension dimension) refl (name-same after dimension cells values (number + 1) h.2)
    where
      by : (t : Truth) → eqb fix.dimension dimension ≡ t → turn r after (moved_name dimension (fixed_in values dimension)) cells ≡ pushed (after + 1) cells (option_map (r.name dimension) (slot_at (at_fixes (seen_by r slot) values r.place) dimension)) → turn r after (moved_name dimension (cond t (Some fix) (fixed_in values dimension))) cells ≡ pushed (after + 1) cells (option_map (r.name dimension) (option_map (λ (entry : ℕ × ℕ). entry.1) (cond t (Some (fix.dimension, slot fix.dimension fix.value)) (find (λ (entry : ℕ × ℕ). eqb entry.0 dimension) (at_fixes (seen_by r slot) values r.place)))))
      by true is later =
          ap (λ (c : Cell). pushed (after + 1) cells (Some c)) (sym (subst (λ (d : ℕ). r.name d (slot fix.dimension fix.value) ≡ Chars fix.value) (eqb-true fix.dimension dimension is) h.1))
      by false is later = later

  -- an op does the same at its new place
  turn-same : (at after : ℕ) (op : Op) (cells : List Cell) → after ≡ start + at → turn r after (mv op) cells ≡ shifted start (turn inner at op cells)
  turn-same at after (Push cell kind) cells e = pushed-shifted start (at + 1) (after + 1) (omega (arith, e)) cells (Some cell)
  turn-same at after (Local number) cells e = pushed-shifted start (at + 1) (after + 1) (omega (arith, e)) cells (slice_get r.locals number)
  turn-same at after (Load object axes) cells e =
      ap (λ (o : Option (List ℕ)). pushed (after + 1) cells (option_map (r.cell object) o)) (coordinate-same axes)
      ∙ pushed-shifted start (at + 1) (after + 1) (omega (arith, e)) cells (option_map (r.cell object) (coordinate inner.place inner.fixed axes))
  turn-same at after (Name dimension) cells e =
      name-same after dimension cells fixes first known
      ∙ pushed-shifted start (at + 1) (after + 1) (omega (arith, e)) cells (option_map (r.name dimension) (slot_at inner.place dimension))
  turn-same at after (NameOf dimension) cells e = named-shifted start (at + 1) (after + 1) (omega (arith, e)) (r.name dimension) cells
  turn-same at after Add cells e = two-shifted start (at + 1) (after + 1) (omega (arith, e)) Adds cells
  turn-same at after Sub cells e = two-shifted start (at + 1) (after + 1) (omega (arith, e)) Subtracts cells
  turn-same at after Mul cells e = two-shifted start (at + 1) (after + 1) (omega (arith, e)) Multiplies cells
  turn-same at after Div cells e = two-shifted start (at + 1) (after + 1) (omega (arith, e)) Divides cells
  turn-same at after Neg cells e = one-shifted start (at + 1) (after + 1) (omega (arith, e)) Negates cells
  turn-same at after Abs cells e = one-shifted start (at + 1) (after + 1) (omega (arith, e)) Sizes cells
  turn-same at after Min cells e = two-shifted start (at + 1) (after + 1) (omega (arith, e)) TakesLeast cells
  turn-same at after Max cells e = two-shifted start (at + 1) (after + 1) (omega (arith, e)) TakesGreatest cells
  turn-same at after NaFill cells e = two-shifted start (at + 1) (after + 1) (omega (arith, e)) Fills cells
  turn-same at after (Convert kind) cells e = one-shifted start (at + 1) (after + 1) (omega (arith, e)) (Converts kind) cells
  turn-same at after (Compare order) cells e = two-shifted start (at + 1) (after + 1) (omega (arith, e)) (Compares order) cells
  turn-same at after And cells e = two-shifted start (at + 1) (after + 1) (omega (arith, e)) Joins cells
  turn-same at after Or cells e = two-shifted start (at + 1) (after + 1) (omega (arith, e)) Offers cells
  turn-same at after Not cells e = one-shifted start (at + 1) (after + 1) (omega (arith, e)) Inverts cells
  turn-same at after (Branch at_no at_na) cells e = branch-shifted start (at + 1) (after + 1) (omega (arith, e)) at_no at_na cells
  turn-same at after (Jump to) cells e = refl

  -- ops go the same way at their new places
  abbrev Onward : List Op → List Op → ℕ → ℕ → Type 0
  Onward ops rest at after = (place : ℕ) (cells : List Cell) → going r after (map mv ops ++ rest) (start + place, cells) ≡ then_on (going r (after + length ops) rest) (shifted start (going inner at ops (place, cells)))

  from-outcome : (ops rest : List Op) (at after : ℕ) (outcome : Outcome) → Onward ops rest at after → then_on (going r after (map mv ops ++ rest)) (shifted start outcome) ≡ then_on (going r (after + length ops) rest) (shifted start (then_on (going inner at ops) outcome))
  from-outcome ops rest at after None on = refl
  from-outcome ops rest at after (Some (Err why)) on = refl
  from-outcome ops rest at after (Some (Ok standing)) on = on standing.0 standing.1

  going-same : (ops rest : List Op) (at after : ℕ) → after ≡ start + at → Onward ops rest at after
  going-same [] rest at after e place cells =
      let n : after ≡ after + 0 = omega arith in ap (λ (m : ℕ). going r m rest (start + place, cells)) n
  going-same (op ∷ ops) rest at after e place cells =
      let on : Onward ops rest (at + 1) (after + 1) = going-same ops rest (at + 1) (after + 1) (omega (arith, e)) in
      let len : after + 1 + length ops ≡ after + length (op ∷ ops) = omega arith in
      ⊎_elim
      (λ same.
      let here : after ≡ start + place = omega (arith, e, same) in
      ap (λ (t : Truth). cond t (then_on (going r (after + 1) (map mv ops ++ rest)) (turn r after (mv op) cells)) (going r (after + 1) (map mv ops ++ rest) (start + place, cells))) (eq-eqb after (start + place) here)
      ∙ ap (then_on (going r (after + 1) (map mv ops ++ rest))) (turn-same at after op cells e)
      ∙ from-outcome ops rest (at + 1) (after + 1) (turn inner at op cells) on
      ∙ ap (λ (n : ℕ). then_on (going r n rest) (shifted start (then_on (going inner (at + 1) ops) (turn inner at op cells)))) len
      ∙ sym (ap (λ (t : Truth). then_on (going r (after + length (op ∷ ops)) rest) (shifted start (cond t (then_on (going inner (at + 1) ops) (turn inner at op cells)) (going inner (at + 1) ops (place, cells))))) (eq-eqb at place same)))
      (λ other.
      ap (λ (t : Truth). cond t (then_on (going r (after + 1) (map mv ops ++ rest)) (turn r after (mv op) cells)) (going r (after + 1) (map mv ops ++ rest) (start + place, cells))) (ne_eqb after (start + place) (λ here. other (omega (arith, e, here))))
      ∙ on place cells
      ∙ ap (λ (n : ℕ). then_on (going r n rest) (shifted start (going inner (at + 1) ops (place, cells)))) len
      ∙ sym (ap (λ (t : Truth). then_on (going r (after + length (op ∷ ops)) rest) (shifted start (cond t (then_on (going inner (at + 1) ops) (turn inner at op cells)) (going inner (at + 1) ops (place, cells))))) (ne_eqb at place other)))
      (cases_eq at place)

  append-none : (ops : List Op) → ops ++ [] ≡ ops
  append-none [] = refl
  append-none (op ∷ ops) = ap (λ (xs : List Op). op ∷ xs) (append-none ops)

  length-moved : (ops : List Op) → length (map mv ops) ≡ length ops
  length-moved [] = refl
  length-moved (op ∷ ops) = ap suc (length-moved ops)

  -- ops that have a value from the place 0 on have it at their new place
  pub moved_computes : (ops : List Op) (v : Value) → Computes inner 0 ops v → Computes r start (map mv ops) v
  moved_computes ops v c = record {
    told = c.told;
    is = c.is;
    by = λ rest cells.
        let here : start ≡ start + 0 = omega arith in
        let len : start + length ops ≡ start + length (map mv ops) = omega (arith, length-moved ops) in
        ap (λ (n : ℕ). going r start (map mv ops ++ rest) (n, cells)) here
        ∙ going-same ops rest 0 start here 0 cells
        ∙ ap (λ (o : Outcome). then_on (going r (start + length ops) rest) (shifted start o)) (ap (λ (xs : List Op). going inner 0 xs (0, cells)) (sym (append-none ops)) ∙ c.by [] cells)
        ∙ finish rest cells c.told (length ops) (0 + length ops) (omega arith)
        ∙ ap (λ (n : ℕ). then_on (going r n rest) (stood n cells c.told)) len;
  }
    where
      finish : (rest : List Op) (cells : List Cell) (told : Option Value) (count end : ℕ) → end ≡ count → then_on (going r (start + count) rest) (shifted start (then_on (going inner end []) (stood end cells told))) ≡ then_on (going r (start + count) rest) (stood (start + count) cells told)
      finish rest cells None count end e = refl
      finish rest cells (Some (Err why)) count end e = refl
      finish rest cells (Some (Ok a)) count end e = ap (λ (n : ℕ). going r (start + count) rest (start + n, a ∷ cells)) e
