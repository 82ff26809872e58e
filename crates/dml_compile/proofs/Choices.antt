-- The ops of a choice have its value.
use Rattle.std.proofs.Common.{◌≡◌, ◌∙◌, ℕ, ◌+◌, ◌≤◌, true, false, List, [], ◌∷◌, ◌++◌, length, Option, Some, None, Ok, Err, refl, ap, subst, arith, append_assoc, length-append}
use Rattle.aw_cell.specs.declared.cell.Cell.{Cell}
use Rattle.aw_cell.specs.declared.cell.Cell.TheVariants.{Na, Num, Int, Text, Bool, Slot}
use Rattle.aw_cell.specs.declared.cell.Kind.{Kind}
use Rattle.dml_exec.specs.declared.op.Op.{Op}
use Rattle.dml_exec.specs.declared.op.Op.TheVariants.{Push, Branch, Jump}
use Rattle.dml_exec.specs.Meaning.{CodeInputs, Outcome, then_on, going}
use Rattle.dml_compile.specs.Values.{Value, chosen_by, chosen}
use Rattle.dml_compile.specs.inside.Emitted.{no_place, na_place, choice_ops}
use Rattle.dml_compile.proofs.ValuesOfOps.{Told, stood, Computes, at_place, passed_over, skipped}

abbrev cell_told : Cell → Option Value → Option Value → Option Value
cell_told (Bool true) first second = first
cell_told (Bool false) first second = second
cell_told Na first second = Some (Ok Na)
cell_told _ first second = None

abbrev choice_told : Option Value → Option Value → Option Value → Option Value
choice_told None first second = None
choice_told (Some (Err why)) first second = Some (Err why)
choice_told (Some (Ok cell)) first second = cell_told cell first second

told_by : (cell : Cell) (first second : Option Value) (v w : Value) → Told first v → Told second w → Told (cell_told cell first second) (chosen_by cell v w)
told_by (Bool true) first second v w h k = h
told_by (Bool false) first second v w h k = k
told_by Na first second v w h k = refl
told_by (Num n) first second v w h k = tt
told_by (Int n) first second v w h k = tt
told_by (Text t) first second v w h k = tt
told_by (Slot s) first second v w h k = tt

told_choice : (told first second : Option Value) (c v w : Value) → Told told c → Told first v → Told second w → Told (choice_told told first second) (chosen c v w)
told_choice None first second c v w t h k = tt
told_choice (Some (Err why)) first second c v w t h k = ap (λ (x : Value). chosen x v w) t
told_choice (Some (Ok cell)) first second c v w t h k = subst (λ (x : Value). Told (cell_told cell first second) (chosen x v w)) t (told_by cell first second v w h k)

module _ (r : CodeInputs) (kind : Kind) (at : ℕ) (one two : List Op) (v w : Value) (first : Computes r (at + 1) one v) (second : Computes r (no_place at one) two w) (rest : List Op) (cells : List Cell) where
  abbrev na : ℕ
  na = na_place at one two

  abbrev end : ℕ
  end = na + 1

  abbrev last : List Op
  last = Jump end ∷ Push Na kind ∷ rest

  abbrev behind : List Op
  behind = one ++ Jump end ∷ (two ++ last)

  -- where a value stands
  abbrev Stand : Option Value → Outcome
  Stand told = then_on (going r end rest) (stood end cells told)

  by_first : (told : Option Value) → then_on (going r (at + 1 + length one) (Jump end ∷ (two ++ last))) (stood (at + 1 + length one) cells told) ≡ Stand told
  by_first None = refl
  by_first (Some (Err why)) = refl
  by_first (Some (Ok a)) =
      at_place r (at + 1 + length one) (Jump end) (two ++ last) (a ∷ cells)
      ∙ skipped r two last (no_place at one) end (a ∷ cells) (omega arith)
      ∙ passed_over r (no_place at one + length two) end (Jump end) (Push Na kind ∷ rest) (a ∷ cells) (omega arith)
      ∙ passed_over r (na_place at one two) end (Push Na kind) rest (a ∷ cells) (omega arith)

  by_second : (told : Option Value) → then_on (going r (no_place at one + length two) last) (stood (no_place at one + length two) cells told) ≡ Stand told
  by_second None = refl
  by_second (Some (Err why)) = refl
  by_second (Some (Ok a)) =
      at_place r (no_place at one + length two) (Jump end) (Push Na kind ∷ rest) (a ∷ cells)
      ∙ passed_over r (na_place at one two) end (Push Na kind) rest (a ∷ cells) (omega arith)

  -- past the first branch
  past_first : (to : ℕ) → no_place at one ≤ to → going r (at + 1) behind (to, cells) ≡ going r (no_place at one) (two ++ last) (to, cells)
  past_first to h =
      skipped r one (Jump end ∷ (two ++ last)) (at + 1) to cells (omega (arith, h))
      ∙ passed_over r (at + 1 + length one) to (Jump end) (two ++ last) cells (omega (arith, h))

  by_cell : (cell : Cell) → going r at (Branch (no_place at one) na ∷ behind) (at, cell ∷ cells) ≡ Stand (cell_told cell first.told second.told)
  by_cell (Bool true) = at_place r at (Branch (no_place at one) na) behind (Bool true ∷ cells) ∙ first.by (Jump end ∷ (two ++ last)) cells ∙ by_first first.told
  by_cell (Bool false) =
      at_place r at (Branch (no_place at one) na) behind (Bool false ∷ cells)
      ∙ past_first (no_place at one) (omega arith)
      ∙ second.by last cells
      ∙ by_second second.told
  by_cell Na =
      at_place r at (Branch (no_place at one) na) behind (Na ∷ cells)
      ∙ past_first na (omega arith)
      ∙ skipped r two last (no_place at one) na cells (omega arith)
      ∙ passed_over r (no_place at one + length two) na (Jump end) (Push Na kind ∷ rest) cells (omega arith)
      ∙ at_place r na (Push Na kind) rest cells
  by_cell (Num n) = at_place r at (Branch (no_place at one) na) behind (Num n ∷ cells)
  by_cell (Int n) = at_place r at (Branch (no_place at one) na) behind (Int n ∷ cells)
  by_cell (Text t) = at_place r at (Branch (no_place at one) na) behind (Text t ∷ cells)
  by_cell (Slot s) = at_place r at (Branch (no_place at one) na) behind (Slot s ∷ cells)

  pub by_condition : (told : Option Value) → then_on (going r at (Branch (no_place at one) na ∷ behind)) (stood at cells told) ≡ Stand (choice_told told first.told second.told)
  by_condition None = refl
  by_condition (Some (Err why)) = refl
  by_condition (Some (Ok cell)) = by_cell cell

pub choice_computes : (r : CodeInputs) (kind : Kind) (start : ℕ) (condition one two : List Op) (c v w : Value) → Computes r start condition c → Computes r (start + length condition + 1) one v → Computes r (no_place (start + length condition) one) two w → Computes r start (choice_ops kind (start + length condition) condition one two) (chosen c v w)
choice_computes r kind start condition one two c v w h first second =
    let at : ℕ = start + length condition in
    let na : ℕ = na_place (start + length condition) one two in
    let branch : Op = Branch (no_place (start + length condition) one) (na_place (start + length condition) one two) in
    let jump : Op = Jump (na_place (start + length condition) one two + 1) in
    let tail : List Op = jump ∷ Push Na kind ∷ [] in
    let len : na_place (start + length condition) one two + 1 ≡ start + length (choice_ops kind (start + length condition) condition one two) =
    omega (arith, length-append condition (branch ∷ (one ++ jump ∷ (two ++ tail))), length-append one (jump ∷ (two ++ tail)), length-append two tail) in
    record {
      told = choice_told h.told first.told second.told;
      is = told_choice h.told first.told second.told c v w h.is first.is second.is;
      by = λ rest cells.
          ap (λ (xs : List Op). going r start xs (start, cells))
          (append_assoc condition (branch ∷ (one ++ jump ∷ (two ++ tail))) rest
          ∙ ap (λ (xs : List Op). condition ++ branch ∷ xs) (append_assoc one (jump ∷ (two ++ tail)) rest)
          ∙ ap (λ (xs : List Op). condition ++ branch ∷ (one ++ jump ∷ xs)) (append_assoc two tail rest))
          ∙ h.by (branch ∷ (one ++ jump ∷ (two ++ jump ∷ Push Na kind ∷ rest))) cells
          ∙ by_condition r kind (start + length condition) one two v w first second rest cells h.told
          ∙ ap (λ (n : ℕ). then_on (going r n rest) (stood n cells (choice_told h.told first.told second.told))) len;
    }
