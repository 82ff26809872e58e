-- The slots of axes, one after the other.
use Rattle.std.proofs.Common.{◌≡◌, ◌∙◌, ℕ, zero, suc, ◌+◌, ◌<◌, ◌≤◌, Bool as Truth, true, false, leb, List, [], ◌∷◌, ◌++◌, length, get_or, take, drop, Option, Some, None, refl, sym, ap, arith, append_assoc}
use Rattle.std.specs.List.{slice_get, slice_set}
use Rattle.std.specs.Option.{IsSome, option_map, option_and_then}
use Rattle.std.proofs.lemmas.Bool.{false≢true, leb-true}
use Rattle.std.proofs.lemmas.List.{take_more_set, at_drop_more}
use Rattle.aw_cell.specs.declared.cell.Cell.{Cell}
use Rattle.dml_exec.specs.declared.op.Axis.{Axis}
use Rattle.dml_exec.specs.Meaning.{slot_of_axis, slots_of, coordinate, pushed}
use Rattle.dml_exec.specs.Operators.{when}
use Rattle.dml_exec.specs.inside.MachineSteps.{CanTurn}

none-some : {A : Type 0} (a : A) → None ≡ Some a → ⊥
none-some a e = cc

same_Some : {A : Type 0} (a b : A) → Some a ≡ Some b → a ≡ b
same_Some a b e = cc

-- the slots that were found, and behind them those of the other axes
abbrev pub slots_behind : List (ℕ × ℕ) → List ℕ → List ℕ → List Axis → Option (List ℕ)
slots_behind place fixed found axes = option_map (λ slots. found ++ slots) (slots_of place fixed axes)

behind-none : (o : Option (List ℕ)) → option_map (λ (slots : List ℕ). [] ++ slots) o ≡ o
behind-none None = refl
behind-none (Some slots) = refl

pub behind-first : (place : List (ℕ × ℕ)) (fixed slots : List ℕ) (axes : List Axis) → slots_behind place fixed (take 0 slots) (drop 0 axes) ≡ slots_of place fixed axes
behind-first place fixed slots axes = behind-none (slots_of place fixed axes)

behind-one : (found : List ℕ) (slot : ℕ) (o : Option (List ℕ)) → option_map (λ (slots : List ℕ). found ++ slots) (option_map (λ (slots : List ℕ). slot ∷ slots) o) ≡ option_map (λ (slots : List ℕ). (found ++ slot ∷ []) ++ slots) o
behind-one found slot None = refl
behind-one found slot (Some slots) = ap Some (sym (append_assoc found (slot ∷ []) slots))

-- one axis more
pub behind-more : (place : List (ℕ × ℕ)) (fixed slots : List ℕ) (axes : List Axis) (at slot : ℕ) (axis : Axis) → at < length axes → at < length slots → slot_of_axis place fixed (get_or axes at axis) ≡ Some slot → slots_behind place fixed (take at slots) (drop at axes) ≡ slots_of place fixed axes → slots_behind place fixed (take (at + 1) (slice_set slots at slot)) (drop (at + 1) axes) ≡ slots_of place fixed axes
behind-more place fixed slots axes at slot axis within room found same =
    let rest : Option (List ℕ) = slots_of place fixed (drop (at + 1) axes) in
    ap (λ (front : List ℕ). option_map (λ (more : List ℕ). front ++ more) rest) (take_more_set slots at slot room)
    ∙ sym (behind-one (take at slots) slot rest)
    ∙ ap (λ (o : Option ℕ). option_map (λ (more : List ℕ). take at slots ++ more) (option_and_then (λ (s : ℕ). option_map (λ (more : List ℕ). s ∷ more) rest) o)) (sym found)
    ∙ sym (at_drop_more (λ (xs : List Axis). slots_behind place fixed (take at slots) xs) axes at axis within)
    ∙ same

-- ---- a coordinate

pub record IsPlaced (place : List (ℕ × ℕ)) (fixed : List ℕ) (axes : List Axis) : Type 0 where
  pub few : length axes ≤ 6
  pub slots : List ℕ
  pub found : slots_of place fixed axes ≡ Some slots
  pub is : coordinate place fixed axes ≡ Some slots

is-placed : (place : List (ℕ × ℕ)) (fixed : List ℕ) (axes : List Axis) (few : Truth) (found : Option (List ℕ)) → leb (length axes) 6 ≡ few → slots_of place fixed axes ≡ found → IsSome (option_and_then (λ (slots : Option (List ℕ)). slots) (when few found)) → IsPlaced place fixed axes
is-placed place fixed axes false found e f h = absurd (false≢true h)
is-placed place fixed axes true None e f h = absurd (false≢true h)
is-placed place fixed axes true (Some slots) e f h = record {
  few = leb-true (length axes) 6 e;
  slots = slots;
  found = f;
  is = ap (λ (t : Truth). option_and_then (λ (slots : Option (List ℕ)). slots) (when t (slots_of place fixed axes))) e ∙ f;
}

pub placed : (place : List (ℕ × ℕ)) (fixed : List ℕ) (axes : List Axis) → IsSome (coordinate place fixed axes) → IsPlaced place fixed axes
placed place fixed axes h = is-placed place fixed axes (leb (length axes) 6) (slots_of place fixed axes) refl refl h

head-some : (place : List (ℕ × ℕ)) (fixed found : List ℕ) (axis : Axis) (axes : List Axis) (all : List ℕ) → slots_behind place fixed found (axis ∷ axes) ≡ Some all → IsSome (slot_of_axis place fixed axis)
head-some place fixed found axis axes all e = by (slot_of_axis place fixed axis) e
  where
    by : (o : Option ℕ) → option_map (λ (more : List ℕ). found ++ more) (option_and_then (λ (s : ℕ). option_map (λ (more : List ℕ). s ∷ more) (slots_of place fixed axes)) o) ≡ Some all → IsSome o
    by None e = absurd (none-some all e)
    by (Some slot) e = refl

-- the next axis has a slot
pub axis-placed : (place : List (ℕ × ℕ)) (fixed slots : List ℕ) (axes : List Axis) (at : ℕ) (axis : Axis) → IsPlaced place fixed axes → at < length axes → slots_behind place fixed (take at slots) (drop at axes) ≡ slots_of place fixed axes → IsSome (slot_of_axis place fixed (get_or axes at axis))
axis-placed place fixed slots axes at axis p within same =
    head-some place fixed (take at slots) (get_or axes at axis) (drop (at + 1) axes) p.slots
    (sym (at_drop_more (λ (xs : List Axis). slots_behind place fixed (take at slots) xs) axes at axis within) ∙ same ∙ p.found)

-- all axes have theirs
pub all-placed : (place : List (ℕ × ℕ)) (fixed slots : List ℕ) (axes : List Axis) (at : ℕ) → IsPlaced place fixed axes → at ≡ length axes → slots_behind place fixed (take at slots) (drop at axes) ≡ slots_of place fixed axes → coordinate place fixed axes ≡ Some (take (length axes) slots)
all-placed place fixed slots axes at p e same =
    p.is ∙ sym p.found ∙ sym same
    ∙ ap (λ (xs : List Axis). slots_behind place fixed (take at slots) xs) (dropped axes at e)
    ∙ ap Some (append_nil (take at slots)) ∙ ap (λ (n : ℕ). Some (take n slots)) e
  where
    dropped : (xs : List Axis) (n : ℕ) → n ≡ length xs → drop n xs ≡ []
    dropped [] zero e = refl
    dropped [] (suc n) e = refl
    dropped (x ∷ xs) zero e = absurd (omega arith)
    dropped (x ∷ xs) (suc n) e = dropped xs n (omega arith)

    append_nil : (xs : List ℕ) → xs ++ [] ≡ xs
    append_nil [] = refl
    append_nil (x ∷ xs) = ap (λ (ys : List ℕ). x ∷ ys) (append_nil xs)

-- ---- its length

length-one : (count : ℕ) (o : Option ℕ) (rest : Option (List ℕ)) (slots : List ℕ) → ((more : List ℕ) → rest ≡ Some more → length more ≡ count) → option_and_then (λ (s : ℕ). option_map (λ (more : List ℕ). s ∷ more) rest) o ≡ Some slots → length slots ≡ suc count
length-one count None rest slots h e = absurd (none-some slots e)
length-one count (Some slot) None slots h e = absurd (none-some slots e)
length-one count (Some slot) (Some more) slots h e = let same : (slot ∷ more) ≡ slots = same_Some (slot ∷ more) slots e in ap length (sym same) ∙ ap suc (h more refl)

slots-length : (place : List (ℕ × ℕ)) (fixed : List ℕ) (axes : List Axis) (slots : List ℕ) → slots_of place fixed axes ≡ Some slots → length slots ≡ length axes
slots-length place fixed [] slots e = let same : [] ≡ slots = same_Some [] slots e in ap length (sym same)
slots-length place fixed (axis ∷ axes) slots e = length-one (length axes) (slot_of_axis place fixed axis) (slots_of place fixed axes) slots (λ more is. slots-length place fixed axes more is) e

when-found : (few : Truth) (found : Option (List ℕ)) (slots : List ℕ) → option_and_then (λ (o : Option (List ℕ)). o) (when few found) ≡ Some slots → found ≡ Some slots
when-found true found slots e = e
when-found false found slots e = absurd (none-some slots e)

pub coordinate-length : (place : List (ℕ × ℕ)) (fixed : List ℕ) (axes : List Axis) (slots : List ℕ) → coordinate place fixed axes ≡ Some slots → length slots ≡ length axes
coordinate-length place fixed axes slots e = slots-length place fixed axes slots (when-found (leb (length axes) 6) (slots_of place fixed axes) slots e)

-- ---- a local

pub local-is : (room next : ℕ) (cells locals : List Cell) (number : ℕ) (cell : Cell) → CanTurn room (pushed next cells (slice_get locals number)) → cell ≡ get_or locals number cell → slice_get locals number ≡ Some cell
local-is room next cells [] number cell can e = absurd can
local-is room next cells (x ∷ locals) zero cell can e = ap Some (sym e)
local-is room next cells (x ∷ locals) (suc number) cell can e = local-is room next cells locals number cell can e
