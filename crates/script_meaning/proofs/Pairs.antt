-- What holds of the keys and of the cells of two lists of cells, and of NA, holds of what one makes of the other.
use Rattle.std.specs.Prelude.{◌≡◌, ◌==◌, ◌≤◌, ◌&&◌, ℕ, Bool as Truth, true, false, not, cond, List, [], ◌∷◌, map, length, nat_lt, All, refl}
use Rattle.std.specs.List.{list_all}
use Rattle.std.specs.Ordering.{eq_by_cmp}
use Rattle.std.specs.FinMap.{put}
use Rattle.std.specs.FinMap.Entries.{by_order, where_key}
use Rattle.std.specs.declared.cmp.Ordering.TheVariants.{Less, Equal, Greater}
use Rattle.std.proofs.lemmas.Bool.{and_parts, and_from}
use Rattle.std.proofs.lemmas.List.Elements.{All-nil, All-cons, All-head, All-tail}
use Rattle.aw_lists.specs.Coord.{AreSlots}
use Rattle.aw_cell.specs.declared.cell.Cell.{Cell}
use Rattle.aw_cell.specs.declared.cell.Cell.TheVariants.{Na}
use Rattle.aw_cell.specs.declared.cell.Kind.{Kind}
use Rattle.aw_page.specs.Fitting.{is_na, is_of_kind}
use Rattle.aw_var.specs.CellMap.{Cells, KeyedCell, by_slots, cell_by, set_at}
use Rattle.aw_var.specs.CellPatch as cells
use Rattle.aw_var.specs.Variable.{is_pair_of}
use Rattle.aw_codec.specs.Records.{IsSpelled, IsKeyedCell}

module _ (K : List ℕ → Type 0) (C : Cell → Type 0) where
  abbrev pub IsPair : KeyedCell → Type 0
  IsPair pair = K pair.0 × C pair.1

  abbrev pub ArePairs : Cells → Type 0
  ArePairs [] = Unit {0}
  ArePairs (pair ∷ pairs) = IsPair pair × ArePairs pairs

  pairs-put : (key : List ℕ) (cell : Cell) (pairs : Cells) → K key → C cell → ArePairs pairs → ArePairs (put by_slots key cell pairs)
  pairs-put key cell [] k c all = ((k, c), tt)
  pairs-put key cell (first ∷ pairs) k c all =
      elim (by_slots key first.0) as (λ order. ArePairs (by_order order ((key, cell) ∷ first ∷ pairs) ((first.0, cell) ∷ pairs) (first ∷ put by_slots key cell pairs))) [
        | Less ↦ ((k, c), all)
        | Equal ↦ ((all.0.0, c), all.1)
        | Greater ↦ (all.0, pairs-put key cell pairs k c all.1)
      ]

  pub pairs-where : (test : List ℕ → Truth) (pairs : Cells) → ArePairs pairs → ArePairs (where_key by_slots test pairs)
  pairs-where test [] all = tt
  pairs-where test (pair ∷ pairs) all =
      elim (test pair.0) as (λ b. ArePairs (cond b (pair ∷ where_key by_slots test pairs) (where_key by_slots test pairs))) [
        | true ↦ (all.0, pairs-where test pairs all.1)
        | false ↦ pairs-where test pairs all.1
      ]

  pairs-set : (pairs : Cells) (key : List ℕ) (cell : Cell) → K key → C cell → ArePairs pairs → ArePairs (set_at pairs key cell)
  pairs-set pairs key cell k c all =
      let stays : List ℕ → Truth = λ other. not (eq_by_cmp by_slots key other) in
      elim (is_na cell) as (λ b. ArePairs (cond b (where_key by_slots stays pairs) (put by_slots key cell pairs))) [
        | true ↦ pairs-where stays pairs all
        | false ↦ pairs-put key cell pairs k c all
      ]

  -- cells that a patch overwrites
  pub pairs-overwritten : (pairs patch : Cells) → ArePairs pairs → ArePairs patch → ArePairs (cells.overwritten pairs patch)
  pairs-overwritten pairs [] all more = all
  pairs-overwritten pairs (change ∷ patch) all more =
      pairs-overwritten (set_at pairs change.0 change.1) patch (pairs-set pairs change.0 change.1 more.0.0 more.0.1 all) more.1

  pairs-composed : (first second : Cells) → ArePairs first → ArePairs second → ArePairs (cells.composed first second)
  pairs-composed first [] all more = all
  pairs-composed first (change ∷ second) all more =
      pairs-composed (put by_slots change.0 change.1 first) second (pairs-put change.0 change.1 first more.0.0 more.0.1 all) more.1

  pairs-away : C Na → (pairs : Cells) → ArePairs pairs → ArePairs (map (λ (pair : KeyedCell). (pair.0, Na)) pairs)
  pairs-away na [] all = tt
  pairs-away na (pair ∷ pairs) all = ((all.0.0, na), pairs-away na pairs all.1)

  -- what makes newer cells of older ones
  pub pairs-difference : C Na → (older newer : Cells) → ArePairs older → ArePairs newer → ArePairs (cells.difference older newer)
  pairs-difference na older newer all more =
      pairs-composed (cells.taken_away_by by_slots older newer) (where_key by_slots (cells.differ_by by_slots older newer) newer)
      (pairs-away na (where_key by_slots (λ key. is_na (cell_by by_slots newer key)) older) (pairs-where (λ key. is_na (cell_by by_slots newer key)) older all))
      (pairs-where (cells.differ_by by_slots older newer) newer more)

-- ---- cells that a record can hold

abbrev pub IsKey : List ℕ → Type 0
IsKey key = AreSlots key × (length key ≤ 6)

pub pairs-keyed : (pairs : Cells) → All IsKeyedCell pairs → ArePairs IsKey IsSpelled pairs
pairs-keyed [] all = tt
pairs-keyed (pair ∷ pairs) all =
    let first = All-head IsKeyedCell pair pairs all in
    (((first.0, first.1), first.2), pairs-keyed pairs (All-tail IsKeyedCell pair pairs all))

pub keyed-pairs : (pairs : Cells) → ArePairs IsKey IsSpelled pairs → All IsKeyedCell pairs
keyed-pairs [] all = All-nil IsKeyedCell
keyed-pairs (pair ∷ pairs) all =
    All-cons IsKeyedCell pair pairs (all.0.0.0, all.0.0.1, all.0.1) (keyed-pairs pairs all.1)

-- ---- cells of a variable

-- a key of so many slots, and a cell of the kind
abbrev pub is_key_of : ℕ → List ℕ → Truth
is_key_of slots key = (length key == slots) && list_all (λ slot. nat_lt slot 65536) key

abbrev pub IsKeyOf : ℕ → List ℕ → Type 0
IsKeyOf slots key = is_key_of slots key ≡ true

abbrev pub IsCellOf : Kind → Cell → Type 0
IsCellOf kind cell = is_of_kind kind cell ≡ true

pub pairs-variable : (slots : ℕ) (kind : Kind) (pairs : Cells) → list_all (is_pair_of slots kind) pairs ≡ true → ArePairs (IsKeyOf slots) (IsCellOf kind) pairs
pairs-variable slots kind [] all = tt
pairs-variable slots kind (pair ∷ pairs) all =
    let parts = and_parts (is_pair_of slots kind pair) (list_all (is_pair_of slots kind) pairs) all in
    (and_parts (is_key_of slots pair.0) (is_of_kind kind pair.1) parts.0, pairs-variable slots kind pairs parts.1)

pub variable-pairs : (slots : ℕ) (kind : Kind) (pairs : Cells) → ArePairs (IsKeyOf slots) (IsCellOf kind) pairs → list_all (is_pair_of slots kind) pairs ≡ true
variable-pairs slots kind [] all = refl
variable-pairs slots kind (pair ∷ pairs) all =
    and_from (is_pair_of slots kind pair) (list_all (is_pair_of slots kind) pairs) (and_from (is_key_of slots pair.0) (is_of_kind kind pair.1) all.0.0 all.0.1) (variable-pairs slots kind pairs all.1)
