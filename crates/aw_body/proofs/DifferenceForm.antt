-- The cells of a difference can stand in the body: keys as long, and cells of its kind.
use Rattle.std.specs.Prelude.{ℕ, ◌≡◌, ◌==◌, ◌&&◌, Bool, true, false, cond, List, [], ◌∷◌, map, filter, length, nat_lt, IsTrue}
use Rattle.std.specs.List.{list_all}
use Rattle.std.specs.FinMap.{put}
use Rattle.std.specs.FinMap.Entries.{by_order, where_key}
use Rattle.std.specs.declared.cmp.Ordering.TheVariants.{Less, Equal, Greater}
use Rattle.std.proofs.Common.{◌∙◌, ap, sym, refl, subst}
use Rattle.std.proofs.lemmas.Bool.{and_parts, and_from}
use Rattle.aw_cell.specs.declared.cell.Cell.{Cell}
use Rattle.aw_cell.specs.declared.cell.Cell.TheVariants.{Na}
use Rattle.aw_cell.specs.declared.cell.Kind.{Kind}
use Rattle.aw_page.specs.Fitting.{is_of_kind}
use Rattle.aw_var.specs.CellMap.{Cells, by_slots}
use Rattle.aw_var.specs.CellPatch as cells
use Rattle.aw_var.specs.Variable.{Contents, IsVariable, is_pair_of}
use Rattle.aw_body.specs.BodyPatches.{is_change_of, AreChangesOf}
use Rattle.aw_body.proofs.Composing.{Change}

module _ (slots : ℕ) (kind : Kind) where
  abbrev AllOf : Cells → Type 0
  AllOf changes = list_all (is_change_of slots kind) changes ≡ true

  one-more : (change : Change) (changes : Cells) → is_change_of slots kind change ≡ true → AllOf changes → AllOf (change ∷ changes)
  one-more change changes one all = and_from (is_change_of slots kind change) (list_all (is_change_of slots kind) changes) one all

  -- a key of one change with the cell of another
  mixed : (one other : Change) → is_change_of slots kind one ≡ true → is_change_of slots kind other ≡ true → is_change_of slots kind (one.0, other.1) ≡ true
  mixed one other one_is other_is =
      and_from (length one.0 == slots) (is_of_kind kind other.1) (and_parts (length one.0 == slots) (is_of_kind kind one.1) one_is).0 (and_parts (length other.0 == slots) (is_of_kind kind other.1) other_is).1

  all-put : (change : Change) (changes : Cells) → is_change_of slots kind change ≡ true → AllOf changes → AllOf (put by_slots change.0 change.1 changes)
  all-put change [] one all = one-more change [] one refl
  all-put change (first ∷ changes) one all =
      let parts = and_parts (is_change_of slots kind first) (list_all (is_change_of slots kind) changes) all in
      elim (by_slots change.0 first.0) as (λ order. AllOf (by_order order (change ∷ first ∷ changes) ((first.0, change.1) ∷ changes) (first ∷ put by_slots change.0 change.1 changes))) [
        | Less ↦ one-more change (first ∷ changes) one all
        | Equal ↦ one-more (first.0, change.1) changes (mixed first change parts.0 one) parts.1
        | Greater ↦ one-more first (put by_slots change.0 change.1 changes) parts.0 (all-put change changes one parts.1)
      ]

  all-composed : (first second : Cells) → AllOf first → AllOf second → AllOf (cells.composed first second)
  all-composed first [] all others = all
  all-composed first (change ∷ second) all others =
      let parts = and_parts (is_change_of slots kind change) (list_all (is_change_of slots kind) second) others in
      all-composed (put by_slots change.0 change.1 first) second (all-put change first parts.0 all) parts.1

  all-where : (test : List ℕ → Bool) (changes : Cells) → AllOf changes → AllOf (where_key by_slots test changes)
  all-where test [] all = refl
  all-where test (change ∷ changes) all =
      let parts = and_parts (is_change_of slots kind change) (list_all (is_change_of slots kind) changes) all in
      let rest = all-where test changes parts.1 in
      elim (test change.0) as (λ b. AllOf (cond b (change ∷ where_key by_slots test changes) (where_key by_slots test changes))) [
        | true ↦ one-more change (where_key by_slots test changes) parts.0 rest
        | false ↦ rest
      ]

  all-away : (changes : Cells) → AllOf changes → AllOf (map (λ (change : Change). (change.0, Na)) changes)
  all-away [] all = refl
  all-away (change ∷ changes) all =
      let parts = and_parts (is_change_of slots kind change) (list_all (is_change_of slots kind) changes) all in
      one-more (change.0, Na) (map (λ (one : Change). (one.0, Na)) changes) (and_from (length change.0 == slots) true (and_parts (length change.0 == slots) (is_of_kind kind change.1) parts.0).0 refl) (all-away changes parts.1)

  all-pairs : (changes : Cells) → IsTrue (list_all (is_pair_of slots kind) changes) → AllOf changes
  all-pairs [] all = refl
  all-pairs (change ∷ changes) all =
      let parts = and_parts (is_pair_of slots kind change) (list_all (is_pair_of slots kind) changes) all in
      let shape = and_parts ((length change.0 == slots) && list_all (λ slot. nat_lt slot 65536) change.0) (is_of_kind kind change.1) parts.0 in
      let size = and_parts (length change.0 == slots) (list_all (λ slot. nat_lt slot 65536) change.0) shape.0 in
      one-more change changes (and_from (length change.0 == slots) (is_of_kind kind change.1) size.0 shape.1) (all-pairs changes parts.1)

pub difference-form : (older newer : Contents) → IsVariable older → IsVariable newer → (older.slots ≡ newer.slots) × (older.kind ≡ newer.kind) → AreChangesOf older (cells.difference older.cells newer.cells)
difference-form older newer older_is newer_is alike =
    let before : list_all (is_change_of older.slots older.kind) older.cells ≡ true = all-pairs older.slots older.kind older.cells older_is.pairs in
    let now : list_all (is_change_of older.slots older.kind) newer.cells ≡ true =
    subst (λ (n : ℕ). list_all (is_change_of n older.kind) newer.cells ≡ true) (sym alike.0) (
    subst (λ (k : Kind). list_all (is_change_of newer.slots k) newer.cells ≡ true) (sym alike.1) (all-pairs newer.slots newer.kind newer.cells newer_is.pairs)) in
    all-composed older.slots older.kind _ _ (all-away older.slots older.kind _ (all-where older.slots older.kind _ older.cells before)) (all-where older.slots older.kind _ newer.cells now)
