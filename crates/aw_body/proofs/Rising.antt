-- Keys that rise one after the other rise altogether.
use Rattle.std.specs.Prelude.{ℕ, ◌≡◌, ◌≤◌, ◌+◌, ◌<◌, ◌==◌, ◌&&◌, Bool, true, false, not, List, [], ◌∷◌, length, zero, suc, IsTrue}
use Rattle.std.specs.List.{list_all}
use Rattle.std.specs.Ordering.{is_lt, is_ge}
use Rattle.std.specs.declared.cmp.Ordering.{Ordering}
use Rattle.std.specs.declared.cmp.Ordering.TheVariants.{Less, Equal, Greater}
use Rattle.std.specs.FinMap.{is_sorted}
use Rattle.std.specs.FinMap.Entries.{below_all}
use Rattle.std.proofs.Common.{◌∙◌, ap, ap₂, sym, refl, drop, get_or, arith}
use Rattle.std.proofs.lemmas.Bool.{and_parts, and_from}
use Rattle.aw_cell.specs.declared.cell.Cell.{Cell}
use Rattle.aw_cell.specs.declared.cell.Kind.{Kind}
use Rattle.aw_var.specs.CellMap.{Cells, by_slots}
use Rattle.aw_var.specs.Laws.{IsRising}
use Rattle.aw_body.specs.Fitting.{rise, rise_from, are_changes, is_recorded_change}
use Rattle.aw_body.proofs.Composing.{Change, is-less, below-lower, drop-here}

sorted-from : (key : List ℕ) (changes : Cells) → rise_from key changes ≡ true → IsTrue (below_all by_slots key changes) × IsTrue (is_sorted by_slots changes)
sorted-from key [] rising = (refl, refl)
sorted-from key (change ∷ changes) rising =
    let parts = and_parts (is_lt (by_slots key change.0)) (rise_from change.0 changes) rising in
    let rest = sorted-from change.0 changes parts.1 in
    (and_from (is_lt (by_slots key change.0)) (below_all by_slots key changes) parts.0 (below-lower key change.0 changes (is-less (by_slots key change.0) parts.0) rest.0), and_from (below_all by_slots change.0 changes) (is_sorted by_slots changes) rest.0 rest.1)

rising-rise : (changes : Cells) → rise changes ≡ true → IsRising changes
rising-rise [] rising = refl
rising-rise (change ∷ changes) rising =
    let rest = sorted-from change.0 changes rising in
    and_from (below_all by_slots change.0 changes) (is_sorted by_slots changes) rest.0 rest.1

-- the keys of what a record can hold rise
pub rising_changes : (slots : ℕ) (kind : Kind) (changes : Cells) → IsTrue (are_changes slots kind changes) → IsRising changes
rising_changes slots kind changes recorded =
    rising-rise changes (and_parts (not (length changes == 0) && list_all (is_recorded_change slots kind) changes) (rise changes) recorded).1

-- keys rise from one place on where they rise to the next place and from there
pub rise-next : (changes : Cells) (at next : ℕ) (one other : Change) → at + 1 ≡ next → next < length changes → one ≡ get_or changes at one → other ≡ get_or changes next other → rise (drop at changes) ≡ (is_lt (by_slots one.0 other.0) && rise (drop next changes))
rise-next changes at next one other after within here there =
    let later : drop next changes ≡ other ∷ drop (next + 1) changes = drop-here changes next (next + 1) other refl within there in
    ap rise (drop-here changes at next one after (omega arith) here ∙ ap (λ (rest : Cells). one ∷ rest) later)
    ∙ ap (λ (rest : Cells). is_lt (by_slots one.0 other.0) && rise rest) (sym later)

-- one key rises
pub rise-end : (changes : Cells) (at : ℕ) → length changes ≤ at + 1 → rise (drop at changes) ≡ true
rise-end [] zero past = refl
rise-end [] (suc at) past = refl
rise-end (one ∷ []) zero past = refl
rise-end (one ∷ other ∷ changes) zero past = absurd (omega arith)
rise-end (one ∷ changes) (suc at) past = rise-end changes at (omega arith)

-- a key that isn't at or above another is below it
pub below_unless : (order : Ordering) → false ≡ is_ge order → is_lt order ≡ true
below_unless Less is = refl
below_unless Equal is = cc
below_unless Greater is = cc
