-- How two maps differ is how their sheets differ, page by page.
use Rattle.std.proofs.Common.{◌≡◌, ℕ, zero, suc, ◌+◌, ◌*◌, ◌/◌, ◌%◌, ◌<◌, ◌≤◌, Bool, true, false, cond, not, List, [], ◌∷◌, ◌++◌, map, Option, Some, None, unwrap_or, refl, sym, ap, subst, ◌∙◌, arith, Less, Equal, Greater}
use Rattle.std.specs.List.{list_all}
use Rattle.std.specs.Prelude.{nat_lt, nat_le}
use Rattle.std.specs.Ordering.{nat_cmp, is_eq, is_lt, MatchOrdering}
use Rattle.std.specs.Cmp.{nat_cmp_total, ranked}
use Rattle.std.specs.FinMap.{find, put, is_sorted, nat_cmp-IsAntisymmetric}
use Rattle.std.specs.FinMap.Entries.{where_key, below_all, by_order}
use Rattle.std.proofs.lemmas.Bool.Decides.{Decides-ltb}
use Rattle.aw_cell.specs.declared.cell.Cell.{Cell}
use Rattle.aw_cell.specs.declared.cell.Cell.TheVariants.{Na}
use Rattle.aw_cell.specs.declared.cell.Kind.{Kind}
use Rattle.aw_cell.specs.Cell.{same_cell}
use Rattle.aw_page.specs.Fitting.{is_na}
use Rattle.aw_var.specs.CellMap.{IsMapBy}
use Rattle.aw_var.specs.CellPatch.{composed_by, differ_by, taken_away_by}
use Rattle.aw_var.specs.inside.NumberedMap.{cell_of, difference_of}
use Rattle.aw_var.specs.inside.Sheets.{SheetCells, Sheets, all_numbered, sheet_at}
use Rattle.aw_var.specs.inside.Differences.{cell_on, changes_on}
use Rattle.aw_var.specs.inside.Walks.{first_page, TakesSheet}
use Rattle.aw_var.proofs.callers.FiniteMaps.{both_true, and_true, either, equal_of, find-difference, is_sorted-difference, is_difference}
use Rattle.aw_var.proofs.Numbers.{at_same, lt_true, to_le, from_on, up_to, find-append, below-from, find-below, find-above, is_sorted-append}
use Rattle.aw_var.proofs.Sheets.{EachSheet, sheet_at-absent, all_numbered-from, is_sorted-all, present-all, find-all, unwrap_or-found_on}
use Rattle.aw_var.proofs.Unpacking.{list_all-filter}

-- a test of all keys
abbrev keys : (ℕ → Bool) → List (ℕ × Cell) → Bool
keys p = list_all (λ pair. p pair.0)

keys-put : (p : ℕ → Bool) (q : ℕ) (c : Cell) (cells : List (ℕ × Cell)) → p q ≡ true → keys p cells ≡ true → keys p (put nat_cmp q c cells) ≡ true
keys-put p q c [] here all = and_true (p q) true here refl
keys-put p q c (e ∷ es) here all =
    let parts = both_true (p e.0) (keys p es) all in
    elim (nat_cmp q e.0) as (λ r. keys p (by_order r ((q, c) ∷ e ∷ es) ((e.0, c) ∷ es) (e ∷ put nat_cmp q c es)) ≡ true) [
      | Less ↦ and_true (p q) (keys p (e ∷ es)) here all
      | Equal ↦ and_true (p e.0) (keys p es) parts.0 parts.1
      | Greater ↦ and_true (p e.0) (keys p (put nat_cmp q c es)) parts.0 (keys-put p q c es here parts.1)
    ]

keys-composed : (p : ℕ → Bool) (first second : List (ℕ × Cell)) → keys p first ≡ true → keys p second ≡ true → keys p (composed_by nat_cmp first second) ≡ true
keys-composed p first [] f g = f
keys-composed p first (e ∷ es) f g = let parts = both_true (p e.0) (keys p es) g in keys-composed p (put nat_cmp e.0 e.1 first) es (keys-put p e.0 e.1 first parts.0 f) parts.1

keys-na : (p : ℕ → Bool) (cells : List (ℕ × Cell)) → keys p cells ≡ true → keys p (map (λ pair. (pair.0, Na)) cells) ≡ true
keys-na p [] all = refl
keys-na p (e ∷ es) all = let parts = both_true (p e.0) (keys p es) all in and_true (p e.0) (keys p (map (λ pair. (pair.0, Na)) es)) parts.0 (keys-na p es parts.1)

pub keys-difference : (p : ℕ → Bool) (a b : List (ℕ × Cell)) → keys p a ≡ true → keys p b ≡ true → keys p (difference_of a b) ≡ true
keys-difference p a b f g =
    keys-composed p (taken_away_by nat_cmp a b) (where_key nat_cmp (differ_by nat_cmp a b) b)
    (keys-na p (where_key nat_cmp (λ n. is_na (cell_of b n)) a) (list_all-filter (λ pair. p pair.0) (λ e. is_na (cell_of b e.0)) a f))
    (list_all-filter (λ pair. p pair.0) (λ e. differ_by nat_cmp a b e.0) b g)

-- sheets in order, all of one kind
pub record Ordered (kind : Kind) (sheets : Sheets) : Type 0 where
  pub sorted : is_sorted nat_cmp sheets ≡ true
  pub each : EachSheet kind sheets

pub IsMapBy-ordered : (kind : Kind) (es : Sheets) → Ordered kind es → IsMapBy nat_cmp (all_numbered es)
IsMapBy-ordered kind es h = record { rising = is_sorted-all kind es h.sorted h.each; present = present-all es }

pub cell_of-ordered : (kind : Kind) (q : ℕ) (es : Sheets) → Ordered kind es → cell_of (all_numbered es) q ≡ cell_on (sheet_at es (q / 64)) (q % 64)
cell_of-ordered kind q es h = ap (λ r. unwrap_or r Na) (find-all kind q es h.sorted h.each) ∙ unwrap_or-found_on (sheet_at es (q / 64)) (q % 64)

-- the sheet of a page is taken, and all that are left are of later pages
pub record Taken (kind : Kind) (all left : Sheets) (page : ℕ) (sheet : Option SheetCells) : Type 0 where
  pub here : sheet_at all page ≡ sheet
  pub others : (other : ℕ) → (other ≡ page → ⊥) → sheet_at all other ≡ sheet_at left other
  pub gone : sheet_at left page ≡ None
  pub later : from_on (64 * (page + 1)) (all_numbered left) ≡ true
  pub ordered : Ordered kind left

-- no page is before the first
abbrev pub at_least : ℕ → Option ℕ → Type 0
at_least page None = Unit {0}
at_least page (Some first) = page ≤ first

later_all : (page : ℕ) (e : ℕ × SheetCells) (es : Sheets) → below_all nat_cmp e.0 es ≡ true → page < e.0 → below_all nat_cmp page (e ∷ es) ≡ true
later_all page e es below h = and_true (is_lt (nat_cmp page e.0)) (below_all nat_cmp page es) (lt_true page e.0 h) (further page e.0 es h below)
  where
    further : (low high : ℕ) (es : Sheets) → low < high → below_all nat_cmp high es ≡ true → below_all nat_cmp low es ≡ true
    further low high [] h below = refl
    further low high (x ∷ xs) h below =
        let parts = both_true (is_lt (nat_cmp high x.0)) (below_all nat_cmp high xs) below in
        let more : high < x.0 = elim (nat_cmp high x.0) as (λ r. is_lt r ≡ true → MatchOrdering r (high < x.0) (high ≡ x.0) (x.0 < high) → high < x.0) [
          | Less ↦ λ _ l. l
          | Equal ↦ λ n _. cc
          | Greater ↦ λ n _. cc
        ] parts.0 (ranked high x.0 (nat_cmp high x.0) refl) in
        and_true (is_lt (nat_cmp low x.0)) (below_all nat_cmp low xs) (lt_true low x.0 (omega arith)) (further low high xs h parts.1)

taken-none : (kind : Kind) (es : Sheets) (page : ℕ) → Ordered kind es → below_all nat_cmp page es ≡ true → Taken kind es es page None
taken-none kind es page h below = record {
  here = sheet_at-absent page page es below refl;
  others = λ other apart. refl;
  gone = sheet_at-absent page page es below refl;
  later = all_numbered-from kind page es below;
  ordered = h;
}

pub taken : (kind : Kind) (old new : Sheets) (page : ℕ) (sheet : Option SheetCells) → Ordered kind old → at_least page (first_page old) → TakesSheet old page sheet new → Taken kind old new page sheet
taken kind old new page None h least takes =
    subst (λ (left : Sheets). Taken kind old left page None) (sym takes.0) (taken-none kind old page h (none_of old page h least takes.1))
  where
    none_of : (old : Sheets) (page : ℕ) → Ordered kind old → at_least page (first_page old) → (first_page old ≡ Some page → ⊥) → below_all nat_cmp page old ≡ true
    none_of [] page h least apart = refl
    none_of (e ∷ es) page h least apart =
        let parts = both_true (below_all nat_cmp e.0 es) (is_sorted nat_cmp es) h.sorted in
        let differ : page ≡ e.0 → ⊥ = λ s. apart (ap (λ (n : ℕ). Some n) (sym s)) in
        later_all page e es parts.0 (omega arith)
taken kind old new page (Some sheet) h least takes =
    subst (λ (all : Sheets). Taken kind all new page (Some sheet)) (sym takes) (taken-some new (subst (λ (all : Sheets). Ordered kind all) takes h))
  where
    taken-some : (new : Sheets) → Ordered kind ((page, sheet) ∷ new) → Taken kind ((page, sheet) ∷ new) new page (Some sheet)
    taken-some new h =
        let parts = both_true (below_all nat_cmp page new) (is_sorted nat_cmp new) h.sorted in
        record {
          here = ap (λ b. cond b (Some sheet) (sheet_at new page)) (at_same page page refl);
          others = λ other apart. ap (λ b. cond b (Some sheet) (sheet_at new other)) (elim (is_eq (nat_cmp other page)) as (λ b. is_eq (nat_cmp other page) ≡ b → b ≡ false) [
            | true ↦ λ t. absurd (apart (nat_cmp-IsAntisymmetric other page (equal_of _ t)))
            | false ↦ λ _. refl
          ] refl);
          gone = sheet_at-absent page page new parts.0 refl;
          later = all_numbered-from kind page new parts.0;
          ordered = record { sorted = parts.1; each = h.each.1 };
        }

changes-from : (before now : Option SheetCells) (from place left least : ℕ) → least ≤ from + place → from_on least (changes_on before now from place left) ≡ true
unfolding changes_on
changes-from before now from place zero least h = refl
changes-from before now from place (suc left) least h =
    let rest = changes-from before now from (place + 1) left least (omega arith) in
    elim (same_cell (cell_on before place) (cell_on now place)) as (λ b. from_on least (cond b (changes_on before now from (place + 1) left) ((from + place, cell_on now place) ∷ changes_on before now from (place + 1) left)) ≡ true) [
      | true ↦ rest
      | false ↦ and_true (nat_le least (from + place)) (from_on least (changes_on before now from (place + 1) left)) (to_le least (from + place) h) rest
    ]

changes-up_to : (before now : Option SheetCells) (from place left end : ℕ) → from + place + left ≤ end → up_to end (changes_on before now from place left) ≡ true
unfolding changes_on
changes-up_to before now from place zero end h = refl
changes-up_to before now from place (suc left) end h =
    let rest = changes-up_to before now from (place + 1) left end (omega arith) in
    elim (same_cell (cell_on before place) (cell_on now place)) as (λ b. up_to end (cond b (changes_on before now from (place + 1) left) ((from + place, cell_on now place) ∷ changes_on before now from (place + 1) left)) ≡ true) [
      | true ↦ rest
      | false ↦ and_true (nat_lt (from + place) end) (up_to end (changes_on before now from (place + 1) left)) ((Decides-ltb (from + place) end).1 (omega arith)) rest
    ]

changes-sorted : (before now : Option SheetCells) (from place left : ℕ) → is_sorted nat_cmp (changes_on before now from place left) ≡ true
unfolding changes_on
changes-sorted before now from place zero = refl
changes-sorted before now from place (suc left) =
    let rest = changes-sorted before now from (place + 1) left in
    elim (same_cell (cell_on before place) (cell_on now place)) as (λ b. is_sorted nat_cmp (cond b (changes_on before now from (place + 1) left) ((from + place, cell_on now place) ∷ changes_on before now from (place + 1) left)) ≡ true) [
      | true ↦ rest
      | false ↦ and_true (below_all nat_cmp (from + place) (changes_on before now from (place + 1) left)) (is_sorted nat_cmp (changes_on before now from (place + 1) left))
          (below-from (from + place) (from + place + 1) (changes_on before now from (place + 1) left) (omega arith) (changes-from before now from (place + 1) left (from + place + 1) (omega arith))) rest
    ]

-- what is found among the changes of a page
find-changes : (before now : Option SheetCells) (from place left q k : ℕ) → q ≡ from + k → place ≤ k → k < place + left →
    find nat_cmp q (changes_on before now from place left) ≡ cond (not (same_cell (cell_on before k) (cell_on now k))) (Some (cell_on now k)) None
unfolding changes_on
find-changes before now from place zero q k e low high = absurd (omega arith)
find-changes before now from place (suc left) q k e low high =
    let later = changes_on before now from (place + 1) left in
    elim (nat_cmp q (from + place)) as (λ r. nat_cmp q (from + place) ≡ r → MatchOrdering r (q < from + place) (q ≡ from + place) (from + place < q) →
    find nat_cmp q (cond (same_cell (cell_on before place) (cell_on now place)) (changes_on before now from (place + 1) left) ((from + place, cell_on now place) ∷ changes_on before now from (place + 1) left))
    ≡ cond (not (same_cell (cell_on before k) (cell_on now k))) (Some (cell_on now k)) None) [
      | Less ↦ λ _ h. absurd (omega arith)
      | Equal ↦ λ tied h.
          let same : place ≡ k = omega arith in
          let none = find-below q (from + place + 1) later (omega arith) (changes-from before now from (place + 1) left (from + place + 1) (omega arith)) in
          elim (same_cell (cell_on before place) (cell_on now place)) as (λ s. find nat_cmp q (cond s (changes_on before now from (place + 1) left) ((from + place, cell_on now place) ∷ changes_on before now from (place + 1) left)) ≡ cond (not s) (Some (cell_on now place)) None) [
            | true ↦ none
            | false ↦ ap (λ r. cond (is_eq r) (Some (cell_on now place)) (find nat_cmp q later)) tied
          ] ∙ ap (λ j. cond (not (same_cell (cell_on before j) (cell_on now j))) (Some (cell_on now j)) None) same
      | Greater ↦ λ more h.
          let rest = find-changes before now from (place + 1) left q k e (omega arith) (omega arith) in
          elim (same_cell (cell_on before place) (cell_on now place)) as (λ s. find nat_cmp q (cond s (changes_on before now from (place + 1) left) ((from + place, cell_on now place) ∷ changes_on before now from (place + 1) left)) ≡ cond (not (same_cell (cell_on before k) (cell_on now k))) (Some (cell_on now k)) None) [
            | true ↦ rest
            | false ↦ ap (λ r. cond (is_eq r) (Some (cell_on now place)) (find nat_cmp q later)) more ∙ rest
          ]
    ] refl (ranked q (from + place) (nat_cmp q (from + place)) refl)

either-none : {A : Type 0} (x : Option A) → either x None ≡ x
either-none None = refl
either-none (Some a) = refl

-- the changes of one page, and then those of the pages behind it
pub difference-step : (kind : Kind) (olds news olds' news' : Sheets) (page : ℕ) (before now : Option SheetCells) → Ordered kind olds → Ordered kind news → Taken kind olds olds' page before → Taken kind news news' page now →
    changes_on before now (64 * page) 0 64 ++ difference_of (all_numbered olds') (all_numbered news') ≡ difference_of (all_numbered olds) (all_numbered news)
difference-step kind olds news olds' news' page before now f g old new =
    let a = all_numbered olds in
    let b = all_numbered news in
    let a' = all_numbered olds' in
    let b' = all_numbered news' in
    let here = changes_on before now (64 * page) 0 64 in
    let fa' = IsMapBy-ordered kind olds' old.ordered in
    let gb' = IsMapBy-ordered kind news' new.ordered in
    is_difference nat_cmp_total nat_cmp-IsAntisymmetric a b (here ++ difference_of a' b') (IsMapBy-ordered kind olds f) (IsMapBy-ordered kind news g)
    (is_sorted-append (64 * (page + 1)) here (difference_of a' b') (changes-sorted before now (64 * page) 0 64) (is_sorted-difference nat_cmp_total nat_cmp-IsAntisymmetric a' b' fa')
    (changes-up_to before now (64 * page) 0 64 (64 * (page + 1)) (omega arith)) (keys-difference (λ n. nat_le (64 * (page + 1)) n) a' b' old.later new.later))
    (λ q.
    let ca = cell_of-ordered kind q olds f in
    let cb = cell_of-ordered kind q news g in
    let rest = find-difference nat_cmp_total nat_cmp-IsAntisymmetric q a' b' fa' gb' in
    find-append q here (difference_of a' b')
    ∙ ap (λ r. either (find nat_cmp q here) r) (rest ∙ (λ i. cond (not (same_cell (cell_of-ordered kind q olds' old.ordered i) (cell_of-ordered kind q news' new.ordered i))) (Some (cell_of-ordered kind q news' new.ordered i)) None))
    ∙ elim (nat_cmp (q / 64) page) as (λ r. MatchOrdering r (q / 64 < page) (q / 64 ≡ page) (page < q / 64) →
    either (find nat_cmp q here) (cond (not (same_cell (cell_on (sheet_at olds' (q / 64)) (q % 64)) (cell_on (sheet_at news' (q / 64)) (q % 64)))) (Some (cell_on (sheet_at news' (q / 64)) (q % 64))) None)
    ≡ cond (not (same_cell (cell_on (sheet_at olds (q / 64)) (q % 64)) (cell_on (sheet_at news (q / 64)) (q % 64)))) (Some (cell_on (sheet_at news (q / 64)) (q % 64))) None) [
      | Less ↦ λ h. elsewhere q olds news olds' news' page before now old.others new.others (λ (s : q / 64 ≡ page). omega arith)
          (find-below q (64 * page) here (omega arith) (changes-from before now (64 * page) 0 64 (64 * page) (omega arith)))
      | Equal ↦ λ h.
          (λ i. either (find nat_cmp q here) (cond (not (same_cell (cell_on ((ap (λ p. sheet_at olds' p) h ∙ old.gone) i) (q % 64)) (cell_on ((ap (λ p. sheet_at news' p) h ∙ new.gone) i) (q % 64)))) (Some (cell_on ((ap (λ p. sheet_at news' p) h ∙ new.gone) i) (q % 64))) None))
          ∙ either-none (find nat_cmp q here)
          ∙ find-changes before now (64 * page) 0 64 q (q % 64) (omega arith) (omega arith) (omega arith)
          ∙ (λ i. cond (not (same_cell (cell_on ((sym old.here ∙ ap (λ p. sheet_at olds p) (sym h)) i) (q % 64)) (cell_on ((sym new.here ∙ ap (λ p. sheet_at news p) (sym h)) i) (q % 64)))) (Some (cell_on ((sym new.here ∙ ap (λ p. sheet_at news p) (sym h)) i) (q % 64))) None)
      | Greater ↦ λ h. elsewhere q olds news olds' news' page before now old.others new.others (λ (s : q / 64 ≡ page). omega arith)
          (find-above q (64 * (page + 1)) here (omega arith) (changes-up_to before now (64 * page) 0 64 (64 * (page + 1)) (omega arith)))
    ] (ranked (q / 64) page (nat_cmp (q / 64) page) refl)
    ∙ (λ i. cond (not (same_cell (sym ca i) (sym cb i))) (Some (sym cb i)) None))
  where
    elsewhere : (q : ℕ) (olds news olds' news' : Sheets) (page : ℕ) (before now : Option SheetCells) →
        ((other : ℕ) → (other ≡ page → ⊥) → sheet_at olds other ≡ sheet_at olds' other) → ((other : ℕ) → (other ≡ page → ⊥) → sheet_at news other ≡ sheet_at news' other) →
        (q / 64 ≡ page → ⊥) → find nat_cmp q (changes_on before now (64 * page) 0 64) ≡ None →
        either (find nat_cmp q (changes_on before now (64 * page) 0 64)) (cond (not (same_cell (cell_on (sheet_at olds' (q / 64)) (q % 64)) (cell_on (sheet_at news' (q / 64)) (q % 64)))) (Some (cell_on (sheet_at news' (q / 64)) (q % 64))) None)
        ≡ cond (not (same_cell (cell_on (sheet_at olds (q / 64)) (q % 64)) (cell_on (sheet_at news (q / 64)) (q % 64)))) (Some (cell_on (sheet_at news (q / 64)) (q % 64))) None
    elsewhere q olds news olds' news' page before now old new apart none =
        ap (λ r. either r (cond (not (same_cell (cell_on (sheet_at olds' (q / 64)) (q % 64)) (cell_on (sheet_at news' (q / 64)) (q % 64)))) (Some (cell_on (sheet_at news' (q / 64)) (q % 64))) None)) none
        ∙ (λ i. cond (not (same_cell (cell_on (sym (old (q / 64) apart) i) (q % 64)) (cell_on (sym (new (q / 64) apart) i) (q % 64)))) (Some (cell_on (sym (new (q / 64) apart) i) (q % 64))) None)
