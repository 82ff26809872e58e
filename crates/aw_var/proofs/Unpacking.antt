-- Coordinates in place of their packed numbers: what is found and what each change makes of a map stays the same.
use Rattle.std.proofs.Common.{◌≡◌, ℕ, zero, suc, ◌+◌, ◌*◌, ◌/◌, ◌%◌, ◌^◌, ◌<◌, Bool, true, false, cond, not, ◌||◌, ◌==◌, List, [], ◌∷◌, map, length, Some, unwrap_or, refl, sym, ap, subst, ◌∙◌, arith, Less, Equal, Greater, Result, Ok, Err, OnOk, OnErr, IfOk}
use Rattle.std.proofs.Math.Nat.{pow-suc, mod-lt, div-lt_iff_lt-mul}
use Rattle.std.proofs.lemmas.Nat.{div-add-mod'}
use Rattle.std.specs.List.{list_all, list_any, filter}
use Rattle.std.specs.Prelude.{nat_lt}
use Rattle.std.specs.Ordering.{nat_cmp, is_eq, eq_by_cmp}
use Rattle.std.specs.FinMap.{find, put}
use Rattle.std.specs.FinMap.Entries.{where_key, by_order}
use Rattle.std.proofs.lemmas.Bool.Decides.{Decides-ltb}
use Rattle.aw_cell.specs.declared.cell.Cell.{Cell}
use Rattle.aw_cell.specs.declared.cell.Cell.TheVariants.{Na}
use Rattle.aw_cell.specs.Cell.{same_cell}
use Rattle.aw_page.specs.Fitting.{is_na}
use Rattle.aw_lists.specs.Coord.{packed, AreSlots}
use Rattle.aw_lists.proofs.callers.Packing.{packed-below}
use Rattle.aw_lists.proofs.callers.PackingOrder.{packs_in_order}
use Rattle.aw_var.specs.CellMap.{Cells, by_slots, without_by, cell_at, set_at}
use Rattle.aw_var.specs.CellPatch.{composed_by, differ_by, taken_away_by, difference}
use Rattle.std.specs.declared.alloc.AllocError.{AllocError}
use Rattle.aw_cell.specs.declared.cell.Kind.{Kind}
use Rattle.aw_var.specs.Variable.{Contents}
use Rattle.aw_var.specs.inside.NumberedMap.{NumberedMap, cell_of, set_of, difference_of}
use Rattle.aw_var.specs.inside.Sheets.{number_pages}
use Rattle.aw_var.specs.Pages.{page_of, page_count}
use Rattle.aw_var.specs.inside.Unpacking.{unpacked, with_coords, AreNumbersOf}
use Rattle.aw_var.proofs.callers.FiniteMaps.{both_true, and_true}

pub power_pos : (slots : ℕ) → 0 < 65536 ^ slots
power_pos zero = omega arith
power_pos (suc slots) = let h = power_pos slots in rw pow-suc (omega arith)

pub length-unpacked : (slots n : ℕ) → length (unpacked slots n) ≡ slots
length-unpacked zero n = refl
length-unpacked (suc slots) n = ap suc (length-unpacked slots (n % 65536 ^ slots))

pub packed-unpacked : (slots n : ℕ) → n < 65536 ^ slots → packed (unpacked slots n) ≡ n
packed-unpacked zero n h = omega arith
packed-unpacked (suc slots) n h =
    let rest = packed-unpacked slots (n % 65536 ^ slots) (mod-lt n (power_pos slots)) in
    ap (λ k. n / 65536 ^ slots * 65536 ^ k + packed (unpacked slots (n % 65536 ^ slots))) (length-unpacked slots (n % 65536 ^ slots))
    ∙ ap (λ p. n / 65536 ^ slots * 65536 ^ slots + p) rest
    ∙ div-add-mod' n (65536 ^ slots)

pub AreSlots-cons : (x : ℕ) (xs : List ℕ) → x < 65536 → AreSlots xs → AreSlots (x ∷ xs)
AreSlots-cons x xs h rest zero d within = h
AreSlots-cons x xs h rest (suc k) d within = rest k d (omega arith)

pub AreSlots-unpacked : (slots n : ℕ) → n < 65536 ^ slots → AreSlots (unpacked slots n)
AreSlots-unpacked zero n h = λ k d within. absurd (omega arith)
AreSlots-unpacked (suc slots) n h =
    let grown : 65536 ^ suc slots ≡ 65536 * 65536 ^ slots = rw pow-suc (omega arith) in
    let below : n < 65536 * 65536 ^ slots = subst (λ x. n < x) grown h in
    AreSlots-cons (n / 65536 ^ slots) (unpacked slots (n % 65536 ^ slots)) ((div-lt_iff_lt-mul (power_pos slots)).1 below) (AreSlots-unpacked slots (n % 65536 ^ slots) (mod-lt n (power_pos slots)))

-- the slots of a key's number are the key
pub unpacked-packed : (slots : ℕ) (key : List ℕ) → AreSlots key → length key ≡ slots → unpacked slots (packed key) ≡ key
unpacked-packed slots key each long =
    let below : packed key < 65536 ^ slots = subst (λ n. packed key < 65536 ^ n) long (packed-below key each) in
    (packs_in_order (unpacked slots (packed key)) key (AreSlots-unpacked slots (packed key) below) each (length-unpacked slots (packed key) ∙ sym long)).distinct (packed-unpacked slots (packed key) below)

pub by_slots-unpacked : (slots x y : ℕ) → x < 65536 ^ slots → y < 65536 ^ slots → by_slots (unpacked slots x) (unpacked slots y) ≡ nat_cmp x y
by_slots-unpacked slots x y f g =
    sym (packs_in_order (unpacked slots x) (unpacked slots y) (AreSlots-unpacked slots x f) (AreSlots-unpacked slots y g) (length-unpacked slots x ∙ sym (length-unpacked slots y))).compared
    ∙ (λ i. nat_cmp (packed-unpacked slots x f i) (packed-unpacked slots y g i))

abbrev pub below : ℕ → List (ℕ × Cell) → Bool
below slots = list_all (λ pair. nat_lt pair.0 (65536 ^ slots))

pub list_all-filter : {A : Type 0} (p test : A → Bool) (xs : List A) → list_all p xs ≡ true → list_all p (filter test xs) ≡ true
list_all-filter p test [] h = refl
list_all-filter p test (x ∷ xs) h =
    let parts = both_true (p x) (list_all p xs) h in
    let rest = list_all-filter p test xs parts.1 in
    elim (test x) as (λ b. list_all p (cond b (x ∷ filter test xs) (filter test xs)) ≡ true) [ true ↦ and_true (p x) (list_all p (filter test xs)) parts.0 rest | false ↦ rest ]

pub below-put : (slots q : ℕ) (c : Cell) (cells : List (ℕ × Cell)) → q < 65536 ^ slots → below slots cells ≡ true → below slots (put nat_cmp q c cells) ≡ true
below-put slots q c [] h all = and_true (nat_lt q (65536 ^ slots)) true ((Decides-ltb q (65536 ^ slots)).1 h) refl
below-put slots q c (e ∷ es) h all =
    let parts = both_true (nat_lt e.0 (65536 ^ slots)) (below slots es) all in
    let here = (Decides-ltb q (65536 ^ slots)).1 h in
    elim (nat_cmp q e.0) as (λ r. below slots (by_order r ((q, c) ∷ e ∷ es) ((e.0, c) ∷ es) (e ∷ put nat_cmp q c es)) ≡ true) [
      | Less ↦ and_true (nat_lt q (65536 ^ slots)) (below slots (e ∷ es)) here all
      | Equal ↦ and_true (nat_lt e.0 (65536 ^ slots)) (below slots es) parts.0 parts.1
      | Greater ↦ and_true (nat_lt e.0 (65536 ^ slots)) (below slots (put nat_cmp q c es)) parts.0 (below-put slots q c es h parts.1)
    ]

pub below-set : (slots q : ℕ) (c : Cell) (cells : List (ℕ × Cell)) → q < 65536 ^ slots → below slots cells ≡ true → below slots (set_of cells q c) ≡ true
below-set slots q c cells h all =
    elim (is_na c) as (λ b. below slots (cond b (without_by nat_cmp cells q) (put nat_cmp q c cells)) ≡ true) [
      | true ↦ list_all-filter (λ pair. nat_lt pair.0 (65536 ^ slots)) (λ e. not (eq_by_cmp nat_cmp q e.0)) cells all
      | false ↦ below-put slots q c cells h all
    ]

module _ (slots : ℕ) where
  at_head : (e : ℕ × Cell) (es : List (ℕ × Cell)) → below slots (e ∷ es) ≡ true → e.0 < 65536 ^ slots
  at_head e es all = (Decides-ltb e.0 (65536 ^ slots)).0 (both_true (nat_lt e.0 (65536 ^ slots)) (below slots es) all).0

  at_tail : (e : ℕ × Cell) (es : List (ℕ × Cell)) → below slots (e ∷ es) ≡ true → below slots es ≡ true
  at_tail e es all = (both_true (nat_lt e.0 (65536 ^ slots)) (below slots es) all).1

  pub find-coords : (q : ℕ) (cells : List (ℕ × Cell)) → q < 65536 ^ slots → below slots cells ≡ true → find by_slots (unpacked slots q) (with_coords slots cells) ≡ find nat_cmp q cells
  find-coords q [] h all = refl
  find-coords q (e ∷ es) h all =
      ap (λ r. cond (is_eq r) (Some e.1) (find by_slots (unpacked slots q) (with_coords slots es))) (by_slots-unpacked slots q e.0 h (at_head e es all))
      ∙ ap (λ r. cond (is_eq (nat_cmp q e.0)) (Some e.1) r) (find-coords q es h (at_tail e es all))

  pub cell-coords : (q : ℕ) (cells : List (ℕ × Cell)) → q < 65536 ^ slots → below slots cells ≡ true → cell_at (with_coords slots cells) (unpacked slots q) ≡ cell_of cells q
  cell-coords q cells h all = ap (λ r. unwrap_or r Na) (find-coords q cells h all)

  pub put-coords : (q : ℕ) (c : Cell) (cells : List (ℕ × Cell)) → q < 65536 ^ slots → below slots cells ≡ true → put by_slots (unpacked slots q) c (with_coords slots cells) ≡ with_coords slots (put nat_cmp q c cells)
  put-coords q c [] h all = refl
  put-coords q c (e ∷ es) h all =
      let rest = put-coords q c es h (at_tail e es all) in
      ap (λ r. by_order r ((unpacked slots q, c) ∷ (unpacked slots e.0, e.1) ∷ with_coords slots es) ((unpacked slots e.0, c) ∷ with_coords slots es) ((unpacked slots e.0, e.1) ∷ put by_slots (unpacked slots q) c (with_coords slots es)))
      (by_slots-unpacked slots q e.0 h (at_head e es all))
      ∙ elim (nat_cmp q e.0) as (λ r. by_order r ((unpacked slots q, c) ∷ (unpacked slots e.0, e.1) ∷ with_coords slots es) ((unpacked slots e.0, c) ∷ with_coords slots es) ((unpacked slots e.0, e.1) ∷ put by_slots (unpacked slots q) c (with_coords slots es))
      ≡ with_coords slots (by_order r ((q, c) ∷ e ∷ es) ((e.0, c) ∷ es) (e ∷ put nat_cmp q c es))) [
        | Less ↦ refl
        | Equal ↦ refl
        | Greater ↦ ap (λ (r : Cells). (unpacked slots e.0, e.1) ∷ r) rest
      ]

  pub where-coords : (p : List ℕ → Bool) (test : ℕ → Bool) (cells : List (ℕ × Cell)) → ((n : ℕ) → n < 65536 ^ slots → p (unpacked slots n) ≡ test n) → below slots cells ≡ true →
      where_key by_slots p (with_coords slots cells) ≡ with_coords slots (where_key nat_cmp test cells)
  where-coords p test [] agree all = refl
  where-coords p test (e ∷ es) agree all =
      let rest = where-coords p test es agree (at_tail e es all) in
      ap (λ b. cond b ((unpacked slots e.0, e.1) ∷ where_key by_slots p (with_coords slots es)) (where_key by_slots p (with_coords slots es))) (agree e.0 (at_head e es all))
      ∙ elim (test e.0) as (λ b. cond b ((unpacked slots e.0, e.1) ∷ where_key by_slots p (with_coords slots es)) (where_key by_slots p (with_coords slots es)) ≡ with_coords slots (cond b (e ∷ where_key nat_cmp test es) (where_key nat_cmp test es))) [
        | true ↦ ap (λ (r : Cells). (unpacked slots e.0, e.1) ∷ r) rest
        | false ↦ rest
      ]

  pub set-coords : (q : ℕ) (c : Cell) (cells : List (ℕ × Cell)) → q < 65536 ^ slots → below slots cells ≡ true → set_at (with_coords slots cells) (unpacked slots q) c ≡ with_coords slots (set_of cells q c)
  set-coords q c cells h all =
      elim (is_na c) as (λ b. cond b (without_by by_slots (with_coords slots cells) (unpacked slots q)) (put by_slots (unpacked slots q) c (with_coords slots cells)) ≡ with_coords slots (cond b (without_by nat_cmp cells q) (put nat_cmp q c cells))) [
        | true ↦ where-coords (λ other. not (eq_by_cmp by_slots (unpacked slots q) other)) (λ n. not (eq_by_cmp nat_cmp q n)) cells (λ n g. ap (λ r. not (is_eq r)) (by_slots-unpacked slots q n h g)) all
        | false ↦ put-coords q c cells h all
      ]

  pub composed-coords : (first second : List (ℕ × Cell)) → below slots first ≡ true → below slots second ≡ true → composed_by by_slots (with_coords slots first) (with_coords slots second) ≡ with_coords slots (composed_by nat_cmp first second)
  composed-coords first [] f g = refl
  composed-coords first (e ∷ es) f g =
      ap (λ r. composed_by by_slots r (with_coords slots es)) (put-coords e.0 e.1 first (at_head e es g) f)
      ∙ composed-coords (put nat_cmp e.0 e.1 first) es (below-put slots e.0 e.1 first (at_head e es g) f) (at_tail e es g)

  na-coords : (cells : List (ℕ × Cell)) → map (λ pair. (pair.0, Na)) (with_coords slots cells) ≡ with_coords slots (map (λ pair. (pair.0, Na)) cells)
  na-coords [] = refl
  na-coords (e ∷ es) = ap (λ (r : Cells). (unpacked slots e.0, Na) ∷ r) (na-coords es)

  below-na : (cells : List (ℕ × Cell)) → below slots cells ≡ true → below slots (map (λ pair. (pair.0, Na)) cells) ≡ true
  below-na [] all = refl
  below-na (e ∷ es) all =
      let parts = both_true (nat_lt e.0 (65536 ^ slots)) (below slots es) all in
      and_true (nat_lt e.0 (65536 ^ slots)) (below slots (map (λ pair. (pair.0, Na)) es)) parts.0 (below-na es parts.1)

  pub difference-coords : (a b : List (ℕ × Cell)) → below slots a ≡ true → below slots b ≡ true → difference (with_coords slots a) (with_coords slots b) ≡ with_coords slots (difference_of a b)
  difference-coords a b f g =
      let gone = where_key nat_cmp (λ n. is_na (cell_of b n)) a in
      (λ i. composed_by by_slots
      ((ap (λ (r : Cells). map (λ pair. (pair.0, Na)) r) (where-coords (λ key. is_na (cell_at (with_coords slots b) key)) (λ n. is_na (cell_of b n)) a (λ n h. ap is_na (cell-coords n b h g)) f) ∙ na-coords gone) i)
      (where-coords (differ_by by_slots (with_coords slots a) (with_coords slots b)) (differ_by nat_cmp a b) b
      (λ n h j. not (same_cell (cell-coords n a h f j) (cell-coords n b h g j))) g i))
      ∙ composed-coords (taken_away_by nat_cmp a b) (where_key nat_cmp (differ_by nat_cmp a b) b)
      (below-na gone (list_all-filter (λ pair. nat_lt pair.0 (65536 ^ slots)) (λ e. is_na (cell_of b e.0)) a f))
      (list_all-filter (λ pair. nat_lt pair.0 (65536 ^ slots)) (λ e. differ_by nat_cmp a b e.0) b g)

-- what a variable shows of its numbered cells
abbrev pub contents : ℕ → Kind → List (ℕ × Cell) → Contents
contents slots kind cells = record { slots = slots; kind = kind; cells = with_coords slots cells }

-- a key, as the coordinate of its number
pub cell-key : (slots : ℕ) (key : List ℕ) (cells : List (ℕ × Cell)) (now : Contents) → AreSlots key → length key ≡ now.slots → AreNumbersOf slots cells →
    (kind : Kind) → contents slots kind cells ≡ now → cell_of cells (packed key) ≡ cell_at now.cells key
cell-key slots key cells now each long numbers kind is =
    let size : length key ≡ slots = long ∙ ap (λ (c : Contents). c.slots) (sym is) in
    let under : packed key < 65536 ^ slots = subst (λ n. packed key < 65536 ^ n) size (packed-below key each) in
    sym (cell-coords slots (packed key) cells under numbers.below)
    ∙ ap (λ k. cell_at (with_coords slots cells) k) (unpacked-packed slots key each size)
    ∙ ap (λ (c : Contents). cell_at c.cells key) is

-- the numbers stay those of keys
pub AreNumbersOf-set : (slots : ℕ) (key : List ℕ) (cell : Cell) (cells : List (ℕ × Cell)) → AreSlots key → length key ≡ slots → AreNumbersOf slots cells → AreNumbersOf slots (set_of cells (packed key) cell)
AreNumbersOf-set slots key cell cells each size numbers =
    let under : packed key < 65536 ^ slots = subst (λ n. packed key < 65536 ^ n) size (packed-below key each) in
    record { few = numbers.few; below = below-set slots (packed key) cell cells under numbers.below }

pub set-key : (slots : ℕ) (key : List ℕ) (cell : Cell) (cells : List (ℕ × Cell)) → AreSlots key → length key ≡ slots → AreNumbersOf slots cells →
    with_coords slots (set_of cells (packed key) cell) ≡ set_at (with_coords slots cells) key cell
set-key slots key cell cells each size numbers =
    let under : packed key < 65536 ^ slots = subst (λ n. packed key < 65536 ^ n) size (packed-below key each) in
    sym (set-coords slots (packed key) cell cells under numbers.below)
    ∙ ap (λ k. set_at (with_coords slots cells) k cell) (unpacked-packed slots key each size)

pub AreNumbersOf-after : (slots : ℕ) (key : List ℕ) (cell : Cell) (old new : NumberedMap) (r : Result (Unit {0}) AllocError) → AreSlots key → length key ≡ slots → AreNumbersOf slots old.cells →
    OnOk r (new ≡ record { kind = old.kind; cells = set_of old.cells (packed key) cell }) → OnErr r (new ≡ old) → AreNumbersOf slots new.cells
AreNumbersOf-after slots key cell old new (Ok u) each size numbers ok err = subst (λ (m : NumberedMap). AreNumbersOf slots m.cells) (sym ok) (AreNumbersOf-set slots key cell old.cells each size numbers)
AreNumbersOf-after slots key cell old new (Err e) each size numbers ok err = subst (λ (m : NumberedMap). AreNumbersOf slots m.cells) (sym err) numbers

abbrev pub with_cell : Contents → List ℕ → Cell → Contents
with_cell now key cell = record { slots = now.slots; kind = now.kind; cells = set_at now.cells key cell }

pub contents-after : (slots : ℕ) (key : List ℕ) (cell : Cell) (old new : NumberedMap) (now : Contents) (r : Result (Unit {0}) AllocError) → AreSlots key → length key ≡ slots → AreNumbersOf slots old.cells →
    OnOk r (new ≡ record { kind = old.kind; cells = set_of old.cells (packed key) cell }) → contents slots old.kind old.cells ≡ now → OnOk r (contents slots new.kind new.cells ≡ with_cell now key cell)
contents-after slots key cell old new now (Ok u) each size numbers ok is =
    ap (λ (m : NumberedMap). contents slots m.kind m.cells) ok
    ∙ (let e = set-key slots key cell old.cells each size numbers in
    let here : contents slots old.kind (set_of old.cells (packed key) cell) ≡ with_cell (contents slots old.kind old.cells) key cell = λ i. record { slots = slots; kind = old.kind; cells = e i } in here)
    ∙ ap (λ (c : Contents). with_cell c key cell) is
contents-after slots key cell old new now (Err e) each size numbers ok is = tt

-- the keys are on the pages of their numbers
any-coords : (slots page : ℕ) (cells : List (ℕ × Cell)) → below slots cells ≡ true → list_any (λ other. page_of other.0 == page) (with_coords slots cells) ≡ list_any (λ other. other.0 / 64 == page) cells
any-coords slots page [] all = refl
any-coords slots page (e ∷ es) all =
    let parts = both_true (nat_lt e.0 (65536 ^ slots)) (below slots es) all in
    let under : e.0 < 65536 ^ slots = (Decides-ltb e.0 (65536 ^ slots)).0 parts.0 in
    (λ i. (packed-unpacked slots e.0 under i / 64 == page) || any-coords slots page es parts.1 i)

pub pages-coords : (slots : ℕ) (cells : List (ℕ × Cell)) → below slots cells ≡ true → page_count (with_coords slots cells) ≡ number_pages cells
pages-coords slots [] all = refl
pages-coords slots (e ∷ es) all =
    let parts = both_true (nat_lt e.0 (65536 ^ slots)) (below slots es) all in
    let under : e.0 < 65536 ^ slots = (Decides-ltb e.0 (65536 ^ slots)).0 parts.0 in
    ap (λ n. cond (list_any (λ (other : List ℕ × Cell). page_of other.0 == n / 64) (with_coords slots es)) 0 1 + page_count (with_coords slots es)) (packed-unpacked slots e.0 under)
    ∙ (λ i. cond (any-coords slots (e.0 / 64) es parts.1 i) 0 1 + pages-coords slots es parts.1 i)

-- the pages that the cells of a variable would be on
pub pages-key : (slots : ℕ) (key : List ℕ) (cell : Cell) (old : NumberedMap) (now : Contents) → AreSlots key → length key ≡ slots → AreNumbersOf slots old.cells → contents slots old.kind old.cells ≡ now →
    number_pages (set_of old.cells (packed key) cell) ≡ page_count (set_at now.cells key cell)
pages-key slots key cell old now each size numbers is =
    sym (pages-coords slots (set_of old.cells (packed key) cell) (AreNumbersOf-set slots key cell old.cells each size numbers).below)
    ∙ ap page_count (set-key slots key cell old.cells each size numbers)
    ∙ ap (λ (c : Contents). page_count (set_at c.cells key cell)) is

pub kinds : (slots slots' : ℕ) (one other : NumberedMap) (a b : Contents) → contents slots one.kind one.cells ≡ a → contents slots' other.kind other.cells ≡ b → a.kind ≡ b.kind → one.kind ≡ other.kind
kinds slots slots' one other a b is was same = ap (λ (c : Contents). c.kind) is ∙ same ∙ ap (λ (c : Contents). c.kind) (sym was)

pub numbers-as : (slots slots' : ℕ) (one other : NumberedMap) (a b : Contents) → contents slots one.kind one.cells ≡ a → contents slots' other.kind other.cells ≡ b → a.slots ≡ b.slots → AreNumbersOf slots' other.cells → AreNumbersOf slots other.cells
numbers-as slots slots' one other a b is was same numbers =
    let e : slots ≡ slots' = ap (λ (c : Contents). c.slots) is ∙ same ∙ ap (λ (c : Contents). c.slots) (sym was) in
    subst (λ n. AreNumbersOf n other.cells) (sym e) numbers

-- what two variables differ in, from their numbered cells
pub difference-after : (slots slots' : ℕ) (one other : NumberedMap) (a b : Contents) (r : Result Cells AllocError) → contents slots one.kind one.cells ≡ a → contents slots' other.kind other.cells ≡ b → a.slots ≡ b.slots →
    AreNumbersOf slots one.cells → AreNumbersOf slots' other.cells → IfOk r (λ patch. patch ≡ with_coords slots (difference_of other.cells one.cells)) → IfOk r (λ patch. patch ≡ difference b.cells a.cells)
difference-after slots slots' one other a b (Ok patch) is was same f g ok =
    let e : slots ≡ slots' = ap (λ (c : Contents). c.slots) is ∙ same ∙ ap (λ (c : Contents). c.slots) (sym was) in
    let h = numbers-as slots slots' one other a b is was same g in
    ok ∙ sym (difference-coords slots other.cells one.cells h.below f.below)
    ∙ (λ i. difference ((ap (λ n. with_coords n other.cells) e ∙ ap (λ (c : Contents). c.cells) was) i) (is i).cells)
difference-after slots slots' one other a b (Err e) is was same f g ok = tt

with_numbers : Cells → List (ℕ × Cell)
with_numbers cells = map (λ pair. (packed pair.0, pair.1)) cells

with_numbers-coords : (slots : ℕ) (cells : List (ℕ × Cell)) → below slots cells ≡ true → with_numbers (with_coords slots cells) ≡ cells
unfolding with_numbers
with_numbers-coords slots [] all = refl
with_numbers-coords slots (e ∷ es) all =
    let parts = both_true (nat_lt e.0 (65536 ^ slots)) (below slots es) all in
    λ i. (packed-unpacked slots e.0 ((Decides-ltb e.0 (65536 ^ slots)).0 parts.0) i, e.1) ∷ with_numbers-coords slots es parts.1 i

-- variables are the same where their numbered cells are
pub same-numbers : (slots slots' : ℕ) (one other : NumberedMap) (a b : Contents) → AreNumbersOf slots one.cells → AreNumbersOf slots' other.cells → contents slots one.kind one.cells ≡ a → contents slots' other.kind other.cells ≡ b →
    a ≡ b → (slots ≡ slots') × (one ≡ other)
same-numbers slots slots' one other a b f g is was same =
    let all : contents slots one.kind one.cells ≡ contents slots' other.kind other.cells = is ∙ same ∙ sym was in
    let size : slots ≡ slots' = ap (λ (c : Contents). c.slots) all in
    let kind : one.kind ≡ other.kind = ap (λ (c : Contents). c.kind) all in
    let cells : one.cells ≡ other.cells =
    sym (with_numbers-coords slots one.cells f.below) ∙ ap (λ (c : Contents). with_numbers c.cells) all ∙ with_numbers-coords slots' other.cells g.below in
    (size, λ i. record { kind = kind i; cells = cells i })

pub same-variables : (slots slots' : ℕ) (one other : NumberedMap) (a b : Contents) (r : Bool) → AreNumbersOf slots one.cells → AreNumbersOf slots' other.cells → contents slots one.kind one.cells ≡ a → contents slots' other.kind other.cells ≡ b →
    slots ≡ slots' → (r ≡ true → one ≡ other) × (one ≡ other → r ≡ true) → (r ≡ true → a ≡ b) × (a ≡ b → r ≡ true)
same-variables slots slots' one other a b r f g is was size tells = (
  λ t. sym is ∙ (λ i. contents (size i) (tells.0 t i).kind (tells.0 t i).cells) ∙ was,
  λ same. tells.1 (same-numbers slots slots' one other a b f g is was same).1,
)

pub other-variables : (slots slots' : ℕ) (one other : NumberedMap) (a b : Contents) → AreNumbersOf slots one.cells → AreNumbersOf slots' other.cells → contents slots one.kind one.cells ≡ a → contents slots' other.kind other.cells ≡ b →
    (slots ≡ slots' → ⊥) → (false ≡ true → a ≡ b) × (a ≡ b → false ≡ true)
other-variables slots slots' one other a b f g is was apart = (λ t. cc, λ same. absurd (apart (same-numbers slots slots' one other a b f g is was same).0))

pub as_decided : (r b : Bool) (P : Type 0) → (r ≡ true → P) × (P → r ≡ true) → (b ≡ true → P) × (P → b ≡ true) → r ≡ b
as_decided true true P f g = refl
as_decided false false P f g = refl
as_decided true false P f g = let e = g.1 (f.0 refl) in cc
as_decided false true P f g = let e = f.1 (g.0 refl) in cc
