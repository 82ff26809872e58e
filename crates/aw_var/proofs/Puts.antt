-- What one cell, put in the sheet of its page, makes of the map.
use Rattle.std.proofs.Common.{◌≡◌, ℕ, zero, suc, ◌/◌, ◌%◌, ◌<◌, Bool, true, false, cond, ◌&&◌, List, [], ◌∷◌, length, replicate, slice_set, get_or, Option, Some, None, unwrap_or, refl, sym, ap, subst, ◌∙◌, arith, Result, Ok, Err, OnOk, OnErr}
use Rattle.std.proofs.lemmas.List.{get_or-set_same, get_or-set_other}
use Rattle.std.proofs.Math.ListN.{length-set}
use Rattle.std.specs.List.{list_all}
use Rattle.std.specs.BTreeMap.{BTreeMap, is_at, WritesThrough}
use Rattle.std.specs.Option.{IsSome}
use Rattle.std.specs.Map.{set_value}
use Rattle.std.proofs.lemmas.Map.Steps.{set_value_same}
use Rattle.std.specs.Ordering.{nat_cmp, is_eq}
use Rattle.std.specs.Cmp.{nat_cmp_total, eq_by_cmp_equiv}
use Rattle.std.specs.Bool.{MatchBool}
use Rattle.std.specs.List.Sorted.{IsStrictlySortedBy}
use Rattle.std.specs.Map.{keys_of}
use Rattle.std.specs.FinMap.{nat_cmp-IsAntisymmetric}
use Rattle.aw_cell.specs.declared.cell.Cell.{Cell}
use Rattle.aw_cell.specs.declared.cell.Cell.TheVariants.{Na, Num, Int, Text, Bool as Truth, Slot}
use Rattle.aw_cell.specs.declared.cell.Kind.{Kind}
use Rattle.aw_cell.specs.declared.cell.Kind.TheVariants.{Num as NumberKind, Int as IntegerKind, Text as TextKind, Bool as BooleanKind, Slot as SlotKind}
use Rattle.aw_page.specs.Fitting.{is_na, is_of_kind, is_plain, IsPlain, IsTextOrNa}
use Rattle.std.specs.declared.alloc.AllocError.{AllocError}
use Rattle.aw_var.specs.inside.NumberedMap.{NumberedMap, set_of}
use Rattle.aw_var.specs.inside.Sheets.{SheetCells, Sheets, all_numbered, is_text_kind, IsSheet, AreSheets, sheet_at, blank, unless_blank, sheet_with, PutsCell}
use Rattle.aw_var.proofs.callers.FiniteMaps.{both_true, and_true, equal_of, same_map, cell-set, IsMapBy-set}
use Rattle.aw_var.proofs.Numbers.{at_same}
use Rattle.aw_var.specs.inside.Differences.{cell_on}
use Rattle.aw_var.proofs.Sheets.{cell_of-all, IsMapBy-all}

pub na_of : (c : Cell) → is_na c ≡ true → c ≡ Na
na_of Na h = refl
na_of (Num a) h = cc
na_of (Int a) h = cc
na_of (Text a) h = cc
na_of (Truth a) h = cc
na_of (Slot a) h = cc

pub list_all-set : {A : Type 0} (p : A → Bool) (xs : List A) (i : ℕ) (x : A) → p x ≡ true → list_all p xs ≡ true → list_all p (slice_set xs i x) ≡ true
list_all-set p [] i x here all = refl
list_all-set p (y ∷ ys) zero x here all = let parts = both_true (p y) (list_all p ys) all in and_true (p x) (list_all p ys) here parts.1
list_all-set p (y ∷ ys) (suc i) x here all = let parts = both_true (p y) (list_all p ys) all in and_true (p y) (list_all p (slice_set ys i x)) parts.0 (list_all-set p ys i x here parts.1)

pub get_or-all_na : (cells : List Cell) (k : ℕ) → list_all is_na cells ≡ true → get_or cells k Na ≡ Na
get_or-all_na [] k h = refl
get_or-all_na (c ∷ cs) zero h = na_of c (both_true (is_na c) (list_all is_na cs) h).0
get_or-all_na (c ∷ cs) (suc k) h = get_or-all_na cs k (both_true (is_na c) (list_all is_na cs) h).1

pub cell_on-unless_blank : (sheet : SheetCells) (k : ℕ) → cell_on (unless_blank sheet) k ≡ get_or sheet.1 k Na
cell_on-unless_blank sheet k =
    elim (list_all is_na sheet.1) as (λ b. list_all is_na sheet.1 ≡ b → cell_on (cond b None (Some sheet)) k ≡ get_or sheet.1 k Na) [
      | true ↦ λ e. sym (get_or-all_na sheet.1 k e)
      | false ↦ λ _. refl
    ] refl

-- a sheet whose cells may all be NA
pub record IsWhole (kind : Kind) (sheet : SheetCells) : Type 0 where
  pub size : length sheet.1 ≡ 64
  pub text : sheet.0 ≡ is_text_kind kind
  pub fitting : list_all (is_of_kind kind) sheet.1 ≡ true

blank-fitting : (kind : Kind) → list_all (is_of_kind kind) (replicate 64 Na) ≡ true
blank-fitting NumberKind = refl
blank-fitting IntegerKind = refl
blank-fitting TextKind = refl
blank-fitting BooleanKind = refl
blank-fitting SlotKind = refl

pub IsWhole-base : (kind : Kind) (old : Sheets) (page : ℕ) → AreSheets kind old → IsWhole kind (unwrap_or (sheet_at old page) (blank kind))
IsWhole-base kind old page h =
    elim (sheet_at old page) as (λ s. sheet_at old page ≡ s → IsWhole kind (unwrap_or s (blank kind))) [
      | None ↦ λ _. record { size = refl; text = refl; fitting = blank-fitting kind }
      | Some sheet ↦ λ e. let is = h.each page sheet e in record { size = is.size; text = is.text; fitting = is.fitting }
    ] refl

cell_on-base : (kind : Kind) (sheet : Option SheetCells) (k : ℕ) → get_or (unwrap_or sheet (blank kind)).1 k Na ≡ cell_on sheet k
cell_on-base kind None k = get_or-all_na (replicate 64 Na) k refl
cell_on-base kind (Some sheet) k = refl

pub IsWhole-with : (kind : Kind) (old : Sheets) (page place : ℕ) (cell : Cell) → AreSheets kind old → is_of_kind kind cell ≡ true → IsWhole kind (sheet_with kind old page place cell)
IsWhole-with kind old page place cell h fits =
    let base = unwrap_or (sheet_at old page) (blank kind) in
    let whole = IsWhole-base kind old page h in
    record {
      size = length-set base.1 place cell ∙ whole.size;
      text = whole.text;
      fitting = list_all-set (is_of_kind kind) base.1 place cell fits whole.fitting;
    }

IsSheet-unless_blank : (kind : Kind) (sheet one : SheetCells) → IsWhole kind sheet → unless_blank sheet ≡ Some one → IsSheet kind one
IsSheet-unless_blank kind sheet one whole =
    elim (list_all is_na sheet.1) as (λ b. list_all is_na sheet.1 ≡ b → cond b None (Some sheet) ≡ Some one → IsSheet kind one) [
      | true ↦ λ _ e. cc
      | false ↦ λ used e. let same : sheet ≡ one = cc in subst (λ (s : SheetCells). IsSheet kind s) same (record { size = whole.size; text = whole.text; fitting = whole.fitting; used = used })
    ] refl

pub AreSheets-put : (kind : Kind) (old new : Sheets) (page place : ℕ) (cell : Cell) → AreSheets kind old → is_of_kind kind cell ≡ true → PutsCell kind old new page place cell → AreSheets kind new
AreSheets-put kind old new page place cell h fits puts = record {
  ordered = puts.ordered;
  each = λ other sheet is.
      elim (is_at (nat_cmp page) other) as (λ b. cond b (unless_blank (sheet_with kind old page place cell)) (sheet_at old other) ≡ Some sheet → IsSheet kind sheet) [
        | true ↦ λ e. IsSheet-unless_blank kind (sheet_with kind old page place cell) sheet (IsWhole-with kind old page place cell h fits) e
        | false ↦ λ e. h.each other sheet e
      ] (sym (puts.sheets other) ∙ is);
}

here-put : (base : List Cell) (old : Option SheetCells) (q n : ℕ) (cell : Cell) → length base ≡ 64 → ((k : ℕ) → get_or base k Na ≡ cell_on old k) → q / 64 ≡ n / 64 →
    get_or (slice_set base (n % 64) cell) (q % 64) Na ≡ cond (is_eq (nat_cmp q n)) cell (cell_on old (q % 64))
here-put base old q n cell size at same =
    elim (is_eq (nat_cmp q n)) as (λ b. is_eq (nat_cmp q n) ≡ b → get_or (slice_set base (n % 64) cell) (q % 64) Na ≡ cond b cell (cell_on old (q % 64))) [
      | true ↦ λ e. let one : q ≡ n = nat_cmp-IsAntisymmetric q n (equal_of _ e) in
          ap (λ k. get_or (slice_set base (n % 64) cell) (k % 64) Na) one ∙ get_or-set_same base (n % 64) cell Na (omega arith)
      | false ↦ λ e. get_or-set_other base (n % 64) (q % 64) cell Na (λ (s : q % 64 ≡ n % 64). let one : q ≡ n = omega arith in let t = at_same q n one in cc) ∙ at (q % 64)
    ] refl

elsewhere : (q n : ℕ) → is_eq (nat_cmp (q / 64) (n / 64)) ≡ false → is_eq (nat_cmp q n) ≡ false
elsewhere q n other =
    elim (is_eq (nat_cmp q n)) as (λ b. is_eq (nat_cmp q n) ≡ b → b ≡ false) [
      | true ↦ λ e. let one : q ≡ n = nat_cmp-IsAntisymmetric q n (equal_of _ e) in let t = at_same (q / 64) (n / 64) (ap (λ k. k / 64) one) in cc
      | false ↦ λ _. refl
    ] refl

pub all_numbered-put : (kind : Kind) (old new : Sheets) (n : ℕ) (cell : Cell) → AreSheets kind old → is_of_kind kind cell ≡ true → PutsCell kind old new (n / 64) (n % 64) cell →
    all_numbered new ≡ set_of (all_numbered old) n cell
all_numbered-put kind old new n cell h fits puts =
    let base = (unwrap_or (sheet_at old (n / 64)) (blank kind)).1 in
    same_map nat_cmp_total nat_cmp-IsAntisymmetric (all_numbered new) (set_of (all_numbered old) n cell)
    (IsMapBy-all kind new (AreSheets-put kind old new (n / 64) (n % 64) cell h fits puts))
    (IsMapBy-set nat_cmp_total n cell (all_numbered old) (IsMapBy-all kind old h))
    (λ q.
    cell_of-all kind q new (AreSheets-put kind old new (n / 64) (n % 64) cell h fits puts)
    ∙ ap (λ s. cell_on s (q % 64)) (puts.sheets (q / 64))
    ∙ ap (λ b. cell_on (cond b (unless_blank (sheet_with kind old (n / 64) (n % 64) cell)) (sheet_at old (q / 64))) (q % 64)) ((eq_by_cmp_equiv nat_cmp_total).symm (n / 64) (q / 64))
    ∙ elim (is_eq (nat_cmp (q / 64) (n / 64))) as (λ b. is_eq (nat_cmp (q / 64) (n / 64)) ≡ b →
    cell_on (cond b (unless_blank (sheet_with kind old (n / 64) (n % 64) cell)) (sheet_at old (q / 64))) (q % 64) ≡ cond (is_eq (nat_cmp q n)) cell (cell_on (sheet_at old (q / 64)) (q % 64))) [
      | true ↦ λ e. let same : q / 64 ≡ n / 64 = nat_cmp-IsAntisymmetric (q / 64) (n / 64) (equal_of _ e) in
          cell_on-unless_blank (sheet_with kind old (n / 64) (n % 64) cell) (q % 64)
          ∙ here-put base (sheet_at old (n / 64)) q n cell (IsWhole-base kind old (n / 64) h).size (λ k. cell_on-base kind (sheet_at old (n / 64)) k) same
          ∙ ap (λ p. cond (is_eq (nat_cmp q n)) cell (cell_on (sheet_at old p) (q % 64))) (sym same)
      | false ↦ λ e. ap (λ b. cond b cell (cell_on (sheet_at old (q / 64)) (q % 64))) (sym (elsewhere q n e))
    ] refl
    ∙ ap (λ x. cond (is_eq (nat_cmp q n)) cell x) (sym (cell_of-all kind q old h))
    ∙ sym (cell-set nat_cmp_total q n cell (all_numbered old)))

-- so it is after a call that may want memory, and then leaves the sheets
pub AreSheets-after : (kind : Kind) (old new : Sheets) (n : ℕ) (cell : Cell) (r : Result (Unit {0}) AllocError) → AreSheets kind old → is_of_kind kind cell ≡ true →
    OnOk r (PutsCell kind old new (n / 64) (n % 64) cell) → OnErr r (new ≡ old) → AreSheets kind new
AreSheets-after kind old new n cell (Ok u) h fits ok err = AreSheets-put kind old new (n / 64) (n % 64) cell h fits ok
AreSheets-after kind old new n cell (Err e) h fits ok err = subst (λ (s : Sheets). AreSheets kind s) (sym err) h

abbrev pub shown : Kind → Sheets → NumberedMap
shown kind sheets = record { kind = kind; cells = all_numbered sheets }

abbrev pub changed : NumberedMap → ℕ → Cell → NumberedMap
changed now n cell = record { kind = now.kind; cells = set_of now.cells n cell }

pub cells-after : (kind : Kind) (old new : Sheets) (n : ℕ) (cell : Cell) (r : Result (Unit {0}) AllocError) (now : NumberedMap) → AreSheets kind old → is_of_kind kind cell ≡ true →
    OnOk r (PutsCell kind old new (n / 64) (n % 64) cell) → shown kind old ≡ now →
    OnOk r (shown kind new ≡ changed now n cell)
cells-after kind old new n cell (Ok u) now h fits ok is =
    let e = all_numbered-put kind old new n cell h fits ok in
    let here : shown kind new ≡ changed (shown kind old) n cell = λ i. record { kind = kind; cells = e i } in
    here ∙ ap (λ m. changed m n cell) is
cells-after kind old new n cell (Err e) now h fits ok is = tt

not_text : (kind : Kind) (cell : Cell) → is_text_kind kind ≡ false → is_of_kind kind cell ≡ true → is_plain cell ≡ true
not_text kind Na other fits = refl
not_text kind (Num a) other fits = refl
not_text kind (Int a) other fits = refl
not_text kind (Truth a) other fits = refl
not_text kind (Slot a) other fits = refl
not_text NumberKind (Text a) other fits = cc
not_text IntegerKind (Text a) other fits = cc
not_text TextKind (Text a) other fits = cc
not_text BooleanKind (Text a) other fits = cc
not_text SlotKind (Text a) other fits = cc

-- a cell of a kind fits each sheet of it
pub held : (kind : Kind) (cell : Cell) → is_of_kind kind cell ≡ true → MatchBool (is_text_kind kind) (IsTextOrNa cell) (IsPlain cell)
held NumberKind cell fits = not_text NumberKind cell refl fits
held IntegerKind cell fits = not_text IntegerKind cell refl fits
held TextKind cell fits = fits
held BooleanKind cell fits = not_text BooleanKind cell refl fits
held SlotKind cell fits = not_text SlotKind cell refl fits

pub held-on : (kind : Kind) (old : Sheets) (page : ℕ) (sheet : SheetCells) (cell : Cell) → AreSheets kind old → Some sheet ≡ sheet_at old page → is_of_kind kind cell ≡ true →
    MatchBool sheet.0 (IsTextOrNa cell) (IsPlain cell)
held-on kind old page sheet cell h is fits =
    let text : sheet.0 ≡ is_text_kind kind = (h.each page sheet (sym is)).text in
    subst (λ b. MatchBool b (IsTextOrNa cell) (IsPlain cell)) (sym text) (held kind cell fits)

-- a cell that isn't NA leaves no list blank
pub used-set : (cells : List Cell) (place : ℕ) (cell : Cell) → place < length cells → is_na cell ≡ false → list_all is_na (slice_set cells place cell) ≡ false
used-set [] place cell within used = absurd (omega arith)
used-set (c ∷ cs) zero cell within used = ap (λ b. b && list_all is_na cs) used
used-set (c ∷ cs) (suc place) cell within used =
    ap (λ b. is_na c && b) (used-set cs place cell (omega arith) used) ∙ elim (is_na c) as (λ b. (b && false) ≡ false) [ true ↦ refl | false ↦ refl ]

pub present : (cell : Cell) → (cell ≡ Na → ⊥) → is_na cell ≡ false
present Na some = absurd (some refl)
present (Num a) some = refl
present (Int a) some = refl
present (Text a) some = refl
present (Truth a) some = refl
present (Slot a) some = refl

-- what the sheets are after a sheet is written back, or put in
pub record Writes (old new : Sheets) (page : ℕ) (sheet : SheetCells) : Type 0 where
  pub ordered : IsStrictlySortedBy nat_cmp (keys_of new)
  pub sheets : (other : ℕ) → sheet_at new other ≡ cond (is_at (nat_cmp page) other) (Some sheet) (sheet_at old other)

pub with-is : (kind : Kind) (old : Sheets) (page place : ℕ) (cell : Cell) (sheet : SheetCells) → Some sheet ≡ sheet_at old page → sheet_with kind old page place cell ≡ (sheet.0, slice_set sheet.1 place cell)
with-is kind old page place cell sheet is =
    ap (λ (s : Option SheetCells). let one = unwrap_or s (blank kind) in let both : SheetCells = (one.0, slice_set one.1 place cell) in both) (sym is)

pub with-none : (kind : Kind) (old : Sheets) (page place : ℕ) (cell : Cell) → None ≡ sheet_at old page → sheet_with kind old page place cell ≡ (is_text_kind kind, slice_set (replicate 64 Na) place cell)
with-none kind old page place cell is =
    ap (λ (s : Option SheetCells). let one = unwrap_or s (blank kind) in let both : SheetCells = (one.0, slice_set one.1 place cell) in both) (sym is)

-- a sheet that isn't blank stands in its place
pub PutsCell-used : (kind : Kind) (old new : Sheets) (page place : ℕ) (cell : Cell) (sheet : SheetCells) → Writes old new page sheet → sheet_with kind old page place cell ≡ sheet →
    list_all is_na sheet.1 ≡ false → PutsCell kind old new page place cell
PutsCell-used kind old new page place cell sheet w is used = record {
  ordered = w.ordered;
  sheets = λ other. w.sheets other ∙ ap (λ x. cond (is_at (nat_cmp page) other) x (sheet_at old other))
      (ap (λ b. cond b None (Some sheet)) (sym used) ∙ ap unless_blank (sym is));
}

pub PutsCell-some : (kind : Kind) (old new : Sheets) (page place : ℕ) (cell : Cell) (sheet : SheetCells) → AreSheets kind old → place < 64 → (cell ≡ Na → ⊥) →
    Some sheet ≡ sheet_at old page → Writes old new page (sheet.0, slice_set sheet.1 place cell) → PutsCell kind old new page place cell
PutsCell-some kind old new page place cell sheet h within some is w =
    let size : length sheet.1 ≡ 64 = (h.each page sheet (sym is)).size in
    PutsCell-used kind old new page place cell (sheet.0, slice_set sheet.1 place cell) w (with-is kind old page place cell sheet is) (used-set sheet.1 place cell (omega arith) (present cell some))

pub PutsCell-new : (kind : Kind) (old new : Sheets) (page place : ℕ) (cell : Cell) → place < 64 → (cell ≡ Na → ⊥) →
    None ≡ sheet_at old page → Writes old new page (is_text_kind kind, slice_set (replicate 64 Na) place cell) → PutsCell kind old new page place cell
PutsCell-new kind old new page place cell within some is w =
    PutsCell-used kind old new page place cell (is_text_kind kind, slice_set (replicate 64 Na) place cell) w (with-none kind old page place cell is) (used-set (replicate 64 Na) place cell within (present cell some))

-- NA on no sheet changes nothing
pub PutsCell-none : (kind : Kind) (old : Sheets) (page place : ℕ) → AreSheets kind old → None ≡ sheet_at old page → PutsCell kind old old page place Na
PutsCell-none kind old page place h is = record {
  ordered = h.ordered;
  sheets = λ other. elim (is_at (nat_cmp page) other) as (λ b. is_at (nat_cmp page) other ≡ b → sheet_at old other ≡ cond b (unless_blank (sheet_with kind old page place Na)) (sheet_at old other)) [
    | true ↦ λ t.
        let one : page ≡ other = nat_cmp-IsAntisymmetric page other (equal_of _ t) in
        let blank_now : list_all is_na (slice_set (replicate 64 Na) place Na) ≡ true = list_all-set is_na (replicate 64 Na) place Na refl refl in
        ap (λ p. sheet_at old p) (sym one) ∙ sym is ∙ ap (λ b. cond b None (Some (is_text_kind kind, slice_set (replicate 64 Na) place Na))) (sym blank_now) ∙ ap unless_blank (sym (with-none kind old page place Na is))
    | false ↦ λ _. refl
  ] refl;
}

-- a sheet that was written back and is blank is taken out
pub PutsCell-blank : (kind : Kind) (old between new : Sheets) (page place : ℕ) (cell : Cell) (sheet : SheetCells) → Some sheet ≡ sheet_at old page →
    Writes old between page (sheet.0, slice_set sheet.1 place cell) → list_all is_na (slice_set sheet.1 place cell) ≡ true → IsStrictlySortedBy nat_cmp (keys_of new) →
    ((other : ℕ) → sheet_at new other ≡ cond (is_at (nat_cmp page) other) None (sheet_at between other)) → PutsCell kind old new page place cell
PutsCell-blank kind old between new page place cell sheet is w blank_now ordered out = record {
  ordered = ordered;
  sheets = λ other. out other ∙ ap (λ x. cond (is_at (nat_cmp page) other) None x) (w.sheets other)
      ∙ elim (is_at (nat_cmp page) other) as (λ b. cond b None (cond b (Some (sheet.0, slice_set sheet.1 place cell)) (sheet_at old other)) ≡ cond b None (sheet_at old other)) [ true ↦ refl | false ↦ refl ]
      ∙ ap (λ x. cond (is_at (nat_cmp page) other) x (sheet_at old other)) (ap (λ b. cond b None (Some (sheet.0, slice_set sheet.1 place cell))) (sym blank_now) ∙ ap unless_blank (sym (with-is kind old page place cell sheet is)));
}

pub is_there : (o : Option SheetCells) (sheet : SheetCells) → Some sheet ≡ o → IsSome o
is_there o sheet e = subst (λ (x : Option SheetCells). IsSome x) e refl

-- what `get_mut` of a map tells of a write
pub Writes-back : (old new : BTreeMap ℕ SheetCells) (page : ℕ) (sheet before : SheetCells) → Some before ≡ sheet_at old.entries page → WritesThrough nat_cmp (nat_cmp page) old sheet new → Writes old.entries new.entries page sheet
Writes-back old new page sheet before is h = record { ordered = h.4; sheets = (h.3 (is_there (sheet_at old.entries page) before is)).0 }

pub PutsCell-after : (kind : Kind) (old new : BTreeMap ℕ SheetCells) (page place : ℕ) (cell : Cell) (sheet now : SheetCells) (r : Result (Unit {0}) AllocError) →
    AreSheets kind old.entries → place < 64 → (cell ≡ Na → ⊥) → Some sheet ≡ sheet_at old.entries page → OnOk r (now ≡ (sheet.0, slice_set sheet.1 place cell)) →
    WritesThrough nat_cmp (nat_cmp page) old now new → OnOk r (PutsCell kind old.entries new.entries page place cell)
PutsCell-after kind old new page place cell sheet now (Ok u) h within some is ok w =
    PutsCell-some kind old.entries new.entries page place cell sheet h within some is
    (subst (λ (x : SheetCells). Writes old.entries new.entries page x) ok (Writes-back old new page now sheet is w))
PutsCell-after kind old new page place cell sheet now (Err e) h within some is ok w = tt

-- what was not changed stays
pub kept-after : (old new : BTreeMap ℕ SheetCells) (page : ℕ) (sheet now : SheetCells) → Some sheet ≡ sheet_at old.entries page → now ≡ sheet →
    WritesThrough nat_cmp (nat_cmp page) old now new → new.entries ≡ old.entries
kept-after old new page sheet now is same w =
    w.0 ∙ ap (λ x. set_value (is_at (nat_cmp page)) old.entries x) same ∙ set_value_same (is_at (nat_cmp page)) old.entries sheet (sym is)

pub kept-on_err : (old new : BTreeMap ℕ SheetCells) (page : ℕ) (sheet now : SheetCells) (r : Result (Unit {0}) AllocError) → Some sheet ≡ sheet_at old.entries page → OnErr r (now ≡ sheet) →
    WritesThrough nat_cmp (nat_cmp page) old now new → OnErr r (new.entries ≡ old.entries)
kept-on_err old new page sheet now (Ok u) is err w = tt
kept-on_err old new page sheet now (Err e) is err w = kept-after old new page sheet now is err w

pub on_err : {P A : Type 0} (r : Result A AllocError) → P → OnErr r P
on_err (Ok u) p = tt
on_err (Err e) p = p

pub PutsCell-inserted : (kind : Kind) (old between new : BTreeMap ℕ SheetCells) (page place : ℕ) (cell : Cell) (sheet now : SheetCells) → between ≡ old → place < 64 → (cell ≡ Na → ⊥) →
    None ≡ sheet_at old.entries page → sheet ≡ (is_text_kind kind, replicate 64 Na) → now ≡ (sheet.0, slice_set sheet.1 place cell) → IsStrictlySortedBy nat_cmp (keys_of new.entries) →
    ((other : ℕ) → sheet_at new.entries other ≡ cond (is_at (nat_cmp page) other) (Some now) (sheet_at between.entries other)) → PutsCell kind old.entries new.entries page place cell
PutsCell-inserted kind old between new page place cell sheet now same within some is blank_sheet put ordered sheets =
    let all : now ≡ (is_text_kind kind, slice_set (replicate 64 Na) place cell) = put ∙ ap (λ (s : SheetCells). let both : SheetCells = (s.0, slice_set s.1 place cell) in both) blank_sheet in
    PutsCell-new kind old.entries new.entries page place cell within some is (record {
      ordered = ordered;
      sheets = λ other. sheets other ∙ ap (λ (x : SheetCells). cond (is_at (nat_cmp page) other) (Some x) (sheet_at between.entries other)) all
          ∙ ap (λ (m : BTreeMap ℕ SheetCells). cond (is_at (nat_cmp page) other) (Some (is_text_kind kind, slice_set (replicate 64 Na) place cell)) (sheet_at m.entries other)) same;
    })
