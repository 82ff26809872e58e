-- The cells of one page.
use Rattle.std.proofs.Common.{◌≡◌, ℕ, ◌+◌, ◌*◌, ◌/◌, ◌%◌, ◌^◌, ◌<◌, true, false, cond, ◌==◌, List, [], ◌∷◌, Option, Some, None, unwrap_or, IfSome, refl, sym, ap, subst, ◌∙◌, arith}
use Rattle.std.specs.Prelude.{nat_lt}
use Rattle.std.specs.Ordering.{nat_cmp, is_eq}
use Rattle.std.specs.FinMap.{find, nat_cmp-IsAntisymmetric}
use Rattle.std.proofs.lemmas.Option.{slice_get-get_or}
use Rattle.std.proofs.lemmas.Bool.Decides.{Decides-ltb, Decides-eqb}
use Rattle.aw_cell.specs.declared.cell.Cell.{Cell}
use Rattle.aw_cell.specs.declared.cell.Cell.TheVariants.{Na}
use Rattle.aw_cell.specs.declared.cell.Kind.{Kind}
use Rattle.aw_cell.specs.declared.cell.Kind.TheVariants.{Num, Int, Text, Bool as BooleanKind, Slot}
use Rattle.aw_var.specs.CellMap.{Cells}
use Rattle.aw_var.specs.Pages.{cell_numbered, HasNoPage, ArePageCells}
use Rattle.aw_var.specs.inside.NumberedMap.{NumberedMap, cell_of}
use Rattle.aw_var.specs.inside.NumberedPages.{HasNoSheet, AreCellsOn}
use Rattle.aw_var.specs.inside.Sheets.{SheetCells, Sheets, all_numbered, AreSheets, sheet_at, is_text_kind}
use Rattle.aw_var.specs.inside.Differences.{cell_on}
use Rattle.aw_var.specs.inside.Unpacking.{with_coords}
use Rattle.aw_var.proofs.callers.FiniteMaps.{both_true, equal_of}
use Rattle.aw_var.proofs.Numbers.{at_same}
use Rattle.aw_var.proofs.Sheets.{cell_of-all}
use Rattle.aw_var.proofs.Blank.{all_na}
use Rattle.aw_var.proofs.Puts.{shown}
use Rattle.aw_var.specs.Variable.{Contents}
use denote.Ref.{Bor}
use Rattle.aw_var.proofs.Unpacking.{below, packed-unpacked, contents}

-- a cell is found by its key's number as by the number
pub cell_numbered-coords : (slots n : ℕ) (cells : List (ℕ × Cell)) → below slots cells ≡ true → cell_numbered (with_coords slots cells) n ≡ cell_of cells n
cell_numbered-coords slots n [] all = refl
cell_numbered-coords slots n (e ∷ es) all =
    let parts = both_true (nat_lt e.0 (65536 ^ slots)) (below slots es) all in
    let rest = cell_numbered-coords slots n es parts.1 in
    ap (λ p. cond (p == n) e.1 (cell_numbered (with_coords slots es) n)) (packed-unpacked slots e.0 ((Decides-ltb e.0 (65536 ^ slots)).0 parts.0))
    ∙ elim (is_eq (nat_cmp n e.0)) as (λ b. is_eq (nat_cmp n e.0) ≡ b → cond (e.0 == n) e.1 (cell_numbered (with_coords slots es) n) ≡ unwrap_or (cond b (Some e.1) (find nat_cmp n es)) Na) [
      | true ↦ λ t. let same : e.0 ≡ n = sym (nat_cmp-IsAntisymmetric n e.0 (equal_of _ t)) in
          ap (λ b. cond b e.1 (cell_numbered (with_coords slots es) n)) ((Decides-eqb e.0 n).1 same)
      | false ↦ λ t.
          elim (e.0 == n) as (λ c. (e.0 == n) ≡ c → cond c e.1 (cell_numbered (with_coords slots es) n) ≡ cell_of es n) [
            | true ↦ λ s. let same = at_same n e.0 (sym ((Decides-eqb e.0 n).0 s)) in cc
            | false ↦ λ _. rest
          ] refl
    ] refl

-- the cells of a page that has a sheet
cell_here : (kind : Kind) (es : Sheets) (page place : ℕ) → AreSheets kind es → place < 64 → cell_of (all_numbered es) (64 * page + place) ≡ cell_on (sheet_at es page) place
cell_here kind es page place h within =
    let p : (64 * page + place) / 64 ≡ page = omega (arith, within) in
    let k : (64 * page + place) % 64 ≡ place = omega (arith, within) in
    cell_of-all kind (64 * page + place) es h ∙ (λ i. cell_on (sheet_at es (p i)) (k i))

pub AreCellsOn-sheet : (kind : Kind) (es : Sheets) (page : ℕ) (sheet : SheetCells) → AreSheets kind es → Some sheet ≡ sheet_at es page → AreCellsOn (all_numbered es) page sheet.1
AreCellsOn-sheet kind es page sheet h is =
    let size = (h.each page sheet (sym is)).size in
    record {
      size = size;
      places = λ place within. slice_get-get_or sheet.1 place Na (omega (arith, within, size)) ∙ ap (λ (c : Cell). Some c) (ap (λ s. cell_on s place) is ∙ sym (cell_here kind es page place h within));
    }

-- a page without a sheet
pub no_sheet : (kind : Kind) (es : Sheets) (page : ℕ) → AreSheets kind es → None ≡ sheet_at es page → (place : ℕ) → place < 64 → cell_of (all_numbered es) (64 * page + place) ≡ Na
no_sheet kind es page h none place within = cell_here kind es page place h within ∙ ap (λ s. cell_on s place) (sym none)

-- a page with a sheet has a cell
pub some_cell : (kind : Kind) (es : Sheets) (page : ℕ) (sheet : SheetCells) → AreSheets kind es → Some sheet ≡ sheet_at es page → ((place : ℕ) → place < 64 → cell_of (all_numbered es) (64 * page + place) ≡ Na) → ⊥
some_cell kind es page sheet h is blank =
    let each = h.each page sheet (sym is) in
    let none = all_na sheet.1 (λ k within. ap (λ s. cell_on s k) is ∙ sym (cell_here kind es page k h (omega (arith, within, each.size))) ∙ blank k (omega (arith, within, each.size))) in
    let used = each.used in cc

-- none is lent for a page without a sheet, or of TEXT
pub HasNoSheet-none : (kind : Kind) (cells : List (ℕ × Cell)) (page : ℕ) → ((place : ℕ) → place < 64 → cell_of cells (64 * page + place) ≡ Na) → HasNoSheet kind cells page
HasNoSheet-none Num cells page h = h
HasNoSheet-none Int cells page h = h
HasNoSheet-none Text cells page h = tt
HasNoSheet-none BooleanKind cells page h = h
HasNoSheet-none Slot cells page h = h

pub HasNoSheet-text : (kind : Kind) (cells : List (ℕ × Cell)) (page : ℕ) → is_text_kind kind ≡ true → HasNoSheet kind cells page
HasNoSheet-text Num cells page h = cc
HasNoSheet-text Int cells page h = cc
HasNoSheet-text Text cells page h = tt
HasNoSheet-text BooleanKind cells page h = cc
HasNoSheet-text Slot cells page h = cc

-- where there is none, the cells are TEXT or all NA
pub HasNoSheet-cases : {P : Type 0} (kind : Kind) (cells : List (ℕ × Cell)) (page : ℕ) → HasNoSheet kind cells page → (is_text_kind kind ≡ true → P) → (((place : ℕ) → place < 64 → cell_of cells (64 * page + place) ≡ Na) → P) → P
HasNoSheet-cases Num cells page h text blank = blank h
HasNoSheet-cases Int cells page h text blank = blank h
HasNoSheet-cases Text cells page h text blank = text refl
HasNoSheet-cases BooleanKind cells page h text blank = blank h
HasNoSheet-cases Slot cells page h text blank = blank h

pub HasNoPage-sheet : (slots page : ℕ) (kind : Kind) (cells : List (ℕ × Cell)) → below slots cells ≡ true → HasNoSheet kind cells page → HasNoPage kind (with_coords slots cells) page
HasNoPage-sheet slots page Num cells all h = λ place within. cell_numbered-coords slots (64 * page + place) cells all ∙ h place within
HasNoPage-sheet slots page Int cells all h = λ place within. cell_numbered-coords slots (64 * page + place) cells all ∙ h place within
HasNoPage-sheet slots page Text cells all h = tt
HasNoPage-sheet slots page BooleanKind cells all h = λ place within. cell_numbered-coords slots (64 * page + place) cells all ∙ h place within
HasNoPage-sheet slots page Slot cells all h = λ place within. cell_numbered-coords slots (64 * page + place) cells all ∙ h place within

pub HasNoSheet-page : (slots page : ℕ) (kind : Kind) (cells : List (ℕ × Cell)) → below slots cells ≡ true → HasNoPage kind (with_coords slots cells) page → HasNoSheet kind cells page
HasNoSheet-page slots page Num cells all h = λ place within. sym (cell_numbered-coords slots (64 * page + place) cells all) ∙ h place within
HasNoSheet-page slots page Int cells all h = λ place within. sym (cell_numbered-coords slots (64 * page + place) cells all) ∙ h place within
HasNoSheet-page slots page Text cells all h = tt
HasNoSheet-page slots page BooleanKind cells all h = λ place within. sym (cell_numbered-coords slots (64 * page + place) cells all) ∙ h place within
HasNoSheet-page slots page Slot cells all h = λ place within. sym (cell_numbered-coords slots (64 * page + place) cells all) ∙ h place within

pub ArePageCells-sheet : (slots page : ℕ) (cells : List (ℕ × Cell)) (list : List Cell) → below slots cells ≡ true → AreCellsOn cells page list → ArePageCells (with_coords slots cells) page list
ArePageCells-sheet slots page cells list all h = record {
  size = h.size;
  places = λ place within. h.places place within ∙ ap (λ (c : Cell). Some c) (sym (cell_numbered-coords slots (64 * page + place) cells all));
}

-- what is lent of a sheet, by the kind of its cells
pub lent-none : (kind : Kind) (es : Sheets) (page : ℕ) (sheet : SheetCells) (now : NumberedMap) (P : Type 0) → AreSheets kind es → shown kind es ≡ now → Some sheet ≡ sheet_at es page →
    (P → sheet.0 ≡ true) × (sheet.0 ≡ true → P) → (P → HasNoSheet now.kind now.cells page) × (HasNoSheet now.kind now.cells page → P)
lent-none kind es page sheet now P h shows is tells =
    let text : sheet.0 ≡ is_text_kind kind = (h.each page sheet (sym is)).text in
    subst (λ (m : NumberedMap). (P → HasNoSheet m.kind m.cells page) × (HasNoSheet m.kind m.cells page → P)) shows (
      λ p. HasNoSheet-text kind (all_numbered es) page (sym text ∙ tells.0 p),
      λ none. HasNoSheet-cases kind (all_numbered es) page none (λ t. tells.1 (text ∙ t)) (λ blank. absurd (some_cell kind es page sheet h is blank)),
    )

pub lent-cells : (kind : Kind) (es : Sheets) (page : ℕ) (sheet : SheetCells) (now : NumberedMap) (r : Option (Bor (List Cell))) → AreSheets kind es → shown kind es ≡ now → Some sheet ≡ sheet_at es page →
    IfSome r (λ lent. lent.now ≡ sheet.1) → IfSome r (λ lent. AreCellsOn now.cells page lent.now)
lent-cells kind es page sheet now None h shows is lends = tt
lent-cells kind es page sheet now (Some lent) h shows is lends =
    let cells : all_numbered es ≡ now.cells = ap (λ (m : NumberedMap). m.cells) shows in
    subst (λ (c : List (ℕ × Cell)). AreCellsOn c page lent.now) cells (subst (λ (l : List Cell). AreCellsOn (all_numbered es) page l) (sym lends) (AreCellsOn-sheet kind es page sheet h is))

pub none-lent : (kind : Kind) (es : Sheets) (page : ℕ) (now : NumberedMap) → AreSheets kind es → shown kind es ≡ now → None ≡ sheet_at es page → HasNoSheet now.kind now.cells page
none-lent kind es page now h shows none = subst (λ (m : NumberedMap). HasNoSheet m.kind m.cells page) shows (HasNoSheet-none kind (all_numbered es) page (no_sheet kind es page h none))

-- and of a variable's page
pub page-none : (slots page : ℕ) (map : NumberedMap) (now : Contents) (P : Type 0) → below slots map.cells ≡ true → contents slots map.kind map.cells ≡ now →
    (P → HasNoSheet map.kind map.cells page) × (HasNoSheet map.kind map.cells page → P) → (P → HasNoPage now.kind now.cells page) × (HasNoPage now.kind now.cells page → P)
page-none slots page map now P all shows tells =
    subst (λ (c : Contents). (P → HasNoPage c.kind c.cells page) × (HasNoPage c.kind c.cells page → P)) shows (
      λ p. HasNoPage-sheet slots page map.kind map.cells all (tells.0 p),
      λ none. tells.1 (HasNoSheet-page slots page map.kind map.cells all none),
    )

pub page-cells : (slots page : ℕ) (map : NumberedMap) (now : Contents) (r : Option (Bor (List Cell))) → below slots map.cells ≡ true → contents slots map.kind map.cells ≡ now →
    IfSome r (λ lent. AreCellsOn map.cells page lent.now) → IfSome r (λ lent. ArePageCells now.cells page lent.now)
page-cells slots page map now None all shows lends = tt
page-cells slots page map now (Some lent) all shows lends =
    let cells : with_coords slots map.cells ≡ now.cells = ap (λ (c : Contents). c.cells) shows in
    subst (λ (c : Cells). ArePageCells c page lent.now) cells (ArePageCells-sheet slots page map.cells lent.now all lends)
