-- How cells lie in sheets. A sheet has the 64 cells of one page, and says whether they are TEXT.
use Rattle.std.specs.Prelude.{ℕ, ◌≡◌, ◌+◌, ◌*◌, Bool as Truth, true, false, cond, IsTrue, List, [], ◌∷◌, ◌++◌, length, replicate, slice_set, unwrap_or, Option, Some, None, ◌/◌, ◌==◌}
use Rattle.std.specs.List.{list_all, list_any}
use Rattle.std.specs.List.Sorted.{IsStrictlySortedBy}
use Rattle.std.specs.Map.{keys_of, lookup}
use Rattle.std.specs.BTreeMap.{is_at}
use Rattle.std.specs.Ordering.{nat_cmp}
use Rattle.aw_cell.specs.declared.cell.Cell.{Cell}
use Rattle.aw_cell.specs.declared.cell.Cell.TheVariants.{Na}
use Rattle.aw_cell.specs.declared.cell.Kind.{Kind}
use Rattle.aw_cell.specs.declared.cell.Kind.TheVariants.{Text as TextKind}
use Rattle.aw_page.specs.Fitting.{is_na, is_of_kind}

abbrev pub SheetCells : Type 0
SheetCells = Truth × List Cell

abbrev pub Sheets : Type 0
Sheets = List (ℕ × SheetCells)

abbrev pub is_text_kind : Kind → Truth
is_text_kind TextKind = true
is_text_kind _ = false

-- the cells from a number on that aren't NA, each with its number
abbrev pub numbered : ℕ → List Cell → List (ℕ × Cell)
numbered from [] = []
numbered from (cell ∷ cells) = cond (is_na cell) (numbered (from + 1) cells) ((from, cell) ∷ numbered (from + 1) cells)

-- the cells of all sheets
abbrev pub all_numbered : Sheets → List (ℕ × Cell)
all_numbered [] = []
all_numbered (sheet ∷ sheets) = numbered (64 * sheet.0) sheet.1.1 ++ all_numbered sheets

-- a sheet of a kind, of which some cell isn't NA
pub record IsSheet (kind : Kind) (sheet : SheetCells) : Type 0 where
  pub size : length sheet.1 ≡ 64
  pub text : sheet.0 ≡ is_text_kind kind
  pub fitting : IsTrue (list_all (is_of_kind kind) sheet.1)
  pub used : list_all is_na sheet.1 ≡ false

-- the sheets of a kind, by rising pages
pub record AreSheets (kind : Kind) (sheets : Sheets) : Type 0 where
  pub ordered : IsStrictlySortedBy nat_cmp (keys_of sheets)
  pub each : (page : ℕ) (sheet : SheetCells) → lookup (is_at (nat_cmp page)) sheets ≡ Some sheet → IsSheet kind sheet

abbrev pub sheet_at : Sheets → ℕ → Option SheetCells
sheet_at sheets page = lookup (is_at (nat_cmp page)) sheets

-- a sheet of which every cell is NA
abbrev pub blank : Kind → SheetCells
blank kind = (is_text_kind kind, replicate 64 Na)

-- a sheet, or none where every cell is NA
abbrev pub unless_blank : SheetCells → Option SheetCells
unless_blank sheet = cond (list_all is_na sheet.1) None (Some sheet)

-- the sheet of a page after one cell is put
abbrev pub sheet_with : Kind → Sheets → ℕ → ℕ → Cell → SheetCells
sheet_with kind sheets page place cell = let sheet = unwrap_or (sheet_at sheets page) (blank kind) in (sheet.0, slice_set sheet.1 place cell)

-- one cell is put in the sheet of its page, which is left out where every cell of it is NA; all others stay
pub record PutsCell (kind : Kind) (old new : Sheets) (page place : ℕ) (cell : Cell) : Type 0 where
  pub ordered : IsStrictlySortedBy nat_cmp (keys_of new)
  pub sheets : (other : ℕ) → sheet_at new other ≡ cond (is_at (nat_cmp page) other) (unless_blank (sheet_with kind old page place cell)) (sheet_at old other)

-- how many pages the numbers are on
abbrev pub number_pages : List (ℕ × Cell) → ℕ
number_pages [] = 0
number_pages (pair ∷ cells) = cond (list_any (λ other. other.0 / 64 == pair.0 / 64) cells) 0 1 + number_pages cells

-- a cell that isn't NA counts one
abbrev pub weight : Cell → ℕ
weight cell = cond (is_na cell) 0 1

-- the sheets of a kind, and how many cells are on them
pub record AreCounted (kind : Kind) (entries : Sheets) (cells : ℕ) : Type 0 where
  pub sheets : AreSheets kind entries
  pub count : cells ≡ length (all_numbered entries)
