-- Going over the sheets of a map.
use Rattle.std.specs.Prelude.{ℕ, ◌≡◌, ◌≢◌, ◌<◌, ◌+◌, ◌*◌, Option, Some, None, List, [], ◌∷◌, ◌++◌, drop}
use Rattle.aw_cell.specs.declared.cell.Cell.{Cell}
use Rattle.aw_var.specs.inside.Sheets.{Sheets, SheetCells, numbered, all_numbered}

-- the page of the first sheet
abbrev pub first_page : Sheets → Option ℕ
first_page [] = None
first_page (sheet ∷ sheets) = Some sheet.0

-- the first sheet is taken where it is of that page
abbrev pub TakesSheet : Sheets → ℕ → Option SheetCells → Sheets → Type 0
TakesSheet old page None new = (new ≡ old) × (first_page old ≢ Some page)
TakesSheet old page (Some sheet) new = old ≡ (page, sheet) ∷ new

-- the cells of a list from a place on that aren't NA, numbered from the list's start
abbrev pub used_on : ℕ → List Cell → ℕ → List (ℕ × Cell)
used_on start cells from = numbered (start + from) (drop from cells)

-- this is the first place from one on whose cell isn't NA, with its cell
abbrev pub IsFirstUsed : List Cell → ℕ → Option (ℕ × Cell) → Type 0
IsFirstUsed cells from None = (start : ℕ) → used_on start cells from ≡ []
IsFirstUsed cells from (Some found) = (found.0 < 64) × ((start : ℕ) → used_on start cells from ≡ (start + found.0, found.1) ∷ used_on start cells (found.0 + 1))

-- the cells of the sheet in hand, of which so many places were passed, and of the sheets behind it
abbrev pub numbers_left : Option (ℕ × SheetCells) → ℕ → Sheets → List (ℕ × Cell)
numbers_left None passed rest = []
numbers_left (Some sheet) passed rest = used_on (64 * sheet.0) sheet.1.1 passed ++ all_numbered rest

-- the first of some numbered cells is taken, and told by its page and its place there
abbrev pub TakesNumber : List (ℕ × Cell) → Option (ℕ × ℕ × Cell) → List (ℕ × Cell) → Type 0
TakesNumber old None new = (old ≡ []) × (new ≡ [])
TakesNumber old (Some found) new = (found.1 < 64) × (old ≡ (64 * found.0 + found.1, found.2) ∷ new)
