-- Pages. The page of a coordinate is its packed number divided by 64, and its place there is the rest.
use Rattle.std.specs.Prelude.{ℕ, ◌≡◌, ◌+◌, ◌*◌, ◌/◌, ◌<◌, ◌==◌, cond, List, [], ◌∷◌, length, slice_get, Some, ⊤}
use Rattle.std.specs.List.{list_any}
use Rattle.aw_cell.specs.declared.cell.Kind.{Kind}
use Rattle.aw_cell.specs.declared.cell.Kind.TheVariants.{Text as TextKind}
use Rattle.aw_cell.specs.declared.cell.Cell.{Cell}
use Rattle.aw_cell.specs.declared.cell.Cell.TheVariants.{Na}
use Rattle.aw_lists.specs.Coord.{packed}
use Rattle.aw_var.specs.CellMap.{Cells}

abbrev pub page_of : List ℕ → ℕ
page_of key = packed key / 64

-- how many pages the keys of a map are on
abbrev pub page_count : Cells → ℕ
page_count [] = 0
page_count (pair ∷ cells) = cond (list_any (λ other. page_of other.0 == page_of pair.0) cells) 0 1 + page_count cells

-- the cell whose key packs to a number, NA where there is none
abbrev pub cell_numbered : Cells → ℕ → Cell
cell_numbered [] number = Na
cell_numbered (pair ∷ cells) number = cond (packed pair.0 == number) pair.1 (cell_numbered cells number)

-- every cell of a page is NA
abbrev pub IsBlank : Cells → ℕ → Type 0
IsBlank cells page = (place : ℕ) → place < 64 → cell_numbered cells (64 * page + place) ≡ Na

-- the cells are TEXT, or every cell of a page is NA
abbrev pub HasNoPage : Kind → Cells → ℕ → Type 0
HasNoPage TextKind cells page = ⊤
HasNoPage _ cells page = IsBlank cells page

-- these are the 64 cells of a page
pub record ArePageCells (cells : Cells) (page : ℕ) (list : List Cell) : Type 0 where
  pub size : length list ≡ 64
  pub places : (place : ℕ) → place < 64 → slice_get list place ≡ Some (cell_numbered cells (64 * page + place))
