-- Sheets that hold the same cells are the same.
use Rattle.std.proofs.Common.{◌≡◌, ℕ, suc, ◌+◌, ◌*◌, ◌/◌, ◌%◌, ◌<◌, Bool, true, ◌&&◌, List, [], ◌∷◌, length, get_or, Option, Some, None, refl, sym, ap, subst, ◌∙◌, arith}
use Rattle.std.specs.Bool.{beq, Decides}
use Rattle.std.specs.Prelude.{nat_eq}
use Rattle.std.specs.BTreeMap.{BTreeMap}
use Rattle.std.specs.Cmp.{nat_cmp_total, booleans_Decides}
use Rattle.std.specs.Cmp.Lexicographic.{pointwise}
use Rattle.std.specs.Ordering.{nat_cmp}
use Rattle.std.specs.FinMap.{nat_cmp-IsAntisymmetric}
use Rattle.std.specs.FinMap.Entries.{same_entries}
use Rattle.std.proofs.lemmas.Bool.Decides.{Decides-eqb}
use Rattle.std.proofs.lemmas.Slice.Eq.{slice_eq-Decides}
use Rattle.std.proofs.lemmas.Map.Lookups.{btree_map_eq-Decides}
use Rattle.aw_cell.specs.declared.cell.Cell.{Cell}
use Rattle.aw_cell.specs.declared.cell.Cell.TheVariants.{Na}
use Rattle.aw_cell.specs.declared.cell.Kind.{Kind}
use Rattle.aw_cell.specs.Cell.{same_cell}
use Rattle.aw_cell.specs.SameCell.{same_cell-Decides}
use Rattle.aw_var.specs.inside.NumberedMap.{NumberedMap, cell_of}
use Rattle.aw_var.specs.inside.Sheets.{SheetCells, Sheets, all_numbered, sheet_at, AreSheets, IsSheet}
use Rattle.aw_var.specs.inside.Differences.{cell_on}
use Rattle.aw_var.proofs.callers.FiniteMaps.{both_true, and_true, to_T}
use Rattle.aw_var.proofs.Sheets.{cell_of-all, is_sorted_of, lookup-find}
use Rattle.aw_var.proofs.Blank.{all_na}
use Rattle.aw_var.proofs.Puts.{shown}

cells_ext : (xs ys : List Cell) → length xs ≡ length ys → ((k : ℕ) → k < length xs → get_or xs k Na ≡ get_or ys k Na) → xs ≡ ys
cells_ext [] [] long same = refl
cells_ext [] (y ∷ ys) long same = absurd (omega arith)
cells_ext (x ∷ xs) [] long same = absurd (omega arith)
cells_ext (x ∷ xs) (y ∷ ys) long same = λ i. same 0 (omega arith) i ∷ cells_ext xs ys (omega arith) (λ k h. same (suc k) (omega arith)) i

-- a sheet that is there isn't blank
not_blank : (kind : Kind) (sheet : SheetCells) → IsSheet kind sheet → ((k : ℕ) → k < 64 → get_or sheet.1 k Na ≡ Na) → ⊥
not_blank kind sheet h none =
    let size : length sheet.1 ≡ 64 = h.size in
    let all = all_na sheet.1 (λ k g. none k (omega arith)) in
    let used = h.used in cc

one_sheet : (kind : Kind) (s t : Option SheetCells) → ((x : SheetCells) → s ≡ Some x → IsSheet kind x) → ((x : SheetCells) → t ≡ Some x → IsSheet kind x) → ((k : ℕ) → k < 64 → cell_on s k ≡ cell_on t k) → s ≡ t
one_sheet kind None None f g same = refl
one_sheet kind (Some x) None f g same = absurd (not_blank kind x (f x refl) (λ k h. same k h))
one_sheet kind None (Some y) f g same = absurd (not_blank kind y (g y refl) (λ k h. sym (same k h)))
one_sheet kind (Some x) (Some y) f g same =
    let a = f x refl in
    let b = g y refl in
    let sx : length x.1 ≡ 64 = a.size in
    let sy : length y.1 ≡ 64 = b.size in
    let text : x.0 ≡ y.0 = a.text ∙ sym b.text in
    let cells = cells_ext x.1 y.1 (omega arith) (λ k h. same k (omega arith)) in
    λ i. Some (text i, cells i)

pub same_sheets : (kind : Kind) (xs ys : Sheets) → AreSheets kind xs → AreSheets kind ys → all_numbered xs ≡ all_numbered ys → xs ≡ ys
same_sheets kind xs ys f g same =
    same_entries nat_cmp nat_cmp_total nat_cmp-IsAntisymmetric xs ys (to_T _ (is_sorted_of xs f.ordered)) (to_T _ (is_sorted_of ys g.ordered)) (λ page.
    sym (lookup-find page xs)
    ∙ one_sheet kind (sheet_at xs page) (sheet_at ys page) (f.each page) (g.each page) (λ k h.
    let p : (64 * page + k) / 64 ≡ page = omega arith in
    let r : (64 * page + k) % 64 ≡ k = omega arith in
    sym (cell_of-all kind (64 * page + k) xs f ∙ (λ i. cell_on (sheet_at xs (p i)) (r i)))
    ∙ ap (λ cells. cell_of cells (64 * page + k)) same
    ∙ cell_of-all kind (64 * page + k) ys g ∙ (λ i. cell_on (sheet_at ys (p i)) (r i)))
    ∙ lookup-find page ys)

abbrev pub sheet_eq : SheetCells → SheetCells → Bool
sheet_eq one other = beq one.0 other.0 && pointwise same_cell one.1 other.1

pub sheet_eq-Decides : (a b : SheetCells) → Decides (sheet_eq a b) (a ≡ b)
sheet_eq-Decides a b =
    let d = booleans_Decides a.0 b.0 in
    let e = slice_eq-Decides same_cell-Decides a.1 b.1 (pointwise same_cell a.1 b.1) refl in (
      λ t. let parts = both_true (beq a.0 b.0) (pointwise same_cell a.1 b.1) t in (λ i. (d.0 parts.0 i, e.0 parts.1 i)),
      λ s. and_true (beq a.0 b.0) (pointwise same_cell a.1 b.1) (d.1 (ap (λ (x : SheetCells). x.0) s)) (e.1 (ap (λ (x : SheetCells). x.1) s)),
    )

-- what `==` of two maps of sheets says
pub equal_maps : (kind kind' : Kind) (m n : BTreeMap ℕ SheetCells) (a b : NumberedMap) (r : Bool) → AreSheets kind m.entries → AreSheets kind' n.entries → shown kind m.entries ≡ a → shown kind' n.entries ≡ b → a.kind ≡ b.kind →
    r ≡ pointwise (λ (p q : ℕ × SheetCells). nat_eq p.0 q.0 && sheet_eq p.1 q.1) m.entries n.entries → (r ≡ true → a ≡ b) × (a ≡ b → r ≡ true)
equal_maps kind kind' m n a b r f g is was same e =
    let kinds : kind ≡ kind' = ap (λ (x : NumberedMap). x.kind) is ∙ same ∙ ap (λ (x : NumberedMap). x.kind) (sym was) in
    let d = btree_map_eq-Decides Decides-eqb sheet_eq-Decides m n r e in (
      λ t. sym is ∙ (λ i. shown (kinds i) (d.0 t i)) ∙ was,
      λ s. d.1 (same_sheets kind m.entries n.entries f (subst (λ (k : Kind). AreSheets k n.entries) (sym kinds) g)
          (ap (λ (x : NumberedMap). x.cells) is ∙ ap (λ (x : NumberedMap). x.cells) s ∙ ap (λ (x : NumberedMap). x.cells) (sym was))),
    )
