-- When two variables are the same.
use Rattle.std.specs.Prelude.{ℕ, ◌≡◌, Bool as Truth, true, false, ◌&&◌, ◌==◌, List, refl}
use Rattle.std.specs.Bool.{Decides}
use Rattle.std.specs.Str.{bytes_eq}
use Rattle.std.specs.Cmp.{IsEquivalence, IsPartialEquivalence, partial_equiv_from_equiv, decided}
use Rattle.std.specs.Cmp.Lexicographic.{pointwise}
use Rattle.std.proofs.Common.{ap}
use Rattle.std.proofs.lemmas.Bool.Decides.{Decides-eqb}
use Rattle.std.proofs.lemmas.Slice.Eq.{bytes_eq-Decides, slice_eq-Decides}
use Rattle.aw_cell.specs.declared.cell.Cell.{Cell}
use Rattle.aw_cell.specs.declared.cell.Kind.{Kind}
use Rattle.aw_cell.specs.declared.cell.Kind.TheVariants.{Num, Int, Text, Bool, Slot}
use Rattle.aw_cell.specs.Cell.{same_cell}
use Rattle.aw_cell.specs.SameCell.{same_cell-Decides}
use Rattle.aw_var.specs.Variable.{Contents}

abbrev pub same_kind : Kind → Kind → Truth
same_kind Num Num = true
same_kind Int Int = true
same_kind Text Text = true
same_kind Bool Bool = true
same_kind Slot Slot = true
same_kind _ _ = false

abbrev pub same_pair : List ℕ × Cell → List ℕ × Cell → Truth
same_pair one other = bytes_eq one.0 other.0 && same_cell one.1 other.1

-- keys as long, cells of one kind, and the same cells at the same keys
abbrev pub same_contents : Contents → Contents → Truth
same_contents one other = (one.slots == other.slots) && (same_kind one.kind other.kind && pointwise same_pair one.cells other.cells)

same_kind-Decides : (a b : Kind) → Decides (same_kind a b) (a ≡ b)
same_kind-Decides Num Num = (λ e. refl, λ e. refl)
same_kind-Decides Int Int = (λ e. refl, λ e. refl)
same_kind-Decides Text Text = (λ e. refl, λ e. refl)
same_kind-Decides Bool Bool = (λ e. refl, λ e. refl)
same_kind-Decides Slot Slot = (λ e. refl, λ e. refl)
same_kind-Decides _ _ = (λ e. cc, λ e. cc)

parts : (a b : Truth) → (a && b) ≡ true → (a ≡ true) × (b ≡ true)
parts true b h = (refl, h)
parts false b h = cc

both : (a b : Truth) → a ≡ true → b ≡ true → (a && b) ≡ true
both true b p q = q
both false b p q = cc

same_pair-Decides : (a b : List ℕ × Cell) → Decides (same_pair a b) (a ≡ b)
same_pair-Decides a b =
    let d = bytes_eq-Decides a.0 b.0 in
    let e = same_cell-Decides a.1 b.1 in (
      λ t. let p = parts (bytes_eq a.0 b.0) (same_cell a.1 b.1) t in (λ i. (d.0 p.0 i, e.0 p.1 i)),
      λ s. both (bytes_eq a.0 b.0) (same_cell a.1 b.1) (d.1 (ap (λ (x : List ℕ × Cell). x.0) s)) (e.1 (ap (λ (x : List ℕ × Cell). x.1) s)),
    )

pub same_contents-Decides : (a b : Contents) → Decides (same_contents a b) (a ≡ b)
same_contents-Decides a b =
    let d = Decides-eqb a.slots b.slots in
    let e = same_kind-Decides a.kind b.kind in
    let f = slice_eq-Decides same_pair-Decides a.cells b.cells (pointwise same_pair a.cells b.cells) refl in (
      λ t.
          let p = parts (a.slots == b.slots) (same_kind a.kind b.kind && pointwise same_pair a.cells b.cells) t in
          let q = parts (same_kind a.kind b.kind) (pointwise same_pair a.cells b.cells) p.1 in
          let one : a ≡ b = λ i. record { slots = d.0 p.0 i; kind = e.0 q.0 i; cells = f.0 q.1 i } in one,
      λ s. both (a.slots == b.slots) (same_kind a.kind b.kind && pointwise same_pair a.cells b.cells) (d.1 (ap (λ (c : Contents). c.slots) s))
          (both (same_kind a.kind b.kind) (pointwise same_pair a.cells b.cells) (e.1 (ap (λ (c : Contents). c.kind) s)) (f.1 (ap (λ (c : Contents). c.cells) s))),
    )

pub same_contents_equivalence : IsEquivalence same_contents
same_contents_equivalence = decided same_contents same_contents-Decides

pub same_contents_partial_equivalence : IsPartialEquivalence same_contents
same_contents_partial_equivalence = partial_equiv_from_equiv same_contents_equivalence
