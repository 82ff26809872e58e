-- Whether a list has NA everywhere but at one place.
use Rattle.std.proofs.Common.{◌≡◌, ℕ, suc, ◌<◌, true, false, not, List, [], ◌∷◌, length, slice_set, slice_get, get_or, Some, refl, sym, ap, ◌∙◌, arith}
use Rattle.std.proofs.lemmas.List.{get_or-set_same, get_or-set_other}
use Rattle.std.proofs.Math.ListN.{length-set}
use Rattle.std.proofs.lemmas.Option.{get_or_from_slice_get}
use Rattle.std.specs.List.{list_all}
use Rattle.std.proofs.lemmas.Bool.Decides.{Decides-eqb}
use Rattle.std.specs.Prelude.{◌==◌}
use Rattle.aw_cell.specs.declared.cell.Cell.{Cell}
use Rattle.aw_cell.specs.declared.cell.Cell.TheVariants.{Na}
use Rattle.aw_cell.specs.Cell.{same_cell}
use Rattle.aw_cell.specs.SameCell.{same_cell-Decides}
use Rattle.aw_page.specs.Fitting.{is_na}
use Rattle.aw_var.proofs.callers.FiniteMaps.{and_true}
use Rattle.aw_var.proofs.Puts.{get_or-all_na}

pub all_na : (cells : List Cell) → ((k : ℕ) → k < length cells → get_or cells k Na ≡ Na) → list_all is_na cells ≡ true
all_na [] each = refl
all_na (c ∷ cs) each = and_true (is_na c) (list_all is_na cs) (ap is_na (each 0 (omega arith))) (all_na cs (λ k h. each (suc k) (omega arith)))

pub blank_from : (cells : List Cell) (at : ℕ) → length cells ≡ 64 → at < 64 → ((k : ℕ) → k < 64 → (k ≡ at → ⊥) → get_or cells k Na ≡ Na) → list_all is_na (slice_set cells at Na) ≡ true
blank_from cells at size within each =
    let long = length-set cells at Na in
    all_na (slice_set cells at Na) (λ k h.
    elim (k == at) as (λ b. (k == at) ≡ b → get_or (slice_set cells at Na) k Na ≡ Na) [
      | true ↦ λ e. let same : k ≡ at = (Decides-eqb k at).0 e in
          ap (λ j. get_or (slice_set cells at Na) j Na) same ∙ get_or-set_same cells at Na Na (omega arith)
      | false ↦ λ e. let apart : k ≡ at → ⊥ = λ s. let t = (Decides-eqb k at).1 s in cc in
          get_or-set_other cells at k Na Na apart ∙ each k (omega arith) apart
    ] refl)

pub used_from : (cells : List Cell) (at place : ℕ) (cell : Cell) → (place ≡ at → ⊥) → slice_get cells place ≡ Some cell → (cell ≡ Na → ⊥) → list_all is_na (slice_set cells at Na) ≡ false
used_from cells at place cell apart is some =
    elim (list_all is_na (slice_set cells at Na)) as (λ b. list_all is_na (slice_set cells at Na) ≡ b → b ≡ false) [
      | true ↦ λ e. absurd (some (sym (get_or_from_slice_get cells place cell Na is) ∙ sym (get_or-set_other cells at place Na Na apart) ∙ get_or-all_na (slice_set cells at Na) place e))
      | false ↦ λ _. refl
    ] refl

pub some_of : (x : Cell) → true ≡ not (same_cell x Na) → x ≡ Na → ⊥
some_of x e na = let t = (same_cell-Decides x Na).1 na in cc

pub na_from : (x : Cell) → false ≡ not (same_cell x Na) → x ≡ Na
na_from x e = elim (same_cell x Na) as (λ b. same_cell x Na ≡ b → false ≡ not b → x ≡ Na) [ true ↦ λ t _. (same_cell-Decides x Na).0 t | false ↦ λ _ n. cc ] refl e
