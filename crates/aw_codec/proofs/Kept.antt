-- What holds of the parts that were spelled so far, and of one more.
use Rattle.std.specs.Prelude.{ℕ, ◌≡◌, ◌<◌, ◌+◌, ◌==◌, ◌&&◌, ◌++◌, ◌∷◌, [], List, length, take, IsTrue}
use Rattle.std.specs.List.{flat_map, list_all}
use Rattle.std.proofs.Common.{refl, subst, sym, ap, ◌∙◌, arith, inl, inr, get_or}
use Rattle.std.proofs.lemmas.Bool.{cases_lt, and_parts, and_from}
use Rattle.std.proofs.lemmas.List.{flat_map_more, take_more, get_or_default}
use Rattle.aw_cell.specs.declared.cell.Cell.{Cell}
use Rattle.aw_body.specs.Fitting.{is_recorded, rise}
use Rattle.aw_codec.specs.Records.{are_recordable}

pub kept_more : {X : Type 0} (P : X → Type 0) (xs : List X) (n : ℕ) (x : X) → n < length xs → x ≡ get_or xs n x → P x
    → ((k : ℕ) (d : X) → k < n → P (get_or xs k d)) → (k : ℕ) (d : X) → k < n + 1 → P (get_or xs k d)
kept_more P xs n x inside here holds before k d within =
    elim (cases_lt k n) [
      | inl below ↦ before k d below
      | inr last ↦
          let same : n ≡ k = omega (arith, within, last) in
          subst (λ (i : ℕ). P (get_or xs i d)) same (subst P (here ∙ get_or_default xs n x d inside) holds)
    ]

-- one more part is spelled behind those so far
pub spelled_more : {X : Type 0} (f : X → List ℕ) (front : List ℕ) (xs : List X) (n : ℕ) (x : X) (was now : List ℕ) → n < length xs → x ≡ get_or xs n x
    → was ≡ front ++ flat_map f (take n xs) → now ≡ was ++ f x → now ≡ front ++ flat_map f (take (n + 1) xs)
spelled_more {X = X} f front xs n x was now within here before more =
    more ∙ ap (λ (bytes : List ℕ). bytes ++ f x) before
    ∙ flat_map_more f front (take n xs) x
    ∙ ap (λ (last : X). front ++ flat_map f (take n xs ++ last ∷ [])) here
    ∙ ap (λ (parts : List X). front ++ flat_map f parts) (sym (take_more xs n x within))

-- ---- the cells of a patch

all_recorded : (size : ℕ) (changes : List (List ℕ × Cell)) → IsTrue (list_all (λ change. (length change.0 == size) && is_recorded change.1) changes) → IsTrue (list_all (λ change. is_recorded change.1) changes)
all_recorded size [] all = refl
all_recorded size (c ∷ changes) all =
    let parts = and_parts ((length c.0 == size) && is_recorded c.1) (list_all (λ change. (length change.0 == size) && is_recorded change.1) changes) all in
    and_from (is_recorded c.1) (list_all (λ change. is_recorded change.1) changes) (and_parts (length c.0 == size) (is_recorded c.1) parts.0).1 (all_recorded size changes parts.1)

pub cells_recorded : (changes : List (List ℕ × Cell)) → IsTrue (are_recordable changes) → IsTrue (list_all (λ change. is_recorded change.1) changes)
cells_recorded [] form = absurd cc
cells_recorded (c ∷ changes) form =
    let all = c ∷ changes in
    all_recorded (length c.0) all (and_parts (list_all (λ change. (length change.0 == length c.0) && is_recorded change.1) all) (rise all) form).0
