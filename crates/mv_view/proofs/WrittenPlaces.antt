-- An object whose place is written.
use Rattle.std.specs.Prelude.{ℕ, zero, suc, ◌≡◌, ◌≤◌, List, [], ◌∷◌, length, Option, Some, None, IfSome, slice_get, slice_set}
use Rattle.std.specs.Option.{IsSomeAnd}
use Rattle.std.proofs.Common.{◌∙◌, ap, sym, refl, subst, arith}
use Rattle.std.proofs.lemmas.Option.{slice_get_past}
use Rattle.mv_view.specs.Each.{object_in, each_from, only}
use Rattle.mv_view.specs.ViewState.{ObjectView, IsSeen, AreSeen}
use Rattle.mv_view.proofs.callers.Each.{only-there, only-missing}

-- what stands in a place
pub object-place : (objects : List (Option ObjectView)) (at object : ℕ) (place found : Option ObjectView) → at ≡ object → slice_get objects at ≡ Some place → place ≡ found → object_in objects object ≡ found
object-place objects at object place found same there is =
    ap (object_in objects) (sym same) ∙ ap (λ (p : Option (Option ObjectView)). elim p [ None ↦ None | Some one ↦ one ]) there ∙ is

pub written-there : (change : ObjectView → ObjectView) (objects : List (Option ObjectView)) (at object : ℕ) (place : Option ObjectView) (x new : ObjectView) → at ≡ object → slice_get objects at ≡ Some place → place ≡ Some x → new ≡ change x → slice_set objects at (Some new) ≡ each_from 0 (only object change) objects
written-there change objects at object place x new same there is after =
    ap (λ (one : ObjectView). slice_set objects at (Some one)) after
    ∙ sym (only-there 0 change objects at object x (omega arith) (object-place objects at at place (Some x) refl there is))

pub set-same : (objects : List (Option ObjectView)) (at : ℕ) (place : Option ObjectView) → slice_get objects at ≡ Some place → slice_set objects at place ≡ objects
set-same [] at place there = refl
set-same (first ∷ objects) zero place there = let e : first ≡ place = cc in ap (λ (p : Option ObjectView). p ∷ objects) (sym e)
set-same (first ∷ objects) (suc at) place there = ap (λ (rest : List (Option ObjectView)). first ∷ rest) (set-same objects at place there)

pub nothing-there : (change : ObjectView → ObjectView) (objects : List (Option ObjectView)) (at object : ℕ) (place : Option ObjectView) → at ≡ object → slice_get objects at ≡ Some place → place ≡ None → slice_set objects at place ≡ each_from 0 (only object change) objects
nothing-there change objects at object place same there is =
    set-same objects at place there ∙ sym (only-missing 0 change objects at object (omega arith) (object-place objects at at place None refl there is))

pub past-all : (change : ObjectView → ObjectView) (objects : List (Option ObjectView)) (at object : ℕ) → at ≡ object → length objects ≤ at → objects ≡ each_from 0 (only object change) objects
past-all change objects at object same past =
    sym (only-missing 0 change objects at object (omega arith) (ap (λ (p : Option (Option ObjectView)). elim p [ None ↦ None | Some one ↦ one ]) (slice_get_past objects at past)))

pub missing-past : (objects : List (Option ObjectView)) (at object : ℕ) → at ≡ object → length objects ≤ at → object_in objects object ≡ None
missing-past objects at object same past =
    ap (object_in objects) (sym same) ∙ ap (λ (p : Option (Option ObjectView)). elim p [ None ↦ None | Some one ↦ one ]) (slice_get_past objects at past)

-- what holds of what stands there
pub seen-there : (objects : List (Option ObjectView)) (at object : ℕ) (place : Option ObjectView) (x : ObjectView) → AreSeen objects → at ≡ object → slice_get objects at ≡ Some place → place ≡ Some x → IsSeen x
seen-there objects at object place x seen same there is =
    subst (λ (found : Option ObjectView). IfSome found IsSeen) (object-place objects at at place (Some x) refl there is) (seen.each at)

pub holds-there : (P : ObjectView → Type 0) (objects : List (Option ObjectView)) (at object : ℕ) (place : Option ObjectView) (x : ObjectView) → IsSomeAnd (object_in objects object) P → at ≡ object → slice_get objects at ≡ Some place → place ≡ Some x → P x
holds-there P objects at object place x holds same there is =
    subst (λ (found : Option ObjectView). IsSomeAnd found P) (object-place objects at object place (Some x) same there is) holds
