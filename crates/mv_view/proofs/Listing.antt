-- Loops over lists of objects.
use Rattle.std.specs.Prelude.{ℕ, suc, ◌≡◌, ◌<◌, ◌+◌, ◌++◌, List, [], ◌∷◌, length, take, drop, filter_map, slice_index_or, cond, Option, Some, None, IfSome}
use Rattle.std.specs.Option.{option_map, option_and_then, option_to_list}
use Rattle.std.specs.List.{cons_option}
use Rattle.std.proofs.Common.{◌∙◌, ap, sym, refl, arith}
use Rattle.std.proofs.Math.Seq.{drop-cons, take-suc}
use Rattle.std.proofs.lemmas.List.Elements.{filter_map-append}
use Rattle.aw_body.specs.declared.change.Fresh.{Fresh}
use Rattle.aw_body.specs.declared.change.Change.{Change}
use Rattle.aw_body.specs.Laws.{DifferenceGivesNewer}
use Rattle.aw_body.specs.declared.patch.BodyPatch.{BodyPatch}
use Rattle.mv_view.specs.Each.{object_in, each_from, only, listed, numbers_from, gathered_from}
use Rattle.mv_view.specs.ViewState.{ObjectView, AreSeen, is_owned}
use Rattle.mv_view.specs.Rules.{objects_of, change_of, staged_patch}
use Rattle.mv_view.specs.declared.kept.Step.{Step}
use Rattle.mv_view.specs.inside.Steps.{stepped}
use Rattle.mv_view.proofs.callers.Each.{each-none, gathered-numbers}
use Rattle.mv_view.proofs.Steps.{listed-steps}

-- no object is named
pub listed-none : (change : ObjectView → ObjectView) (objects : List (Option ObjectView)) (those : List ℕ) → those ≡ [] → each_from 0 (listed those change) objects ≡ objects
listed-none change objects those none =
    ap (λ names. each_from 0 (listed names change) objects) none ∙ each-none 0 (listed [] change) objects (λ k object is. same (object_in objects k))
  where
    same : (found : Option ObjectView) → IfSome found (λ x. x ≡ x)
    same None = tt
    same (Some x) = refl

-- one more step of a loop over a list
pub listed-next : DifferenceGivesNewer → (list : List ℕ) (at : ℕ) (step : Step) (objects after initial : List (Option ObjectView)) → at < length list → AreSeen objects → after ≡ each_from 0 (only (slice_index_or list at 0) (stepped step)) objects
    → each_from 0 (listed (drop at list) (stepped step)) objects ≡ each_from 0 (listed list (stepped step)) initial
    → each_from 0 (listed (drop (at + 1) list) (stepped step)) after ≡ each_from 0 (listed list (stepped step)) initial
listed-next law list at step objects after initial within seen is before =
    let x = slice_index_or list at 0 in
    let next : drop at list ≡ x ∷ drop (at + 1) list = drop-cons list at 0 within ∙ ap (λ n. x ∷ drop n list) (let e : suc at ≡ at + 1 = omega arith in e) in
    ap (λ (those : List (Option ObjectView)). each_from 0 (listed (drop (at + 1) list) (stepped step)) those) is
    ∙ listed-steps law x (drop (at + 1) list) step objects seen
    ∙ ap (λ (those : List ℕ). each_from 0 (listed those (stepped step)) objects) (sym next) ∙ before

-- the same over generations that are handed over
pub fresh-next : DifferenceGivesNewer → (fresh : List Fresh) (at : ℕ) (x : Fresh) (step : Step) (objects after initial : List (Option ObjectView)) → at < length fresh → x ≡ slice_index_or fresh at x → AreSeen objects → after ≡ each_from 0 (only x.object (stepped step)) objects
    → each_from 0 (listed (objects_of (drop at fresh)) (stepped step)) objects ≡ each_from 0 (listed (objects_of fresh) (stepped step)) initial
    → each_from 0 (listed (objects_of (drop (at + 1) fresh)) (stepped step)) after ≡ each_from 0 (listed (objects_of fresh) (stepped step)) initial
fresh-next law fresh at x step objects after initial within here seen is before =
    let next : drop at fresh ≡ x ∷ drop (at + 1) fresh = drop-cons fresh at x within ∙ ap (λ (y : Fresh). y ∷ drop (suc at) fresh) (sym here) ∙ ap (λ n. x ∷ drop n fresh) (let e : suc at ≡ at + 1 = omega arith in e) in
    ap (λ (those : List (Option ObjectView)). each_from 0 (listed (objects_of (drop (at + 1) fresh)) (stepped step)) those) is
    ∙ listed-steps law x.object (objects_of (drop (at + 1) fresh)) step objects seen
    ∙ ap (λ (those : List Fresh). each_from 0 (listed (objects_of those) (stepped step)) objects) (sym next) ∙ before

-- one more element that gives something or nothing
pub gathered-next : (give : ℕ → Option Change) (list : List ℕ) (at : ℕ) (before after : List Change) → at < length list → after ≡ before ++ option_to_list (give (slice_index_or list at 0)) → before ≡ filter_map give (take at list) → after ≡ filter_map give (take (at + 1) list)
gathered-next give list at before after within is was =
    let x = slice_index_or list at 0 in
    let next : take (at + 1) list ≡ take at list ++ x ∷ [] = ap (λ n. take n list) (let e : at + 1 ≡ suc at = omega arith in e) ∙ take-suc list at 0 within in
    is ∙ ap (λ (those : List Change). those ++ option_to_list (give x)) was ∙ ap (λ (those : List Change). filter_map give (take at list) ++ those) (last (give x))
    ∙ sym (filter_map-append give (take at list) (x ∷ [])) ∙ sym (ap (λ those. filter_map give those) next)
  where
    last : (given : Option Change) → option_to_list given ≡ cons_option given []
    last None = refl
    last (Some c) = refl

-- what a commit has is what is given of the owned objects
pub gathered-all : (objects : List (Option ObjectView)) (those : List ℕ) → those ≡ numbers_from is_owned 0 objects → filter_map (λ object. option_and_then (change_of object) (object_in objects object)) those ≡ gathered_from change_of 0 objects
gathered-all objects those is =
    ap (λ list. filter_map (λ object. option_and_then (change_of object) (object_in objects object)) list) is
    ∙ gathered-numbers change_of is_owned (λ object. option_and_then (change_of object) (object_in objects object)) 0 objects
    (λ object x other. ap (λ b. cond b (option_map (λ (patch : BodyPatch). let c : Change = record { object = object; patch = patch } in c) (staged_patch x)) None) other)
    (λ k object place. ap (λ n. option_and_then (change_of object) (object_in objects n)) (let e : object ≡ k = omega arith in e))
