-- The objects of a catalogue with their first generations.
use Rattle.std.specs.Option.{option_map, option_and_then, unwrap_or}
use Rattle.std.proofs.Common.{◌≡◌, ◌∙◌, ℕ, zero, suc, ◌+◌, ◌≤◌, ◌<◌, List, [], ◌∷◌, ◌++◌, length, map, Option, Some, None, refl, sym, ap, ap₂, arith, slice_get, get_or, drop, drop_of_length-le, append_assoc, append-nil, if◌then◌else◌}
use Rattle.std.proofs.lemmas.List.{drop_more}
use Rattle.std.proofs.lemmas.Option.{slice_get-get_or}
use Rattle.aw_schema.specs.declared.definition.Def.{Def}
use Rattle.aw_schema.specs.declared.definition.DefKind.{DefKind}
use Rattle.aw_schema.specs.declared.definition.DefKind.TheVariants.{Dimension, Relation, Valueset, Variable, Formula, Program, Aggmap}
use Rattle.aw_schema.specs.Definitions.{is_kept}
use Rattle.aw_body.specs.declared.body.Body.{Body}
use Rattle.aw_body.specs.declared.body.Body.TheVariants.{Set}
use Rattle.aw_body.specs.Bodies.{first_body}
use Rattle.aw_body.specs.KeptBodies.{bodies_of, first_of}
use Rattle.mv_core.specs.declared.object.Object.{Object}
use Rattle.mv_core.specs.Objects.{IsObjectOf, AreObjectsOf}
use Rattle.mv_core.specs.Workspace.{standing_from, standing, opened}
use Rattle.mv_core.specs.inside.Opening.{first_object, first_object_of}
use Rattle.aw_schema.proofs.callers.AcceptedCatalogues.{or_parts}

-- ---- the definitions, one after the other

pub copied-next : (definitions made newer : List Def) (i : ℕ) (def : Def) → i < length definitions → slice_get definitions i ≡ Some def → newer ≡ made ++ def ∷ [] → made ++ drop i definitions ≡ definitions → newer ++ drop (i + 1) definitions ≡ definitions
copied-next definitions made newer i def within found new before =
    let here : get_or definitions i def ≡ def = some-same (get_or definitions i def) def (sym (slice_get-get_or definitions i def within) ∙ found) in
    ap (λ (all : List Def). all ++ drop (i + 1) definitions) new
    ∙ append_assoc made (def ∷ []) (drop (i + 1) definitions)
    ∙ ap (λ (one : Def). made ++ one ∷ drop (i + 1) definitions) (sym here)
    ∙ ap (λ (rest : List Def). made ++ rest) (sym (drop_more definitions i def within))
    ∙ before
  where
    some-same : (one other : Def) → Some one ≡ Some other → one ≡ other
    some-same one other same = cc

pub never-none : (definitions : List Def) (i : ℕ) → i < length definitions → slice_get definitions i ≡ None → ⊥
never-none [] i within none = absurd (omega (arith, within))
never-none (def ∷ definitions) zero within none = cc
never-none (def ∷ definitions) (suc i) within none = never-none definitions i (omega (arith, within)) none

pub copied-all : (definitions made : List Def) (i : ℕ) → length definitions ≤ i → made ++ drop i definitions ≡ definitions → made ≡ definitions
copied-all definitions made i over all =
    sym (append-nil made) ∙ sym (ap (λ (rest : List Def). made ++ rest) (drop_of_length-le definitions over)) ∙ all

-- ---- each object that is kept has its first generation

first-stands : (kind : DefKind) → option_map first_object (first_body kind) ≡ (if is_kept kind then Some (first_object (unwrap_or (first_body kind) (Set []))) else None)
first-stands Dimension = refl
first-stands (Relation target base) = refl
first-stands (Valueset dimension) = refl
first-stands (Variable kind dimensions) = refl
first-stands (Formula text) = refl
first-stands (Program text) = refl
first-stands (Aggmap text) = refl

first-form : (kind : DefKind) → IsObjectOf kind (option_map first_object (first_body kind))
first-form Dimension = tt
first-form (Relation target base) = (refl, refl)
first-form (Valueset dimension) = tt
first-form (Variable kind dimensions) = (refl, refl)
first-form (Formula text) = refl
first-form (Program text) = refl
first-form (Aggmap text) = refl

pub first-forms : (definitions : List Def) → AreObjectsOf definitions (map first_object_of definitions)
first-forms [] = tt
first-forms (def ∷ definitions) = (first-form def.kind, first-forms definitions)

first-standing : (whole definitions : List Def) (at : ℕ) → ((n k : ℕ) (def : Def) → at + k ≡ n → slice_get definitions k ≡ Some def → slice_get whole n ≡ Some def) → map first_object_of definitions ≡ standing_from (bodies_of whole) (opened whole) at definitions
first-standing whole [] at found = refl
first-standing whole (def ∷ definitions) at found =
    let here : at + zero ≡ at = omega arith in
    let is : slice_get whole at ≡ Some def = found at zero def here refl in
    let body : first_of whole at ≡ unwrap_or (first_body def.kind) (Set []) = ap (λ (one : Option Def). unwrap_or (option_and_then (λ (other : Def). first_body other.kind) one) (Set [])) is in
    ap₂ (λ (one : Option (Object Body)) (objects : List (Option (Object Body))). one ∷ objects)
    (first-stands def.kind ∙ ap (λ (first : Body). if is_kept def.kind then Some (first_object first) else None) (sym body))
    (first-standing whole definitions (at + 1) (λ n k other place is_at. found n (suc k) other (omega (arith, place)) is_at))

pub standing-opened : (definitions : List Def) → map first_object_of definitions ≡ standing (bodies_of definitions) (opened definitions)
standing-opened definitions =
    first-standing definitions definitions 0 (λ n k def place is. let e : n ≡ k = omega (arith, place) in ap (slice_get definitions) e ∙ is)
