-- The objects of which a session has something, found one after the other.
use Rattle.std.specs.Prelude.{ℕ, zero, suc, ◌≡◌, ◌<◌, ◌≤◌, ◌+◌, ◌++◌, Bool, true, false, cond, List, [], ◌∷◌, length, drop, Option, Some, None, is_some}
use Rattle.std.specs.Option.{option_map}
use Rattle.std.proofs.Common.{◌∙◌, ap, refl, sym, subst, arith, append_assoc}
use Rattle.std.proofs.lemmas.List.{length-map}
use Rattle.aw_schema.specs.declared.definition.Def.{Def}
use Rattle.mv_view.specs.Each.{object_in, numbers_from}
use Rattle.mv_view.specs.ViewState.{ObjectView, ViewState, object_of, kind_of, kinds_of, kept_kind, kept_kinds}
use Rattle.ses_step.specs.Sessions.{seen_objects}

abbrev all : ObjectView → Bool
all found = true

abbrev behind : List (Option ObjectView) → ℕ → ℕ → List ℕ
behind objects number at = numbers_from all number (drop at objects)

numbers-step : (number : ℕ) (objects : List (Option ObjectView)) (at : ℕ) → at < length objects
    → behind objects number at ≡ cond (is_some (object_in objects at)) (number ∷ behind objects (number + 1) (suc at)) (behind objects (number + 1) (suc at))
numbers-step number [] at within = absurd (omega (arith, within))
numbers-step number (None ∷ objects) zero within = refl
numbers-step number (Some found ∷ objects) zero within = refl
numbers-step number (one ∷ objects) (suc at) within = numbers-step number objects at (omega (arith, within))

-- so many objects as there are definitions
pub as_many : (view : ViewState) (definitions : List Def) → kinds_of view ≡ kept_kinds definitions → length view.objects ≡ length definitions
as_many view definitions same = sym (length-map view.objects (option_map kind_of)) ∙ ap length same ∙ length-map definitions kept_kind

-- those that are found so far, and those behind
abbrev pub IsSplit : ViewState → List ℕ → ℕ → Type 0
IsSplit view found at = found ++ numbers_from all at (drop at view.objects) ≡ seen_objects view

module _ (view : ViewState) (found : List ℕ) (at : ℕ) (split : IsSplit view found at) (within : at < length view.objects) where
  pub one_more : is_some (object_of view at) ≡ true → IsSplit view (found ++ at ∷ []) (at + 1)
  one_more there =
      let next : suc at ≡ at + 1 = omega arith in
      let rest = behind view.objects (at + 1) (suc at) in
      let step : behind view.objects at at ≡ at ∷ rest = numbers-step at view.objects at within ∙ ap (λ b. cond b (at ∷ rest) rest) there in
      subst (λ n. (found ++ at ∷ []) ++ behind view.objects (at + 1) n ≡ seen_objects view) next
      (append_assoc found (at ∷ []) rest ∙ ap (λ those. found ++ those) (sym step) ∙ split)

  pub none_there : is_some (object_of view at) ≡ false → IsSplit view found (at + 1)
  none_there missing =
      let next : suc at ≡ at + 1 = omega arith in
      let rest = behind view.objects (at + 1) (suc at) in
      let step : behind view.objects at at ≡ rest = numbers-step at view.objects at within ∙ ap (λ b. cond b (at ∷ rest) rest) missing in
      subst (λ n. found ++ behind view.objects (at + 1) n ≡ seen_objects view) next (ap (λ those. found ++ those) (sym step) ∙ split)
