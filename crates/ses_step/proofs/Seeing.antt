-- What a view has of the objects of its definitions.
use Rattle.std.specs.Prelude.{ℕ, zero, suc, ◌≡◌, Bool, true, false, cond, List, [], ◌∷◌, map, Option, Some, None, is_some, slice_get}
use Rattle.std.specs.Option.{option_map, option_and_then}
use Rattle.std.proofs.Common.{◌∙◌, ap, sym, refl, subst}
use Rattle.aw_schema.specs.declared.definition.Def.{Def}
use Rattle.aw_schema.specs.Definitions.{is_kept}
use Rattle.mv_view.specs.Each.{object_in}
use Rattle.mv_view.specs.ViewState.{ObjectView, ViewState, object_of, kind_of, kinds_of, kept_kind, kept_kinds, owned_objects, AreOwned}
use Rattle.mv_view.proofs.callers.OwnedObjects.{owned-listed}

-- ---- definitions

mapped : {X Y : Type 0} (f : X → Y) (xs : List (Option X)) (object : ℕ) → object_in (map (option_map f) xs) object ≡ option_map f (object_in xs object)
mapped f [] object = refl
mapped f (x ∷ xs) zero = refl
mapped f (x ∷ xs) (suc object) = mapped f xs object

kept-at : (definitions : List Def) (object : ℕ) → object_in (kept_kinds definitions) object ≡ option_and_then kept_kind (slice_get definitions object)
kept-at [] object = refl
kept-at (def ∷ definitions) zero = refl
kept-at (def ∷ definitions) (suc object) = kept-at definitions object

module _ (view : ViewState) (definitions : List Def) (same : kinds_of view ≡ kept_kinds definitions) (object : ℕ) where
  pub kind-at : option_map kind_of (object_of view object) ≡ option_and_then kept_kind (slice_get definitions object)
  kind-at = mapped' ∙ ap (λ kinds. object_in kinds object) same ∙ kept-at definitions object
    where
      mapped' : option_map kind_of (object_of view object) ≡ object_in (kinds_of view) object
      mapped' = sym (mapped kind_of view.objects object)

  -- an object of the definitions is seen where it is kept
  pub seen-defined : (def : Def) → slice_get definitions object ≡ Some def → is_kept def.kind ≡ is_some (object_of view object)
  seen-defined def is = by_kept (is_kept def.kind) (object_of view object) (kind-at ∙ ap (option_and_then kept_kind) is)
    where
      by_kept : (b : Bool) (found : Option ObjectView) → option_map kind_of found ≡ cond b (Some def.kind) None → b ≡ is_some found
      by_kept true None e = cc
      by_kept true (Some one) e = refl
      by_kept false None e = refl
      by_kept false (Some one) e = cc

  pub seen-undefined : slice_get definitions object ≡ None → false ≡ is_some (object_of view object)
  seen-undefined is = by_found (object_of view object) (kind-at ∙ ap (option_and_then kept_kind) is)
    where
      by_found : (found : Option ObjectView) → option_map kind_of found ≡ None → false ≡ is_some found
      by_found None e = refl
      by_found (Some one) e = cc

  -- what is seen has the definition's kind
  pub kind-seen : (found : ObjectView) (def : Def) → object_of view object ≡ Some found → slice_get definitions object ≡ Some def → found.kind ≡ def.kind
  kind-seen found def there is = by_kept (is_kept def.kind) (sym (ap (option_map kind_of) there) ∙ kind-at ∙ ap (option_and_then kept_kind) is)
    where
      by_kept : (b : Bool) → Some found.kind ≡ cond b (Some def.kind) None → found.kind ≡ def.kind
      by_kept true e = cc
      by_kept false e = cc

-- ---- the objects that a session owns

pub owned_listed : (view : ViewState) (those : List ℕ) → those ≡ owned_objects view → AreOwned view those
owned_listed view those are = subst (AreOwned view) (sym are) (owned-listed view)
