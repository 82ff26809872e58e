-- The kinds of definitions that are kept, and what is looked up at their numbers.
use Rattle.std.specs.Prelude.{◌≡◌, ◌<◌, ℕ, zero, suc, Bool, true, false, cond, List, [], ◌∷◌, length, map, Option, Some, None, IfSome, slice_get, refl}
use Rattle.std.specs.Option.{option_map}
use Rattle.std.proofs.Common.{◌∙◌, ap, sym, subst, arith}
use Rattle.std.proofs.lemmas.List.{length-map}
use Rattle.std.proofs.lemmas.Option.{same_Some}
use Rattle.aw_schema.specs.declared.definition.Def.{Def}
use Rattle.aw_schema.specs.declared.definition.DefKind.{DefKind}
use Rattle.aw_schema.specs.Definitions.{is_kept}
use Rattle.mv_view.specs.Each.{object_in}
use Rattle.mv_view.specs.ViewState.{ObjectView, ViewState, object_of, kind_of, kinds_of, kept_kind, kept_kinds}
use Rattle.mv_view.proofs.callers.Each.{object_in-within}

-- ---- what may be there

pub if-some : {X : Type 0} (P : X → Type 0) (found : Option X) (x : X) → found ≡ Some x → IfSome found P → P x
if-some P found x is holds = subst (λ those. IfSome those P) is holds

pub each-some : {X : Type 0} (P : X → Type 0) (found : Option X) → ((x : X) → found ≡ Some x → P x) → IfSome found P
each-some P None each = tt
each-some P (Some x) each = each x refl

pub if-and : {X : Type 0} (P Q : X → Type 0) (found : Option X) → ((x : X) → found ≡ Some x → P x → Q x) → IfSome found P → IfSome found Q
if-and P Q None each holds = tt
if-and P Q (Some x) each holds = each x refl holds

-- ---- the kind of a kept object

module _ (P : DefKind → Type 0) where
  one-kept : (def : Def) (kept : Bool) → is_kept def.kind ≡ kept → (is_kept def.kind ≡ true → P def.kind) → IfSome (cond kept (Some def.kind) None) P
  one-kept def true is each = each is
  one-kept def false is each = tt

  -- what holds of each kept definition holds of what is looked up
  pub for-kept : (definitions : List Def) (object : ℕ) → ((def : Def) → slice_get definitions object ≡ Some def → is_kept def.kind ≡ true → P def.kind) → IfSome (object_in (kept_kinds definitions) object) P
  for-kept [] object each = tt
  for-kept (def ∷ definitions) zero each = one-kept def (is_kept def.kind) refl (each def refl)
  for-kept (def ∷ definitions) (suc object) each = for-kept definitions object each

pub record IsKeptAt (definitions : List Def) (object : ℕ) (kind : DefKind) : Type 0 where
  pub def : Def
  pub there : slice_get definitions object ≡ Some def
  pub kept : is_kept def.kind ≡ true
  pub kind_is : def.kind ≡ kind

kept-first : (def : Def) (definitions : List Def) (kind : DefKind) (kept : Bool) → is_kept def.kind ≡ kept → cond kept (Some def.kind) None ≡ Some kind → IsKeptAt (def ∷ definitions) zero kind
kept-first def definitions kind true is found = record { def = def; there = refl; kept = is; kind_is = same_Some def.kind kind found }
kept-first def definitions kind false is found = cc

-- the definition of a kept object
pub kept-here : (definitions : List Def) (object : ℕ) (kind : DefKind) → object_in (kept_kinds definitions) object ≡ Some kind → IsKeptAt definitions object kind
kept-here [] object kind found = cc
kept-here (def ∷ definitions) zero kind found = kept-first def definitions kind (is_kept def.kind) refl found
kept-here (def ∷ definitions) (suc object) kind found =
    let it = kept-here definitions object kind found in
    record { def = it.def; there = it.there; kept = it.kept; kind_is = it.kind_is }

-- an object whose definition is kept
pub here-kept : (definitions : List Def) (object : ℕ) (def : Def) → slice_get definitions object ≡ Some def → is_kept def.kind ≡ true → object_in (kept_kinds definitions) object ≡ Some def.kind
here-kept [] object def there kept = cc
here-kept (first ∷ definitions) zero def there kept =
    let same : first ≡ def = same_Some first def there in
    ap kept_kind same ∙ ap (λ (b : Bool). cond b (Some def.kind) None) kept
here-kept (first ∷ definitions) (suc object) def there kept = here-kept definitions object def there kept

-- it is one of the definitions
pub kept-within : (definitions : List Def) (object : ℕ) (kind : DefKind) → object_in (kept_kinds definitions) object ≡ Some kind → object < length definitions
kept-within definitions object kind found =
    omega (arith, object_in-within (kept_kinds definitions) object kind found, length-map definitions kept_kind)

-- ---- what a session sees of a kept object

object_in-mapped : {X Y : Type 0} (f : X → Y) (objects : List (Option X)) (object : ℕ) → object_in (map (option_map f) objects) object ≡ option_map f (object_in objects object)
object_in-mapped f [] object = refl
object_in-mapped f (found ∷ objects) zero = refl
object_in-mapped f (found ∷ objects) (suc object) = object_in-mapped f objects object

-- an object that is seen is kept, with its kind
pub seen-kept : (definitions : List Def) (view : ViewState) (object : ℕ) (found : ObjectView) → kinds_of view ≡ kept_kinds definitions → object_of view object ≡ Some found → object_in (kept_kinds definitions) object ≡ Some found.kind
seen-kept definitions view object found kinds seen =
    sym (ap (λ those. object_in those object) kinds) ∙ object_in-mapped kind_of view.objects object ∙ ap (option_map kind_of) seen

mapped-some : (found : Option ObjectView) (kind : DefKind) → option_map kind_of found ≡ Some kind → (one : ObjectView) × (found ≡ Some one) × (one.kind ≡ kind)
mapped-some None kind is = cc
mapped-some (Some one) kind is = (one, refl, same_Some one.kind kind is)

-- an object that one view has another of the same definitions has
pub seen-before : (now before : ViewState) (object : ℕ) (one : ObjectView) → kinds_of now ≡ kinds_of before → object_of now object ≡ Some one → (found : ObjectView) × (object_of before object ≡ Some found)
seen-before now before object one kinds seen =
    let it = mapped-some (object_of before object) one.kind (sym (object_in-mapped kind_of before.objects object) ∙ sym (ap (λ those. object_in those object) kinds) ∙ object_in-mapped kind_of now.objects object ∙ ap (option_map kind_of) seen) in
    (it.0, it.1)

-- a kept object is seen
pub kept-seen : (definitions : List Def) (view : ViewState) (object : ℕ) (kind : DefKind) → kinds_of view ≡ kept_kinds definitions → object_in (kept_kinds definitions) object ≡ Some kind → (found : ObjectView) × (object_of view object ≡ Some found) × (found.kind ≡ kind)
kept-seen definitions view object kind kinds there =
    mapped-some (object_of view object) kind (sym (object_in-mapped kind_of view.objects object) ∙ ap (λ those. object_in those object) kinds ∙ there)
