-- Bodies keep the forms of their definitions, whatever is done.
use Rattle.std.proofs.Common.{◌≡◌, ◌∙◌, ℕ, zero, suc, ◌+◌, ◌==◌, Bool, true, false, cond, List, [], ◌∷◌, ◌++◌, length, take, drop, find, Option, Some, None, refl, sym, ap, subst, arith, slice_get, eqb-true, if◌then◌else◌}
use Rattle.std.specs.Option.{option_map}
use Rattle.std.specs.Prelude.{MatchOption, ⊤, All}
use Rattle.std.proofs.lemmas.List.Elements.{All-tail}
use Rattle.aw_schema.specs.declared.definition.Def.{Def}
use Rattle.aw_schema.specs.declared.definition.DefKind.{DefKind}
use Rattle.aw_body.specs.declared.body.Body.{Body}
use Rattle.aw_body.specs.declared.change.Fresh.{Fresh}
use Rattle.aw_body.specs.Bodies.{IsBodyOf}
use Rattle.mv_core.specs.declared.object.Object.{Object}
use Rattle.mv_core.specs.declared.ready.Todo.{Todo}
use Rattle.mv_core.specs.declared.ready.Todo.TheVariants.{Nothing, Take, Renew, Free, FreeAll}
use Rattle.mv_core.specs.Effects.{each_from, each, is_listed, take_listed, free_listed, free_own, owned_by, freed_by, renewed_by, renewed}
use Rattle.mv_core.specs.Lookups.{kept_at, is_own}
use Rattle.mv_core.specs.Objects.{IsObjectOf, AreObjectsOf, IsTable}
use Rattle.mv_core.specs.Prepared.{settled, HasForm, IsOfForm, HasForms}
use Rattle.mv_core.proofs.Each.{length-each, written-back}

abbrev Objects : Type 0
Objects = List (Option (Object Body))

-- ---- looking up

-- a kept object has a definition, whose form its body has
pub form-kept : (definitions : List Def) (objects : Objects) (k : ℕ) (it : Object Body) → AreObjectsOf definitions objects → kept_at objects k ≡ Some it → (def : Def) × (slice_get definitions k ≡ Some def) × IsBodyOf def.kind it.body
form-kept [] [] k it are found = cc
form-kept [] (one ∷ objects) k it are found = absurd are
form-kept (def ∷ definitions) [] k it are found = absurd are
form-kept (def ∷ definitions) (one ∷ objects) zero it are found =
    (def, refl, subst (IsObjectOf def.kind) found are.0)
form-kept (def ∷ definitions) (one ∷ objects) (suc k) it are found = form-kept definitions objects k it are.1 found

-- ---- each object by itself

form-one : (kind : DefKind) (f : Object Body → Object Body) (found : Option (Object Body)) → ((it : Object Body) → IsBodyOf kind it.body → IsBodyOf kind (f it).body) → IsObjectOf kind found → IsObjectOf kind (option_map f found)
form-one kind f None keeps is = is
form-one kind f (Some it) keeps is = keeps it is

pub forms-each : (definitions : List Def) (objects : Objects) (at : ℕ) (f : ℕ → Object Body → Object Body) → ((n k : ℕ) (def : Def) (it : Object Body) → at + k ≡ n → slice_get definitions k ≡ Some def → IsBodyOf def.kind it.body → IsBodyOf def.kind (f n it).body) → AreObjectsOf definitions objects → AreObjectsOf definitions (each_from f at objects)
forms-each [] [] at f keeps are = tt
forms-each [] (one ∷ objects) at f keeps are = absurd are
forms-each (def ∷ definitions) [] at f keeps are = absurd are
forms-each (def ∷ definitions) (one ∷ objects) at f keeps are =
    let here : at + zero ≡ at = omega arith in (
      form-one def.kind (f at) one (λ it form. keeps at zero def it here refl form) are.0,
      forms-each definitions objects (at + 1) f (λ n k other it place found form. keeps n (suc k) other it (omega (arith, place)) found form) are.1,
    )

-- what keeps the bodies keeps their forms
forms-same : (definitions : List Def) (objects : Objects) (f : ℕ → Object Body → Object Body) → ((k : ℕ) (it : Object Body) → (f k it).body ≡ it.body) → AreObjectsOf definitions objects → AreObjectsOf definitions (each f objects)
forms-same definitions objects f same are =
    forms-each definitions objects 0 f (λ n k def it place found form. subst (IsBodyOf def.kind) (sym (same n it)) form) are

body-if : (b : Bool) (one it : Object Body) → one.body ≡ it.body → (if b then one else it).body ≡ it.body
body-if true one it same = same
body-if false one it same = refl

body-freed : (who : ℕ) (it : Object Body) → (freed_by who it).body ≡ it.body
body-freed who it = body-if (is_own who (Some it)) (record it { owner = None }) it refl

pub forms-taken : (definitions : List Def) (objects : Objects) (who : ℕ) (listed : List ℕ) → AreObjectsOf definitions objects → AreObjectsOf definitions (each (take_listed who listed) objects)
forms-taken definitions objects who listed are =
    forms-same definitions objects (take_listed who listed) (λ k it. body-if (is_listed listed k) (owned_by who it) it refl) are

pub forms-freed : (definitions : List Def) (objects : Objects) (who : ℕ) (listed : List ℕ) → AreObjectsOf definitions objects → AreObjectsOf definitions (each (free_listed who listed) objects)
forms-freed definitions objects who listed are =
    forms-same definitions objects (free_listed who listed) (λ k it. body-if (is_listed listed k) (freed_by who it) it (body-freed who it)) are

pub forms-all_freed : (definitions : List Def) (objects : Objects) (who : ℕ) → AreObjectsOf definitions objects → AreObjectsOf definitions (each (free_own who) objects)
forms-all_freed definitions objects who are =
    forms-same definitions objects (free_own who) (λ k it. body-freed who it) are

-- ---- new generations

abbrev for_object : ℕ → Fresh → Bool
for_object k fresh = fresh.object == k

abbrev put_on : Option Fresh → Object Body → Object Body
put_on found it = elim found [ None ↦ it | Some fresh ↦ renewed_by fresh it ]

-- the new generation that is there for an object is one of the list
found-in : (made : List Fresh) (k : ℕ) (P : Fresh → Type 0) → All P made → MatchOption (find (for_object k) made) ⊤ (λ fresh. (fresh.object ≡ k) × P fresh)
found-in [] k P all = tt
found-in (one ∷ made) k P all = step (one.object == k) refl (found-in made k P (All-tail P one made all))
  where
    step : (same : Bool) → (one.object == k) ≡ same → MatchOption (find (for_object k) made) ⊤ (λ fresh. (fresh.object ≡ k) × P fresh) → MatchOption (cond same (Some one) (find (for_object k) made)) ⊤ (λ fresh. (fresh.object ≡ k) × P fresh)
    step true same others = (eqb-true one.object k same, all 0 one (omega arith))
    step false same others = others

match-map : (found : Option Fresh) (P Q : Fresh → Type 0) → ((fresh : Fresh) → P fresh → Q fresh) → MatchOption found ⊤ P → MatchOption found ⊤ Q
match-map None P Q to has = tt
match-map (Some fresh) P Q to has = to fresh has

renewed-form : (kind : DefKind) (it : Object Body) (found : Option Fresh) → MatchOption found ⊤ (λ fresh. IsBodyOf kind fresh.body) → IsBodyOf kind it.body → IsBodyOf kind (put_on found it).body
renewed-form kind it None has form = form
renewed-form kind it (Some fresh) has form = has

pub forms-renewed : (definitions : List Def) (objects : Objects) (made : List Fresh) → All (IsOfForm definitions) made → AreObjectsOf definitions objects → AreObjectsOf definitions (each (renewed made) objects)
forms-renewed definitions objects made all are =
    forms-each definitions objects 0 (renewed made) (λ n k def it place found form.
    renewed-form def.kind it (find (for_object n) made)
    (match-map (find (for_object n) made) (λ fresh. (fresh.object ≡ n) × IsOfForm definitions fresh) (λ fresh. IsBodyOf def.kind fresh.body) (λ fresh has.
    let same : fresh.object ≡ k = omega (arith, has.0, place) in
    subst (HasForm fresh.body) (ap (slice_get definitions) same ∙ found) has.1) (found-in made n (IsOfForm definitions) all)) form) are

-- ---- what is settled

pub IsTable-settled : (definitions : List Def) (objects : Objects) (todo : Todo) → HasForms definitions todo → IsTable definitions objects → IsTable definitions (settled objects todo)
IsTable-settled definitions objects Nothing forms is = is
IsTable-settled definitions objects (Take who listed) forms is =
    record { most = is.most; all = forms-taken definitions objects who listed is.all }
IsTable-settled definitions objects (Renew who made leave) forms is =
    record { most = is.most; all = forms-freed definitions (each (renewed made) objects) who leave (forms-renewed definitions objects made forms is.all) }
IsTable-settled definitions objects (Free who listed) forms is =
    record { most = is.most; all = forms-freed definitions objects who listed is.all }
IsTable-settled definitions objects (FreeAll who) forms is =
    record { most = is.most; all = forms-all_freed definitions objects who is.all }

pub length-settled : (objects : Objects) (todo : Todo) → length (settled objects todo) ≡ length objects
length-settled objects Nothing = refl
length-settled objects (Take who listed) = length-each (take_listed who listed) 0 objects
length-settled objects (Renew who made leave) =
    length-each (free_listed who leave) 0 (each (renewed made) objects) ∙ length-each (renewed made) 0 objects
length-settled objects (Free who listed) = length-each (free_listed who listed) 0 objects
length-settled objects (FreeAll who) = length-each (free_own who) 0 objects

-- what is settled in objects that were lent stands in the table
pub settled-back : (definitions : List Def) (n : ℕ) (items new old : Objects) (todo : Todo) → n ≡ length items → old ≡ items → new ≡ settled old todo → HasForms definitions todo → IsTable definitions items → IsTable definitions (take n (new ++ drop (length new) items))
settled-back definitions n items new old todo len lent done forms is =
    let back = written-back n items new old len lent (ap length done ∙ length-settled old todo) in
    subst (IsTable definitions) (sym (back ∙ done ∙ ap (λ (objects : Objects). settled objects todo) lent)) (IsTable-settled definitions items todo forms is)

-- and so does what is made
pub made-back : (definitions : List Def) (n : ℕ) (items new old : Objects) (made : List Fresh) → n ≡ length items → old ≡ items → new ≡ each (renewed made) old → All (IsOfForm definitions) made → IsTable definitions items → IsTable definitions (take n (new ++ drop (length new) items))
made-back definitions n items new old made len lent done forms is =
    let back = written-back n items new old len lent (ap length done ∙ length-each (renewed made) 0 old) in
    subst (IsTable definitions) (sym (back ∙ done ∙ ap (each (renewed made)) lent)) (record { most = is.most; all = forms-renewed definitions items made forms is.all })

pub length-objects : (definitions : List Def) (objects : Objects) → AreObjectsOf definitions objects → length objects ≡ length definitions
length-objects [] [] are = refl
length-objects [] (one ∷ objects) are = absurd are
length-objects (def ∷ definitions) [] are = absurd are
length-objects (def ∷ definitions) (one ∷ objects) are = ap suc (length-objects definitions objects are.1)
