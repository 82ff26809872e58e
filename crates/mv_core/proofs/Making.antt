-- The generations that changes make, where nothing blocks them.
use Rattle.std.specs.Prelude.{All}
use Rattle.std.specs.List.{cons_option}
use Rattle.std.specs.Option.{option_map, is_none}
use Rattle.std.proofs.Common.{◌≡◌, ◌∙◌, ℕ, zero, suc, ◌+◌, ◌==◌, ◌&&◌, Bool, true, false, cond, List, [], ◌∷◌, find, Option, Some, None, refl, sym, ap, ap₂, subst, arith, slice_get, nat_le, leb-false, eqb-true}
use Rattle.std.proofs.lemmas.Bool.{and_parts}
use Rattle.std.proofs.lemmas.List.Elements.{All-nil, All-cons}
use Rattle.aw_schema.specs.declared.definition.Def.{Def}
use Rattle.aw_body.specs.declared.body.Body.{Body}
use Rattle.aw_body.specs.declared.change.Change.{Change}
use Rattle.aw_body.specs.declared.change.Fresh.{Fresh}
use Rattle.aw_body.specs.BodyPatches.{applied}
use Rattle.aw_body.specs.Fitting.{fits}
use Rattle.aw_body.specs.KeptBodies.{fits_definition}
use Rattle.aw_body.proofs.CallerLemmas.{CanTake-fits, IsBodyOf-applied}
use Rattle.mv_core.specs.declared.object.Object.{Object}
use Rattle.mv_core.specs.Effects.{each_from, each, renewed_by, renewed, change_at, changed, committed}
use Rattle.mv_core.specs.Lookups.{kept_at}
use Rattle.mv_core.specs.Objects.{AreObjectsOf}
use Rattle.mv_core.specs.Prepared.{HasForm, IsOfForm}
use Rattle.mv_core.specs.Replies.{fits_object, may_make, first_refused, is_worn, first_worn, may_follow}
use Rattle.mv_core.specs.inside.Making.{made_by, made_of, CanMake, IsMakable}
use Rattle.mv_core.proofs.Forms.{form-kept}

abbrev Objects : Type 0
Objects = List (Option (Object Body))

-- ---- tests

pub cond-none : {A : Type 0} (b : Bool) (x : Option A) (y : A) → cond b x (Some y) ≡ None → (b ≡ true) × (x ≡ None)
cond-none true x y none = (refl, none)
cond-none false x y none = cc

find-none : {A B : Type 0} (f : A → B) (b : Bool) (x : A) (rest : Option A) → option_map f (cond b (Some x) rest) ≡ None → (b ≡ false) × (option_map f rest ≡ None)
find-none f true x rest none = cc
find-none f false x rest none = (refl, none)

-- ---- changes that may be made

-- a change that may be made fits
pub fits-made : (definitions : List Def) (objects : Objects) (by : Option ℕ) (c : Change) → may_make definitions objects by c ≡ true → fits_object definitions (kept_at objects c.object) c ≡ true
fits-made definitions objects None c may = may
fits-made definitions objects (Some who) c may = (and_parts _ _ may).1

-- changes of which none is refused or worn, each of a kept object that it fits and whose number can rise
abbrev MayBeMade : List Def → Objects → Change → Type 0
MayBeMade definitions objects c = (fits_object definitions (kept_at objects c.object) c ≡ true) × (is_worn (kept_at objects c.object) ≡ false)

may-all : (P : Change → Type 0) (definitions : List Def) (objects : Objects) (by : Option ℕ) (least : ℕ) (changes : List Change) → ((c : Change) → MayBeMade definitions objects c → P c) → first_refused (may_make definitions objects by) least changes ≡ None → first_worn objects changes ≡ None → All P changes
may-all P definitions objects by least [] each free fresh = All-nil P
may-all P definitions objects by least (c ∷ cs) each free fresh =
    let first = cond-none (nat_le least c.object && may_make definitions objects by c) (first_refused (may_make definitions objects by) (c.object + 1) cs) c.object free in
    let may = (and_parts (nat_le least c.object) (may_make definitions objects by c) first.0).1 in
    let worn = find-none (λ (d : Change). d.object) (is_worn (kept_at objects c.object)) c (find (λ (d : Change). is_worn (kept_at objects d.object)) cs) fresh in
    All-cons P c cs (each c (fits-made definitions objects by c may, worn.0)) (may-all P definitions objects by (c.object + 1) cs each first.1 worn.1)

-- ---- they can be made

fits-kept : (definitions : List Def) (c : Change) (it : Object Body) (def : Def) → slice_get definitions c.object ≡ Some def → fits_object definitions (Some it) c ≡ true → fits c.patch def.kind it.body ≡ true
fits-kept definitions c it def found fit =
    sym (ap (λ (one : Option Def). fits_definition one it.body c) found) ∙ fit

can-make : (definitions : List Def) (objects : Objects) (c : Change) (found : Option (Object Body)) → kept_at objects c.object ≡ found → AreObjectsOf definitions objects → fits_object definitions found c ≡ true → is_worn found ≡ false → CanMake c found
can-make definitions objects c None is are fit worn = tt
can-make definitions objects c (Some it) is are fit worn =
    let form = form-kept definitions objects c.object it are is in
    (omega (arith, leb-false _ _ worn), CanTake-fits c.patch form.0.kind it.body form.2 (fits-kept definitions c it form.0 form.1 fit))

pub makable : (definitions : List Def) (objects : Objects) (by : Option ℕ) (changes : List Change) → AreObjectsOf definitions objects → first_refused (may_make definitions objects by) 0 changes ≡ None → first_worn objects changes ≡ None → All (IsMakable objects) changes
makable definitions objects by changes are free fresh =
    may-all (IsMakable objects) definitions objects by 0 changes (λ c may. can-make definitions objects c (kept_at objects c.object) refl are may.0 may.1) free fresh

-- ---- what is made has the forms of the definitions

form-made : (definitions : List Def) (objects : Objects) (c : Change) (it : Object Body) → AreObjectsOf definitions objects → kept_at objects c.object ≡ Some it → IsOfForm definitions (made_by c it)
form-made definitions objects c it are found =
    let form = form-kept definitions objects c.object it are found in
    subst (HasForm (applied it.body c.patch)) (sym form.1) (IsBodyOf-applied form.0.kind it.body c.patch form.2)

pub forms-made : (definitions : List Def) (objects : Objects) (changes : List Change) → AreObjectsOf definitions objects → All (IsOfForm definitions) (made_of objects changes)
forms-made definitions objects [] are = All-nil (IsOfForm definitions)
forms-made definitions objects (c ∷ cs) are = step (kept_at objects c.object) refl (forms-made definitions objects cs are)
  where
    step : (found : Option (Object Body)) → kept_at objects c.object ≡ found → All (IsOfForm definitions) (made_of objects cs) → All (IsOfForm definitions) (cons_option (option_map (made_by c) found) (made_of objects cs))
    step None is others = others
    step (Some it) is others =
        All-cons (IsOfForm definitions) (made_by c it) (made_of objects cs) (form-made definitions objects c it are is) others

-- ---- what is made, in its place, is what the commit makes

abbrev put_on : Option Fresh → Object Body → Object Body
put_on found it = elim found [ None ↦ it | Some fresh ↦ renewed_by fresh it ]

abbrev for_object : ℕ → Fresh → Bool
for_object k fresh = fresh.object == k

-- where its object isn't kept, a change makes nothing
made-none : (objects : Objects) (k : ℕ) (it : Object Body) (c : Change) (cs : List Change) (same : Bool) → (c.object == k) ≡ same → kept_at objects k ≡ Some it → kept_at objects c.object ≡ None → renewed (made_of objects cs) k it ≡ changed it (change_at cs k) → renewed (made_of objects cs) k it ≡ changed it (cond same (Some c) (change_at cs k))
made-none objects k it c cs true same found none others =
    cc (found, none, ap (kept_at objects) (eqb-true c.object k same))
made-none objects k it c cs false same found none others = others

made-some : (objects : Objects) (k : ℕ) (it other : Object Body) (c : Change) (cs : List Change) (same : Bool) → (c.object == k) ≡ same → kept_at objects k ≡ Some it → kept_at objects c.object ≡ Some other → renewed (made_of objects cs) k it ≡ changed it (change_at cs k) → put_on (cond same (Some (made_by c other)) (find (for_object k) (made_of objects cs))) it ≡ changed it (cond same (Some c) (change_at cs k))
made-some objects k it other c cs true same found is others =
    let e : other ≡ it = cc (found, is, ap (kept_at objects) (eqb-true c.object k same)) in
    ap (λ (one : Object Body). let newer : Object Body = record it { number = one.number + 1; body = applied one.body c.patch } in newer) e
made-some objects k it other c cs false same found is others = others

-- of an object that is kept, the first change makes the first new generation
renewed-made : (objects : Objects) (k : ℕ) (it : Object Body) (changes : List Change) → kept_at objects k ≡ Some it → renewed (made_of objects changes) k it ≡ changed it (change_at changes k)
renewed-made objects k it [] found = refl
renewed-made objects k it (c ∷ cs) found =
    step (kept_at objects c.object) refl (renewed-made objects k it cs found)
  where
    step : (one : Option (Object Body)) → kept_at objects c.object ≡ one → renewed (made_of objects cs) k it ≡ changed it (change_at cs k) → renewed (cons_option (option_map (made_by c) one) (made_of objects cs)) k it ≡ changed it (cond (c.object == k) (Some c) (change_at cs k))
    step None is others = made-none objects k it c cs (c.object == k) refl found is others
    step (Some other) is others = made-some objects k it other c cs (c.object == k) refl found is others

-- objects that are there alone are changed
map-where : (f g : Object Body → Object Body) (found : Option (Object Body)) → ((it : Object Body) → found ≡ Some it → f it ≡ g it) → option_map f found ≡ option_map g found
map-where f g None same = refl
map-where f g (Some it) same = ap Some (same it refl)

each-where : (f g : ℕ → Object Body → Object Body) (objects : Objects) (at : ℕ) → ((n k : ℕ) (it : Object Body) → at + k ≡ n → kept_at objects k ≡ Some it → f n it ≡ g n it) → each_from f at objects ≡ each_from g at objects
each-where f g [] at same = refl
each-where f g (one ∷ objects) at same =
    let here : at + zero ≡ at = omega arith in
    ap₂ (λ (found : Option (Object Body)) (others : Objects). found ∷ others)
    (map-where (f at) (g at) one (λ it is. same at zero it here is))
    (each-where f g objects (at + 1) (λ n k it place found. same n (suc k) it (omega (arith, place)) found))

pub renewed-committed : (objects : Objects) (changes : List Change) → each (renewed (made_of objects changes)) objects ≡ committed objects changes
renewed-committed objects changes =
    each-where (renewed (made_of objects changes)) (λ at it. changed it (change_at changes at)) objects 0 (λ n k it place found.
    let e : n ≡ k = omega (arith, place) in
    renewed-made objects n it changes (ap (kept_at objects) e ∙ found))

none-of : {A : Type 0} (found : Option A) → is_none found ≡ true → found ≡ None
none-of None none = refl
none-of (Some one) none = cc

-- of changes that may follow none is refused, and none worn
pub follow-free : (definitions : List Def) (objects : Objects) (changes : List Change) → may_follow definitions objects changes ≡ true → (first_refused (may_make definitions objects None) 0 changes ≡ None) × (first_worn objects changes ≡ None)
follow-free definitions objects changes may =
    let refused = first_refused (may_make definitions objects None) 0 changes in
    let parts = and_parts (is_none refused) (is_none (first_worn objects changes)) may in
    (none-of refused parts.0, none-of (first_worn objects changes) parts.1)

pub follow-makable : (definitions : List Def) (objects : Objects) (changes : List Change) → AreObjectsOf definitions objects → may_follow definitions objects changes ≡ true → All (IsMakable objects) changes
follow-makable definitions objects changes are may =
    let free = follow-free definitions objects changes may in
    makable definitions objects None changes are free.0 free.1
