-- What is done to each object by itself.
use Rattle.std.proofs.Common.{◌≡◌, ◌≢◌, ◌∙◌, ◌<◌, ◌≤◌, ℕ, zero, suc, ◌+◌, ◌==◌, ◌||◌, Bool, true, false, cond, List, [], ◌∷◌, ◌++◌, length, map, set, get_or, take, drop, drop_of_length-le, append-nil, find, arith, eq-eqb, ne_eqb, Option, Some, None, refl, sym, ap, ap₂, subst, if◌then◌else◌}
use Rattle.std.proofs.lemmas.List.{drop_more, take_all, take-append-drop}
use Rattle.std.specs.Option.{option_map, option_or}
use Rattle.aw_body.specs.declared.body.Body.{Body}
use Rattle.aw_body.specs.declared.change.Fresh.{Fresh}
use Rattle.mv_core.specs.declared.object.Object.{Object}
use Rattle.mv_core.specs.Lookups.{is_own}
use Rattle.mv_core.specs.Effects.{each_from, each, is_listed, owned_by, freed_by, take_listed, free_listed, free_own, renewed_by, renewed}

abbrev Objects : Type 0
Objects = List (Option (Object Body))

cons : (one other : Option (Object Body)) (rest others : Objects) → one ≡ other → rest ≡ others → one ∷ rest ≡ other ∷ others
cons one other rest others is are = ap₂ (λ (x : Option (Object Body)) (xs : Objects). x ∷ xs) is are

-- ---- one thing after the other

map-composed : (f g : Object Body → Object Body) (found : Option (Object Body)) → option_map f (option_map g found) ≡ option_map (λ it. f (g it)) found
map-composed f g None = refl
map-composed f g (Some it) = refl

map-same : (f g : Object Body → Object Body) → ((it : Object Body) → f it ≡ g it) → (found : Option (Object Body)) → option_map f found ≡ option_map g found
map-same f g same None = refl
map-same f g same (Some it) = ap Some (same it)

pub each-composed : (f g : ℕ → Object Body → Object Body) (at : ℕ) (objects : Objects) → each_from f at (each_from g at objects) ≡ each_from (λ k it. f k (g k it)) at objects
each-composed f g at [] = refl
each-composed f g at (found ∷ objects) =
    cons (option_map (f at) (option_map (g at) found)) (option_map (λ it. f at (g at it)) found) (each_from f (at + 1) (each_from g (at + 1) objects)) (each_from (λ k it. f k (g k it)) (at + 1) objects) (map-composed (f at) (g at) found) (each-composed f g (at + 1) objects)

pub each-same : (f g : ℕ → Object Body → Object Body) → ((k : ℕ) (it : Object Body) → f k it ≡ g k it) → (at : ℕ) (objects : Objects) → each_from f at objects ≡ each_from g at objects
each-same f g same at [] = refl
each-same f g same at (found ∷ objects) =
    cons (option_map (f at) found) (option_map (g at) found) (each_from f (at + 1) objects) (each_from g (at + 1) objects) (map-same (f at) (g at) (same at) found) (each-same f g same (at + 1) objects)

map-still : (f : Object Body → Object Body) → ((it : Object Body) → f it ≡ it) → (found : Option (Object Body)) → option_map f found ≡ found
map-still f still None = refl
map-still f still (Some it) = ap Some (still it)

-- what changes no object leaves them
pub each-still : (f : ℕ → Object Body → Object Body) → ((k : ℕ) (it : Object Body) → f k it ≡ it) → (at : ℕ) (objects : Objects) → each_from f at objects ≡ objects
each-still f still at [] = refl
each-still f still at (found ∷ objects) =
    cons (option_map (f at) found) found (each_from f (at + 1) objects) objects (map-still (f at) (still at) found) (each-still f still (at + 1) objects)

pub length-each : (f : ℕ → Object Body → Object Body) (at : ℕ) (objects : Objects) → length (each_from f at objects) ≡ length objects
length-each f at [] = refl
length-each f at (found ∷ objects) = ap suc (length-each f (at + 1) objects)

-- ---- lists of objects, one more at a time

more : (f : Object Body → Object Body) → ((it : Object Body) → f (f it) ≡ f it) → (it : Object Body) (first others : Bool) → (if others then f (if first || false then f it else it) else (if first || false then f it else it)) ≡ (if first || others then f it else it)
more f twice it true true = twice it
more f twice it true false = refl
more f twice it false true = refl
more f twice it false false = refl

-- taking one and then the others is taking all
pub take_listed-cons : (who object : ℕ) (others : List ℕ) (objects : Objects) → each (take_listed who others) (each (take_listed who (object ∷ [])) objects) ≡ each (take_listed who (object ∷ others)) objects
take_listed-cons who object others objects =
    each-composed (take_listed who others) (take_listed who (object ∷ [])) 0 objects
    ∙ each-same (λ k it. take_listed who others k (take_listed who (object ∷ []) k it)) (take_listed who (object ∷ others)) (λ k it. more (owned_by who) (λ one. refl) it (object == k) (is_listed others k)) 0 objects

freed-if : (who : ℕ) (it : Object Body) (own : Bool) → is_own who (Some it) ≡ own → freed_by who (if own then record it { owner = None } else it) ≡ (if own then record it { owner = None } else it)
freed-if who it true is = refl
freed-if who it false is = ap (λ own. if own then record it { owner = None } else it) is

freed-twice : (who : ℕ) (it : Object Body) → freed_by who (freed_by who it) ≡ freed_by who it
freed-twice who it = freed-if who it (is_own who (Some it)) refl

-- giving up one and then the others is giving up all
pub free_listed-cons : (who object : ℕ) (others : List ℕ) (objects : Objects) → each (free_listed who others) (each (free_listed who (object ∷ [])) objects) ≡ each (free_listed who (object ∷ others)) objects
free_listed-cons who object others objects =
    each-composed (free_listed who others) (free_listed who (object ∷ [])) 0 objects
    ∙ each-same (λ k it. free_listed who others k (free_listed who (object ∷ []) k it)) (free_listed who (object ∷ others)) (λ k it. more (freed_by who) (freed-twice who) it (object == k) (is_listed others k)) 0 objects

-- ---- new generations, the last one first

abbrev put_on : Option Fresh → Object Body → Object Body
put_on found it = elim found [ None ↦ it | Some fresh ↦ renewed_by fresh it ]

put-or : (found last : Option Fresh) (it : Object Body) → put_on found (put_on last it) ≡ put_on (option_or found last) it
put-or None last it = refl
put-or (Some fresh) None it = refl
put-or (Some fresh) (Some other) it = refl

find-last : (p : Fresh → Bool) (made : List Fresh) (last : Fresh) → option_or (find p made) (find p (last ∷ [])) ≡ find p (made ++ last ∷ [])
find-last p [] last = refl
find-last p (fresh ∷ made) last = step (p fresh) (find-last p made last)
  where
    step : (b : Bool) → option_or (find p made) (find p (last ∷ [])) ≡ find p (made ++ last ∷ []) → option_or (cond b (Some fresh) (find p made)) (find p (last ∷ [])) ≡ cond b (Some fresh) (find p (made ++ last ∷ []))
    step true same = refl
    step false same = same

renewed-last : (made : List Fresh) (last : Fresh) (k : ℕ) (it : Object Body) → renewed made k (renewed (last ∷ []) k it) ≡ renewed (made ++ last ∷ []) k it
renewed-last made last k it =
    put-or (find (λ (fresh : Fresh). fresh.object == k) made) (find (λ (fresh : Fresh). fresh.object == k) (last ∷ [])) it
    ∙ ap (λ found. put_on found it) (find-last (λ (fresh : Fresh). fresh.object == k) made last)

pub renewed-append : (made : List Fresh) (last : Fresh) (objects : Objects) → each (renewed made) (each (renewed (last ∷ [])) objects) ≡ each (renewed (made ++ last ∷ [])) objects
renewed-append made last objects =
    each-composed (renewed made) (renewed (last ∷ [])) 0 objects
    ∙ each-same (λ k it. renewed made k (renewed (last ∷ []) k it)) (renewed (made ++ last ∷ [])) (renewed-last made last) 0 objects

-- ---- one object

still-from : (f : ℕ → Object Body → Object Body) (at : ℕ) (objects : Objects) → ((m : ℕ) (it : Object Body) → at ≤ m → f m it ≡ it) → each_from f at objects ≡ objects
still-from f at [] still = refl
still-from f at (found ∷ objects) still =
    cons (option_map (f at) found) found (each_from f (at + 1) objects) objects (map-still (f at) (λ it. still at it (omega arith)) found) (still-from f (at + 1) objects (λ m it above. still m it (omega (arith, above))))

-- what changes one object alone is a write in its place
set-from : (f : ℕ → Object Body → Object Body) (n k at : ℕ) (objects : Objects) (d : Option (Object Body)) → at + k ≡ n → k < length objects → ((m : ℕ) (it : Object Body) → m ≢ n → f m it ≡ it) → set objects k (option_map (f n) (get_or objects k d)) ≡ each_from f at objects
set-from f n k at [] d place within alone = absurd (omega (arith, within))
set-from f n zero at (found ∷ objects) d place within alone =
    let here : n ≡ at = omega (arith, place) in
    cons (option_map (f n) found) (option_map (f at) found) objects (each_from f (at + 1) objects) (ap (λ m. option_map (f m) found) here) (sym (still-from f (at + 1) objects (λ m it above. alone m it (λ same. absurd (omega (arith, above, same, place))))))
set-from f n (suc k) at (found ∷ objects) d place within alone =
    cons found (option_map (f at) found) (set objects k (option_map (f n) (get_or objects k d))) (each_from f (at + 1) objects) (sym (map-still (f at) (λ it. alone at it (λ same. absurd (omega (arith, same, place)))) found)) (set-from f n k (at + 1) objects d (omega (arith, place)) (omega (arith, within)) alone)

past-from : (f : ℕ → Object Body → Object Body) (n at : ℕ) (objects : Objects) → at + length objects ≤ n → ((m : ℕ) (it : Object Body) → m ≢ n → f m it ≡ it) → objects ≡ each_from f at objects
past-from f n at [] past alone = refl
past-from f n at (found ∷ objects) past alone =
    cons found (option_map (f at) found) objects (each_from f (at + 1) objects) (sym (map-still (f at) (λ it. alone at it (λ same. absurd (omega (arith, past, same)))) found)) (past-from f n (at + 1) objects (omega (arith, past)) alone)

pub each-set : (f : ℕ → Object Body → Object Body) (g : Object Body → Object Body) (n : ℕ) (objects : Objects) (d : Option (Object Body)) → n < length objects → ((it : Object Body) → g it ≡ f n it) → ((m : ℕ) (it : Object Body) → m ≢ n → f m it ≡ it) → set objects n (option_map g (get_or objects n d)) ≡ each f objects
each-set f g n objects d within same alone =
    ap (set objects n) (map-same g (f n) same (get_or objects n d)) ∙ set-from f n n 0 objects d (omega arith) within alone

pub each-past : (f : ℕ → Object Body → Object Body) (n : ℕ) (objects : Objects) → length objects ≤ n → ((m : ℕ) (it : Object Body) → m ≢ n → f m it ≡ it) → objects ≡ each f objects
each-past f n objects past alone = past-from f n 0 objects (omega (arith, past)) alone

-- ---- one listed object

taken-here : (who n : ℕ) (it : Object Body) → owned_by who it ≡ take_listed who (n ∷ []) n it
taken-here who n it = sym (ap (λ b. if b || false then owned_by who it else it) (eq-eqb n n refl))

taken-other : (who n m : ℕ) (it : Object Body) → m ≢ n → take_listed who (n ∷ []) m it ≡ it
taken-other who n m it differs = ap (λ b. if b || false then owned_by who it else it) (ne_eqb n m (λ same. differs (sym same)))

freed-here : (who n : ℕ) (it : Object Body) → freed_by who it ≡ free_listed who (n ∷ []) n it
freed-here who n it = sym (ap (λ b. if b || false then freed_by who it else it) (eq-eqb n n refl))

freed-other : (who n m : ℕ) (it : Object Body) → m ≢ n → free_listed who (n ∷ []) m it ≡ it
freed-other who n m it differs = ap (λ b. if b || false then freed_by who it else it) (ne_eqb n m (λ same. differs (sym same)))

renewed-here : (fresh : Fresh) (it : Object Body) → renewed_by fresh it ≡ renewed (fresh ∷ []) fresh.object it
renewed-here fresh it = sym (ap (λ b. put_on (cond b (Some fresh) None) it) (eq-eqb fresh.object fresh.object refl))

renewed-other : (fresh : Fresh) (m : ℕ) (it : Object Body) → m ≢ fresh.object → renewed (fresh ∷ []) m it ≡ it
renewed-other fresh m it differs = ap (λ b. put_on (cond b (Some fresh) None) it) (ne_eqb fresh.object m (λ same. differs (sym same)))

pub taken-set : (who n : ℕ) (objects : Objects) (d : Option (Object Body)) → n < length objects → set objects n (option_map (owned_by who) (get_or objects n d)) ≡ each (take_listed who (n ∷ [])) objects
taken-set who n objects d within =
    each-set (take_listed who (n ∷ [])) (owned_by who) n objects d within (taken-here who n) (taken-other who n)

pub taken-past : (who n : ℕ) (objects : Objects) → length objects ≤ n → objects ≡ each (take_listed who (n ∷ [])) objects
taken-past who n objects past = each-past (take_listed who (n ∷ [])) n objects past (taken-other who n)

pub freed-set : (who n : ℕ) (objects : Objects) (d : Option (Object Body)) → n < length objects → set objects n (option_map (freed_by who) (get_or objects n d)) ≡ each (free_listed who (n ∷ [])) objects
freed-set who n objects d within =
    each-set (free_listed who (n ∷ [])) (freed_by who) n objects d within (freed-here who n) (freed-other who n)

pub freed-past : (who n : ℕ) (objects : Objects) → length objects ≤ n → objects ≡ each (free_listed who (n ∷ [])) objects
freed-past who n objects past = each-past (free_listed who (n ∷ [])) n objects past (freed-other who n)

pub renewed-set : (fresh : Fresh) (objects : Objects) (d : Option (Object Body)) → fresh.object < length objects → set objects fresh.object (option_map (renewed_by fresh) (get_or objects fresh.object d)) ≡ each (renewed (fresh ∷ [])) objects
renewed-set fresh objects d within =
    each-set (renewed (fresh ∷ [])) (renewed_by fresh) fresh.object objects d within (renewed-here fresh) (renewed-other fresh)

pub renewed-past : (fresh : Fresh) (objects : Objects) → length objects ≤ fresh.object → objects ≡ each (renewed (fresh ∷ [])) objects
renewed-past fresh objects past = each-past (renewed (fresh ∷ [])) fresh.object objects past (renewed-other fresh)

-- ---- ends of loops

pub taken-none : (who : ℕ) (objects : Objects) → each (take_listed who []) objects ≡ objects
taken-none who objects = each-still (take_listed who []) (λ k it. refl) 0 objects

pub freed-none : (who : ℕ) (objects : Objects) → each (free_listed who []) objects ≡ objects
freed-none who objects = each-still (free_listed who []) (λ k it. refl) 0 objects

pub renewed-none : (objects : Objects) → each (renewed []) objects ≡ objects
renewed-none objects = each-still (renewed []) (λ k it. refl) 0 objects

-- ---- loops over listed objects

pub taken-written : (who object at : ℕ) (objects : Objects) (it found : Option (Object Body)) → at ≡ object → at < length objects → found ≡ option_map (owned_by who) (get_or objects at it) → set objects at found ≡ each (take_listed who (object ∷ [])) objects
taken-written who object at objects it found place within new =
    ap (set objects at) new
    ∙ subst (λ n. set objects n (option_map (owned_by who) (get_or objects n it)) ≡ each (take_listed who (object ∷ [])) objects) (sym place) (taken-set who object objects it (omega (arith, within, place)))

pub freed-written : (who object at : ℕ) (objects : Objects) (it found : Option (Object Body)) → at ≡ object → at < length objects → found ≡ option_map (freed_by who) (get_or objects at it) → set objects at found ≡ each (free_listed who (object ∷ [])) objects
freed-written who object at objects it found place within new =
    ap (set objects at) new
    ∙ subst (λ n. set objects n (option_map (freed_by who) (get_or objects n it)) ≡ each (free_listed who (object ∷ [])) objects) (sym place) (freed-set who object objects it (omega (arith, within, place)))

pub renewed-written : (fresh : Fresh) (at : ℕ) (objects : Objects) (it found : Option (Object Body)) → at ≡ fresh.object → at < length objects → found ≡ option_map (renewed_by fresh) (get_or objects at it) → set objects at found ≡ each (renewed (fresh ∷ [])) objects
renewed-written fresh at objects it found place within new =
    ap (set objects at) new
    ∙ subst (λ n. set objects n (option_map (renewed_by fresh) (get_or objects n it)) ≡ each (renewed (fresh ∷ [])) objects) (sym place) (renewed-set fresh objects it (omega (arith, within, place)))

pub taken-next : (who i : ℕ) (listed : List ℕ) (d : ℕ) (objects newer initial : Objects) → i < length listed → newer ≡ each (take_listed who (get_or listed i d ∷ [])) objects → each (take_listed who (drop i listed)) objects ≡ initial → each (take_listed who (drop (i + 1) listed)) newer ≡ initial
taken-next who i listed d objects newer initial within new before =
    ap (each (take_listed who (drop (i + 1) listed))) new
    ∙ take_listed-cons who (get_or listed i d) (drop (i + 1) listed) objects
    ∙ ap (λ left. each (take_listed who left) objects) (sym (drop_more listed i d within))
    ∙ before

pub taken-last : (who i : ℕ) (listed : List ℕ) (objects initial : Objects) → length listed ≤ i → each (take_listed who (drop i listed)) objects ≡ initial → objects ≡ initial
taken-last who i listed objects initial over before =
    sym (taken-none who objects) ∙ sym (ap (λ left. each (take_listed who left) objects) (drop_of_length-le listed over)) ∙ before

pub freed-next : (who i : ℕ) (listed : List ℕ) (d : ℕ) (objects newer initial : Objects) → i < length listed → newer ≡ each (free_listed who (get_or listed i d ∷ [])) objects → each (free_listed who (drop i listed)) objects ≡ initial → each (free_listed who (drop (i + 1) listed)) newer ≡ initial
freed-next who i listed d objects newer initial within new before =
    ap (each (free_listed who (drop (i + 1) listed))) new
    ∙ free_listed-cons who (get_or listed i d) (drop (i + 1) listed) objects
    ∙ ap (λ left. each (free_listed who left) objects) (sym (drop_more listed i d within))
    ∙ before

pub freed-last : (who i : ℕ) (listed : List ℕ) (objects initial : Objects) → length listed ≤ i → each (free_listed who (drop i listed)) objects ≡ initial → objects ≡ initial
freed-last who i listed objects initial over before =
    sym (freed-none who objects) ∙ sym (ap (λ left. each (free_listed who left) objects) (drop_of_length-le listed over)) ∙ before

pub renewed-next : (made left : List Fresh) (last : Fresh) (objects newer initial : Objects) → made ≡ left ++ last ∷ [] → newer ≡ each (renewed (last ∷ [])) objects → each (renewed made) objects ≡ initial → each (renewed left) newer ≡ initial
renewed-next made left last objects newer initial parts new before =
    ap (each (renewed left)) new ∙ renewed-append left last objects ∙ ap (λ all. each (renewed all) objects) (sym parts) ∙ before

pub renewed-end : (made : List Fresh) (objects initial : Objects) → made ≡ [] → each (renewed made) objects ≡ initial → objects ≡ initial
renewed-end made objects initial none before =
    sym (renewed-none objects) ∙ sym (ap (λ all. each (renewed all) objects) none) ∙ before

pub none-left : (made : List Fresh) (n : ℕ) → n ≡ length made → n ≡ 0 → made ≡ []
none-left [] n len none = refl
none-left (fresh ∷ made) n len none = absurd (omega (arith, len, none))

-- ---- a loop over all objects

each-map : (who at : ℕ) (objects : Objects) → each_from (free_own who) at objects ≡ map (option_map (freed_by who)) objects
each-map who at [] = refl
each-map who at (found ∷ objects) = ap (λ (others : Objects). option_map (freed_by who) found ∷ others) (each-map who (at + 1) objects)

map-next : (g : Option (Object Body) → Option (Object Body)) (xs : Objects) (i : ℕ) (d : Option (Object Body)) → i < length xs → take (i + 1) (set xs i (g (get_or xs i d))) ++ map g (drop (i + 1) (set xs i (g (get_or xs i d)))) ≡ take i xs ++ map g (drop i xs)
map-next g [] i d within = absurd (omega (arith, within))
map-next g (x ∷ xs) zero d within = refl
map-next g (x ∷ xs) (suc i) d within =
    let next : suc i + 1 ≡ suc (i + 1) = omega arith in
    ap (λ n. take n (x ∷ set xs i (g (get_or xs i d))) ++ map g (drop n (x ∷ set xs i (g (get_or xs i d))))) next
    ∙ ap (λ (others : Objects). x ∷ others) (map-next g xs i d (omega (arith, within)))

-- what is freed so far, and then the others
abbrev pub FreesAll : ℕ → ℕ → Objects → Objects → Type 0
FreesAll who i objects initial = take i objects ++ map (option_map (freed_by who)) (drop i objects) ≡ each (free_own who) initial

pub frees-first : (who : ℕ) (objects : Objects) → FreesAll who 0 objects objects
frees-first who objects = sym (each-map who 0 objects)

pub frees-next : (who i : ℕ) (objects initial : Objects) (it found : Option (Object Body)) → i < length objects → it ≡ get_or objects i it → found ≡ option_map (freed_by who) it → FreesAll who i objects initial → FreesAll who (i + 1) (set objects i found) initial
frees-next who i objects initial it found within is new before =
    ap (λ (one : Option (Object Body)). take (i + 1) (set objects i one) ++ map (option_map (freed_by who)) (drop (i + 1) (set objects i one))) (new ∙ ap (option_map (freed_by who)) is) ∙ map-next (option_map (freed_by who)) objects i it within ∙ before

pub frees-last : (who i : ℕ) (objects initial : Objects) → length objects ≤ i → FreesAll who i objects initial → objects ≡ each (free_own who) initial
frees-last who i objects initial over before =
    let none = drop_of_length-le objects over in
    sym (take-append-drop i objects) ∙ ap (λ (others : Objects). take i objects ++ others) (none ∙ sym (ap (map (option_map (freed_by who))) none)) ∙ before

-- ---- a table that was lent as a slice and is taken back

pub written-back : (n : ℕ) (items new old : Objects) → n ≡ length items → old ≡ items → length new ≡ length old → take n (new ++ drop (length new) items) ≡ new
written-back n items new old len lent same =
    let whole : length new ≡ n = omega (arith, len, ap length lent, same) in
    let none : drop (length new) items ≡ [] = drop_of_length-le items (omega (arith, len, whole)) in
    ap (λ (rest : Objects). take n (new ++ rest)) none ∙ ap (take n) (append-nil new) ∙ take_all n new (omega (arith, whole))
