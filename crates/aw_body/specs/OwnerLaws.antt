-- Laws of the owners: who owns an object after some are taken or given up. A session keeps what it owns whatever another
-- session gives up, and whatever another takes that isn't its own.
use Rattle.std.specs.Prelude.{ℕ, ◌≡◌, ◌≢◌, ◌==◌, ◌&&◌, ◌||◌, Bool, true, false, not, cond, IsTrue, List, [], ◌∷◌, Option, Some, None, refl, T}
use Rattle.std.specs.List.{list_any}
use Rattle.std.specs.Ordering.{nat_cmp, eq_by_cmp}
use Rattle.std.specs.Cmp.{nat_cmp_total, both_ways, Equal-is, tied_itself}
use Rattle.std.specs.FinMap.{find, put, is_sorted, nat_cmp-IsAntisymmetric}
use Rattle.std.specs.FinMap.Entries.{where_key, find-put, find-where_key, is_sorted-put, is_sorted-where_key}
use Rattle.std.specs.declared.cmp.Ordering.TheVariants.{Equal}
use Rattle.std.proofs.Common.{◌∙◌, ap, sym, subst, eqb-true, eq-eqb, ne_eqb}
use Rattle.aw_body.specs.Owners.{Owners, AreOwners, owner_of, is_own, taken, given_up, all_given_up}

-- ---- tests

-- keys tie exactly where they are equal
tied-same : (one other : ℕ) → eq_by_cmp nat_cmp one other ≡ (other == one)
tied-same one other =
    both_ways (eq_by_cmp nat_cmp one other) (other == one)
    (λ tied. eq-eqb other one (sym (nat_cmp-IsAntisymmetric one other ((Equal-is (nat_cmp one other)).0 tied))))
    (λ same. (Equal-is (nat_cmp one other)).1 (subst (λ key. nat_cmp key other ≡ Equal) (eqb-true other one same) (tied_itself nat_cmp_total other)))

either : {A : Type 0} (t u : Bool) (x y : A) → cond u x (cond t x y) ≡ cond (t || u) x y
either true true x y = refl
either true false x y = refl
either false true x y = refl
either false false x y = refl

to-true : (b : Bool) → T b → b ≡ true
to-true true holds = refl
to-true false holds = absurd holds

other-owner : (owners : Owners) (who by object : ℕ) → owner_of owners object ≡ Some by → who ≢ by → is_own owners who object ≡ false
other-owner owners who by object owned differs =
    ap (λ (owner : Option ℕ). elim owner [ None ↦ false | Some one ↦ one == who ]) owned ∙ ne_eqb by who (λ same. differs (sym same))

-- ---- taking

-- what a session took is its own, and every other object has the owner that it had
pub owner_of-taken : (owners : Owners) (who : ℕ) (objects : List ℕ) (object : ℕ) → owner_of (taken owners who objects) object ≡ cond (list_any (λ one. one == object) objects) (Some who) (owner_of owners object)
owner_of-taken owners who [] object = refl
owner_of-taken owners who (first ∷ objects) object =
    let listed = list_any (λ one. one == object) objects in
    owner_of-taken (put nat_cmp first who owners) who objects object
    ∙ ap (λ (owner : Option ℕ). cond listed (Some who) owner) (find-put nat_cmp nat_cmp_total object first who owners ∙ ap (λ b. cond b (Some who) (owner_of owners object)) (tied-same object first))
    ∙ either (first == object) listed (Some who) (owner_of owners object)

-- who owns an object that isn't taken keeps it
pub kept-taken : (owners : Owners) (who : ℕ) (objects : List ℕ) (object by : ℕ) → owner_of owners object ≡ Some by → list_any (λ one. one == object) objects ≡ false → owner_of (taken owners who objects) object ≡ Some by
kept-taken owners who objects object by owned others =
    owner_of-taken owners who objects object ∙ ap (λ b. cond b (Some who) (owner_of owners object)) others ∙ owned

pub AreOwners-taken : (owners : Owners) (who : ℕ) (objects : List ℕ) → AreOwners owners → AreOwners (taken owners who objects)
AreOwners-taken owners who [] map = map
AreOwners-taken owners who (first ∷ objects) map =
    AreOwners-taken (put nat_cmp first who owners) who objects (to-true (is_sorted nat_cmp (put nat_cmp first who owners)) (is_sorted-put nat_cmp nat_cmp_total first who owners (subst T (sym map) tt)))

-- ---- giving up

left-where : (owners : Owners) (stays : ℕ → Bool) (object : ℕ) → owner_of (where_key nat_cmp stays owners) object ≡ cond (stays object) (owner_of owners object) None
left-where owners stays object = find-where_key nat_cmp stays object (λ other tied. ap stays (sym (nat_cmp-IsAntisymmetric object other tied))) owners

-- what a session gave up has no owner, and every other object has the owner that it had
pub owner_of-given_up : (owners : Owners) (who : ℕ) (objects : List ℕ) (object : ℕ) → owner_of (given_up owners who objects) object ≡ cond (not (is_own owners who object && list_any (λ one. one == object) objects)) (owner_of owners object) None
owner_of-given_up owners who objects object = left-where owners (λ one. not (is_own owners who one && list_any (λ other. other == one) objects)) object

pub owner_of-all_given_up : (owners : Owners) (who object : ℕ) → owner_of (all_given_up owners who) object ≡ cond (not (is_own owners who object)) (owner_of owners object) None
owner_of-all_given_up owners who object = left-where owners (λ one. not (is_own owners who one)) object

-- who owns an object keeps it whatever another session gives up
pub kept-given_up : (owners : Owners) (who : ℕ) (objects : List ℕ) (object by : ℕ) → owner_of owners object ≡ Some by → who ≢ by → owner_of (given_up owners who objects) object ≡ Some by
kept-given_up owners who objects object by owned differs =
    owner_of-given_up owners who objects object
    ∙ ap (λ own. cond (not (own && list_any (λ one. one == object) objects)) (owner_of owners object) None) (other-owner owners who by object owned differs) ∙ owned

pub kept-all_given_up : (owners : Owners) (who object by : ℕ) → owner_of owners object ≡ Some by → who ≢ by → owner_of (all_given_up owners who) object ≡ Some by
kept-all_given_up owners who object by owned differs =
    owner_of-all_given_up owners who object ∙ ap (λ own. cond (not own) (owner_of owners object) None) (other-owner owners who by object owned differs) ∙ owned

AreOwners-where : (owners : Owners) (stays : ℕ → Bool) → AreOwners owners → AreOwners (where_key nat_cmp stays owners)
AreOwners-where owners stays map = to-true (is_sorted nat_cmp (where_key nat_cmp stays owners)) (is_sorted-where_key nat_cmp stays owners (subst T (sym map) tt))

pub AreOwners-given_up : (owners : Owners) (who : ℕ) (objects : List ℕ) → AreOwners owners → AreOwners (given_up owners who objects)
AreOwners-given_up owners who objects = AreOwners-where owners (λ one. not (is_own owners who one && list_any (λ other. other == one) objects))

pub AreOwners-all_given_up : (owners : Owners) (who : ℕ) → AreOwners owners → AreOwners (all_given_up owners who)
AreOwners-all_given_up owners who = AreOwners-where owners (λ one. not (is_own owners who one))
