-- The list of the objects that are owned, after some are owned or given up.
use Rattle.std.specs.Prelude.{ℕ, ◌≡◌, ◌≤◌, ◌<◌, ◌==◌, Bool, true, false, not, cond, List, length, filter, insert, nat_lt, Option, Some, None, IfSome}
use Rattle.std.specs.List.{prefix_len}
use Rattle.std.proofs.Common.{◌∙◌, ap, sym, refl, arith, eqb-true}
use Rattle.mv_view.specs.Each.{object_in, each_from, only, listed, names, passes, numbers_from}
use Rattle.mv_view.specs.ViewState.{ObjectView, IsSeen, AreSeen, is_owned}
use Rattle.mv_view.specs.Rules.{owning, giving_up, releasing, after_commit, committing, leaving_now, is_staged}
use Rattle.mv_view.specs.declared.kept.Step.TheVariants.{Own, Release, Commit}
use Rattle.mv_view.specs.inside.Places.{IsListed}
use Rattle.mv_view.proofs.callers.Each.{length-each, each-same, numbers-alike, numbers-fewer, numbers-more, length-numbers_but, names-numbers}
use Rattle.mv_view.proofs.Steps.{AreSeen-each, IsSeen-only, IsSeen-listed, IsSeen-stepped}

-- an object that isn't owned
free-object : (found : Option ObjectView) → passes (λ (one : ObjectView). not one.owned) found ≡ true → (one : ObjectView) × (found ≡ Some one) × (one.owned ≡ false)
free-object None free = cc
free-object (Some one) free = (one, refl, not-true one.owned free)
  where
    not-true : (b : Bool) → not b ≡ true → b ≡ false
    not-true true e = cc
    not-true false e = refl

seen-owning : (object : ℕ) (objects : List (Option ObjectView)) → AreSeen objects → AreSeen (each_from 0 (only object owning) objects)
seen-owning object objects seen = AreSeen-each (only object owning) objects (λ at found is. IsSeen-only object owning (λ one one_is. IsSeen-stepped Own one one_is) at found is) seen

-- there is room for an object that isn't owned
pub room-for : (objects : List (Option ObjectView)) (those : List ℕ) (room object : ℕ) → IsListed objects those room → passes (λ (one : ObjectView). not one.owned) (object_in objects object) ≡ true → length those < room
room-for objects those room object is free =
    let one = free-object (object_in objects object) free in
    let fewer = length-numbers_but is_owned 0 objects object one.0 one.1 one.2 in
    let size = ap length is.owned in
    let places = is.places in
    omega arith

pub listed-free : (objects : List (Option ObjectView)) (those : List ℕ) (room after object : ℕ) → IsListed objects those room → room ≤ after → passes (λ (one : ObjectView). not one.owned) (object_in objects object) ≡ true → IsListed (each_from 0 (only object owning) objects) (insert those (prefix_len (λ one. nat_lt one object) those) object) after
listed-free objects those room after object is more free =
    let one = free-object (object_in objects object) free in
    let size = length-each 0 (only object owning) objects in
    let places = is.places in
    record {
      owned = ap (λ list. insert list (prefix_len (λ one. nat_lt one object) list) object) is.owned ∙ numbers-more is_owned owning 0 objects object object one.0 (omega arith) one.1 one.2 refl;
      places = omega arith;
      seen = seen-owning object objects is.seen;
    }

pub listed-other : (objects : List (Option ObjectView)) (those : List ℕ) (room object : ℕ) → IsListed objects those room → passes (λ (one : ObjectView). not one.owned) (object_in objects object) ≡ false → IsListed (each_from 0 (only object owning) objects) those room
listed-other objects those room object is other =
    let size = length-each 0 (only object owning) objects in
    let places = is.places in
    record {
      owned = is.owned ∙ sym (numbers-alike is_owned 0 (only object owning) objects (λ k at place. alike at (object_in objects k) (λ same. ap (λ n. object_in objects n) (let e : k ≡ object = omega arith in e))));
      places = omega arith;
      seen = seen-owning object objects is.seen;
    }
  where
    step : (b : Bool) (x : ObjectView) → (b ≡ true → x.owned ≡ true) → is_owned (cond b (owning x) x) ≡ x.owned
    step true x own = sym (own refl)
    step false x own = refl

    not-false : (b : Bool) → not b ≡ false → b ≡ true
    not-false true e = refl
    not-false false e = cc

    alike : (at : ℕ) (found : Option ObjectView) → (object ≡ at → found ≡ object_in objects object) → IfSome found (λ x. is_owned (only object owning at x) ≡ x.owned)
    alike at None same = tt
    alike at (Some x) same = step (object == at) x (λ here. not-false x.owned (ap (passes (λ (one : ObjectView). not one.owned)) (same (eqb-true object at here)) ∙ other))

-- ---- giving up

IsListed-fewer : (objects : List (Option ObjectView)) (those : List ℕ) (room : ℕ) (change : ℕ → ObjectView → ObjectView) → IsListed objects those room → ((at : ℕ) (found : ObjectView) → found.owned ≡ false → (change at found).owned ≡ false) → ((at : ℕ) (found : ObjectView) → IsSeen found → IsSeen (change at found)) → IsListed (each_from 0 change objects) (filter (λ one. passes is_owned (object_in (each_from 0 change objects) one)) those) room
IsListed-fewer objects those room change is falls keeps =
    let size = length-each 0 change objects in
    let places = is.places in
    record {
      owned = ap (filter (λ one. passes is_owned (object_in (each_from 0 change objects) one))) is.owned
          ∙ numbers-fewer is_owned (λ one. passes is_owned (object_in (each_from 0 change objects) one)) 0 change objects falls (λ k object place. ap (λ n. passes is_owned (object_in (each_from 0 change objects) n)) (let e : object ≡ k = omega arith in e));
      places = omega arith;
      seen = AreSeen-each change objects keeps is.seen;
    }

falls-cond : (b : Bool) (one other : ObjectView) → one.owned ≡ false → other.owned ≡ false → (cond b one other).owned ≡ false
falls-cond true one other one_is other_is = one_is
falls-cond false one other one_is other_is = other_is

pub listed-released : (objects : List (Option ObjectView)) (those list : List ℕ) (room : ℕ) → IsListed objects those room → IsListed (each_from 0 (listed list releasing) objects) (filter (λ one. passes is_owned (object_in (each_from 0 (listed list releasing) objects) one)) those) room
listed-released objects those list room is =
    IsListed-fewer objects those room (listed list releasing) is
    (λ at found other. falls-cond (names list at) (releasing found) found (falls-cond (is_staged found) (record found { leaving = true }) (giving_up found) other refl) other)
    (λ at found seen. IsSeen-listed list releasing (λ one one_is. IsSeen-stepped Release one one_is) at found seen)

pub listed-committed : (objects : List (Option ObjectView)) (those list : List ℕ) (room : ℕ) → IsListed objects those room → IsListed (each_from 0 (listed list after_commit) objects) (filter (λ one. passes is_owned (object_in (each_from 0 (listed list after_commit) objects) one)) those) room
listed-committed objects those list room is =
    IsListed-fewer objects those room (listed list after_commit) is
    (λ at found other. falls-cond (names list at) (after_commit found) found (ap (λ b. (cond b (leaving_now (committing found)) found).owned) other ∙ other) other)
    (λ at found seen. IsSeen-listed list after_commit (λ one one_is. IsSeen-stepped Commit one one_is) at found seen)

-- a commit changes owned objects alone
pub committed-owned : (objects : List (Option ObjectView)) (those : List ℕ) → those ≡ numbers_from is_owned 0 objects → each_from 0 (listed those after_commit) objects ≡ each_from 0 (λ at found. after_commit found) objects
committed-owned objects those is =
    each-same 0 (listed those after_commit) (λ at found. after_commit found) objects (λ k object place. some object (object_in objects k) (ap (λ list. names list object) is ∙ names-numbers is_owned 0 objects k object place))
  where
    step : (named : Bool) (x : ObjectView) → named ≡ x.owned → cond named (after_commit x) x ≡ after_commit x
    step true x same = refl
    step false x same = sym (ap (λ b. cond b (leaving_now (committing x)) x) (sym same))

    some : (object : ℕ) (found : Option ObjectView) → names those object ≡ passes is_owned found → IfSome found (λ x. listed those after_commit object x ≡ after_commit x)
    some object None named = tt
    some object (Some x) named = step (names those object) x named
