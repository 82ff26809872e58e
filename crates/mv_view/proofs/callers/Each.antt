-- What becomes of objects that are changed by their numbers.
use Rattle.std.specs.Prelude.{ℕ, ◌≡◌, ◌≢◌, ◌<◌, ◌≤◌, ◌+◌, ◌==◌, ◌||◌, zero, suc, Bool, true, false, cond, List, [], ◌∷◌, length, filter, filter_map, insert, nat_lt, find, Option, Some, None, IfSome, slice_set, refl}
use Rattle.std.specs.Option.{option_map, option_and_then}
use Rattle.std.specs.List.{prefix_len, cons_option}
use Rattle.std.proofs.Common.{◌∙◌, ap, sym, subst, arith, eq-eqb, ne_eqb}
use Rattle.std.proofs.lemmas.Bool.{lt-ltb, le-ltb}
use Rattle.mv_view.specs.Each.{object_in, each_from, only, names, listed, passes, numbers_from, gathered_from}

-- ---- lists of numbers

fewer : (p : ℕ → Bool) (at : ℕ) (before after : List ℕ) (was is : Bool) → filter p before ≡ after → p at ≡ is → (was ≡ false → is ≡ false) → filter p (cond was (at ∷ before) before) ≡ cond is (at ∷ after) after
fewer p at before after true is rest same falls = ap (λ b. cond b (at ∷ filter p before) (filter p before)) same ∙ ap (λ those. cond is (at ∷ those) those) rest
fewer p at before after false is rest same falls = rest ∙ sym (ap (λ b. cond b (at ∷ after) after) (falls refl))

none : (at object : ℕ) (rest : List ℕ) (b : Bool) → object ≤ at → prefix_len (λ one. nat_lt one object) rest ≡ 0 → prefix_len (λ one. nat_lt one object) (cond b (at ∷ rest) rest) ≡ 0
none at object rest true below later = ap (λ b. cond b (1 + prefix_len (λ one. nat_lt one object) rest) 0) (le-ltb at object below)
none at object rest false below later = later

later : (at object : ℕ) (before after : List ℕ) (b : Bool) → at < object → insert before (prefix_len (λ one. nat_lt one object) before) object ≡ after → insert (cond b (at ∷ before) before) (prefix_len (λ one. nat_lt one object) (cond b (at ∷ before) before)) object ≡ cond b (at ∷ after) after
later at object before after true below rest =
    let place = prefix_len (λ one. nat_lt one object) before in
    ap (λ b. insert (at ∷ before) (cond b (1 + place) 0) object) (lt-ltb at object below)
    ∙ ap (λ m. insert (at ∷ before) m object) (let e : 1 + place ≡ suc place = omega arith in e)
    ∙ ap (λ those. at ∷ those) rest
later at object before after false below rest = rest

one_more : (at n : ℕ) (those : List ℕ) (b : Bool) → length those ≤ n → length (cond b (at ∷ those) those) ≤ suc n
one_more at n those true most = omega arith
one_more at n those false most = omega arith

fewer_still : (at n : ℕ) (those : List ℕ) (b : Bool) → length those < n → length (cond b (at ∷ those) those) < suc n
fewer_still at n those true most = omega arith
fewer_still at n those false most = omega arith

named_past : (b : Bool) (at object : ℕ) (those : List ℕ) → at ≢ object → names (cond b (at ∷ those) those) object ≡ names those object
named_past true at object those differ = ap (λ c. c || names those object) (ne_eqb at object differ)
named_past false at object those differ = refl

named_here : (b : Bool) (at object : ℕ) (those : List ℕ) → at ≡ object → names those object ≡ false → names (cond b (at ∷ those) those) object ≡ b
named_here true at object those same missing = ap (λ c. c || names those object) (eq-eqb at object same)
named_here false at object those same missing = missing

module _ {X : Type 0} where
  -- ---- one object

  pub object_in-each : (at : ℕ) (change : ℕ → X → X) (objects : List (Option X)) (k object : ℕ) → at + k ≡ object → object_in (each_from at change objects) k ≡ option_map (change object) (object_in objects k)
  object_in-each at change [] k object is = refl
  object_in-each at change (found ∷ objects) zero object is = ap (λ n. option_map (change n) found) (let e : at ≡ object = omega arith in e)
  object_in-each at change (found ∷ objects) (suc k) object is = object_in-each (at + 1) change objects k object (omega arith)

  pub length-each : (at : ℕ) (change : ℕ → X → X) (objects : List (Option X)) → length (each_from at change objects) ≡ length objects
  length-each at change [] = refl
  length-each at change (found ∷ objects) = ap suc (length-each (at + 1) change objects)

  -- an object that is there is within the list
  pub object_in-within : (objects : List (Option X)) (k : ℕ) (x : X) → object_in objects k ≡ Some x → k < length objects
  object_in-within [] k x is = cc
  object_in-within (found ∷ objects) zero x is = omega arith
  object_in-within (found ∷ objects) (suc k) x is = omega (arith, object_in-within objects k x is)

  -- ---- one change after another

  pub each-each : (at : ℕ) (second first : ℕ → X → X) (objects : List (Option X)) → each_from at second (each_from at first objects) ≡ each_from at (λ k x. second k (first k x)) objects
  each-each at second first [] = refl
  each-each at second first (None ∷ objects) = ap (λ rest. None ∷ rest) (each-each (at + 1) second first objects)
  each-each at second first (Some x ∷ objects) = ap (λ rest. Some (second at (first at x)) ∷ rest) (each-each (at + 1) second first objects)

  -- changes that do the same to what is there
  pub each-same : (at : ℕ) (one other : ℕ → X → X) (objects : List (Option X)) → ((k object : ℕ) → at + k ≡ object → IfSome (object_in objects k) (λ x. one object x ≡ other object x)) → each_from at one objects ≡ each_from at other objects
  each-same at one other [] same = refl
  each-same at one other (None ∷ objects) same = ap (λ rest. None ∷ rest) (each-same (at + 1) one other objects (λ k object is. same (suc k) object (omega arith)))
  each-same at one other (Some x ∷ objects) same =
      let here : one at x ≡ other at x = same 0 at (omega arith) in
      let rest : each_from (at + 1) one objects ≡ each_from (at + 1) other objects = each-same (at + 1) one other objects (λ k object is. same (suc k) object (omega arith)) in
      cc

  -- what changes nothing
  pub each-none : (at : ℕ) (change : ℕ → X → X) (objects : List (Option X)) → ((k object : ℕ) → at + k ≡ object → IfSome (object_in objects k) (λ x. change object x ≡ x)) → each_from at change objects ≡ objects
  each-none at change [] same = refl
  each-none at change (None ∷ objects) same = ap (λ rest. None ∷ rest) (each-none (at + 1) change objects (λ k object is. same (suc k) object (omega arith)))
  each-none at change (Some x ∷ objects) same =
      let here : change at x ≡ x = same 0 at (omega arith) in
      let rest : each_from (at + 1) change objects ≡ objects = each-none (at + 1) change objects (λ k object is. same (suc k) object (omega arith)) in
      cc

  -- ---- a change of one object

  pub only-other : (object at : ℕ) (change : X → X) (x : X) → at ≢ object → only object change at x ≡ x
  only-other object at change x differ = ap (λ b. cond b (change x) x) (ne_eqb object at (λ same. differ (sym same)))

  pub only-itself : (object at : ℕ) (change : X → X) (x : X) → at ≡ object → only object change at x ≡ change x
  only-itself object at change x same = ap (λ b. cond b (change x) x) (eq-eqb object at (sym same))

  past-all : (object at : ℕ) (change : X → X) → at ≢ object → (found : Option X) → IfSome found (λ x. only object change at x ≡ x)
  past-all object at change differ None = tt
  past-all object at change differ (Some x) = only-other object at change x differ

  behind : (at object : ℕ) (change : X → X) (objects : List (Option X)) → object < at → each_from at (only object change) objects ≡ objects
  behind at object change objects below =
      each-none at (only object change) objects (λ k other is. past-all object other change (λ same. absurd (omega arith)) (object_in objects k))

  -- where the object isn't there
  pub only-missing : (at : ℕ) (change : X → X) (objects : List (Option X)) (k object : ℕ) → at + k ≡ object → object_in objects k ≡ None → each_from at (only object change) objects ≡ objects
  only-missing at change [] k object is missing = refl
  only-missing at change (None ∷ objects) zero object is missing = ap (λ rest. None ∷ rest) (behind (at + 1) object change objects (omega arith))
  only-missing at change (Some x ∷ objects) zero object is missing = cc
  only-missing at change (None ∷ objects) (suc k) object is missing = ap (λ rest. None ∷ rest) (only-missing (at + 1) change objects k object (omega arith) missing)
  only-missing at change (Some x ∷ objects) (suc k) object is missing =
      let here : only object change at x ≡ x = only-other object at change x (λ same. absurd (omega arith)) in
      let rest : each_from (at + 1) (only object change) objects ≡ objects = only-missing (at + 1) change objects k object (omega arith) missing in
      cc

  -- where it is there, its place is written
  pub only-there : (at : ℕ) (change : X → X) (objects : List (Option X)) (k object : ℕ) (x : X) → at + k ≡ object → object_in objects k ≡ Some x → each_from at (only object change) objects ≡ slice_set objects k (Some (change x))
  only-there at change [] k object x is there = cc
  only-there at change (None ∷ objects) zero object x is there = cc
  only-there at change (Some y ∷ objects) zero object x is there =
      let here : only object change at y ≡ change y = only-itself object at change y (omega arith) in
      let rest : each_from (at + 1) (only object change) objects ≡ objects = behind (at + 1) object change objects (omega arith) in
      cc
  only-there at change (None ∷ objects) (suc k) object x is there = ap (λ rest. None ∷ rest) (only-there (at + 1) change objects k object x (omega arith) there)
  only-there at change (Some y ∷ objects) (suc k) object x is there =
      let here : only object change at y ≡ y = only-other object at change y (λ same. absurd (omega arith)) in
      let rest : each_from (at + 1) (only object change) objects ≡ slice_set objects k (Some (change x)) = only-there (at + 1) change objects k object x (omega arith) there in
      cc

  -- ---- changes of those that a list names

  -- one more name, where a change that was made stays made
  more : (b rest : Bool) (change : X → X) (x : X) → change (change x) ≡ change x → cond rest (change (cond b (change x) x)) (cond b (change x) x) ≡ cond (b || rest) (change x) x
  more true true change x again = again
  more true false change x again = refl
  more false true change x again = refl
  more false false change x again = refl

  pub listed-more : (first : ℕ) (objects : List ℕ) (change : X → X) (at : ℕ) (x : X) → change (change x) ≡ change x → listed objects change at (only first change at x) ≡ listed (first ∷ objects) change at x
  listed-more first objects change at x again = more (first == at) (names objects at) change x again

  -- ---- the numbers of those that pass a test

  pub numbers-same : (test : X → Bool) (at : ℕ) (change : ℕ → X → X) (objects : List (Option X)) → ((object : ℕ) (x : X) → test (change object x) ≡ test x) → numbers_from test at (each_from at change objects) ≡ numbers_from test at objects
  numbers-same test at change [] same = refl
  numbers-same test at change (None ∷ objects) same = numbers-same test (at + 1) change objects same
  numbers-same test at change (Some x ∷ objects) same =
      let after = numbers_from test (at + 1) (each_from (at + 1) change objects) in
      ap (λ b. cond b (at ∷ after) after) (same at x) ∙ ap (λ rest. cond (test x) (at ∷ rest) rest) (numbers-same test (at + 1) change objects same)

  -- a change after which what is there passes as before
  pub numbers-alike : (test : X → Bool) (at : ℕ) (change : ℕ → X → X) (objects : List (Option X)) → ((k object : ℕ) → at + k ≡ object → IfSome (object_in objects k) (λ x. test (change object x) ≡ test x)) → numbers_from test at (each_from at change objects) ≡ numbers_from test at objects
  numbers-alike test at change [] same = refl
  numbers-alike test at change (None ∷ objects) same = numbers-alike test (at + 1) change objects (λ k object is. same (suc k) object (omega arith))
  numbers-alike test at change (Some x ∷ objects) same =
      let after = numbers_from test (at + 1) (each_from (at + 1) change objects) in
      ap (λ b. cond b (at ∷ after) after) (same 0 at (omega arith)) ∙ ap (λ rest. cond (test x) (at ∷ rest) rest) (numbers-alike test (at + 1) change objects (λ k object is. same (suc k) object (omega arith)))

  -- a change after which fewer pass
  pub numbers-fewer : (test : X → Bool) (p : ℕ → Bool) (at : ℕ) (change : ℕ → X → X) (objects : List (Option X)) → ((object : ℕ) (x : X) → test x ≡ false → test (change object x) ≡ false) → ((k object : ℕ) → at + k ≡ object → p object ≡ passes test (object_in (each_from at change objects) k)) → filter p (numbers_from test at objects) ≡ numbers_from test at (each_from at change objects)
  numbers-fewer test p at change [] falls is = refl
  numbers-fewer test p at change (None ∷ objects) falls is = numbers-fewer test p (at + 1) change objects falls (λ k object e. is (suc k) object (omega arith))
  numbers-fewer test p at change (Some x ∷ objects) falls is =
      fewer p at (numbers_from test (at + 1) objects) (numbers_from test (at + 1) (each_from (at + 1) change objects)) (test x) (test (change at x))
      (numbers-fewer test p (at + 1) change objects falls (λ k object e. is (suc k) object (omega arith))) (is 0 at (omega arith)) (falls at x)

  -- none of these is below
  none-below : (test : X → Bool) (objects : List (Option X)) (at object : ℕ) → object < at → prefix_len (λ one. nat_lt one object) (numbers_from test at objects) ≡ 0
  none-below test [] at object below = refl
  none-below test (None ∷ objects) at object below = none-below test objects (at + 1) object (omega arith)
  none-below test (Some x ∷ objects) at object below = none at object (numbers_from test (at + 1) objects) (test x) (omega arith) (none-below test objects (at + 1) object (omega arith))

  -- one more that passes stands behind those below it
  pub numbers-more : (test : X → Bool) (change : X → X) (at : ℕ) (objects : List (Option X)) (k object : ℕ) (x : X) → at + k ≡ object → object_in objects k ≡ Some x → test x ≡ false → test (change x) ≡ true → insert (numbers_from test at objects) (prefix_len (λ one. nat_lt one object) (numbers_from test at objects)) object ≡ numbers_from test at (each_from at (only object change) objects)
  numbers-more test change at [] k object x is there failed passed = cc
  numbers-more test change at (None ∷ objects) zero object x is there failed passed = cc
  numbers-more test change at (Some y ∷ objects) zero object x is there failed passed =
      let same : y ≡ x = some_same y x there in
      let those = numbers_from test (at + 1) objects in
      let was : test y ≡ false = ap test same ∙ failed in
      let now : test (only object change at y) ≡ true = ap test (only-itself object at change y (omega arith) ∙ ap change same) ∙ passed in
      ap (λ b. insert (cond b (at ∷ those) those) (prefix_len (λ one. nat_lt one object) (cond b (at ∷ those) those)) object) was
      ∙ ap (λ n. insert those n object) (none-below test objects (at + 1) object (omega arith))
      ∙ first those object at (omega arith)
      ∙ ap (λ (rest : List (Option X)). at ∷ numbers_from test (at + 1) rest) (sym (behind (at + 1) object change objects (omega arith)))
      ∙ sym (ap (λ b. cond b (at ∷ numbers_from test (at + 1) (each_from (at + 1) (only object change) objects)) (numbers_from test (at + 1) (each_from (at + 1) (only object change) objects))) now)
    where
      some_same : (one other : X) → Some one ≡ Some other → one ≡ other
      some_same one other e = cc

      first : (those : List ℕ) (object at : ℕ) → object ≡ at → insert those 0 object ≡ at ∷ those
      first those object at e = ap (λ n. n ∷ those) e
  numbers-more test change at (None ∷ objects) (suc k) object x is there failed passed = numbers-more test change (at + 1) objects k object x (omega arith) there failed passed
  numbers-more test change at (Some y ∷ objects) (suc k) object x is there failed passed =
      let after = numbers_from test (at + 1) (each_from (at + 1) (only object change) objects) in
      later at object (numbers_from test (at + 1) objects) after (test y) (omega arith) (numbers-more test change (at + 1) objects k object x (omega arith) there failed passed)
      ∙ ap (λ b. cond b (at ∷ after) after) (sym (ap test (only-other object at change y (λ same. absurd (omega arith)))))

  -- fewer pass than there are places, where one doesn't
  pub length-numbers : (test : X → Bool) (at : ℕ) (objects : List (Option X)) → length (numbers_from test at objects) ≤ length objects
  length-numbers test at [] = omega arith
  length-numbers test at (None ∷ objects) = omega (arith, length-numbers test (at + 1) objects)
  length-numbers test at (Some x ∷ objects) = one_more at (length objects) (numbers_from test (at + 1) objects) (test x) (length-numbers test (at + 1) objects)

  pub length-numbers_but : (test : X → Bool) (at : ℕ) (objects : List (Option X)) (k : ℕ) (x : X) → object_in objects k ≡ Some x → test x ≡ false → length (numbers_from test at objects) < length objects
  length-numbers_but test at [] k x there failed = cc
  length-numbers_but test at (None ∷ objects) zero x there failed = cc
  length-numbers_but test at (None ∷ objects) (suc k) x there failed = omega (arith, length-numbers_but test (at + 1) objects k x there failed)
  length-numbers_but test at (Some y ∷ objects) zero x there failed =
      let not_here : test y ≡ false = cc in
      subst (λ (b : Bool). length (cond b (at ∷ numbers_from test (at + 1) objects) (numbers_from test (at + 1) objects)) < suc (length objects)) (sym not_here) (omega (arith, length-numbers test (at + 1) objects))
  length-numbers_but test at (Some y ∷ objects) (suc k) x there failed = fewer_still at (length objects) (numbers_from test (at + 1) objects) (test y) (length-numbers_but test (at + 1) objects k x there failed)

  names-behind : (test : X → Bool) (at object : ℕ) (objects : List (Option X)) → object < at → names (numbers_from test at objects) object ≡ false
  names-behind test at object [] below = refl
  names-behind test at object (None ∷ objects) below = names-behind test (at + 1) object objects (omega arith)
  names-behind test at object (Some x ∷ objects) below = named_past (test x) at object (numbers_from test (at + 1) objects) (λ same. absurd (omega arith)) ∙ names-behind test (at + 1) object objects (omega arith)

  -- a number is listed where its object passes
  pub names-numbers : (test : X → Bool) (at : ℕ) (objects : List (Option X)) (k object : ℕ) → at + k ≡ object → names (numbers_from test at objects) object ≡ passes test (object_in objects k)
  names-numbers test at [] k object is = refl
  names-numbers test at (None ∷ objects) zero object is = names-behind test (at + 1) object objects (omega arith)
  names-numbers test at (None ∷ objects) (suc k) object is = names-numbers test (at + 1) objects k object (omega arith)
  names-numbers test at (Some x ∷ objects) zero object is = named_here (test x) at object (numbers_from test (at + 1) objects) (omega arith) (names-behind test (at + 1) object objects (omega arith))
  names-numbers test at (Some x ∷ objects) (suc k) object is = named_past (test x) at object (numbers_from test (at + 1) objects) (λ same. absurd (omega arith)) ∙ names-numbers test (at + 1) objects k object (omega arith)

  -- ---- what is given of each

  module _ {Y : Type 0} (give : ℕ → X → Option Y) where
    given : (p : ℕ → Option Y) (at : ℕ) (x : X) (those : List ℕ) (all : List Y) (b : Bool) → filter_map p those ≡ all → p at ≡ give at x → (b ≡ false → give at x ≡ None) → filter_map p (cond b (at ∷ those) those) ≡ cons_option (give at x) all
    given p at x those all true rest same nothing = ap (λ one. cons_option one (filter_map p those)) same ∙ ap (cons_option (give at x)) rest
    given p at x those all false rest same nothing = rest ∙ sym (ap (λ one. cons_option one all) (nothing refl))

    -- what is given of those that pass is given of all, where the others give nothing
    pub gathered-numbers : (test : X → Bool) (p : ℕ → Option Y) (at : ℕ) (objects : List (Option X)) → ((object : ℕ) (x : X) → test x ≡ false → give object x ≡ None) → ((k object : ℕ) → at + k ≡ object → p object ≡ option_and_then (give object) (object_in objects k)) → filter_map p (numbers_from test at objects) ≡ gathered_from give at objects
    gathered-numbers test p at [] nothing is = refl
    gathered-numbers test p at (None ∷ objects) nothing is = gathered-numbers test p (at + 1) objects nothing (λ k object e. is (suc k) object (omega arith))
    gathered-numbers test p at (Some x ∷ objects) nothing is =
        given p at x (numbers_from test (at + 1) objects) (gathered_from give (at + 1) objects) (test x)
        (gathered-numbers test p (at + 1) objects nothing (λ k object e. is (suc k) object (omega arith))) (is 0 at (omega arith)) (nothing at x)

    module _ (key : Y → ℕ) (keyed : (at : ℕ) (x : X) (y : Y) → give at x ≡ Some y → key y ≡ at) where
      abbrev under : ℕ → List Y → Option Y
      under object ys = find (λ y. key y == object) ys

      passed_over : (object at : ℕ) (x : X) (rest : List Y) (one : Option Y) → give at x ≡ one → at ≢ object → under object (cons_option one rest) ≡ under object rest
      passed_over object at x rest None is differ = refl
      passed_over object at x rest (Some y) is differ =
          ap (λ b. cond b (Some y) (under object rest)) (ne_eqb (key y) object (λ same. differ (sym (keyed at x y is) ∙ same)))

      unfound : (object at : ℕ) (objects : List (Option X)) → object < at → under object (gathered_from give at objects) ≡ None
      unfound object at [] below = refl
      unfound object at (None ∷ objects) below = unfound object (at + 1) objects (omega arith)
      unfound object at (Some x ∷ objects) below =
          passed_over object at x (gathered_from give (at + 1) objects) (give at x) refl (λ same. absurd (omega arith)) ∙ unfound object (at + 1) objects (omega arith)

      found_here : (object at : ℕ) (x : X) (rest : List Y) (one : Option Y) → give at x ≡ one → at ≡ object → under object rest ≡ None → under object (cons_option one rest) ≡ one
      found_here object at x rest None is same missing = missing
      found_here object at x rest (Some y) is same missing =
          ap (λ b. cond b (Some y) (under object rest)) (eq-eqb (key y) object (keyed at x y is ∙ same))

      -- what is found under a number is what is given of that object
      pub find-gathered : (at : ℕ) (objects : List (Option X)) (k object : ℕ) → at + k ≡ object → under object (gathered_from give at objects) ≡ option_and_then (give object) (object_in objects k)
      find-gathered at [] k object is = refl
      find-gathered at (None ∷ objects) zero object is = unfound object (at + 1) objects (omega arith)
      find-gathered at (None ∷ objects) (suc k) object is = find-gathered (at + 1) objects k object (omega arith)
      find-gathered at (Some x ∷ objects) zero object is =
          found_here object at x (gathered_from give (at + 1) objects) (give at x) refl (omega arith) (unfound object (at + 1) objects (omega arith))
          ∙ ap (λ n. give n x) (let e : at ≡ object = omega arith in e)
      find-gathered at (Some x ∷ objects) (suc k) object is =
          passed_over object at x (gathered_from give (at + 1) objects) (give at x) refl (λ same. absurd (omega arith)) ∙ find-gathered (at + 1) objects k object (omega arith)
