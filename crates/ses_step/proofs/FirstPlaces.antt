-- The first places of names when one more name comes.
use Rattle.std.specs.Prelude.{ℕ, ◌≡◌, Bool, true, false, List, [], ◌∷◌, ◌++◌, length, Some, None, position, is_some, not}
use Rattle.std.specs.Global.{Vec}
use Rattle.std.specs.HashMap.{HashMap, get_by, UpdatesBy}
use Rattle.std.specs.Map.{lookup, KeepsOthers}
use Rattle.std.specs.Str.{bytes_eq}
use Rattle.std.specs.Cmp.Lexicographic.{bytes_decides, nat_list_eq_equiv}
use Rattle.std.proofs.Common.{sym, refl, ◌∙◌, cond, arith, length-append}
use Rattle.std.proofs.lemmas.Bool.Decides.{nat_tests}
use Rattle.std.proofs.lemmas.List.Folds.{position_or_len_push}
use Rattle.std.proofs.lemmas.Bool.{cases_Bool}
use mathlib.Core.Logic.{⊎_elim}
use Rattle.std.proofs.lemmas.List.Sums.{prefix_len-le-length}
use Rattle.aw_cell.specs.Names.{lowercase}
use Rattle.ses_step.specs.NameIndex.{first_place, HasFirstPlaces}

-- whether two keys are the same bytes
abbrev pub same_bytes : Vec ℕ → Vec ℕ → Bool
same_bytes x y = bytes_eq x.items y.items

-- the element at the end has the first place only where no other has one
position-push : {X : Type 0} (test : X → Bool) (xs : List X) (x : X) → position test (xs ++ x ∷ []) ≡ cond (is_some (position test xs)) (position test xs) (cond (test x) (Some (length xs)) None)
position-push test xs x = by_test (test x) refl
  where
    by_test : (b : Bool) → test x ≡ b → position test (xs ++ x ∷ []) ≡ cond (is_some (position test xs)) (position test xs) (cond (test x) (Some (length xs)) None)
    by_test b is = grind (arith, nat_tests, position_or_len_push test xs x, prefix_len-le-length (λ y. not (test y)) xs, length-append xs (x ∷ []), is)

-- the same of the first place of a key
place-push : (names : List (List ℕ)) (name key : List ℕ) → first_place (names ++ name ∷ []) key ≡ cond (is_some (first_place names key)) (first_place names key) (cond (bytes_eq key (lowercase name)) (Some (length names)) None)
place-push names name key = position-push (λ other. bytes_eq key (lowercase other)) names name

apart : (bytes key held : List ℕ) → bytes_eq bytes key ≡ false → bytes_eq bytes held ≡ true → bytes_eq key held ≡ false
apart bytes key held differ same = nat_list_eq_equiv.symm key held ∙ sym (nat_list_eq_equiv.congr bytes held key same) ∙ differ

-- a change at some bytes leaves what other bytes find
others_kept : {X : Type 0} (bytes key : List ℕ) (old new : List (Vec ℕ × X)) → KeepsOthers same_bytes (λ k. bytes_eq bytes k.items) old new → bytes_eq bytes key ≡ false
    → lookup (λ k. bytes_eq key k.items) new ≡ lookup (λ k. bytes_eq key k.items) old
unfolding KeepsOthers
others_kept bytes key old new kept differ = kept _ (λ x y. nat_list_eq_equiv.congr key x.items y.items) (λ k. apart bytes key k.items differ)

module _ {S : Type 0} (names : List (List ℕ)) (name bytes : List ℕ) (lowered : bytes ≡ lowercase name) (m : HashMap (Vec ℕ) ℕ S) (places : HasFirstPlaces m names) where
  -- a name that is there but for case
  pub places-another : is_some (get_by (λ k. bytes_eq bytes k.items) m) ≡ true → HasFirstPlaces m (names ++ name ∷ [])
  places-another found key = ⊎_elim
      (λ (same : bytes_eq bytes key ≡ true). let is : bytes ≡ key = (bytes_decides bytes key).0 same in
      let there : is_some (first_place names key) ≡ true = rw (← places key, ← is) found in
      grind (arith, places key, place-push names name key, there))
      (λ (differ : bytes_eq bytes key ≡ false).
      let other : bytes_eq key (lowercase name) ≡ false = rw (← lowered, nat_list_eq_equiv.symm key bytes) differ in
      grind (arith, places key, place-push names name key, other))
      (cases_Bool (bytes_eq bytes key))

  -- a name that isn't there gets the place at the end
  pub places-first : is_some (get_by (λ k. bytes_eq bytes k.items) m) ≡ false → (n : HashMap (Vec ℕ) ℕ S) → UpdatesBy same_bytes (λ k. bytes_eq bytes k.items) m n (Some (length names)) → HasFirstPlaces n (names ++ name ∷ [])
  places-first absent n updates key = ⊎_elim
      (λ (same : bytes_eq bytes key ≡ true). let is : bytes ≡ key = (bytes_decides bytes key).0 same in
      let here : get_by (λ k. bytes_eq key k.items) n ≡ Some (length names) = rw (← is) updates.1 in
      let before : is_some (first_place names key) ≡ false = rw (← places key, ← is) absent in
      let lower : bytes_eq key (lowercase name) ≡ true = rw (← lowered, is) (nat_list_eq_equiv.refl key) in
      grind (arith, here, place-push names name key, before, lower))
      (λ (differ : bytes_eq bytes key ≡ false).
      let other : bytes_eq key (lowercase name) ≡ false = rw (← lowered, nat_list_eq_equiv.symm key bytes) differ in
      let stays = others_kept bytes key m.entries n.entries updates.3 differ in
      grind (arith, stays, places key, place-push names name key, other))
      (cases_Bool (bytes_eq bytes key))
