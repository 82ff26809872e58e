-- Laws of the generations: the latest one is a generation, and commits only add to them.
use Rattle.std.specs.Prelude.{◌≡◌, ℕ, zero, suc, ◌+◌, List, [], ◌∷◌, ◌++◌, length, fold, Some, None, slice_get, refl}
use Rattle.std.specs.Option.{option_to_list}
use Rattle.std.proofs.Common.{◌∙◌, ap, sym, subst, append_assoc, append-nil, length-append, arith}
use Rattle.std.proofs.lemmas.List.Sums.{fold-append}
use Rattle.aw_body.specs.Generations.{Bodies, change_of, changes_of, generations_from, IsGeneration, latest_number, latest_body}

module _ {Body Change : Type 0} (bodies : Bodies Body Change) where
  -- ---- an object's changes

  pub changes_of-append : (object : ℕ) (history commits : List (List Change)) → changes_of bodies object (history ++ commits) ≡ changes_of bodies object history ++ changes_of bodies object commits
  changes_of-append object [] commits = refl
  changes_of-append object (commit ∷ history) commits =
      ap (λ rest. option_to_list (change_of bodies object commit) ++ rest) (changes_of-append object history commits) ∙ sym (append_assoc (option_to_list (change_of bodies object commit)) (changes_of bodies object history) (changes_of bodies object commits))

  -- a commit adds the change that it has for the object
  pub changes_of-committed : (object : ℕ) (history : List (List Change)) (commit : List Change) → changes_of bodies object (history ++ commit ∷ []) ≡ changes_of bodies object history ++ option_to_list (change_of bodies object commit)
  changes_of-committed object history commit =
      changes_of-append object history (commit ∷ []) ∙ ap (λ rest. changes_of bodies object history ++ rest) (append-nil (option_to_list (change_of bodies object commit)))

  -- ---- the latest generation

  last-generation : (body : Body) (changes : List Change) → slice_get (generations_from bodies body changes) (length changes) ≡ Some (fold bodies.applied body changes)
  last-generation body [] = refl
  last-generation body (c ∷ cs) = last-generation (bodies.applied body c) cs

  -- the latest body is the generation that has the latest number
  pub IsGeneration-latest : (history : List (List Change)) (object : ℕ) → IsGeneration bodies history object (latest_number bodies history object) (latest_body bodies history object)
  IsGeneration-latest history object =
      (length (changes_of bodies object history), refl, last-generation (bodies.first object) (changes_of bodies object history))

  first-generation : (body : Body) (changes : List Change) → slice_get (generations_from bodies body changes) 0 ≡ Some body
  first-generation body [] = refl
  first-generation body (c ∷ cs) = refl

  generation-stays : (body : Body) (changes more : List Change) (k : ℕ) (found : Body) → slice_get (generations_from bodies body changes) k ≡ Some found → slice_get (generations_from bodies body (changes ++ more)) k ≡ Some found
  generation-stays body [] more zero found is = first-generation body more ∙ is
  generation-stays body [] more (suc k) found is = cc
  generation-stays body (c ∷ cs) more zero found is = is
  generation-stays body (c ∷ cs) more (suc k) found is = generation-stays (bodies.applied body c) cs more k found is

  -- a generation stays one whatever is committed
  pub IsGeneration-append : (history commits : List (List Change)) (object number : ℕ) (body : Body) → IsGeneration bodies history object number body → IsGeneration bodies (history ++ commits) object number body
  IsGeneration-append history commits object number body is =
      (is.0, is.1, subst (λ changes. slice_get (generations_from bodies (bodies.first object) changes) is.0 ≡ Some body) (sym (changes_of-append object history commits)) (generation-stays (bodies.first object) (changes_of bodies object history) (changes_of bodies object commits) is.0 body is.2))

  -- ---- what a commit makes of the latest generation

  -- of an object that it changes, the number rises by one, and the body is changed
  pub latest_number-changed : (history : List (List Change)) (commit : List Change) (object : ℕ) (c : Change) → change_of bodies object commit ≡ Some c → latest_number bodies (history ++ commit ∷ []) object ≡ latest_number bodies history object + 1
  latest_number-changed history commit object c is =
      let added = ap length (changes_of-committed object history commit ∙ ap (λ found. changes_of bodies object history ++ option_to_list found) is) in
      omega (arith, added, length-append (changes_of bodies object history) (c ∷ []))

  pub latest_body-changed : (history : List (List Change)) (commit : List Change) (object : ℕ) (c : Change) → change_of bodies object commit ≡ Some c → latest_body bodies (history ++ commit ∷ []) object ≡ bodies.applied (latest_body bodies history object) c
  latest_body-changed history commit object c is =
      ap (fold bodies.applied (bodies.first object)) (changes_of-committed object history commit ∙ ap (λ found. changes_of bodies object history ++ option_to_list found) is) ∙ fold-append bodies.applied (bodies.first object) (changes_of bodies object history) (c ∷ [])

  -- of any other object both stay
  changes_of-unchanged : (history : List (List Change)) (commit : List Change) (object : ℕ) → change_of bodies object commit ≡ None → changes_of bodies object (history ++ commit ∷ []) ≡ changes_of bodies object history
  changes_of-unchanged history commit object is =
      changes_of-committed object history commit ∙ ap (λ found. changes_of bodies object history ++ option_to_list found) is ∙ append-nil (changes_of bodies object history)

  pub latest_number-unchanged : (history : List (List Change)) (commit : List Change) (object : ℕ) → change_of bodies object commit ≡ None → latest_number bodies (history ++ commit ∷ []) object ≡ latest_number bodies history object
  latest_number-unchanged history commit object is =
      ap (λ changes. bodies.first_number object + length changes) (changes_of-unchanged history commit object is)

  pub latest_body-unchanged : (history : List (List Change)) (commit : List Change) (object : ℕ) → change_of bodies object commit ≡ None → latest_body bodies (history ++ commit ∷ []) object ≡ latest_body bodies history object
  latest_body-unchanged history commit object is =
      ap (fold bodies.applied (bodies.first object)) (changes_of-unchanged history commit object is)
