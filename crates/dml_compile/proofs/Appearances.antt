-- Lists whose elements appear first in the same order.
use Rattle.std.proofs.Common.{◌≡◌, ◌∙◌, ℕ, Bool as Truth, true, false, cond, ◌||◌, eqb, eq-eqb, eqb-true, List, [], ◌∷◌, ◌++◌, refl, sym, ap, subst, append_assoc, append-nil}
use Rattle.std.specs.Prelude.{filter}
use Rattle.std.proofs.lemmas.Bool.{false≢true}
use Rattle.std.proofs.lemmas.List.Folds.{list_any-append}
use Rattle.std.proofs.lemmas.List.Elements.{filter-append}
use Rattle.dml_exec.specs.Free.{is_among, with_one, with_all}
use Rattle.dml_kinds.specs.FreeDimensions.{appearing, first_appearances}

all_append : (before xs ys : List ℕ) → with_all before (xs ++ ys) ≡ with_all (with_all before xs) ys
all_append before [] ys = refl
all_append before (x ∷ xs) ys = all_append (with_one before x) xs ys

-- the same is added by both, whatever was there before
abbrev pub Same : List ℕ → List ℕ → Type 0
Same xs ys = (before : List ℕ) → with_all before xs ≡ with_all before ys

pub same_append : (a b c d : List ℕ) → Same a c → Same b d → Same (a ++ b) (c ++ d)
same_append a b c d h k before =
    all_append before a b ∙ k (with_all before a) ∙ ap (λ (xs : List ℕ). with_all xs d) (h before) ∙ sym (all_append before c d)

-- ---- what is there stays

or_true : (b : Truth) → (b || true) ≡ true
or_true true = refl
or_true false = refl

kept_one : (before : List ℕ) (x d : ℕ) → is_among before d ≡ true → is_among (with_one before x) d ≡ true
kept_one before x d h = by (is_among before x)
  where
    by : (t : Truth) → is_among (cond t before (before ++ x ∷ [])) d ≡ true
    by true = h
    by false = list_any-append (λ (other : ℕ). eqb other d) before (x ∷ []) ∙ ap (λ (b : Truth). b || is_among (x ∷ []) d) h

kept : (before xs : List ℕ) (d : ℕ) → is_among before d ≡ true → is_among (with_all before xs) d ≡ true
kept before [] d h = h
kept before (x ∷ xs) d h = kept (with_one before x) xs d (kept_one before x d h)

one_is : (before : List ℕ) (x : ℕ) → is_among (with_one before x) x ≡ true
one_is before x = by (is_among before x) refl
  where
    by : (t : Truth) → is_among before x ≡ t → is_among (cond t before (before ++ x ∷ [])) x ≡ true
    by true e = e
    by false e =
        list_any-append (λ (other : ℕ). eqb other x) before (x ∷ [])
        ∙ ap (λ (b : Truth). b || (eqb x x || false)) e
        ∙ ap (λ (b : Truth). b || false) (eq-eqb x x refl)

met : (before xs : List ℕ) (d : ℕ) → is_among xs d ≡ true → is_among (with_all before xs) d ≡ true
met before [] d h = absurd (false≢true h)
met before (x ∷ xs) d h = by (eqb x d) refl h (λ later. met (with_one before x) xs d later)
  where
    by : (t : Truth) → eqb x d ≡ t → (t || is_among xs d) ≡ true → (is_among xs d ≡ true → is_among (with_all (with_one before x) xs) d ≡ true) → is_among (with_all (with_one before x) xs) d ≡ true
    by true e h later =
        kept (with_one before x) xs d (subst (λ (n : ℕ). is_among (with_one before x) n ≡ true) (eqb-true x d e) (one_is before x))
    by false e h later = later h

module _ (p : ℕ → Truth) where
  kept_filtered : (xs : List ℕ) (d : ℕ) → is_among xs d ≡ true → p d ≡ true → is_among (filter p xs) d ≡ true
  kept_filtered [] d h holds = absurd (false≢true h)
  kept_filtered (x ∷ xs) d h holds = by (eqb x d) refl h (λ later. kept_filtered xs d later holds)
    where
      other : (t : Truth) → is_among (filter p xs) d ≡ true → is_among (cond t (x ∷ filter p xs) (filter p xs)) d ≡ true
      other true there = ap (λ (b : Truth). eqb x d || b) there ∙ or_true (eqb x d)
      other false there = there

      by : (t : Truth) → eqb x d ≡ t → (t || is_among xs d) ≡ true → (is_among xs d ≡ true → is_among (filter p xs) d ≡ true) → is_among (filter p (x ∷ xs)) d ≡ true
      by true e h later =
          ap (λ (b : Truth). is_among (cond b (x ∷ filter p xs) (filter p xs)) d) (subst (λ (n : ℕ). p n ≡ true) (sym (eqb-true x d e)) holds)
          ∙ ap (λ (b : Truth). b || is_among (filter p xs) d) e
      by false e h later = other (p x) (later h)

  -- ---- first appearances among those that pass a test

  filtered : (before acc xs : List ℕ) → with_all before (filter p (with_all acc xs)) ≡ with_all (with_all before (filter p acc)) (filter p xs)
  filtered before acc [] = refl
  filtered before acc (d ∷ xs) = filtered before (with_one acc d) xs ∙ by (is_among acc d) (p d) refl refl
    where
      added : (u : Truth) → with_all (with_all (with_all before (filter p acc)) (cond u (d ∷ []) [])) (filter p xs) ≡ with_all (with_all before (filter p acc)) (cond u (d ∷ filter p xs) (filter p xs))
      added true = refl
      added false = refl

      by : (t u : Truth) → is_among acc d ≡ t → p d ≡ u → with_all (with_all before (filter p (cond t acc (acc ++ d ∷ [])))) (filter p xs) ≡ with_all (with_all before (filter p acc)) (cond u (d ∷ filter p xs) (filter p xs))
      by true true there holds =
          sym (ap (λ (b : Truth). with_all (cond b (with_all before (filter p acc)) (with_all before (filter p acc) ++ d ∷ [])) (filter p xs)) (met before (filter p acc) d (kept_filtered acc d there holds)))
      by true false there holds = refl
      by false u there holds =
          ap (λ (l : List ℕ). with_all (with_all before l) (filter p xs)) (filter-append p acc (d ∷ []) ∙ ap (λ (b : Truth). filter p acc ++ cond b (d ∷ []) []) holds)
          ∙ ap (λ (l : List ℕ). with_all l (filter p xs)) (all_append before (filter p acc) (cond u (d ∷ []) []))
          ∙ added u

  pub same_filtered : (xs ys : List ℕ) → Same xs ys → Same (filter p xs) (filter p ys)
  same_filtered xs ys h before = sym (filtered before [] xs) ∙ ap (λ (l : List ℕ). with_all before (filter p l)) (h []) ∙ filtered before [] ys

  pub filtered_once : (xs : List ℕ) → Same (filter p (with_all [] xs)) (filter p xs)
  filtered_once xs before = filtered before [] xs

-- ---- first appearances

with_appearing : (before xs : List ℕ) → with_all before xs ≡ before ++ appearing before xs
with_appearing before [] = sym (append-nil before)
with_appearing before (d ∷ xs) = by (is_among before d) (λ b. with_appearing b xs)
  where
    by : (t : Truth) → ((b : List ℕ) → with_all b xs ≡ b ++ appearing b xs) → with_all (cond t before (before ++ d ∷ [])) xs ≡ before ++ cond t (appearing before xs) (d ∷ appearing (before ++ d ∷ []) xs)
    by true rest = rest before
    by false rest = rest (before ++ d ∷ []) ∙ append_assoc before (d ∷ []) (appearing (before ++ d ∷ []) xs)

pub first_are : (xs : List ℕ) → with_all [] xs ≡ first_appearances xs
first_are xs = with_appearing [] xs
