-- Folds make a commutative monoid: NA adds nothing, and the order in which folds are added up doesn't matter.
use Rattle.std.proofs.Common.{◌≡◌, ℕ, ◌+◌, ◌%◌, ◌^◌, ℤ, ◌+ℤ◌, cond, Bool, true, false, List, [], ◌∷◌, map, Option, Some, None, FitsSigned, refl, sym, ap, ◌∙◌, arith}
use Rattle.std.specs.List.{filter}
use Rattle.std.specs.Int.{int_min, int_max, int_wrap, int_wrapping_add, w128}
use Rattle.std.proofs.lemmas.Int.{wrapping_add_is, int_wrap-add_left, int_wrap-add_right, ints, clamps}
use Rattle.aw_cell.specs.declared.operator.Operator.{Operator}
use Rattle.aw_cell.specs.declared.operator.Operator.TheVariants.{Sum, Min, Max, Average, Count, Spread}
use Rattle.agg_run.specs.inside.Folds.{mixed, joined, with, summed}
use Rattle.agg_run.specs.declared.folding.Fold.{Fold}

pub wrapped : (a b : ℤ) → FitsSigned w128 a → FitsSigned w128 b → int_wrapping_add w128 a b ≡ int_wrap w128 (a +ℤ b)
wrapped a b f g = wrapping_add_is w128 a b f g

add-comm : (a b : ℤ) → a +ℤ b ≡ b +ℤ a
add-comm a b = omega (arith, ints)

add-assoc : (a b c : ℤ) → (a +ℤ b) +ℤ c ≡ a +ℤ (b +ℤ c)
add-assoc a b c = omega (arith, ints)

wrap-comm : (a b : ℤ) → int_wrap w128 (a +ℤ b) ≡ int_wrap w128 (b +ℤ a)
wrap-comm a b = ap (int_wrap w128) (add-comm a b)

wrap-assoc : (a b c : ℤ) → int_wrap w128 (int_wrap w128 (a +ℤ b) +ℤ c) ≡ int_wrap w128 (a +ℤ int_wrap w128 (b +ℤ c))
wrap-assoc a b c = int_wrap-add_left w128 (a +ℤ b) c ∙ ap (int_wrap w128) (add-assoc a b c) ∙ sym (int_wrap-add_right w128 a (b +ℤ c))

min-comm : (a b : ℤ) → int_min a b ≡ int_min b a
min-comm a b = omega (arith, ints, clamps)

max-comm : (a b : ℤ) → int_max a b ≡ int_max b a
max-comm a b = omega (arith, ints, clamps)

pub min-assoc : (a b c : ℤ) → int_min (int_min a b) c ≡ int_min a (int_min b c)
min-assoc a b c = omega (arith, ints, clamps)

pub max-assoc : (a b c : ℤ) → int_max (int_max a b) c ≡ int_max a (int_max b c)
max-assoc a b c = omega (arith, ints, clamps)

mixed-comm : (o : Operator) (a b : ℤ) → mixed o a b ≡ mixed o b a
mixed-comm Sum a b = wrap-comm a b
mixed-comm Min a b = min-comm a b
mixed-comm Max a b = max-comm a b
mixed-comm Average a b = wrap-comm a b
mixed-comm Count a b = wrap-comm a b
mixed-comm (Spread way) a b = wrap-comm a b

mixed-assoc : (o : Operator) (a b c : ℤ) → mixed o (mixed o a b) c ≡ mixed o a (mixed o b c)
mixed-assoc Sum a b c = wrap-assoc a b c
mixed-assoc Min a b c = min-assoc a b c
mixed-assoc Max a b c = max-assoc a b c
mixed-assoc Average a b c = wrap-assoc a b c
mixed-assoc Count a b c = wrap-assoc a b c
mixed-assoc (Spread way) a b c = wrap-assoc a b c

count-comm : (a b : ℕ) → (a + b + 1) % 2 ^ 64 ≡ (b + a + 1) % 2 ^ 64
count-comm a b = omega arith

count-assoc : (a b c : ℕ) → ((a + b + 1) % 2 ^ 64 + c + 1) % 2 ^ 64 ≡ (a + (b + c + 1) % 2 ^ 64 + 1) % 2 ^ 64
count-assoc a b c = omega arith

joined-comm : (o : Operator) (a b : Fold) → joined o a b ≡ joined o b a
joined-comm o a b = λ i. record { others = count-comm a.others b.others i; number = mixed-comm o a.number b.number i }

joined-assoc : (o : Operator) (a b c : Fold) → joined o (joined o a b) c ≡ joined o a (joined o b c)
joined-assoc o a b c = λ i. record { others = count-assoc a.others b.others c.others i; number = mixed-assoc o a.number b.number c.number i }

pub with-none : (o : Operator) (a : Option Fold) → with o a None ≡ a
with-none o None = refl
with-none o (Some a) = refl

pub with-comm : (o : Operator) (a b : Option Fold) → with o a b ≡ with o b a
with-comm o None None = refl
with-comm o None (Some b) = refl
with-comm o (Some a) None = refl
with-comm o (Some a) (Some b) = ap Some (joined-comm o a b)

pub with-assoc : (o : Operator) (a b c : Option Fold) → with o (with o a b) c ≡ with o a (with o b c)
with-assoc o None b c = refl
with-assoc o (Some a) None c = refl
with-assoc o (Some a) (Some b) None = refl
with-assoc o (Some a) (Some b) (Some c) = ap Some (joined-assoc o a b c)

-- two pairs are added up in either way
with-four : (o : Operator) (a b c d : Option Fold) → with o (with o a b) (with o c d) ≡ with o (with o a c) (with o b d)
with-four o a b c d =
    with-assoc o a b (with o c d)
    ∙ ap (with o a) (sym (with-assoc o b c d) ∙ ap (λ x. with o x d) (with-comm o b c) ∙ with-assoc o c b d)
    ∙ sym (with-assoc o a c (with o b d))

module _ {X : Type 0} (o : Operator) where
  pub summed-none : (xs : List X) → summed o (λ (x : X). None) xs ≡ None
  summed-none [] = refl
  summed-none (x ∷ xs) = summed-none xs

  pub summed-with : (f g : X → Option Fold) (xs : List X) → summed o (λ x. with o (f x) (g x)) xs ≡ with o (summed o f xs) (summed o g xs)
  summed-with f g [] = refl
  summed-with f g (x ∷ xs) = ap (with o (with o (f x) (g x))) (summed-with f g xs) ∙ with-four o (f x) (g x) (summed o f xs) (summed o g xs)

  pub summed-same : (f g : X → Option Fold) (xs : List X) → ((x : X) → f x ≡ g x) → summed o f xs ≡ summed o g xs
  summed-same f g [] same = refl
  summed-same f g (x ∷ xs) same = λ i. with o (same x i) (summed-same f g xs same i)

  pub summed-filter : (f : X → Option Fold) (p : X → Bool) (xs : List X) → summed o f (filter p xs) ≡ summed o (λ x. cond (p x) (f x) None) xs
  summed-filter f p [] = refl
  summed-filter f p (x ∷ xs) =
      elim (p x) as (λ b. summed o f (cond b (x ∷ filter p xs) (filter p xs)) ≡ with o (cond b (f x) None) (summed o (λ y. cond (p y) (f y) None) xs)) [
        | true ↦ ap (with o (f x)) (summed-filter f p xs)
        | false ↦ summed-filter f p xs
      ]

pub summed-map : {X Y : Type 0} (o : Operator) (f : Y → Option Fold) (g : X → Y) (xs : List X) → summed o f (map g xs) ≡ summed o (λ x. f (g x)) xs
summed-map o f g [] = refl
summed-map o f g (x ∷ xs) = ap (with o (f (g x))) (summed-map o f g xs)

-- rows and columns come to the same
pub summed-swap : {X Y : Type 0} (o : Operator) (h : X → Y → Option Fold) (xs : List X) (ys : List Y) → summed o (λ x. summed o (h x) ys) xs ≡ summed o (λ y. summed o (λ x. h x y) xs) ys
summed-swap o h [] ys = sym (summed-none o ys)
summed-swap o h (x ∷ xs) ys =
    ap (with o (summed o (h x) ys)) (summed-swap o h xs ys)
    ∙ sym (summed-with o (h x) (λ y. summed o (λ z. h z y) xs) ys)
