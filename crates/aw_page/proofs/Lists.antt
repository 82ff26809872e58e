-- Tests on lists, through a function on their elements.
use Rattle.std.proofs.Common.{◌≡◌, Bool, List, [], ◌∷◌, map, ◌&&◌, refl, ap, sym, ◌∙◌}
use Rattle.std.specs.List.{list_all}
use Rattle.std.specs.Cmp.Lexicographic.{pointwise}
use Rattle.std.specs.Cmp.Derive.Mapped.{pointwise-map}

pub list_all-map : {A B : Type 0} (f : A → B) (p : B → Bool) (xs : List A) → list_all p (map f xs) ≡ list_all (λ x. p (f x)) xs
list_all-map f p [] = refl
list_all-map f p (x ∷ xs) = ap (λ b. p (f x) && b) (list_all-map f p xs)

-- a comparison of elements that agrees with one of what they stand for
pub pointwise-by : {A B : Type 0} (f : A → B) (E : A → A → Bool) (F : B → B → Bool) → ((a b : A) → E a b ≡ F (f a) (f b)) → (xs ys : List A) →
    pointwise E xs ys ≡ pointwise F (map f xs) (map f ys)
pointwise-by f E F agree xs ys = ap (λ G. pointwise G xs ys) (λ i a b. agree a b i) ∙ sym (pointwise-map f F xs ys)
