-- Combinations of lists in loop order: the first dimension varies slowest, each in the order of its list.
use Rattle.std.specs.Prelude.{ℕ, ◌*◌, ◌∷◌, [], List, length, map, flat_map, Result, Ok, Err}

-- a slot for each dimension
abbrev pub Place : Type 0
Place = List (ℕ × ℕ)

-- the combinations of the lists of dimensions. Without a dimension there is one, with an empty list none
abbrev pub places : List (ℕ × List ℕ) → List Place
places [] = [] ∷ []
places (list ∷ lists) = flat_map (λ slot. map (λ place. (list.0, slot) ∷ place) (places lists)) list.1

-- how many there are
abbrev pub combinations : List (ℕ × List ℕ) → ℕ
combinations [] = 1
combinations (list ∷ lists) = length list.1 * combinations lists

-- ---- one after the other, up to the first refusal

abbrev pub on_ok : {A B E : Type 0} → (A → Result B E) → Result A E → Result B E
on_ok f (Ok a) = f a
on_ok f (Err why) = Err why

abbrev pub ok_map : {A B E : Type 0} → (A → B) → Result A E → Result B E
ok_map f (Ok a) = Ok (f a)
ok_map f (Err why) = Err why

-- what f makes of each, in order, or its first refusal
abbrev pub all_of : {A B E : Type 0} → (A → Result B E) → List A → Result (List B) E
all_of f [] = Ok []
all_of f (x ∷ xs) = on_ok (λ y. ok_map (λ ys. y ∷ ys) (all_of f xs)) (f x)
