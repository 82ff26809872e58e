-- Forms of a language as data: which lists of tokens are of a form, with which value, and which begin it.
use Rattle.std.specs.Prelude.{ℕ, zero, suc, ◌≡◌, ◌⊎◌, Bool, false, ◌||◌, nat_eq, List, [], ◌∷◌, ◌++◌, IsTrue}

-- What may stand next: nothing, and this is the value; a token of one of these sorts, and what may stand behind it;
-- a part, and what may stand behind it; a part as the last one; one of two choices; or a form that doesn't begin with
-- a token of these sorts. X are the tokens, N names the parts, V is what each part stands for.
pub data Form (X : Type 0) (N : Type 0) (V : N → Type 0) (A : Type 0) : Type 0 where
  ended : A → Form X N V A
  token : List ℕ → (X → Form X N V A) → Form X N V A
  part : (n : N) → (V n → Form X N V A) → Form X N V A
  last : (n : N) → (V n → A) → Form X N V A
  either : Form X N V A → Form X N V A → Form X N V A
  but : List ℕ → Form X N V A → Form X N V A

-- the number is one of these
abbrev pub among : ℕ → List ℕ → Bool
among k [] = false
among k (x ∷ xs) = nat_eq k x || among k xs

-- a token comes, and is of one of these sorts
abbrev pub goes : {X : Type 0} → (X → ℕ) → List ℕ → List X → Bool
goes sort sorts [] = false
goes sort sorts (x ∷ xs) = among (sort x) sorts

module _ {X N : Type 0} {V : N → Type 0} (sort : X → ℕ) where
  -- The tokens are of the form, and this is its value. R says which tokens are a part, and with which value.
  abbrev pub In : {A : Type 0} → ((n : N) → List X → V n → Type 0) → Form X N V A → List X → A → Type 0
  In R (ended v) xs a = (xs ≡ []) × (v ≡ a)
  In R (token sorts next) [] a = ⊥
  In R (token sorts next) (x ∷ xs) a = IsTrue (among (sort x) sorts) × In R (next x) xs a
  In R (part n next) xs a = (ys zs : List X) × (v : V n) × (xs ≡ ys ++ zs) × R n ys v × In R (next v) zs a
  In R (last n to) xs a = (v : V n) × R n xs v × (to v ≡ a)
  In R (either one other) xs a = In R one xs a ⊎ In R other xs a
  In R (but sorts form) xs a = (goes sort sorts xs ≡ false) × In R form xs a

  -- The tokens begin the form: there are none; or they begin one of its choices, being whole first parts of it, in
  -- order, and then tokens that begin the next part, or the whole choice. B says which tokens begin a part.
  abbrev pub Begins : {A : Type 0} → ((n : N) → List X → V n → Type 0) → ((n : N) → List X → Type 0) → Form X N V A → List X → Type 0
  Begins R B (ended v) xs = xs ≡ []
  Begins R B (token sorts next) [] = Unit {0}
  Begins R B (token sorts next) (x ∷ xs) = IsTrue (among (sort x) sorts) × Begins R B (next x) xs
  Begins R B (part n next) xs = B n xs ⊎ ((ys zs : List X) × (v : V n) × (xs ≡ ys ++ zs) × R n ys v × Begins R B (next v) zs)
  Begins R B (last n to) xs = B n xs
  Begins R B (either one other) xs = Begins R B one xs ⊎ Begins R B other xs
  Begins R B (but sorts form) xs = (goes sort sorts xs ≡ false) × Begins R B form xs

  -- A grammar gives each part its rule, which is a form. The number says how deep parts may lie in one another.
  module _ (rule : (n : N) → Form X N V (V n)) where
    -- the tokens are this part, with this value
    abbrev pub Derives : ℕ → (n : N) → List X → V n → Type 0
    Derives zero n xs v = ⊥
    Derives (suc h) n xs v = In (Derives h) (rule n) xs v

    -- the tokens begin this part
    abbrev pub Starts : ℕ → (n : N) → List X → Type 0
    Starts zero n xs = xs ≡ []
    Starts (suc h) n xs = Begins (Derives h) (Starts h) (rule n) xs
