-- What holds of every grammar. Tokens, parts and values are numbers here, as any of them may be numbered.
use Rattle.std.specs.Prelude.{ℕ, suc, ◌≡◌, ◌⊎◌, Bool, IsTrue, List, [], ◌++◌}
use Rattle.dml_forms.specs.Forms.{Form, Derives, Starts}
use Rattle.dml_forms.specs.Deciding.{Fit}
use Rattle.dml_forms.specs.Refusing.{IsKeptByFronts, Accepted, RefusedAt}

abbrev pub Rules : Type 0
Rules = ℕ → Form ℕ ℕ (λ _. ℕ) ℕ

-- The token's sort is the token itself.
abbrev pub itself : ℕ → ℕ
itself k = k

-- A greater height derives no less and begins no less.
abbrev pub HeightsGrow : Type 0
HeightsGrow =
    (rule : Rules) (h n : ℕ) (xs : List ℕ)
    → ((v : ℕ) → Derives itself rule h n xs v → Derives itself rule (suc h) n xs v) × (Starts itself rule h n xs → Starts itself rule (suc h) n xs)

-- Tokens that are a part begin it, and the front of what begins a part begins it.
abbrev pub FrontsBegin : Type 0
FrontsBegin =
    (rule : Rules) (h n : ℕ) (xs ys : List ℕ)
    → ((v : ℕ) → Derives itself rule h n xs v → Starts itself rule h n xs) × (Starts itself rule h n (xs ++ ys) → Starts itself rule h n xs)

module _ (rule : Rules) (first cont : ℕ → List ℕ) (nullable : ℕ → Bool) (rank : ℕ → ℕ) where
  -- the next token decides each choice of the grammar
  abbrev pub Decides : Type 0
  Decides = (n : ℕ) → Fit rule first cont nullable rank n

-- Where the next token decides each choice, a list of tokens is a part in one way.
abbrev pub OneTree : Type 0
OneTree =
    (rule : Rules) (first cont : ℕ → List ℕ) (nullable : ℕ → Bool) (rank : ℕ → ℕ) → Decides rule first cont nullable rank
    → (h k n : ℕ) (xs : List ℕ) (v w : ℕ) → Derives itself rule h n xs v → Derives itself rule k n xs w → v ≡ w

-- A list of tokens isn't both accepted and refused, and is refused at one place alone, under any limit.
abbrev pub OneAnswer : Type 0
OneAnswer =
    (rule : Rules) (limit : List ℕ → Bool) → IsKeptByFronts limit → (n : ℕ) (xs : List ℕ) (j k : ℕ) → RefusedAt itself rule limit n xs k
    → ((v : ℕ) → Accepted itself rule limit n xs v → ⊥) × (RefusedAt itself rule limit n xs j → j ≡ k)

-- Where the next token decides each choice, a list of tokens is accepted or refused, under any limit that the empty
-- list keeps.
abbrev pub Answered : Type 0
Answered =
    (rule : Rules) (first cont : ℕ → List ℕ) (nullable : ℕ → Bool) (rank : ℕ → ℕ) → Decides rule first cont nullable rank
    → (limit : List ℕ → Bool) → IsKeptByFronts limit → IsTrue (limit [])
    → (n : ℕ) (xs : List ℕ) → ((v : ℕ) × Accepted itself rule limit n xs v) ⊎ ((k : ℕ) × RefusedAt itself rule limit n xs k)
