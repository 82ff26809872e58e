-- When one token of look-ahead decides each choice of a grammar.
use Rattle.std.specs.Prelude.{ℕ, ◌≡◌, Bool, true, false, not, ◌&&◌, ◌||◌, cond, nat_lt, List, [], ◌∷◌, ◌++◌}
use Rattle.dml_forms.specs.Forms.{Form, ended, token, part, last, either, but, among}

-- none of the first is one of the second
abbrev pub none_among : List ℕ → List ℕ → Bool
none_among [] ys = true
none_among (x ∷ xs) ys = not (among x ys) && none_among xs ys

-- each of the first is one of the second
abbrev pub each_among : List ℕ → List ℕ → Bool
each_among [] ys = true
each_among (x ∷ xs) ys = among x ys && each_among xs ys

-- where the first test holds the second does
abbrev pub follows : Bool → Bool → Bool
follows a b = not a || b

-- the second without those of the first
abbrev pub without : List ℕ → List ℕ → List ℕ
without sorts [] = []
without sorts (x ∷ xs) = cond (among x sorts) (without sorts xs) (x ∷ without sorts xs)

module _ {X N : Type 0} {V : N → Type 0} (first : N → List ℕ) where
  -- the sorts that the form may begin with, where the parts may begin with these
  abbrev pub begins : {A : Type 0} → Form X N V A → List ℕ
  begins (ended v) = []
  begins (token sorts next) = sorts
  begins (part n next) = first n
  begins (last n to) = first n
  begins (either one other) = begins one ++ begins other
  begins (but sorts form) = without sorts (begins form)

-- A table says of each part with which sorts it may begin (first), with which sorts a whole one may go on (cont), and
-- whether it may be no token (nullable).
module _ {X N : Type 0} {V : N → Type 0} (first cont : N → List ℕ) (nullable : N → Bool) where
  -- the form may be no token
  abbrev pub empty : {A : Type 0} → Form X N V A → Bool
  empty (ended v) = true
  empty (token sorts next) = false
  empty (part n next) = false
  empty (last n to) = nullable n
  empty (either one other) = empty other
  empty (but sorts form) = empty form

  -- The next token decides, where K are the sorts with which a whole form may go on: a part in front isn't empty, and
  -- what is behind it begins with nothing with which the part goes on; the first of two choices isn't empty, and the
  -- choices begin with different sorts.
  abbrev pub Fits : {A : Type 0} → List ℕ → Form X N V A → Type 0
  Fits K (ended v) = Unit {0}
  Fits K (token sorts next) = (x : X) → Fits K (next x)
  Fits K (part n next) =
      (nullable n ≡ false) × ((v : V n) → (none_among (begins first (next v)) (cont n) ≡ true) × (follows (empty (next v)) (each_among (cont n) K) ≡ true) × Fits K (next v))
  Fits K (last n to) = each_among (cont n) K ≡ true
  Fits K (either one other) =
      (empty one ≡ false) × (none_among (begins first one) (begins first other) ≡ true) × (follows (empty other) (each_among (begins first one) K) ≡ true) × Fits K one × Fits K other
  Fits K (but sorts form) = (empty form ≡ false) × Fits K form

module _ {X N : Type 0} {V : N → Type 0} (rank : N → ℕ) where
  -- before the form's first token only parts of a lower rank come
  abbrev pub Ranked : {A : Type 0} → ℕ → Form X N V A → Type 0
  Ranked r (ended v) = Unit {0}
  Ranked r (token sorts next) = (x : X) → Ranked 32 (next x)
  Ranked r (part n next) = (nat_lt (rank n) r ≡ true) × ((v : V n) → Ranked 32 (next v))
  Ranked r (last n to) = nat_lt (rank n) r ≡ true
  Ranked r (either one other) = Ranked r one × Ranked r other
  Ranked r (but sorts form) = Ranked r form

-- The tables are right of this part, and the next token decides each choice of its rule.
pub record Fit {X N : Type 0} {V : N → Type 0} (rule : (n : N) → Form X N V (V n)) (first cont : N → List ℕ) (nullable : N → Bool) (rank : N → ℕ) (n : N) : Type 0 where
  pub fits : Fits first cont nullable (cont n) (rule n)
  pub covers : each_among (begins first (rule n)) (first n) ≡ true
  pub full : follows (empty first cont nullable (rule n)) (nullable n) ≡ true
  pub ranked : Ranked rank (rank n) (rule n)
