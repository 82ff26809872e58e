-- How a form is read from the left with one token of look-ahead.
use Rattle.std.specs.Prelude.{ℕ, zero, suc, ◌+◌, ◌*◌, cond, List, [], ◌∷◌, length}
use Rattle.dml_forms.specs.Forms.{Form, ended, token, part, last, either, but, among, goes}
use Rattle.dml_forms.specs.Deciding.{begins}

-- a value and the tokens behind it, or the tokens from the first one that doesn't fit
pub data Outcome (X : Type 0) (A : Type 0) : Type 0 where
  found : A → List X → Outcome X A
  fault : List X → Outcome X A

abbrev pub and_then : {X A B : Type 0} → Outcome X A → (A → List X → Outcome X B) → Outcome X B
and_then (found v rest) f = f v rest
and_then (fault rest) f = fault rest

-- how many tokens are left
abbrev pub left : {X A : Type 0} → Outcome X A → ℕ
left (found v rest) = length rest
left (fault rest) = length rest

-- a token of one of these sorts
abbrev pub one_of : {X : Type 0} → (X → ℕ) → List ℕ → List X → Outcome X X
one_of sort sorts [] = fault []
one_of sort sorts (x ∷ xs) = cond (among (sort x) sorts) (found x xs) (fault (x ∷ xs))

module _ {X N : Type 0} {V : N → Type 0} (sort : X → ℕ) (first : N → List ℕ) where
  -- p reads the parts; the next token decides between two choices
  abbrev pub parse : {A : Type 0} → ((n : N) → List X → Outcome X (V n)) → Form X N V A → List X → Outcome X A
  parse p (ended v) xs = found v xs
  parse p (token sorts next) xs = and_then (one_of sort sorts xs) (λ x rest. parse p (next x) rest)
  parse p (part n next) xs = and_then (p n xs) (λ v rest. parse p (next v) rest)
  parse p (last n to) xs = and_then (p n xs) (λ v rest. found (to v) rest)
  parse p (either one other) xs = cond (goes sort (begins first one) xs) (parse p one xs) (parse p other xs)
  parse p (but sorts form) xs = cond (goes sort sorts xs) (fault xs) (parse p form xs)

  abbrev pub parse_by : ((n : N) → Form X N V (V n)) → ℕ → (n : N) → List X → Outcome X (V n)
  parse_by rule zero n xs = fault xs
  parse_by rule (suc k) n xs = parse (parse_by rule k) (rule n) xs

  -- What a part reads. Parts of a rank below 32 lie in one another before each token.
  unfoldable pub reading : ((n : N) → Form X N V (V n)) → (N → ℕ) → (n : N) → List X → Outcome X (V n)
  reading rule rank n xs = parse_by rule (suc (32 * length xs + rank n)) n xs
