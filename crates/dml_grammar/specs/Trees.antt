-- The tree of tokens as a part of the grammar, or the place at which they are refused, as a function. A law says which one it
-- is ('each list is answered').
use Rattle.std.specs.Prelude.{ℕ, ◌-◌, nat_eq, cond, List, length, take, Result, Ok, Err}
use Rattle.dml_forms.specs.inside.LookAhead.{Outcome, found, fault}
use Rattle.dml_grammar.specs.declared.placed.Placed.{Placed}
use Rattle.dml_grammar.specs.Grammar.{Part, Value}
use Rattle.dml_grammar.specs.Limits.{none_counted}
use Rattle.dml_grammar.specs.Sentences.{Is, IsRefusedAt}
use Rattle.dml_grammar.specs.inside.Fronts.{front}
use Rattle.dml_grammar.specs.inside.Tables.{reads}

-- the answer for so many tokens, by what was read of the front that keeps the limits
abbrev pub answer_by : {A : Type 0} → Outcome Placed A → ℕ → ℕ → Result A ℕ
answer_by (found v rest) most all = cond (nat_eq (most - length rest) all) (Ok v) (Err (most - length rest))
answer_by (fault rest) most all = Err (most - length rest)

unfoldable pub tree_of : (n : Part) → List Placed → Result (Value n) ℕ
tree_of n xs = answer_by (reads n (take (front none_counted xs) xs)) (front none_counted xs) (length xs)

-- the tokens are this part, or are refused at a place
abbrev pub IsTreeOf : (n : Part) → List Placed → Result (Value n) ℕ → Type 0
IsTreeOf n xs (Ok v) = Is n xs v
IsTreeOf n xs (Err k) = IsRefusedAt n xs k

-- each list of tokens is one of the two, and this function gives it
abbrev pub EachIsAnswered : Type 0
EachIsAnswered = (n : Part) (xs : List Placed) → IsTreeOf n xs (tree_of n xs)
