-- The line of an answer without a refusal is one line of output.
use Rattle.std.proofs.Common.{◌≡◌, ◌++◌, ℕ, List, [], ap, sym, ◌∙◌, append-nil}

pub one_line : (before line : List ℕ) → before ++ line ≡ before ++ ((line ++ []) ++ [])
one_line before line = ap (λ those. before ++ those) (sym (append-nil (line ++ []) ∙ append-nil line))
