-- The tokens of one or several lines as one list, each with where it stands.
use Rattle.std.specs.Prelude.{ℕ, suc, Bool, true, false, cond, min, List, [], ◌∷◌, ◌++◌}
use Rattle.dml_tree.specs.declared.token.Token.{Token}
use Rattle.dml_tree.specs.declared.token.Lexeme.{Lexeme}
use Rattle.dml_tree.specs.declared.token.Lexeme.TheVariants as what
use Rattle.dml_grammar.specs.declared.placed.Placed.{Placed}

-- the place of the first byte of the next token, 0 where there is none
abbrev pub next_from : List Token → ℕ
next_from [] = 0
next_from (t ∷ ts) = t.from

-- the tokens of a line from one of them on
abbrev pub placed_from : ℕ → Bool → ℕ → List Token → List Placed
placed_from line first past [] = []
placed_from line first past (t ∷ ts) = record { token = t; line = line; first = first; past = past; next = next_from ts } ∷ placed_from line false t.to ts

-- the tokens of the line of this number
abbrev pub placed : ℕ → List Token → List Placed
placed line tokens = placed_from line true 0 tokens

abbrev pub is_end : Lexeme → Bool
is_end what.End = true
is_end _ = false

-- a line without tokens but for its end
abbrev pub is_blank : List Token → Bool
is_blank [] = true
is_blank (t ∷ ts) = is_end t.what

-- the greatest number that a line or a column can have
abbrev pub within : ℕ → ℕ
within n = min n 4294967295

-- The lines from one of them on. Blank lines are passed over and counted.
abbrev pub placed_lines : ℕ → List (List Token) → List Placed
placed_lines at [] = []
placed_lines at (l ∷ ls) = cond (is_blank l) [] (placed (within at) l) ++ placed_lines (suc at) ls

-- The lines of a block count from 1; the line of a definition that has one line has the number 0.
abbrev pub block : List (List Token) → List Placed
block (l ∷ []) = placed_lines 0 (l ∷ [])
block ls = placed_lines 1 ls
