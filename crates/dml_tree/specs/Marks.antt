-- The marks of a line, which bound how deep an expression is.
use Rattle.std.specs.Prelude.{ℕ, ◌+◌, Bool, true, false, not, cond, ◌&&◌, List, [], ◌∷◌}
use Rattle.dml_tree.specs.Sorts.{sort_of}
use Rattle.dml_tree.specs.declared.token.Symbol.TheVariants as symbol
use Rattle.dml_tree.specs.declared.word.Word.TheVariants as word
use Rattle.dml_tree.specs.declared.token.Sort.{Sort}
use Rattle.dml_tree.specs.declared.token.Sort.TheVariants as sort
use Rattle.dml_tree.specs.declared.token.Token.{Token}

abbrev pub is_function : Sort → Bool
is_function (sort.Word word.Abs) = true
is_function (sort.Word word.Min) = true
is_function (sort.Word word.Max) = true
is_function (sort.Word word.NaFill) = true
is_function _ = false

abbrev pub is_opening : Sort → Bool
is_opening (sort.Symbol symbol.Open) = true
is_opening _ = false

-- an operator, NOT, AND, OR, a comparison, a function, IF, or an opening parenthesis
abbrev pub is_mark : Sort → Bool
is_mark (sort.Symbol symbol.Open) = true
is_mark (sort.Symbol symbol.Plus) = true
is_mark (sort.Symbol symbol.Minus) = true
is_mark (sort.Symbol symbol.Star) = true
is_mark (sort.Symbol symbol.Slash) = true
is_mark (sort.Word word.Not) = true
is_mark (sort.Word word.And) = true
is_mark (sort.Word word.Or) = true
is_mark (sort.Word word.Eq) = true
is_mark (sort.Word word.Ne) = true
is_mark (sort.Word word.Lt) = true
is_mark (sort.Word word.Le) = true
is_mark (sort.Word word.Gt) = true
is_mark (sort.Word word.Ge) = true
is_mark (sort.Word word.If) = true
is_mark other = is_function other

-- a function and its parenthesis are one mark
abbrev pub marks_behind : Bool → List Token → ℕ
marks_behind after_function [] = 0
marks_behind after_function (token ∷ tokens) =
    cond (is_mark (sort_of token.what) && not (after_function && is_opening (sort_of token.what))) 1 0
    + marks_behind (is_function (sort_of token.what)) tokens

-- the marks of these tokens; the IF of a program's step is none, so they are counted behind it there
abbrev pub marks : List Token → ℕ
marks = marks_behind false
