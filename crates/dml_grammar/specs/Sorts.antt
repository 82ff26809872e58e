-- The sort of a token: which rule of the grammar it fits. Sorts are numbered.
use Rattle.std.specs.Prelude.{ℕ, List, map}
use Rattle.dml_tree.specs.Sorts.{sort_of, sort_number}
use Rattle.dml_tree.specs.declared.word.Word.{Word}
use Rattle.dml_tree.specs.declared.token.Symbol.{Symbol}
use Rattle.dml_tree.specs.declared.token.Sort.{Sort}
use Rattle.dml_tree.specs.declared.token.Sort.TheVariants as s
use Rattle.dml_grammar.specs.declared.placed.Placed.{Placed}

abbrev pub number : Sort → ℕ
number s = sort_number s

abbrev pub sort : Placed → ℕ
sort x = number (sort_of x.token.what)

abbrev pub a_word : Word → ℕ
a_word w = number (s.Word w)

abbrev pub a_symbol : Symbol → ℕ
a_symbol y = number (s.Symbol y)

abbrev pub words_of : List Word → List ℕ
words_of ws = map a_word ws

abbrev pub symbols_of : List Symbol → List ℕ
symbols_of ys = map a_symbol ys

abbrev pub sorts_of : List Sort → List ℕ
sorts_of ss = map number ss
