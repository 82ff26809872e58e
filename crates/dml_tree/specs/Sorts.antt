-- The sort of a token: which rule of the grammar it fits.
use Rattle.std.specs.Prelude.{ℕ, ◌+◌, Bool, nat_eq, Option, Some, None, unsigned_abs, ◌/◌}
use denote.Enum.Declared.{tag_of}
use Rattle.dml_tree.specs.Words.{word_number}
use Rattle.dml_tree.specs.contracts.token.Symbol.{the_type}
use Rattle.dml_tree.specs.declared.token.Lexeme.{Lexeme}
use Rattle.dml_tree.specs.declared.token.Lexeme.TheVariants as lexeme
use Rattle.dml_tree.specs.declared.token.Sort.{Sort}
use Rattle.dml_tree.specs.declared.token.Sort.TheVariants as sort

abbrev pub sort_of : Lexeme → Sort
sort_of (lexeme.Name name) = sort.Name
sort_of (lexeme.Word word) = sort.Word word
sort_of (lexeme.Integer whole) = sort.Integer
sort_of (lexeme.Whole units) = sort.Whole
sort_of (lexeme.Decimal units) = sort.Decimal
sort_of (lexeme.Text text) = sort.Text
sort_of (lexeme.Symbol symbol) = sort.Symbol symbol
sort_of lexeme.End = sort.End

-- a number for each sort, another one for each other sort
abbrev pub sort_number : Sort → ℕ
sort_number sort.Name = 0
sort_number sort.Integer = 1
sort_number sort.Whole = 2
sort_number sort.Decimal = 3
sort_number sort.Text = 4
sort_number sort.End = 5
sort_number (sort.Symbol symbol) = 6 + tag_of the_type symbol
sort_number (sort.Word word) = 16 + word_number word

abbrev pub same_sort : Sort → Sort → Bool
same_sort one other = nat_eq (sort_number one) (sort_number other)

-- how many a numeral without a point counts
abbrev pub count_of : Lexeme → Option ℕ
count_of (lexeme.Integer whole) = Some (unsigned_abs whole)
count_of (lexeme.Whole units) = Some (unsigned_abs units / 10000)
count_of _ = None
