-- How the grammar is read with one token of look-ahead: for each part the sorts with which it may begin and with which
-- a whole one may go on, whether it may be no token, and a rank, below which the parts that it begins with lie.
use Rattle.std.specs.Prelude.{ℕ, Bool, true, false, List, [], ◌∷◌, ◌++◌}
use Rattle.dml_tree.specs.declared.word.Word.TheVariants as w
use Rattle.dml_tree.specs.declared.token.Symbol.TheVariants as y
use Rattle.dml_tree.specs.declared.token.Sort.TheVariants as sort_is
use Rattle.dml_forms.specs.inside.LookAhead.{Outcome, reading}
use Rattle.dml_grammar.specs.declared.placed.Placed.{Placed}
use Rattle.dml_grammar.specs.Sorts.{number, sort, a_word, a_symbol, words_of, symbols_of, sorts_of}
use Rattle.dml_grammar.specs.Grammar.{Part, Value, rule, comparisons, numerals, counts, limitings, kins, functions, kinds, sharings, combinings, rests, plus_minus, star_slash}
use Rattle.dml_grammar.specs.Grammar.{keyword, sign, line_end, line_of, ending_line, formula_from, formula_to, yes, no, numeral, comparison, additive, multiplicative, function, limiting, kinship, sharing, combining, rest, statement, line, owning, attachment, acquired, resynced, consistent, maintained, maintenance, simple, limit, aggregate, allocate, call, arguments, more_arguments, place, name, text, count, names, more_names, next_name, texts, more_texts, next_text, select, counted, kin, ranges, more_ranges, next_range, range, target, fixes, more_fixes, fix, expr, or, more_or, and, more_and, not, cmp, sum, more_sum, prod, more_prod, unary, atom, literal, inner, pair, kind, definition, defined, relation, variable, formula, body, variables, ending, local, steps, step, while, for, choice, otherwise, map, more_map, map_line, operated}

abbrev pub a_name : ℕ
a_name = number sort_is.Name

abbrev pub a_text : ℕ
a_text = number sort_is.Text

abbrev pub a_comma : ℕ
a_comma = a_symbol y.Comma

abbrev pub an_open : ℕ
an_open = a_symbol y.Open

abbrev pub places : List ℕ
places = words_of (w.First ∷ w.Last ∷ w.Before ∷ w.After ∷ [])

abbrev pub literals : List ℕ
literals = sorts_of numerals ++ a_text ∷ words_of (w.Yes ∷ w.True ∷ w.No ∷ w.False ∷ w.Na ∷ [])

abbrev pub atoms : List ℕ
atoms = literals ++ an_open ∷ a_name ∷ words_of (w.Abs ∷ functions)

abbrev pub sum_starts : List ℕ
sum_starts = a_symbol y.Minus ∷ atoms

abbrev pub not_starts : List ℕ
not_starts = a_word w.Not ∷ sum_starts

abbrev pub expr_starts : List ℕ
expr_starts = a_word w.If ∷ not_starts

abbrev pub simple_starts : List ℕ
simple_starts = a_name ∷ words_of (w.Show ∷ w.Report ∷ w.Limit ∷ w.Aggregate ∷ w.Allocate ∷ w.Call ∷ [])

abbrev pub line_starts : List ℕ
line_starts = words_of (w.Aw ∷ w.Commit ∷ w.Acquire ∷ w.Resync ∷ w.Release ∷ w.Revert ∷ w.Update ∷ w.Maintain ∷ []) ++ simple_starts

abbrev pub step_starts : List ℕ
step_starts = words_of (w.Return ∷ w.While ∷ w.For ∷ w.If ∷ []) ++ simple_starts

abbrev pub after_prod : List ℕ
after_prod = an_open ∷ symbols_of star_slash

abbrev pub after_sum : List ℕ
after_sum = symbols_of plus_minus ++ after_prod

abbrev pub after_cmp : List ℕ
after_cmp = words_of comparisons ++ after_sum

abbrev pub after_and : List ℕ
after_and = a_word w.And ∷ after_cmp

abbrev pub after_or : List ℕ
after_or = a_word w.Or ∷ after_and

abbrev pub after_ranges : List ℕ
after_ranges = a_word w.To ∷ a_comma ∷ a_text ∷ []

abbrev pub after_select : List ℕ
after_select = after_ranges ++ after_or

abbrev pub after_acquired : List ℕ
after_acquired = a_comma ∷ a_name ∷ words_of (w.Resync ∷ w.Consistent ∷ [])

abbrev pub after_maintained : List ℕ
after_maintained = a_comma ∷ a_text ∷ places

abbrev pub after_line : List ℕ
after_line = after_acquired ++ after_maintained ++ after_select

abbrev pub first : Part → List ℕ
first (keyword x) = number (sort_is.Word x) ∷ []
first (sign x) = number (sort_is.Symbol x) ∷ []
first line_end = number sort_is.End ∷ []
first (line_of x) = number (sort_is.Word x) ∷ []
first ending_line = number sort_is.End ∷ []
first formula_from = words_of (w.Formula ∷ [])
first formula_to = number sort_is.End ∷ []
first yes = words_of (w.Yes ∷ w.True ∷ [])
first no = words_of (w.No ∷ w.False ∷ [])
first numeral = sorts_of numerals
first comparison = words_of comparisons
first additive = symbols_of plus_minus
first multiplicative = symbols_of star_slash
first function = words_of functions
first limiting = words_of limitings
first kinship = words_of kins
first sharing = words_of sharings
first combining = words_of combinings
first rest = words_of rests
first statement = line_starts
first line = line_starts
first owning = words_of (w.Acquire ∷ w.Resync ∷ w.Release ∷ w.Revert ∷ w.Update ∷ [])
first attachment = words_of (w.Attach ∷ w.Detach ∷ [])
first acquired = a_name ∷ a_word w.Resync ∷ []
first (resynced x) = words_of (w.Resync ∷ w.Consistent ∷ [])
first (consistent x y) = words_of (w.Consistent ∷ [])
first maintained = words_of (w.Maintain ∷ [])
first (maintenance x) = words_of (w.Add ∷ w.Delete ∷ w.Move ∷ w.Rename ∷ [])
first simple = simple_starts
first limit = words_of (w.Limit ∷ [])
first aggregate = words_of (w.Aggregate ∷ [])
first allocate = words_of (w.Allocate ∷ [])
first call = words_of (w.Call ∷ [])
first arguments = expr_starts
first (more_arguments x) = a_comma ∷ []
first place = places
first name = a_name ∷ []
first text = a_text ∷ []
first count = sorts_of counts
first names = a_name ∷ []
first (more_names x) = a_comma ∷ a_name ∷ []
first next_name = a_comma ∷ a_name ∷ []
first texts = a_text ∷ []
first (more_texts x) = a_comma ∷ a_text ∷ []
first next_text = a_comma ∷ a_text ∷ []
first select = words_of (w.All ∷ w.First ∷ w.Last ∷ w.Top ∷ w.Bottom ∷ kins) ++ expr_starts
first counted = words_of (w.First ∷ w.Last ∷ w.Top ∷ w.Bottom ∷ [])
first kin = words_of kins
first ranges = a_text ∷ []
first (more_ranges x) = a_comma ∷ a_text ∷ []
first next_range = a_comma ∷ a_text ∷ []
first range = a_text ∷ []
first target = a_name ∷ []
first fixes = a_name ∷ []
first (more_fixes x) = a_comma ∷ []
first fix = a_name ∷ []
first expr = expr_starts
first or = not_starts
first (more_or x) = words_of (w.Or ∷ [])
first and = not_starts
first (more_and x) = words_of (w.And ∷ [])
first not = not_starts
first cmp = sum_starts
first sum = sum_starts
first (more_sum x) = symbols_of plus_minus
first prod = sum_starts
first (more_prod x) = symbols_of star_slash
first unary = sum_starts
first atom = atoms
first literal = literals
first inner = an_open ∷ []
first pair = words_of functions
first kind = words_of kinds
first definition = words_of (w.Define ∷ [])
first defined = words_of (w.Dimension ∷ w.Relation ∷ w.ValueSet ∷ w.Variable ∷ w.Formula ∷ w.Program ∷ w.AggMap ∷ [])
first relation = words_of (w.Relation ∷ [])
first variable = words_of (w.Variable ∷ [])
first formula = words_of (w.Formula ∷ [])
first (body x) = words_of (w.Argument ∷ w.Variable ∷ w.End ∷ []) ++ step_starts
first (variables x y) = words_of (w.Variable ∷ w.End ∷ []) ++ step_starts
first (ending x y z) = a_word w.End ∷ step_starts
first (local x) = a_name ∷ []
first (steps x) = a_word w.DoEnd ∷ step_starts
first step = step_starts
first while = words_of (w.While ∷ [])
first for = words_of (w.For ∷ [])
first choice = words_of (w.If ∷ [])
first (otherwise x y z) = words_of (w.Else ∷ [])
first map = words_of (w.Relation ∷ [])
first (more_map x) = words_of (w.Relation ∷ w.End ∷ [])
first map_line = words_of (w.Relation ∷ [])
first (operated x y) = words_of (sharings ++ combinings)

abbrev pub cont : Part → List ℕ
cont line = after_line
cont owning = after_acquired
cont acquired = after_acquired
cont (resynced x) = after_acquired
cont (consistent x y) = after_acquired
cont maintained = after_maintained
cont (maintenance x) = after_maintained
cont simple = after_select
cont limit = after_select
cont call = an_open ∷ []
cont arguments = a_comma ∷ after_or
cont (more_arguments x) = a_comma ∷ after_or
cont names = a_comma ∷ a_name ∷ []
cont (more_names x) = a_comma ∷ a_name ∷ []
cont texts = a_comma ∷ a_text ∷ []
cont (more_texts x) = a_comma ∷ a_text ∷ []
cont select = after_select
cont counted = after_or
cont ranges = after_ranges
cont (more_ranges x) = after_ranges
cont next_range = words_of (w.To ∷ [])
cont range = words_of (w.To ∷ [])
cont target = an_open ∷ []
cont fixes = a_comma ∷ []
cont (more_fixes x) = a_comma ∷ []
cont expr = after_or
cont or = after_or
cont (more_or x) = after_or
cont and = after_and
cont (more_and x) = after_and
cont not = after_cmp
cont cmp = after_cmp
cont sum = after_sum
cont (more_sum x) = after_sum
cont prod = after_prod
cont (more_prod x) = after_prod
cont unary = an_open ∷ []
cont atom = an_open ∷ []
cont step = words_of (w.Else ∷ [])
cont choice = words_of (w.Else ∷ [])
cont (otherwise x y z) = words_of (w.Else ∷ [])
cont _ = []

abbrev pub nullable : Part → Bool
nullable (resynced x) = true
nullable (consistent x y) = true
nullable (more_arguments x) = true
nullable (more_names x) = true
nullable (more_texts x) = true
nullable (more_ranges x) = true
nullable (more_fixes x) = true
nullable (more_or x) = true
nullable (more_and x) = true
nullable (more_sum x) = true
nullable (more_prod x) = true
nullable (otherwise x y z) = true
nullable _ = false

abbrev pub rank : Part → ℕ
rank (keyword x) = 0
rank (sign x) = 0
rank line_end = 0
rank (line_of x) = 0
rank ending_line = 0
rank formula_from = 0
rank formula_to = 0
rank yes = 0
rank no = 0
rank numeral = 0
rank comparison = 0
rank additive = 0
rank multiplicative = 0
rank function = 0
rank limiting = 0
rank kinship = 0
rank sharing = 0
rank combining = 0
rank rest = 0
rank statement = 5
rank line = 4
rank acquired = 3
rank (resynced x) = 2
rank simple = 3
rank arguments = 12
rank name = 0
rank text = 0
rank count = 0
rank names = 2
rank (more_names x) = 3
rank next_name = 2
rank texts = 2
rank (more_texts x) = 3
rank next_text = 2
rank select = 12
rank ranges = 3
rank (more_ranges x) = 4
rank next_range = 3
rank range = 2
rank target = 2
rank fixes = 3
rank fix = 2
rank expr = 11
rank or = 10
rank and = 9
rank not = 8
rank cmp = 7
rank sum = 6
rank prod = 5
rank unary = 4
rank atom = 3
rank literal = 2
rank kind = 0
rank defined = 2
rank (body x) = 7
rank (variables x y) = 6
rank (ending x y z) = 5
rank (steps x) = 5
rank step = 4
rank map = 2
rank (more_map x) = 2
rank _ = 1

-- what a part reads
abbrev pub reads : (n : Part) → List Placed → Outcome Placed (Value n)
reads = reading sort first rule rank
