-- The next token decides each choice of the grammar.
use Rattle.std.proofs.Common.{refl, rules, ℕ, true, ◌≡◌, [], ◌∷◌, arith, nat_eq}
use Rattle.std.proofs.lemmas.Bool.Decides.{nat_tests}
use Rattle.dml_forms.specs.Deciding.{each_among}
use Rattle.dml_forms.specs.Deciding.{Fit}
use Rattle.dml_grammar.specs.Grammar.{Part, rule}
use Rattle.dml_grammar.specs.Grammar.{keyword, sign, line_end, line_of, ending_line, formula_from, formula_to, yes, no, numeral, comparison, additive, multiplicative, function, limiting, kinship, sharing, combining, rest, statement, line, owning, attachment, acquired, resynced, consistent, maintained, maintenance, simple, limit, aggregate, allocate, call, arguments, more_arguments, place, name, text, count, names, more_names, next_name, texts, more_texts, next_text, select, counted, kin, ranges, more_ranges, next_range, range, target, fixes, more_fixes, fix, expr, or, more_or, and, more_and, not, cmp, sum, more_sum, prod, more_prod, unary, atom, literal, inner, pair, kind, definition, defined, relation, variable, formula, body, variables, ending, local, steps, step, while, for, choice, otherwise, map, more_map, map_line, operated}
use Rattle.dml_grammar.specs.inside.Tables.{first, cont, nullable, rank}

-- a sort is among itself alone
own_sort : (k : ℕ) → each_among (k ∷ []) (k ∷ []) ≡ true
own_sort k = let same : nat_eq k k ≡ true = grind (arith, nat_tests) in rw same refl

pub fit : (n : Part) → Fit rule first cont nullable rank n
fit (keyword x) = record { fits = search rules; covers = own_sort _; full = refl; ranked = search rules }
fit (sign x) = record { fits = search rules; covers = own_sort _; full = refl; ranked = search rules }
fit line_end = record { fits = search rules; covers = refl; full = refl; ranked = search rules }
fit (line_of x) = record { fits = search rules; covers = own_sort _; full = refl; ranked = search rules }
fit ending_line = record { fits = search rules; covers = refl; full = refl; ranked = search rules }
fit formula_from = record { fits = search rules; covers = refl; full = refl; ranked = search rules }
fit formula_to = record { fits = search rules; covers = refl; full = refl; ranked = search rules }
fit yes = record { fits = search rules; covers = refl; full = refl; ranked = search rules }
fit no = record { fits = search rules; covers = refl; full = refl; ranked = search rules }
fit numeral = record { fits = search rules; covers = refl; full = refl; ranked = search rules }
fit comparison = record { fits = search rules; covers = refl; full = refl; ranked = search rules }
fit additive = record { fits = search rules; covers = refl; full = refl; ranked = search rules }
fit multiplicative = record { fits = search rules; covers = refl; full = refl; ranked = search rules }
fit function = record { fits = search rules; covers = refl; full = refl; ranked = search rules }
fit limiting = record { fits = search rules; covers = refl; full = refl; ranked = search rules }
fit kinship = record { fits = search rules; covers = refl; full = refl; ranked = search rules }
fit sharing = record { fits = search rules; covers = refl; full = refl; ranked = search rules }
fit combining = record { fits = search rules; covers = refl; full = refl; ranked = search rules }
fit rest = record { fits = search rules; covers = refl; full = refl; ranked = search rules }
fit statement = record { fits = search rules; covers = refl; full = refl; ranked = search rules }
fit line = record { fits = search rules; covers = refl; full = refl; ranked = search rules }
fit owning = record { fits = search rules; covers = refl; full = refl; ranked = search rules }
fit attachment = record { fits = search rules; covers = refl; full = refl; ranked = search rules }
fit acquired = record { fits = search rules; covers = refl; full = refl; ranked = search rules }
fit (resynced x) = record { fits = search rules; covers = refl; full = refl; ranked = search rules }
fit (consistent x y) = record { fits = search rules; covers = refl; full = refl; ranked = search rules }
fit maintained = record { fits = search rules; covers = refl; full = refl; ranked = search rules }
fit (maintenance x) = record { fits = search rules; covers = refl; full = refl; ranked = search rules }
fit simple = record { fits = search rules; covers = refl; full = refl; ranked = search rules }
fit limit = record { fits = search rules; covers = refl; full = refl; ranked = search rules }
fit aggregate = record { fits = search rules; covers = refl; full = refl; ranked = search rules }
fit allocate = record { fits = search rules; covers = refl; full = refl; ranked = search rules }
fit call = record { fits = search rules; covers = refl; full = refl; ranked = search rules }
fit arguments = record { fits = search rules; covers = refl; full = refl; ranked = search rules }
fit (more_arguments x) = record { fits = search rules; covers = refl; full = refl; ranked = search rules }
fit place = record { fits = search rules; covers = refl; full = refl; ranked = search rules }
fit name = record { fits = search rules; covers = refl; full = refl; ranked = search rules }
fit text = record { fits = search rules; covers = refl; full = refl; ranked = search rules }
fit count = record { fits = search rules; covers = refl; full = refl; ranked = search rules }
fit names = record { fits = search rules; covers = refl; full = refl; ranked = search rules }
fit (more_names x) = record { fits = search rules; covers = refl; full = refl; ranked = search rules }
fit next_name = record { fits = search rules; covers = refl; full = refl; ranked = search rules }
fit texts = record { fits = search rules; covers = refl; full = refl; ranked = search rules }
fit (more_texts x) = record { fits = search rules; covers = refl; full = refl; ranked = search rules }
fit next_text = record { fits = search rules; covers = refl; full = refl; ranked = search rules }
fit select = record { fits = search rules; covers = refl; full = refl; ranked = search rules }
fit counted = record { fits = search rules; covers = refl; full = refl; ranked = search rules }
fit kin = record { fits = search rules; covers = refl; full = refl; ranked = search rules }
fit ranges = record { fits = search rules; covers = refl; full = refl; ranked = search rules }
fit (more_ranges x) = record { fits = search rules; covers = refl; full = refl; ranked = search rules }
fit next_range = record { fits = search rules; covers = refl; full = refl; ranked = search rules }
fit range = record { fits = search rules; covers = refl; full = refl; ranked = search rules }
fit target = record { fits = search rules; covers = refl; full = refl; ranked = search rules }
fit fixes = record { fits = search rules; covers = refl; full = refl; ranked = search rules }
fit (more_fixes x) = record { fits = search rules; covers = refl; full = refl; ranked = search rules }
fit fix = record { fits = search rules; covers = refl; full = refl; ranked = search rules }
fit expr = record { fits = search rules; covers = refl; full = refl; ranked = search rules }
fit or = record { fits = search rules; covers = refl; full = refl; ranked = search rules }
fit (more_or x) = record { fits = search rules; covers = refl; full = refl; ranked = search rules }
fit and = record { fits = search rules; covers = refl; full = refl; ranked = search rules }
fit (more_and x) = record { fits = search rules; covers = refl; full = refl; ranked = search rules }
fit not = record { fits = search rules; covers = refl; full = refl; ranked = search rules }
fit cmp = record { fits = search rules; covers = refl; full = refl; ranked = search rules }
fit sum = record { fits = search rules; covers = refl; full = refl; ranked = search rules }
fit (more_sum x) = record { fits = search rules; covers = refl; full = refl; ranked = search rules }
fit prod = record { fits = search rules; covers = refl; full = refl; ranked = search rules }
fit (more_prod x) = record { fits = search rules; covers = refl; full = refl; ranked = search rules }
fit unary = record { fits = search rules; covers = refl; full = refl; ranked = search rules }
fit atom = record { fits = search rules; covers = refl; full = refl; ranked = search rules }
fit literal = record { fits = search rules; covers = refl; full = refl; ranked = search rules }
fit inner = record { fits = search rules; covers = refl; full = refl; ranked = search rules }
fit pair = record { fits = search rules; covers = refl; full = refl; ranked = search rules }
fit kind = record { fits = search rules; covers = refl; full = refl; ranked = search rules }
fit definition = record { fits = search rules; covers = refl; full = refl; ranked = search rules }
fit defined = record { fits = search rules; covers = refl; full = refl; ranked = search rules }
fit relation = record { fits = search rules; covers = refl; full = refl; ranked = search rules }
fit variable = record { fits = search rules; covers = refl; full = refl; ranked = search rules }
fit formula = record { fits = search rules; covers = refl; full = refl; ranked = search rules }
fit (body x) = record { fits = search rules; covers = refl; full = refl; ranked = search rules }
fit (variables x y) = record { fits = search rules; covers = refl; full = refl; ranked = search rules }
fit (ending x y z) = record { fits = search rules; covers = refl; full = refl; ranked = search rules }
fit (local x) = record { fits = search rules; covers = refl; full = refl; ranked = search rules }
fit (steps x) = record { fits = search rules; covers = refl; full = refl; ranked = search rules }
fit step = record { fits = search rules; covers = refl; full = refl; ranked = search rules }
fit while = record { fits = search rules; covers = refl; full = refl; ranked = search rules }
fit for = record { fits = search rules; covers = refl; full = refl; ranked = search rules }
fit choice = record { fits = search rules; covers = refl; full = refl; ranked = search rules }
fit (otherwise x y z) = record { fits = search rules; covers = refl; full = refl; ranked = search rules }
fit map = record { fits = search rules; covers = refl; full = refl; ranked = search rules }
fit (more_map x) = record { fits = search rules; covers = refl; full = refl; ranked = search rules }
fit map_line = record { fits = search rules; covers = refl; full = refl; ranked = search rules }
fit (operated x y) = record { fits = search rules; covers = refl; full = refl; ranked = search rules }
