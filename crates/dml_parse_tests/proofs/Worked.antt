-- Worked cases, each worked out by hand: what lines say, and where they are refused.
use Rattle.std.specs.Prelude.{◌++◌, pos, ◌≡◌, true, false, [], ◌∷◌, Ok, Err, codes}
use Rattle.std.proofs.Common.{refl}
use Rattle.aw_cell.specs.declared.comparison.Order.TheVariants as order
use Rattle.dml_tree.specs.TokensIn.{tokens_in}
use Rattle.dml_tree.specs.inside.Scanning.{numeral_len}
use Rattle.dml_tree.specs.declared.definition.Defined.TheVariants as defined
use Rattle.dml_tree.specs.declared.expr.Expr.TheVariants as e
use Rattle.dml_tree.specs.declared.expr.Joint.TheVariants as joint
use Rattle.dml_tree.specs.declared.statement.Limiting.TheVariants as limiting
use Rattle.dml_tree.specs.declared.statement.Range.TheVariants as range
use Rattle.dml_tree.specs.declared.statement.Select.TheVariants as select
use Rattle.dml_tree.specs.declared.statement.Statement.TheVariants as s
use Rattle.dml_grammar.specs.declared.fault.ParseFault.TheVariants.{Syntax, NotHere}
use Rattle.dml_grammar.specs.Trees.{tree_of}
use Rattle.dml_forms.specs.inside.LookAhead.{reading}
use Rattle.dml_lines.specs.Lines.{statement_in, definition_in}

-- ---- expressions

pub not_binds_tighter_than_and : statement_in (codes "SHOW not YES AND NO") 0 ≡ Ok (s.Show (e.Joined joint.And (e.Not (e.Truth true)) (e.Truth false)))
unfolding statement_in tokens_in tree_of reading
not_binds_tighter_than_and = refl

pub and_binds_tighter_than_or : statement_in (codes "SHOW NO OR YES AND NA") 0 ≡ Ok (s.Show (e.Joined joint.Or (e.Truth false) (e.Joined joint.And (e.Truth true) e.Na)))
unfolding statement_in tokens_in tree_of reading
and_binds_tighter_than_or = refl

pub not_binds_looser_than_a_comparison : statement_in (codes "SHOW NOT YES EQ NO") 0 ≡ Ok (s.Show (e.Not (e.Joined (joint.Compare order.Eq) (e.Truth true) (e.Truth false))))
unfolding statement_in tokens_in tree_of reading
not_binds_looser_than_a_comparison = refl

pub sums_join_to_the_left : statement_in (codes "SHOW NA - 1 - NA") 0 ≡ Ok (s.Show (e.Joined joint.Sub (e.Joined joint.Sub e.Na (e.Integer (pos 1))) e.Na))
unfolding statement_in tokens_in tree_of reading numeral_len
sums_join_to_the_left = refl

pub minus_binds_tighter_than_a_product : statement_in (codes "SHOW -NA * NA") 0 ≡ Ok (s.Show (e.Joined joint.Mul (e.Negative e.Na) e.Na))
unfolding statement_in tokens_in tree_of reading
minus_binds_tighter_than_a_product = refl

pub one_comparison : statement_in (codes "SHOW NA EQ NA EQ NA") 0 ≡ Err (Syntax 0 15)
unfolding statement_in tokens_in tree_of reading
one_comparison = refl

pub not_behind_a_sign : statement_in (codes "SHOW NA + NOT NA") 0 ≡ Err (Syntax 0 11)
unfolding statement_in tokens_in tree_of reading
not_behind_a_sign = refl

-- ---- statements

pub commas_may_be_left_out : statement_in (codes "acquire a b, c RESYNC d") 0 ≡ Ok (s.Acquire (codes "a" ∷ codes "b" ∷ codes "c" ∷ []) (codes "d" ∷ []) [])
unfolding statement_in tokens_in tree_of reading
commas_may_be_left_out = refl

pub comma_behind_the_last : statement_in (codes "ACQUIRE a, RESYNC d") 0 ≡ Err (Syntax 0 12)
unfolding statement_in tokens_in tree_of reading
comma_behind_the_last = refl

pub texts_are_ranges : statement_in (codes "LIMIT d KEEP 'A' TO 'B' 'C'") 0 ≡ Ok (s.Limit (codes "d") limiting.Keep (select.Ranges (range.Through (codes "A") (codes "B") ∷ range.Value (codes "C") ∷ [])))
unfolding statement_in tokens_in tree_of reading
texts_are_ranges = refl

pub text_begins_no_expression : statement_in (codes "LIMIT d TO 'A' EQ d") 0 ≡ Err (Syntax 0 16)
unfolding statement_in tokens_in tree_of reading
text_begins_no_expression = refl

pub count_has_no_point : statement_in (codes "LIMIT d TO FIRST 1.0") 0 ≡ Err (Syntax 0 18)
unfolding statement_in tokens_in tree_of reading numeral_len
count_has_no_point = refl

pub argument_behind_the_comma : statement_in (codes "CALL p(NA, )") 0 ≡ Err (Syntax 0 12)
unfolding statement_in tokens_in tree_of reading
argument_behind_the_comma = refl

pub no_program : statement_in (codes "DEFINE p PROGRAM") 0 ≡ Err (Syntax 0 1)
unfolding statement_in tokens_in tree_of reading
no_program = refl

-- ---- columns

pub behind_the_last_byte : statement_in (codes "ada: SHOW v + ") 4 ≡ Err (Syntax 0 15)
unfolding statement_in tokens_in tree_of reading
behind_the_last_byte = refl

pub faulty_token_first : statement_in (codes "SHOW ) $") 0 ≡ Err (Syntax 0 8)
unfolding statement_in tokens_in
faulty_token_first = refl

pub five_decimals : statement_in (codes "SHOW 1.23456") 0 ≡ Err (Syntax 0 12)
unfolding statement_in tokens_in tree_of reading numeral_len
five_decimals = refl

-- ---- definitions

pub relation : definition_in (codes "define r Relation d <e>" ∷ []) ≡ Ok (record { name = codes "r"; what = defined.Relation (codes "d") (codes "e") })
unfolding definition_in tokens_in tree_of reading
relation = refl

pub two_bases : definition_in (codes "DEFINE r RELATION d <e, d>" ∷ []) ≡ Err (Syntax 1 23)
unfolding definition_in tokens_in tree_of reading
two_bases = refl

pub not_in_a_program : definition_in (codes "DEFINE p PROGRAM" ∷ codes "SHOW v" ∷ [] ∷ codes " COMMIT (" ∷ codes "END" ∷ []) ≡ Err (NotHere 4)
unfolding definition_in tokens_in tree_of reading
not_in_a_program = refl

pub faulty_token_before_that : definition_in (codes "DEFINE p PROGRAM" ∷ codes "COMMIT $" ∷ codes "END" ∷ []) ≡ Err (Syntax 2 8)
unfolding definition_in tokens_in tree_of reading
faulty_token_before_that = refl

pub earlier_line_first : definition_in (codes "DEFINE p PROGRAM" ∷ codes "SHOW" ∷ codes "$" ∷ codes "END" ∷ []) ≡ Err (Syntax 2 5)
unfolding definition_in tokens_in tree_of reading
earlier_line_first = refl

pub block_without_doend : definition_in (codes "DEFINE p PROGRAM" ∷ codes "WHILE YES DO" ∷ codes " END" ∷ []) ≡ Err (Syntax 3 2)
unfolding definition_in tokens_in tree_of reading
block_without_doend = refl

pub without_end : definition_in (codes "DEFINE p PROGRAM" ∷ codes "SHOW v" ∷ []) ≡ Err (Syntax 3 1)
unfolding definition_in tokens_in tree_of reading
without_end = refl

pub end_with_more : definition_in (codes "DEFINE m AGGMAP" ∷ codes "RELATION r OPERATOR SUM" ∷ codes " END x" ∷ codes "END" ∷ []) ≡ Err (Syntax 3 2)
unfolding definition_in tokens_in tree_of reading
end_with_more = refl

pub end_with_a_comment : definition_in (codes "DEFINE m AGGMAP" ∷ codes "RELATION r OPERATOR SUM" ∷ (codes "END " ++ 34 ∷ []) ∷ []) ≡ Err (Syntax 3 1)
unfolding definition_in tokens_in tree_of reading
end_with_a_comment = refl

pub map_without_lines : definition_in (codes "DEFINE m AGGMAP" ∷ codes "END" ∷ []) ≡ Err (Syntax 2 1)
unfolding definition_in tokens_in tree_of reading
map_without_lines = refl

pub sum_has_no_remainder : definition_in (codes "DEFINE m AGGMAP" ∷ codes "RELATION r OPERATOR SUM REMOPERATOR LAST" ∷ codes "END" ∷ []) ≡ Err (Syntax 2 25)
unfolding definition_in tokens_in tree_of reading
sum_has_no_remainder = refl
