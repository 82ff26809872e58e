-- What each part reads that a function here reads, by its rule: a lemma a part, so that a proof opens this rule alone.
use Rattle.std.specs.Prelude.{ℕ, ◌≡◌, List}
use Rattle.dml_tree.specs.declared.expr.Expr.{Expr}
use Rattle.dml_tree.specs.declared.statement.Range.{Range}
use Rattle.dml_forms.specs.inside.LookAhead.{Outcome, found, and_then, parse}
use Rattle.dml_grammar.specs.declared.placed.Placed.{Placed}
use Rattle.dml_grammar.specs.Sorts.{sort}
use Rattle.dml_grammar.specs.Grammar as g
use Rattle.dml_grammar.specs.Grammar.{rule}
use Rattle.dml_grammar.specs.inside.Tables.{first, reads}
use Rattle.dml_grammar.proofs.callers.Steps as steps

pub range_is : (xs : List Placed) → reads g.range xs ≡ parse sort first reads (rule g.range) xs
range_is xs = steps.reads_is g.range xs

pub next_range_is : (xs : List Placed) → reads g.next_range xs ≡ parse sort first reads (rule g.next_range) xs
next_range_is xs = steps.reads_is g.next_range xs

pub ranges_is : (xs : List Placed) → reads g.ranges xs ≡ parse sort first reads (rule g.ranges) xs
ranges_is xs = steps.reads_is g.ranges xs

pub more_ranges_is : (front : List Range) (xs : List Placed) → reads (g.more_ranges front) xs ≡ parse sort first reads (rule (g.more_ranges front)) xs
more_ranges_is front xs = steps.reads_is (g.more_ranges front) xs

pub counted_is : (xs : List Placed) → reads g.counted xs ≡ parse sort first reads (rule g.counted) xs
counted_is xs = steps.reads_is g.counted xs

pub kin_is : (xs : List Placed) → reads g.kin xs ≡ parse sort first reads (rule g.kin) xs
kin_is xs = steps.reads_is g.kin xs

pub select_is : (xs : List Placed) → reads g.select xs ≡ parse sort first reads (rule g.select) xs
select_is xs = steps.reads_is g.select xs

pub limit_is : (xs : List Placed) → reads g.limit xs ≡ parse sort first reads (rule g.limit) xs
limit_is xs = steps.reads_is g.limit xs

pub aggregate_is : (xs : List Placed) → reads g.aggregate xs ≡ parse sort first reads (rule g.aggregate) xs
aggregate_is xs = steps.reads_is g.aggregate xs

pub allocate_is : (xs : List Placed) → reads g.allocate xs ≡ parse sort first reads (rule g.allocate) xs
allocate_is xs = steps.reads_is g.allocate xs

pub arguments_is : (xs : List Placed) → reads g.arguments xs ≡ parse sort first reads (rule g.arguments) xs
arguments_is xs = steps.reads_is g.arguments xs

pub more_arguments_is : (front : List Expr) (xs : List Placed) → reads (g.more_arguments front) xs ≡ parse sort first reads (rule (g.more_arguments front)) xs
more_arguments_is front xs = steps.reads_is (g.more_arguments front) xs

pub call_is : (xs : List Placed) → reads g.call xs ≡ parse sort first reads (rule g.call) xs
call_is xs = steps.reads_is g.call xs

pub simple_is : (xs : List Placed) → reads g.simple xs ≡ parse sort first reads (rule g.simple) xs
simple_is xs = steps.reads_is g.simple xs

-- a part that is another part
pub same_part : {A : Type 0} (o : Outcome Placed A) → and_then o (λ v rest. found v rest) ≡ o
same_part o = steps.same_part o
