-- What each part reads that a function here reads, by its rule: a lemma a part, so that a proof opens this rule alone.
use Rattle.std.specs.Prelude.{ℕ, ◌≡◌, List}
use Rattle.dml_tree.specs.declared.expr.Expr.{Expr}
use Rattle.dml_tree.specs.declared.expr.Fix.{Fix}
use Rattle.dml_forms.specs.inside.LookAhead.{Outcome, found, and_then, parse}
use Rattle.dml_grammar.specs.declared.placed.Placed.{Placed}
use Rattle.dml_grammar.specs.Sorts.{sort}
use Rattle.dml_grammar.specs.Grammar as g
use Rattle.dml_grammar.specs.Grammar.{rule, Names}
use Rattle.dml_grammar.specs.inside.Tables.{first, reads}
use Rattle.dml_grammar.proofs.callers.Steps as steps

pub next_name_is : (xs : List Placed) → reads g.next_name xs ≡ parse sort first reads (rule g.next_name) xs
next_name_is xs = steps.reads_is g.next_name xs

pub names_is : (xs : List Placed) → reads g.names xs ≡ parse sort first reads (rule g.names) xs
names_is xs = steps.reads_is g.names xs

pub more_names_is : (front : Names) (xs : List Placed) → reads (g.more_names front) xs ≡ parse sort first reads (rule (g.more_names front)) xs
more_names_is front xs = steps.reads_is (g.more_names front) xs

pub next_text_is : (xs : List Placed) → reads g.next_text xs ≡ parse sort first reads (rule g.next_text) xs
next_text_is xs = steps.reads_is g.next_text xs

pub texts_is : (xs : List Placed) → reads g.texts xs ≡ parse sort first reads (rule g.texts) xs
texts_is xs = steps.reads_is g.texts xs

pub more_texts_is : (front : Names) (xs : List Placed) → reads (g.more_texts front) xs ≡ parse sort first reads (rule (g.more_texts front)) xs
more_texts_is front xs = steps.reads_is (g.more_texts front) xs

pub fix_is : (xs : List Placed) → reads g.fix xs ≡ parse sort first reads (rule g.fix) xs
fix_is xs = steps.reads_is g.fix xs

pub fixes_is : (xs : List Placed) → reads g.fixes xs ≡ parse sort first reads (rule g.fixes) xs
fixes_is xs = steps.reads_is g.fixes xs

pub more_fixes_is : (front : List Fix) (xs : List Placed) → reads (g.more_fixes front) xs ≡ parse sort first reads (rule (g.more_fixes front)) xs
more_fixes_is front xs = steps.reads_is (g.more_fixes front) xs

pub target_is : (xs : List Placed) → reads g.target xs ≡ parse sort first reads (rule g.target) xs
target_is xs = steps.reads_is g.target xs

pub literal_is : (xs : List Placed) → reads g.literal xs ≡ parse sort first reads (rule g.literal) xs
literal_is xs = steps.reads_is g.literal xs

pub inner_is : (xs : List Placed) → reads g.inner xs ≡ parse sort first reads (rule g.inner) xs
inner_is xs = steps.reads_is g.inner xs

pub pair_is : (xs : List Placed) → reads g.pair xs ≡ parse sort first reads (rule g.pair) xs
pair_is xs = steps.reads_is g.pair xs

pub atom_is : (xs : List Placed) → reads g.atom xs ≡ parse sort first reads (rule g.atom) xs
atom_is xs = steps.reads_is g.atom xs

pub unary_is : (xs : List Placed) → reads g.unary xs ≡ parse sort first reads (rule g.unary) xs
unary_is xs = steps.reads_is g.unary xs

pub prod_is : (xs : List Placed) → reads g.prod xs ≡ parse sort first reads (rule g.prod) xs
prod_is xs = steps.reads_is g.prod xs

pub more_prod_is : (left : Expr) (xs : List Placed) → reads (g.more_prod left) xs ≡ parse sort first reads (rule (g.more_prod left)) xs
more_prod_is left xs = steps.reads_is (g.more_prod left) xs

pub sum_is : (xs : List Placed) → reads g.sum xs ≡ parse sort first reads (rule g.sum) xs
sum_is xs = steps.reads_is g.sum xs

pub more_sum_is : (left : Expr) (xs : List Placed) → reads (g.more_sum left) xs ≡ parse sort first reads (rule (g.more_sum left)) xs
more_sum_is left xs = steps.reads_is (g.more_sum left) xs

pub cmp_is : (xs : List Placed) → reads g.cmp xs ≡ parse sort first reads (rule g.cmp) xs
cmp_is xs = steps.reads_is g.cmp xs

pub not_is : (xs : List Placed) → reads g.not xs ≡ parse sort first reads (rule g.not) xs
not_is xs = steps.reads_is g.not xs

pub and_is : (xs : List Placed) → reads g.and xs ≡ parse sort first reads (rule g.and) xs
and_is xs = steps.reads_is g.and xs

pub more_and_is : (left : Expr) (xs : List Placed) → reads (g.more_and left) xs ≡ parse sort first reads (rule (g.more_and left)) xs
more_and_is left xs = steps.reads_is (g.more_and left) xs

pub or_is : (xs : List Placed) → reads g.or xs ≡ parse sort first reads (rule g.or) xs
or_is xs = steps.reads_is g.or xs

pub more_or_is : (left : Expr) (xs : List Placed) → reads (g.more_or left) xs ≡ parse sort first reads (rule (g.more_or left)) xs
more_or_is left xs = steps.reads_is (g.more_or left) xs

pub expr_is : (xs : List Placed) → reads g.expr xs ≡ parse sort first reads (rule g.expr) xs
expr_is xs = steps.reads_is g.expr xs

-- a part that is another part
pub same_part : {A : Type 0} (o : Outcome Placed A) → and_then o (λ v rest. found v rest) ≡ o
same_part o = steps.same_part o
