-- What a single token stands for.
use Rattle.std.specs.Prelude.{ℕ, List, [], Option, Some, None}
use Rattle.aw_cell.specs.declared.comparison.Order.TheVariants as order
use Rattle.aw_cell.specs.declared.cell.Kind.{Kind}
use Rattle.aw_cell.specs.declared.cell.Kind.TheVariants as kind
use Rattle.aw_cell.specs.declared.operator.Operator.{Operator}
use Rattle.aw_cell.specs.declared.operator.Operator.TheVariants as operator
use Rattle.aw_cell.specs.declared.operator.Spread.TheVariants as spread
use Rattle.aw_cell.specs.declared.operator.Rest.{Rest}
use Rattle.aw_cell.specs.declared.operator.Rest.TheVariants as rest
use Rattle.dml_tree.specs.Sorts.{count_of}
use Rattle.dml_tree.specs.declared.word.Word.TheVariants as w
use Rattle.dml_tree.specs.declared.token.Symbol.TheVariants as y
use Rattle.dml_tree.specs.declared.token.Lexeme.{Lexeme}
use Rattle.dml_tree.specs.declared.token.Lexeme.TheVariants as what
use Rattle.dml_tree.specs.declared.expr.Joint.{Joint}
use Rattle.dml_tree.specs.declared.expr.Joint.TheVariants as j
use Rattle.dml_tree.specs.declared.expr.Expr.{Expr}
use Rattle.dml_tree.specs.declared.expr.Expr.TheVariants as e
use Rattle.dml_tree.specs.declared.statement.Limiting.{Limiting}
use Rattle.dml_tree.specs.declared.statement.Limiting.TheVariants as limiting
use Rattle.dml_tree.specs.declared.statement.Kin.{Kin}
use Rattle.dml_tree.specs.declared.statement.Kin.TheVariants as kin

-- the bytes of a name or a text
abbrev pub text_of : Lexeme → List ℕ
text_of (what.Name x) = x
text_of (what.Text x) = x
text_of _ = []

abbrev pub or_zero : Option ℕ → ℕ
or_zero (Some n) = n
or_zero None = 0

-- how many a numeral without a point asks for
abbrev pub count_value : Lexeme → ℕ
count_value x = or_zero (count_of x)

-- the expression that is a numeral
abbrev pub numeral_of : Lexeme → Expr
numeral_of (what.Integer i) = e.Integer i
numeral_of (what.Whole n) = e.Number n
numeral_of (what.Decimal n) = e.Number n
numeral_of _ = e.Na

abbrev pub joint_of : Lexeme → Joint
joint_of (what.Word w.Or) = j.Or
joint_of (what.Word w.And) = j.And
joint_of (what.Word w.Eq) = j.Compare order.Eq
joint_of (what.Word w.Ne) = j.Compare order.Ne
joint_of (what.Word w.Lt) = j.Compare order.Lt
joint_of (what.Word w.Le) = j.Compare order.Le
joint_of (what.Word w.Gt) = j.Compare order.Gt
joint_of (what.Word w.Ge) = j.Compare order.Ge
joint_of (what.Word w.Min) = j.Min
joint_of (what.Word w.Max) = j.Max
joint_of (what.Symbol y.Plus) = j.Add
joint_of (what.Symbol y.Minus) = j.Sub
joint_of (what.Symbol y.Star) = j.Mul
joint_of (what.Symbol y.Slash) = j.Div
joint_of _ = j.NaFill

abbrev pub kind_of : Lexeme → Kind
kind_of (what.Word w.Number) = kind.Num
kind_of (what.Word w.Integer) = kind.Int
kind_of (what.Word w.Text) = kind.Text
kind_of _ = kind.Bool

abbrev pub limiting_of : Lexeme → Limiting
limiting_of (what.Word w.To) = limiting.To
limiting_of (what.Word w.Add) = limiting.Add
limiting_of (what.Word w.Keep) = limiting.Keep
limiting_of (what.Word w.Remove) = limiting.Remove
limiting_of _ = limiting.Complement

abbrev pub kin_of : Lexeme → Kin
kin_of (what.Word w.Parents) = kin.Parents
kin_of (what.Word w.Children) = kin.Children
kin_of (what.Word w.Ancestors) = kin.Ancestors
kin_of _ = kin.Descendants

abbrev pub operator_of : Lexeme → Operator
operator_of (what.Word w.Sum) = operator.Sum
operator_of (what.Word w.Min) = operator.Min
operator_of (what.Word w.Max) = operator.Max
operator_of (what.Word w.Even) = operator.Spread spread.Even
operator_of (what.Word w.HEven) = operator.Spread spread.HEven
operator_of (what.Word w.Proportional) = operator.Spread spread.Proportional
operator_of (what.Word w.Copy) = operator.Spread spread.Copy
operator_of _ = operator.Spread spread.HCopy

abbrev pub rest_of : Lexeme → Rest
rest_of (what.Word w.First) = rest.First
rest_of (what.Word w.Last) = rest.Last
rest_of (what.Word w.Min) = rest.Min
rest_of _ = rest.Max
