-- The grammar of statements and definitions, one line a rule, in the order of docs/LANGUAGE.md, "How a line is read".
use Rattle.std.specs.Prelude.{ℕ, List, [], ◌∷◌, ◌++◌, true, false}
use Rattle.aw_cell.specs.declared.cell.Kind.{Kind}
use Rattle.aw_cell.specs.declared.operator.Operator.{Operator}
use Rattle.aw_cell.specs.declared.operator.Rest.{Rest}
use Rattle.dml_tree.specs.declared.word.Word.{Word}
use Rattle.dml_tree.specs.declared.word.Word.TheVariants as w
use Rattle.dml_tree.specs.declared.token.Symbol.{Symbol}
use Rattle.dml_tree.specs.declared.token.Symbol.TheVariants as y
use Rattle.dml_tree.specs.declared.token.Sort.{Sort}
use Rattle.dml_tree.specs.declared.token.Sort.TheVariants as sort_is
use Rattle.dml_tree.specs.declared.expr.Fix.{Fix}
use Rattle.dml_tree.specs.declared.expr.Target.{Target}
use Rattle.dml_tree.specs.declared.expr.Joint.{Joint}
use Rattle.dml_tree.specs.declared.expr.Joint.TheVariants as j
use Rattle.dml_tree.specs.declared.expr.Expr.{Expr}
use Rattle.dml_tree.specs.declared.expr.Expr.TheVariants as e
use Rattle.dml_tree.specs.declared.statement.Limiting.{Limiting}
use Rattle.dml_tree.specs.declared.statement.Kin.{Kin}
use Rattle.dml_tree.specs.declared.statement.Mode.TheVariants as mode
use Rattle.dml_tree.specs.declared.statement.Place.{Place}
use Rattle.dml_tree.specs.declared.statement.Place.TheVariants as place_is
use Rattle.dml_tree.specs.declared.statement.Range.{Range}
use Rattle.dml_tree.specs.declared.statement.Range.TheVariants as range_is
use Rattle.dml_tree.specs.declared.statement.Select.{Select}
use Rattle.dml_tree.specs.declared.statement.Select.TheVariants as select_is
use Rattle.dml_tree.specs.declared.statement.Statement.{Statement}
use Rattle.dml_tree.specs.declared.statement.Statement.TheVariants as s
use Rattle.dml_tree.specs.declared.definition.Local.{Local}
use Rattle.dml_tree.specs.declared.definition.Step.{Step}
use Rattle.dml_tree.specs.declared.definition.Step.TheVariants as step_is
use Rattle.dml_tree.specs.declared.definition.Program.{Program}
use Rattle.dml_tree.specs.declared.definition.Remainder.{Remainder}
use Rattle.dml_tree.specs.declared.definition.Remainder.TheVariants as remainder
use Rattle.dml_tree.specs.declared.definition.MapLine.{MapLine}
use Rattle.dml_tree.specs.declared.definition.Defined.{Defined}
use Rattle.dml_tree.specs.declared.definition.Defined.TheVariants as d
use Rattle.dml_tree.specs.declared.definition.Definition.{Definition}
use Rattle.dml_grammar.specs.declared.placed.Placed.{Placed}
use Rattle.dml_forms.specs.Forms.{Form, ended, token, part, last, either, but}
use Rattle.dml_grammar.specs.Sorts.{number, words_of, symbols_of, sorts_of}
use Rattle.dml_grammar.specs.TokenValues.{text_of, count_value, numeral_of, joint_of, kind_of, limiting_of, kin_of, operator_of, rest_of}

abbrev pub Names : Type 0
Names = List (List ℕ)

-- The parts of the grammar: first those of one token, then the rules. A part that goes on with what was read before
-- carries it.
pub data Part : Type 0 where
  keyword : Word → Part
  sign : Symbol → Part
  line_end : Part
  line_of : Word → Part
  ending_line : Part
  formula_from : Part
  formula_to : Part
  yes : Part
  no : Part
  numeral : Part
  comparison : Part
  additive : Part
  multiplicative : Part
  function : Part
  limiting : Part
  kinship : Part
  sharing : Part
  combining : Part
  rest : Part
  statement : Part
  line : Part
  owning : Part
  attachment : Part
  acquired : Part
  resynced : Names → Part
  consistent : Names → Names → Part
  maintained : Part
  maintenance : List ℕ → Part
  simple : Part
  limit : Part
  aggregate : Part
  allocate : Part
  call : Part
  arguments : Part
  more_arguments : List Expr → Part
  place : Part
  name : Part
  text : Part
  count : Part
  names : Part
  more_names : Names → Part
  next_name : Part
  texts : Part
  more_texts : Names → Part
  next_text : Part
  select : Part
  counted : Part
  kin : Part
  ranges : Part
  more_ranges : List Range → Part
  next_range : Part
  range : Part
  target : Part
  fixes : Part
  more_fixes : List Fix → Part
  fix : Part
  expr : Part
  or : Part
  more_or : Expr → Part
  and : Part
  more_and : Expr → Part
  not : Part
  cmp : Part
  sum : Part
  more_sum : Expr → Part
  prod : Part
  more_prod : Expr → Part
  unary : Part
  atom : Part
  literal : Part
  inner : Part
  pair : Part
  kind : Part
  definition : Part
  defined : Part
  relation : Part
  variable : Part
  formula : Part
  body : List Local → Part
  variables : List Local → List Local → Part
  ending : List Local → List Local → List Step → Part
  local : ℕ → Part
  steps : List Step → Part
  step : Part
  while : Part
  for : Part
  choice : Part
  otherwise : ℕ → Expr → List Step → Part
  map : Part
  more_map : List MapLine → Part
  map_line : Part
  operated : ℕ → List ℕ → Part

-- what a part stands for
abbrev pub Value : Part → Type 0
Value (keyword w) = Unit {0}
Value (sign y) = Unit {0}
Value line_end = Unit {0}
Value (line_of w) = ℕ
Value ending_line = ℕ
Value formula_from = ℕ
Value formula_to = ℕ
Value yes = Unit {0}
Value no = Unit {0}
Value comparison = Joint
Value additive = Joint
Value multiplicative = Joint
Value function = Joint
Value limiting = Limiting
Value kinship = Kin
Value sharing = Operator
Value combining = Operator
Value rest = Rest
Value statement = Statement
Value line = Statement
Value owning = Statement
Value attachment = Statement
Value acquired = Statement
Value (resynced a) = Statement
Value (consistent a b) = Statement
Value maintained = Statement
Value (maintenance of) = Statement
Value simple = Statement
Value limit = Statement
Value aggregate = Statement
Value allocate = Statement
Value call = Statement
Value arguments = List Expr
Value (more_arguments front) = List Expr
Value place = Place
Value name = List ℕ
Value text = List ℕ
Value count = ℕ
Value names = Names
Value (more_names front) = Names
Value next_name = List ℕ
Value texts = Names
Value (more_texts front) = Names
Value next_text = List ℕ
Value select = Select
Value counted = Select
Value kin = Select
Value ranges = List Range
Value (more_ranges front) = List Range
Value next_range = Range
Value range = Range
Value target = Target
Value fixes = List Fix
Value (more_fixes front) = List Fix
Value fix = Fix
Value kind = Kind
Value definition = Definition
Value defined = Defined
Value relation = Defined
Value variable = Defined
Value formula = Defined
Value (body args) = Program
Value (variables args vars) = Program
Value (ending args vars done) = Program
Value (local at) = Local
Value (steps front) = List Step
Value step = Step
Value while = Step
Value for = Step
Value choice = Step
Value (otherwise at c a) = Step
Value map = List MapLine
Value (more_map front) = List MapLine
Value map_line = MapLine
Value (operated at r) = MapLine
Value _ = Expr

abbrev pub Rule : Type 0 → Type 0
Rule A = Form Placed Part Value A

-- a word or a symbol, and what is behind it
abbrev pub word : {A : Type 0} → Word → Rule A → Rule A
word w behind = part (keyword w) (λ _. behind)

abbrev pub symbol : {A : Type 0} → Symbol → Rule A → Rule A
symbol y behind = part (sign y) (λ _. behind)

-- a word that is the whole form
abbrev pub alone : {A : Type 0} → Word → A → Rule A
alone w v = last (keyword w) (λ _. v)

-- the end of the line, behind which the next line begins, and the same as the last part
abbrev pub next_line : {A : Type 0} → Rule A → Rule A
next_line behind = part line_end (λ _. behind)

abbrev pub ends : {A : Type 0} → A → Rule A
ends v = last line_end (λ _. v)

-- a word and the number of its line
abbrev pub lined : {A : Type 0} → Word → (ℕ → Rule A) → Rule A
lined w behind = part (line_of w) behind

-- a part and nothing more
abbrev pub only : (n : Part) → Rule (Value n)
only n = last n (λ v. v)

abbrev pub comparisons : List Word
comparisons = w.Eq ∷ w.Ne ∷ w.Lt ∷ w.Le ∷ w.Gt ∷ w.Ge ∷ []

abbrev pub numerals : List Sort
numerals = sort_is.Integer ∷ sort_is.Whole ∷ sort_is.Decimal ∷ []

abbrev pub counts : List Sort
counts = sort_is.Integer ∷ sort_is.Whole ∷ []

abbrev pub limitings : List Word
limitings = w.To ∷ w.Add ∷ w.Keep ∷ w.Remove ∷ w.Complement ∷ []

abbrev pub kins : List Word
kins = w.Parents ∷ w.Children ∷ w.Ancestors ∷ w.Descendants ∷ []

abbrev pub functions : List Word
functions = w.Min ∷ w.Max ∷ w.NaFill ∷ []

abbrev pub kinds : List Word
kinds = w.Number ∷ w.Integer ∷ w.Text ∷ w.Boolean ∷ []

-- the operators behind which REMOPERATOR may stand, and the others
abbrev pub sharings : List Word
sharings = w.Even ∷ w.HEven ∷ w.Proportional ∷ []

abbrev pub combinings : List Word
combinings = w.Sum ∷ w.Min ∷ w.Max ∷ w.Copy ∷ w.HCopy ∷ []

abbrev pub rests : List Word
rests = w.First ∷ w.Last ∷ w.Min ∷ w.Max ∷ []

abbrev pub plus_minus : List Symbol
plus_minus = y.Plus ∷ y.Minus ∷ []

abbrev pub star_slash : List Symbol
star_slash = y.Star ∷ y.Slash ∷ []

abbrev pub map_row : ℕ → List ℕ → Operator → Remainder → MapLine
map_row at r o left = record { line = at; relation = r; operator = o; rest = left }

abbrev pub rule : (n : Part) → Rule (Value n)
rule (keyword w) = token (number (sort_is.Word w) ∷ []) (λ _. ended tt)
rule (sign y) = token (number (sort_is.Symbol y) ∷ []) (λ _. ended tt)
rule line_end = token (number sort_is.End ∷ []) (λ _. ended tt)
rule (line_of w) = token (number (sort_is.Word w) ∷ []) (λ x. ended x.line)
rule ending_line = token (number sort_is.End ∷ []) (λ x. ended x.line)
rule formula_from = token (number (sort_is.Word w.Formula) ∷ []) (λ x. ended x.next)
rule formula_to = token (number sort_is.End ∷ []) (λ x. ended x.past)
rule yes = token (words_of (w.Yes ∷ w.True ∷ [])) (λ _. ended tt)
rule no = token (words_of (w.No ∷ w.False ∷ [])) (λ _. ended tt)
rule numeral = token (sorts_of numerals) (λ x. ended (numeral_of x.token.what))
rule comparison = token (words_of comparisons) (λ x. ended (joint_of x.token.what))
rule additive = token (symbols_of plus_minus) (λ x. ended (joint_of x.token.what))
rule multiplicative = token (symbols_of star_slash) (λ x. ended (joint_of x.token.what))
rule function = token (words_of functions) (λ x. ended (joint_of x.token.what))
rule limiting = token (words_of limitings) (λ x. ended (limiting_of x.token.what))
rule kinship = token (words_of kins) (λ x. ended (kin_of x.token.what))
rule kind = token (words_of kinds) (λ x. ended (kind_of x.token.what))
rule sharing = token (words_of sharings) (λ x. ended (operator_of x.token.what))
rule combining = token (words_of combinings) (λ x. ended (operator_of x.token.what))
rule rest = token (words_of rests) (λ x. ended (rest_of x.token.what))
rule statement = part line (λ v. ends v)
rule line =
    either (word w.Aw (only attachment))
    (either (alone w.Commit s.Commit)
    (either (only owning)
    (either (only maintained)
    (only simple))))
rule owning =
    either (word w.Acquire (only acquired))
    (either (word w.Resync (last names s.Resync))
    (either (word w.Release (last names s.Release))
    (either (word w.Revert (either (last names s.Revert) (ended (s.Revert []))))
    (word w.Update (either (last names s.Update) (ended (s.Update [])))))))
rule attachment = either (word w.Attach (either (alone w.Multi (s.Attach mode.Multi)) (alone w.Ro (s.Attach mode.ReadOnly)))) (alone w.Detach s.Detach)
rule acquired = either (part names (λ a. only (resynced a))) (word w.Resync (part names (λ b. only (consistent [] b))))
rule (resynced a) = either (word w.Resync (part names (λ b. only (consistent a b)))) (only (consistent a []))
rule (consistent a b) = either (word w.Consistent (word w.With (last names (s.Acquire a b)))) (ended (s.Acquire a b []))
rule maintained = word w.Maintain (part name (λ of. only (maintenance of)))
rule (maintenance of) =
    either (word w.Add (part texts (λ l. either (last place (s.Add of l)) (ended (s.Add of l place_is.Last)))))
    (either (word w.Delete (last texts (s.Delete of)))
    (either (word w.Move (part texts (λ l. last place (s.Move of l))))
    (word w.Rename (part text (λ was. last text (s.Rename of was))))))
rule simple =
    either (part target (λ to. symbol y.Equals (last expr (s.Assign to))))
    (either (word w.Show (last expr s.Show))
    (either (word w.Report (last expr s.Report))
    (either (only limit)
    (either (only aggregate)
    (either (only allocate)
    (only call))))))
rule limit = word w.Limit (part name (λ of. part limiting (λ x. last select (s.Limit of x))))
rule aggregate = word w.Aggregate (part name (λ v. word w.Using (last name (s.Aggregate v))))
rule allocate =
    word w.Allocate (part name (λ from. word w.Basis (part name (λ by. word w.Target (part name (λ to. word w.Using (last name (s.Allocate from by to))))))))
rule call = word w.Call (part name (λ p. either (symbol y.Open (either (last (sign y.Close) (λ _. s.Call p [])) (part arguments (λ l. last (sign y.Close) (λ _. s.Call p l))))) (ended (s.Call p []))))
rule arguments = part expr (λ v. only (more_arguments (v ∷ [])))
rule (more_arguments front) = either (symbol y.Comma (part expr (λ v. only (more_arguments (front ++ v ∷ []))))) (ended front)
rule place =
    either (alone w.First place_is.First)
    (either (alone w.Last place_is.Last)
    (either (word w.Before (last text place_is.Before))
    (word w.After (last text place_is.After))))
rule name = token (number sort_is.Name ∷ []) (λ x. ended (text_of x.token.what))
rule text = token (number sort_is.Text ∷ []) (λ x. ended (text_of x.token.what))
rule count = token (sorts_of counts) (λ x. ended (count_value x.token.what))
rule names = part name (λ x. only (more_names (x ∷ [])))
rule (more_names front) = either (part next_name (λ x. only (more_names (front ++ x ∷ [])))) (ended front)
rule next_name = either (symbol y.Comma (only name)) (only name)
rule texts = part text (λ x. only (more_texts (x ∷ [])))
rule (more_texts front) = either (part next_text (λ x. only (more_texts (front ++ x ∷ [])))) (ended front)
rule next_text = either (symbol y.Comma (only text)) (only text)
rule select =
    either (alone w.All select_is.All)
    (either (last ranges select_is.Ranges)
    (either (only counted)
    (either (only kin)
    (but (number sort_is.Text ∷ []) (last expr select_is.Where)))))
rule counted =
    either (word w.First (last count select_is.First))
    (either (word w.Last (last count select_is.Last))
    (either (word w.Top (part count (λ n. word w.BasedOn (last expr (select_is.Top n)))))
    (word w.Bottom (part count (λ n. word w.BasedOn (last expr (select_is.Bottom n)))))))
rule kin = part kinship (λ x. word w.Using (last name (select_is.Kin x)))
rule ranges = part range (λ x. only (more_ranges (x ∷ [])))
rule (more_ranges front) = either (part next_range (λ x. only (more_ranges (front ++ x ∷ [])))) (ended front)
rule next_range = either (symbol y.Comma (only range)) (only range)
rule range = part text (λ a. either (word w.To (last text (range_is.Through a))) (ended (range_is.Value a)))
rule target = part name (λ x. either (symbol y.Open (part fixes (λ l. last (sign y.Close) (λ _. record { name = x; fixes = l })))) (ended (record { name = x; fixes = [] })))
rule fixes = part fix (λ x. only (more_fixes (x ∷ [])))
rule (more_fixes front) = either (symbol y.Comma (part fix (λ x. only (more_fixes (front ++ x ∷ []))))) (ended front)
rule fix = part name (λ of. last text (λ v. record { dimension = of; value = v }))
rule expr = either (word w.If (part expr (λ c. word w.Then (part expr (λ a. word w.Else (last expr (λ b. e.If c a b))))))) (only or)
rule or = part and (λ l. only (more_or l))
rule (more_or l) = either (word w.Or (part and (λ r. only (more_or (e.Joined j.Or l r))))) (ended l)
rule and = part not (λ l. only (more_and l))
rule (more_and l) = either (word w.And (part not (λ r. only (more_and (e.Joined j.And l r))))) (ended l)
rule not = either (word w.Not (last not e.Not)) (only cmp)
rule cmp = part sum (λ l. either (part comparison (λ o. last sum (e.Joined o l))) (ended l))
rule sum = part prod (λ l. only (more_sum l))
rule (more_sum l) = either (part additive (λ o. part prod (λ r. only (more_sum (e.Joined o l r))))) (ended l)
rule prod = part unary (λ l. only (more_prod l))
rule (more_prod l) = either (part multiplicative (λ o. part unary (λ r. only (more_prod (e.Joined o l r))))) (ended l)
rule unary = either (symbol y.Minus (last unary e.Negative)) (only atom)
rule atom =
    either (only literal)
    (either (last inner e.Grouped)
    (either (last target e.Object)
    (either (word w.Abs (last inner e.Abs))
    (only pair))))
rule literal =
    either (only numeral)
    (either (last text e.Text)
    (either (last yes (λ _. e.Truth true))
    (either (last no (λ _. e.Truth false))
    (alone w.Na e.Na))))
rule inner = symbol y.Open (part expr (λ v. last (sign y.Close) (λ _. v)))
rule pair = part function (λ o. symbol y.Open (part expr (λ a. symbol y.Comma (part expr (λ b. last (sign y.Close) (λ _. e.Joined o a b))))))
rule definition = word w.Define (part name (λ n. last defined (λ v. record { name = n; what = v })))
rule defined =
    either (word w.Dimension (word w.Text (ends d.Dimension)))
    (either (only relation)
    (either (word w.ValueSet (part name (λ of. ends (d.ValueSet of))))
    (either (only variable)
    (either (only formula)
    (either (word w.Program (next_line (last (body []) d.Program)))
    (word w.AggMap (next_line (last map d.AggMap))))))))
rule relation = word w.Relation (part name (λ to. symbol y.Less (part name (λ from. symbol y.Greater (ends (d.Relation to from))))))
rule variable = word w.Variable (part kind (λ k. either (symbol y.Less (part names (λ l. symbol y.Greater (ends (d.Variable k l))))) (ends (d.Variable k []))))
rule formula = part formula_from (λ from. part expr (λ v. last formula_to (d.Formula v from)))
rule (body args) = either (lined w.Argument (λ at. part (local at) (λ x. only (body (args ++ x ∷ []))))) (only (variables args []))
rule (variables args vars) = either (lined w.Variable (λ at. part (local at) (λ x. only (variables args (vars ++ x ∷ []))))) (only (ending args vars []))
rule (ending args vars done) = either (part step (λ x. only (ending args vars (done ++ x ∷ [])))) (word w.End (ends (record { arguments = args; variables = vars; steps = done })))
rule (local at) = part name (λ x. part kind (λ k. ends (record { line = at; name = x; kind = k })))
rule (steps front) = either (part step (λ x. only (steps (front ++ x ∷ [])))) (word w.DoEnd (ends front))
rule step =
    either (part simple (λ v. last ending_line (λ at. step_is.Plain at v)))
    (either (lined w.Return (λ at. ends (step_is.Return at)))
    (either (only while)
    (either (only for)
    (only choice))))
rule while = lined w.While (λ at. part expr (λ c. word w.Do (next_line (last (steps []) (step_is.While at c)))))
rule for = lined w.For (λ at. part name (λ of. word w.Do (next_line (last (steps []) (step_is.For at of)))))
rule choice = lined w.If (λ at. part expr (λ c. word w.Then (word w.Do (next_line (part (steps []) (λ a. only (otherwise at c a)))))))
rule (otherwise at c a) = either (word w.Else (word w.Do (next_line (last (steps []) (step_is.If at c a))))) (ended (step_is.If at c a []))
rule map = part map_line (λ x. only (more_map (x ∷ [])))
rule (more_map front) = either (part map_line (λ x. only (more_map (front ++ x ∷ [])))) (word w.End (ends front))
rule map_line = lined w.Relation (λ at. part name (λ r. word w.Operator (only (operated at r))))
rule (operated at r) =
    either (part sharing (λ o. either (word w.RemOperator (part rest (λ z. ends (map_row at r o (remainder.To z))))) (ends (map_row at r o remainder.Unwritten))))
    (part combining (λ o. ends (map_row at r o remainder.Unwritten)))
