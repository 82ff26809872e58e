-- What each part reads that a function here reads, by its rule: a lemma a part, so that a proof opens this rule alone.
use Rattle.std.specs.Prelude.{ℕ, ◌≡◌, List}
use Rattle.dml_tree.specs.declared.definition.Local.{Local}
use Rattle.dml_tree.specs.declared.definition.MapLine.{MapLine}
use Rattle.dml_tree.specs.declared.definition.Step.{Step}
use Rattle.dml_forms.specs.inside.LookAhead.{Outcome, found, and_then, parse}
use Rattle.dml_grammar.specs.declared.placed.Placed.{Placed}
use Rattle.dml_grammar.specs.Sorts.{sort}
use Rattle.dml_grammar.specs.Grammar as g
use Rattle.dml_grammar.specs.Grammar.{rule, Names}
use Rattle.dml_grammar.specs.inside.Tables.{first, reads}
use Rattle.dml_grammar.proofs.callers.Steps as steps

pub attachment_is : (xs : List Placed) → reads g.attachment xs ≡ parse sort first reads (rule g.attachment) xs
attachment_is xs = steps.reads_is g.attachment xs

pub consistent_is : (plain : Names) (fresh : Names) (xs : List Placed) → reads (g.consistent plain fresh) xs ≡ parse sort first reads (rule (g.consistent plain fresh)) xs
consistent_is plain fresh xs = steps.reads_is (g.consistent plain fresh) xs

pub resynced_is : (plain : Names) (xs : List Placed) → reads (g.resynced plain) xs ≡ parse sort first reads (rule (g.resynced plain)) xs
resynced_is plain xs = steps.reads_is (g.resynced plain) xs

pub acquired_is : (xs : List Placed) → reads g.acquired xs ≡ parse sort first reads (rule g.acquired) xs
acquired_is xs = steps.reads_is g.acquired xs

pub owning_is : (xs : List Placed) → reads g.owning xs ≡ parse sort first reads (rule g.owning) xs
owning_is xs = steps.reads_is g.owning xs

pub place_is : (xs : List Placed) → reads g.place xs ≡ parse sort first reads (rule g.place) xs
place_is xs = steps.reads_is g.place xs

pub maintenance_is : (dimension : List ℕ) (xs : List Placed) → reads (g.maintenance dimension) xs ≡ parse sort first reads (rule (g.maintenance dimension)) xs
maintenance_is dimension xs = steps.reads_is (g.maintenance dimension) xs

pub maintained_is : (xs : List Placed) → reads g.maintained xs ≡ parse sort first reads (rule g.maintained) xs
maintained_is xs = steps.reads_is g.maintained xs

pub line_is : (xs : List Placed) → reads g.line xs ≡ parse sort first reads (rule g.line) xs
line_is xs = steps.reads_is g.line xs

pub statement_is : (xs : List Placed) → reads g.statement xs ≡ parse sort first reads (rule g.statement) xs
statement_is xs = steps.reads_is g.statement xs

pub step_is : (xs : List Placed) → reads g.step xs ≡ parse sort first reads (rule g.step) xs
step_is xs = steps.reads_is g.step xs

pub steps_is : (front : List Step) (xs : List Placed) → reads (g.steps front) xs ≡ parse sort first reads (rule (g.steps front)) xs
steps_is front xs = steps.reads_is (g.steps front) xs

pub local_is : (line : ℕ) (xs : List Placed) → reads (g.local line) xs ≡ parse sort first reads (rule (g.local line)) xs
local_is line xs = steps.reads_is (g.local line) xs

pub ending_is : (arguments : List Local) (variables : List Local) (done : List Step) (xs : List Placed) → reads (g.ending arguments variables done) xs ≡ parse sort first reads (rule (g.ending arguments variables done)) xs
ending_is arguments variables done xs = steps.reads_is (g.ending arguments variables done) xs

pub variables_is : (arguments : List Local) (variables : List Local) (xs : List Placed) → reads (g.variables arguments variables) xs ≡ parse sort first reads (rule (g.variables arguments variables)) xs
variables_is arguments variables xs = steps.reads_is (g.variables arguments variables) xs

pub body_is : (arguments : List Local) (xs : List Placed) → reads (g.body arguments) xs ≡ parse sort first reads (rule (g.body arguments)) xs
body_is arguments xs = steps.reads_is (g.body arguments) xs

pub operated_is : (line : ℕ) (relation : List ℕ) (xs : List Placed) → reads (g.operated line relation) xs ≡ parse sort first reads (rule (g.operated line relation)) xs
operated_is line relation xs = steps.reads_is (g.operated line relation) xs

pub map_line_is : (xs : List Placed) → reads g.map_line xs ≡ parse sort first reads (rule g.map_line) xs
map_line_is xs = steps.reads_is g.map_line xs

pub map_is : (xs : List Placed) → reads g.map xs ≡ parse sort first reads (rule g.map) xs
map_is xs = steps.reads_is g.map xs

pub more_map_is : (front : List MapLine) (xs : List Placed) → reads (g.more_map front) xs ≡ parse sort first reads (rule (g.more_map front)) xs
more_map_is front xs = steps.reads_is (g.more_map front) xs

pub relation_is : (xs : List Placed) → reads g.relation xs ≡ parse sort first reads (rule g.relation) xs
relation_is xs = steps.reads_is g.relation xs

pub variable_is : (xs : List Placed) → reads g.variable xs ≡ parse sort first reads (rule g.variable) xs
variable_is xs = steps.reads_is g.variable xs

pub formula_is : (xs : List Placed) → reads g.formula xs ≡ parse sort first reads (rule g.formula) xs
formula_is xs = steps.reads_is g.formula xs

pub defined_is : (xs : List Placed) → reads g.defined xs ≡ parse sort first reads (rule g.defined) xs
defined_is xs = steps.reads_is g.defined xs

pub definition_is : (xs : List Placed) → reads g.definition xs ≡ parse sort first reads (rule g.definition) xs
definition_is xs = steps.reads_is g.definition xs

-- a part that is another part
pub same_part : {A : Type 0} (o : Outcome Placed A) → and_then o (λ v rest. found v rest) ≡ o
same_part o = steps.same_part o
