-- Worked cases, each worked out by hand: what is answered of small statements.
use Rattle.std.specs.Prelude.{ℕ, pos, ◌≡◌, List, [], ◌∷◌, Option, Some, None, Ok, codes, if◌then◌else◌}
use Rattle.std.proofs.Common.{refl}
use Rattle.aw_cell.specs.Names.{same_word}
use Rattle.aw_cell.specs.declared.cell.Kind.TheVariants as kind
use Rattle.aw_cell.specs.declared.operator.Operator.TheVariants as operator
use Rattle.aw_cell.specs.declared.operator.Spread.TheVariants as spread
use Rattle.dml_tree.specs.declared.expr.Expr.{Expr}
use Rattle.dml_tree.specs.declared.expr.Expr.TheFolds.{fold-roll-Expr}
use Rattle.dml_tree.specs.declared.expr.Expr.TheOpen.{Expr-F}
use Rattle.dml_tree.specs.declared.expr.Expr.TheViews.{roll-Expr}
use Rattle.dml_tree.specs.declared.expr.Joint.TheVariants as joint
use Rattle.dml_tree.specs.declared.expr.Target.{Target}
use Rattle.dml_tree.specs.declared.statement.Kin.TheVariants as kin
use Rattle.dml_tree.specs.declared.statement.Limiting.TheVariants as limiting
use Rattle.dml_tree.specs.declared.statement.Select.{Select}
use Rattle.dml_tree.specs.declared.statement.Select.TheVariants as select
use Rattle.dml_tree.specs.declared.statement.Statement.{Statement}
use Rattle.dml_tree.specs.declared.statement.Statement.TheVariants as statement
use Rattle.dml_kinds.specs.declared.fault.TypeFault.{TypeFault}
use Rattle.dml_kinds.specs.declared.fault.TypeFault.TheVariants.{Unknown, WrongKind, Repeat, Mismatch, Dimensions, TooMany}
use Rattle.dml_kinds.specs.declared.meaning.Known.{Known}
use Rattle.dml_kinds.specs.declared.meaning.Meaning.{Meaning}
use Rattle.dml_kinds.specs.declared.meaning.Meaning.TheVariants.{Local, Dimension, Relation, Valueset, Variable, Formula, Program, Aggregation, Allocation}
use Rattle.dml_kinds.specs.declared.signature.Signature.TheVariants as signature
use Rattle.dml_kinds.specs.declared.tree.Tree.TheVariants as tree
use Rattle.dml_kinds.specs.declared.types.ValueType.TheVariants.{Of}
use Rattle.dml_kinds.specs.Signatures.{Told}
use Rattle.dml_kinds.specs.Meanings.{Names}
use Rattle.dml_types.specs.Checking.{statement_refusal, statement_answer}

abbrev known_as : List ℕ → Meaning → Option Known
known_as name meaning = Some (record { name = name; meaning = meaning })

-- dimensions d and e, INTEGER v<d>, INTEGER n and NUMBER w<d>, a valueset s of d, a relation r from d to d, a program p of a TEXT
-- and an INTEGER, an aggmap m by SUM along e, an aggmap a that allocates along d, an INTEGER h that weighs 4,000, a local k
abbrev names : Names
names name =
    if same_word name (codes "d") then known_as (codes "d") (Dimension 0)
    else if same_word name (codes "e") then known_as (codes "e") (Dimension 1)
    else if same_word name (codes "v") then known_as (codes "v") (Variable 2 kind.Int (0 ∷ []))
    else if same_word name (codes "n") then known_as (codes "n") (Variable 3 kind.Int [])
    else if same_word name (codes "w") then known_as (codes "w") (Variable 9 kind.Num (0 ∷ []))
    else if same_word name (codes "s") then known_as (codes "s") (Valueset 4 0)
    else if same_word name (codes "r") then known_as (codes "r") (Relation 5 0 0)
    else if same_word name (codes "p") then known_as (codes "p") (Program 6)
    else if same_word name (codes "m") then known_as (codes "m") (Aggregation 7)
    else if same_word name (codes "a") then known_as (codes "a") (Allocation 8)
    else if same_word name (codes "h") then known_as (codes "h") (Formula 10 kind.Int [] 4000)
    else if same_word name (codes "k") then known_as (codes "k") (Local 0 kind.Int)
    else None

abbrev told : Told
told =
    (6, signature.Program (kind.Text ∷ kind.Int ∷ []))
    ∷ (7, signature.Map ((1, operator.Sum) ∷ []))
    ∷ (8, signature.Map ((0, operator.Spread spread.Even) ∷ []))
    ∷ []

abbrev refused : Statement → Option TypeFault
refused s = statement_refusal names told s

abbrev named : List ℕ → Expr
named name = roll-Expr (Expr-F.Object (record { name = name; fixes = [] }))

abbrev to : List ℕ → Target
to name = record { name = name; fixes = [] }

abbrev at : List ℕ → List ℕ → Target
at name dimension = record { name = name; fixes = (record { dimension = dimension; value = codes "A" }) ∷ [] }

abbrev na : Expr
na = roll-Expr Expr-F.Na

abbrev text : Expr
text = roll-Expr (Expr-F.Text (codes "A"))

abbrev half : Expr
half = roll-Expr (Expr-F.Number (pos 5000))

abbrev grouped : Expr → Expr
grouped inner = roll-Expr (Expr-F.Grouped inner)

abbrev limit : List ℕ → Select → Statement
limit name what = statement.Limit name limiting.To what

-- ---- assignments

-- w = v, what is answered of it
pub number_from_integer : statement_answer names told [] (statement.Assign (to (codes "W")) (named (codes "v"))) ≡ Ok (record { objects = (codes "w", 9) ∷ []; expressions = (record { kind = Of kind.Int; dimensions = 0 ∷ []; weight = 1; tree = tree.Variable kind.Int (record { object = 2; dimensions = 0 ∷ []; fixes = [] }); locals = [] }) ∷ [] })
number_from_integer = simp (fold-roll-Expr) refl

-- SHOW k, where k is the one local
pub local_by_number : statement_answer names told ((codes "k", kind.Int) ∷ []) (statement.Show (named (codes "k"))) ≡ Ok (record { objects = []; expressions = (record { kind = Of kind.Int; dimensions = []; weight = 1; tree = tree.Local 0 kind.Int; locals = kind.Int ∷ [] }) ∷ [] })
local_by_number = simp (fold-roll-Expr) refl

-- r = NA and r = n
pub na_is_stored : refused (statement.Assign (to (codes "r")) na) ≡ None
na_is_stored = simp (fold-roll-Expr) refl

pub number_in_a_relation : refused (statement.Assign (to (codes "r")) (named (codes "n"))) ≡ Some Mismatch
number_in_a_relation = simp (fold-roll-Expr) refl

-- n = v, whose d is not among n's
pub of_another_dimension : refused (statement.Assign (to (codes "n")) (named (codes "v"))) ≡ Some Dimensions
of_another_dimension = simp (fold-roll-Expr) refl

-- v(d 'A') = v, whose d is fixed in the target
pub fixed_in_the_target : refused (statement.Assign (at (codes "v") (codes "d")) (named (codes "v"))) ≡ Some Dimensions
fixed_in_the_target = simp (fold-roll-Expr) refl

-- D = p and D = zz
pub assigned_dimension : refused (statement.Assign (to (codes "D")) (named (codes "p"))) ≡ Some (WrongKind (codes "d"))
assigned_dimension = simp (fold-roll-Expr) refl

pub unknown_first : refused (statement.Assign (to (codes "D")) (named (codes "zz"))) ≡ Some (Unknown (codes "zz"))
unknown_first = simp (fold-roll-Expr) refl

-- k = 0.5 and k(d 'A') = 0.5
pub local_assigned : refused (statement.Assign (to (codes "k")) half) ≡ None
local_assigned = simp (fold-roll-Expr) refl

pub local_without_dimensions : refused (statement.Assign (at (codes "k") (codes "d")) half) ≡ Some (WrongKind (codes "k"))
local_without_dimensions = simp (fold-roll-Expr) refl

-- ---- selections

-- LIMIT d TO s, LIMIT e TO s and LIMIT d TO (s)
pub sole_set : refused (limit (codes "d") (select.Where (named (codes "s")))) ≡ None
sole_set = simp (fold-roll-Expr) refl

pub set_of_another : refused (limit (codes "e") (select.Where (named (codes "s")))) ≡ Some (WrongKind (codes "s"))
set_of_another = simp (fold-roll-Expr) refl

pub set_in_parentheses : refused (limit (codes "d") (select.Where (grouped (named (codes "s"))))) ≡ Some (WrongKind (codes "s"))
set_in_parentheses = simp (fold-roll-Expr) refl

-- LIMIT d TO v, and LIMIT d TO TOP 1 BASEDON d
pub test_is_truth : refused (limit (codes "d") (select.Where (named (codes "v")))) ≡ Some Mismatch
test_is_truth = simp (fold-roll-Expr) refl

pub order_by_number : refused (limit (codes "d") (select.Top 1 (named (codes "d")))) ≡ Some Mismatch
order_by_number = simp (fold-roll-Expr) refl

-- LIMIT s TO PARENTS USING r, LIMIT e TO PARENTS USING r and LIMIT d TO PARENTS USING v
pub parents : refused (limit (codes "s") (select.Kin kin.Parents (codes "r"))) ≡ None
parents = refl

pub parents_of_another : refused (limit (codes "e") (select.Kin kin.Parents (codes "r"))) ≡ Some Dimensions
parents_of_another = refl

pub parents_by_a_variable : refused (limit (codes "d") (select.Kin kin.Parents (codes "v"))) ≡ Some (WrongKind (codes "v"))
parents_by_a_variable = refl

-- ---- calls

-- CALL p('A', 0.5), CALL p('A'), CALL p('A', 'A') and CALL p(h, zz)
pub called : refused (statement.Call (codes "p") (text ∷ half ∷ [])) ≡ None
called = simp (fold-roll-Expr) refl

pub too_few_arguments : refused (statement.Call (codes "p") (text ∷ [])) ≡ Some Mismatch
too_few_arguments = simp (fold-roll-Expr) refl

pub argument_of_another_type : refused (statement.Call (codes "p") (text ∷ text ∷ [])) ≡ Some Mismatch
argument_of_another_type = simp (fold-roll-Expr) refl

pub unknown_argument : refused (statement.Call (codes "v") (named (codes "zz") ∷ [])) ≡ Some (Unknown (codes "zz"))
unknown_argument = simp (fold-roll-Expr) refl

-- CALL p(NA, h + h)
pub weight_of_all_arguments : refused (statement.Call (codes "p") (na ∷ roll-Expr (Expr-F.Joined joint.Add (named (codes "h")) (named (codes "h"))) ∷ [])) ≡ Some TooMany
weight_of_all_arguments = simp (fold-roll-Expr) refl

-- ---- aggmaps

-- AGGREGATE v USING m, of a line along e; AGGREGATE d USING m; AGGREGATE d USING a
pub line_along_another : refused (statement.Aggregate (codes "v") (codes "m")) ≡ Some Dimensions
line_along_another = refl

pub no_variable : refused (statement.Aggregate (codes "d") (codes "m")) ≡ Some Mismatch
no_variable = refl

pub wrong_map : refused (statement.Aggregate (codes "d") (codes "a")) ≡ Some (WrongKind (codes "a"))
wrong_map = refl

-- ALLOCATE v BASIS w TARGET v USING a; ALLOCATE v BASIS w TARGET w USING a; ALLOCATE v BASIS n TARGET v USING a
pub allocated : refused (statement.Allocate (codes "v") (codes "w") (codes "v") (codes "a")) ≡ None
allocated = refl

pub target_of_another_type : refused (statement.Allocate (codes "v") (codes "w") (codes "w") (codes "a")) ≡ Some Mismatch
target_of_another_type = refl

pub basis_of_other_dimensions : refused (statement.Allocate (codes "v") (codes "n") (codes "v") (codes "a")) ≡ Some Dimensions
basis_of_other_dimensions = refl

-- ---- lists of objects

-- ACQUIRE v RESYNC d CONSISTENT WITH V; RELEASE v v p
pub acquired_twice : refused (statement.Acquire (codes "v" ∷ []) (codes "d" ∷ []) (codes "V" ∷ [])) ≡ Some (Repeat (codes "v"))
acquired_twice = refl

pub not_kept : refused (statement.Release (codes "v" ∷ codes "v" ∷ codes "p" ∷ [])) ≡ Some (WrongKind (codes "p"))
not_kept = refl
