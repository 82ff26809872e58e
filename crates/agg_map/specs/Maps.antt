-- What the lines of an aggregation map mean over the definitions before it, or why they are none.
use Rattle.std.specs.Prelude.{ℕ, ◌-◌, Bool, true, false, ◌&&◌, ◌||◌, ◌==◌, cond, not, length, List, [], ◌∷◌, ◌++◌, Option, Some, None, Result, Ok, Err, slice_get, fold}
use Rattle.std.specs.List.{list_any}
use Rattle.aw_cell.specs.declared.operator.Operator.{Operator}
use Rattle.aw_cell.specs.declared.operator.Operator.TheVariants as operator
use Rattle.aw_cell.specs.declared.operator.Rest.{Rest}
use Rattle.aw_cell.specs.declared.operator.Rest.TheVariants.{First}
use Rattle.aw_cell.specs.declared.operator.Spread.{Spread}
use Rattle.aw_cell.specs.declared.operator.Spread.TheVariants.{Even, HEven, Proportional, Copy, HCopy}
use Rattle.aw_schema.specs.Definitions.{object_of}
use Rattle.aw_schema.specs.declared.definition.Def.{Def}
use Rattle.aw_schema.specs.declared.definition.DefKind.{DefKind}
use Rattle.aw_schema.specs.declared.definition.DefKind.TheVariants.{Dimension, Relation, Valueset, Variable, Formula, Program, Aggmap}
use Rattle.dml_tree.specs.declared.definition.MapLine.{MapLine as Written}
use Rattle.dml_tree.specs.declared.definition.Remainder.{Remainder}
use Rattle.dml_tree.specs.declared.definition.Remainder.TheVariants.{Unwritten, To}
use Rattle.agg_map.specs.declared.fault.MapFault.{MapFault}
use Rattle.agg_map.specs.declared.fault.MapFault.TheVariants.{Unknown, WrongKind, Repeat}
use Rattle.agg_map.specs.declared.line.MapLine.{MapLine}

-- an operator of an allocation
abbrev pub allocates : Operator → Bool
allocates operator.Sum = false
allocates operator.Min = false
allocates operator.Max = false
allocates operator.Average = false
allocates operator.Count = false
allocates (operator.Spread way) = true

-- where a remainder goes that is left: to the first child where nothing is written
abbrev pub written_rest : Remainder → Rest
written_rest Unwritten = First
written_rest (To rest) = rest

-- the shares of these leave a remainder
abbrev pub rest_of_spread : Spread → Remainder → Option Rest
rest_of_spread Even rest = Some (written_rest rest)
rest_of_spread HEven rest = Some (written_rest rest)
rest_of_spread Proportional rest = Some (written_rest rest)
rest_of_spread Copy rest = None
rest_of_spread HCopy rest = None

abbrev pub rest_of : Operator → Remainder → Option Rest
rest_of operator.Sum rest = None
rest_of operator.Min rest = None
rest_of operator.Max rest = None
rest_of operator.Average rest = None
rest_of operator.Count rest = None
rest_of (operator.Spread way) rest = rest_of_spread way rest

-- the dimension from which a relation goes to itself
abbrev pub own_dimension : DefKind → Option ℕ
own_dimension Dimension = None
own_dimension (Relation target base) = cond (target == base) (Some base) None
own_dimension (Valueset dimension) = None
own_dimension (Variable kind dimensions) = None
own_dimension (Formula text) = None
own_dimension (Program text) = None
own_dimension (Aggmap text) = None

-- the lines of a map, and the dimension of each
pub record Map : Type 0 where
  pub lines : List MapLine
  pub dimensions : List ℕ

abbrev pub one_allocates : List MapLine → Bool
one_allocates lines = list_any (λ line. allocates line.operator) lines

-- a line with an operator of an allocation is the only one
abbrev pub is_too_many : List MapLine → Operator → Bool
is_too_many earlier o = one_allocates earlier || (allocates o && not (length earlier == 0))

-- the name of an object, or else this one
abbrev pub named : Option Def → List ℕ → List ℕ
named (Some def) other = def.name
named None other = other

-- a line with its dimension
abbrev pub LineRead : Type 0
LineRead = Result (MapLine × ℕ) MapFault

abbrev pub along : List Def → List ℕ → Written → ℕ → Def → Option ℕ → LineRead
along catalogue earlier line object def (Some dimension) =
    cond (list_any (λ other. other == dimension) earlier) (Err (Repeat (line.line - 1) (named (slice_get catalogue dimension) def.name)))
    (Ok (record { relation = object; operator = line.operator; rest = rest_of line.operator line.rest }, dimension))
along catalogue earlier line object def None = Err (WrongKind (line.line - 1) def.name)

abbrev pub of_object : List Def → Map → Written → ℕ → Option Def → LineRead
of_object catalogue earlier line object (Some def) =
    cond (is_too_many earlier.lines line.operator) (Err (WrongKind (line.line - 1) def.name))
    (along catalogue earlier.dimensions line object def (own_dimension def.kind))
of_object catalogue earlier line object None = Err (Unknown (line.line - 1) line.relation)

abbrev pub of_name : List Def → Map → Written → Option ℕ → LineRead
of_name catalogue earlier line (Some object) = of_object catalogue earlier line object (slice_get catalogue object)
of_name catalogue earlier line None = Err (Unknown (line.line - 1) line.relation)

-- One line behind earlier ones: its relation has to be defined, to go from a dimension to itself and to fit the operators
-- of the earlier lines, and its dimension is none of theirs. As written lines count from 1 at the line before the text.
unfoldable pub line_in : List Def → Map → Written → LineRead
line_in catalogue earlier line = of_name catalogue earlier line (object_of catalogue line.relation)

abbrev pub MapRead : Type 0
MapRead = Result Map MapFault

abbrev pub longer : Map → MapLine × ℕ → Map
longer map line = record { lines = map.lines ++ line.0 ∷ []; dimensions = map.dimensions ++ line.1 ∷ [] }

abbrev pub appended : Map → LineRead → MapRead
appended earlier (Ok line) = Ok (longer earlier line)
appended earlier (Err fault) = Err fault

abbrev pub with_line : List Def → MapRead → Written → MapRead
with_line catalogue (Ok earlier) line = appended earlier (line_in catalogue earlier line)
with_line catalogue (Err fault) line = Err fault

abbrev pub no_lines : Map
no_lines = record { lines = []; dimensions = [] }

-- line by line: the first refusal stays
abbrev pub lines_in : List Def → List Written → MapRead
lines_in catalogue lines = fold (with_line catalogue) (Ok no_lines) lines
