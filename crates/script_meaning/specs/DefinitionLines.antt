-- What the lines of a definition add to the definitions, or why they are refused. The first of these decides: a line's form (27),
-- the first line with a syntax fault (1) or a word that no program has (24), the name (7) and the number of objects or dimensions
-- (14), and then names, kinds, types, dimensions and weight. In a block a refusal has the number of its line.
use Rattle.std.specs.Prelude.{◌+◌, ℕ, Bool, false, not, List, [], ◌∷◌, cond, find, length, min, nat_le, position, Option, Some, None, Result, Ok, Err, unwrap_or, if◌then◌else◌}
use Rattle.std.specs.Option.{option_map, option_or}
use Rattle.aw_schema.specs.declared.definition.Def.{Def}
use Rattle.aw_schema.specs.Definitions.{has_name}
use Rattle.dml_tree.specs.declared.definition.Defined.{Defined}
use Rattle.dml_tree.specs.declared.definition.Defined.TheVariants as tree
use Rattle.dml_tree.specs.declared.definition.Definition.{Definition}
use Rattle.dml_grammar.specs.declared.fault.ParseFault.{ParseFault}
use Rattle.dml_kinds.specs.Meanings.{names_in}
use Rattle.dml_kinds.specs.Checking.{formula_refusal}
use Rattle.dml_lines.specs.Lines.{definition_in}
use Rattle.ses_report.specs.declared.refusal.Refusal.{Refusal}
use Rattle.ses_report.specs.Refusals.{no_form, repeated, too_many, definitions_closed, bad_line, in_line}
use Rattle.ses_step.specs.declared.definition.NamedKind.{NamedKind}
use Rattle.ses_step.specs.Kept.{kept_kind}
use Rattle.ses_step.specs.Lines.{keeps_form, opens_block}
use Rattle.ses_step.specs.Refusing.{told}
use Rattle.ses_step.specs.SessionLines.{parse_refusal}
use Rattle.script_meaning.specs.Defining.{defined}

-- ---- lines

-- the lines are a block, not a line by itself
abbrev pub is_block : List (List ℕ) → Bool
is_block [] = false
is_block (first ∷ lines) = opens_block first

-- a refusal at a line, which has its number in a block alone
abbrev pub at_line : Bool → ℕ → Refusal → Refusal
at_line block line refusal = in_line (if block then line else 0) refusal

-- the first line that is too long, or has a byte that no line has
abbrev pub form_refusal : List (List ℕ) → Option Refusal
form_refusal lines =
    option_map (λ (at : ℕ). at_line (is_block lines) (min (at + 1) 4294967295) bad_line) (position (λ (text : List ℕ). not (keeps_form text)) lines)

-- behind a session's line no definition is accepted
abbrev pub late : List (List ℕ) → Refusal
late lines = unwrap_or (form_refusal lines) definitions_closed

-- ---- what is defined

-- the name is there already, or there are as many objects as there may be
abbrev pub name_refusal : List Def → List ℕ → Option Refusal
name_refusal definitions name =
    option_or (option_map (λ (def : Def). repeated def.name) (find (has_name name) definitions))
    (cond (nat_le 4096 (length definitions)) (Some too_many) None)

-- a program or an aggmap is refused for its name, and then since none can be defined yet
abbrev pub unbuilt_block : List Def → List ℕ → Refusal
unbuilt_block definitions name = unwrap_or (option_map (in_line 1) (name_refusal definitions name)) no_form

-- What can't be defined yet is refused with 1: a formula after all its tests, a program or an aggmap after those of its name.
abbrev pub unbuilt : List Def → List ℕ → Defined → Refusal
unbuilt definitions name (tree.Formula e from to) =
    unwrap_or (option_or (name_refusal definitions name) (option_map told (formula_refusal (names_in definitions [] []) e))) no_form
unbuilt definitions name _ = unbuilt_block definitions name

abbrev pub define_kind : List Def → Definition → Option NamedKind → Result (List Def) Refusal
define_kind definitions d (Some kind) = defined definitions (record { name = d.name; kind = kind })
define_kind definitions d None = Err (unbuilt definitions d.name d.what)

-- a line by itself has no number
abbrev pub fault_refusal : Bool → ParseFault → Refusal
fault_refusal block fault = if block then parse_refusal fault else in_line 0 (parse_refusal fault)

abbrev pub define_read : List Def → Bool → Result Definition ParseFault → Result (List Def) Refusal
define_read definitions block (Ok d) = define_kind definitions d (kept_kind d.what)
define_read definitions block (Err fault) = Err (fault_refusal block fault)

abbrev pub define_unless : Option Refusal → List Def → List (List ℕ) → Result (List Def) Refusal
define_unless (Some refusal) definitions lines = Err refusal
define_unless None definitions lines = define_read definitions (is_block lines) (definition_in lines)

abbrev pub define : List Def → List (List ℕ) → Result (List Def) Refusal
define definitions lines = define_unless (form_refusal lines) definitions lines
