-- What a definition line adds to the definitions, or why it is refused. The line names other objects by their names, and what
-- is kept has their numbers. It is refused where its name is there already (7), where there are 4,096 objects or more than 6
-- dimensions are written (14), where a name in it isn't defined (2), where an object in it is no dimension (3), and where a
-- dimension comes twice in a variable (7); the first of these that applies, and each for the first name from left to right.
use Rattle.std.specs.Prelude.{◌≡◌, ◌++◌, ℕ, true, List, [], ◌∷◌, cond, find, length, map, nat_lt, Option, Some, None, Result, Ok, Err, is_none, unwrap_or}
use Rattle.std.specs.Option.{option_map, option_or}
use Rattle.aw_cell.specs.Names.{is_name}
use Rattle.aw_schema.specs.declared.definition.Def.{Def}
use Rattle.aw_schema.specs.declared.definition.DefKind.{DefKind}
use Rattle.aw_schema.specs.declared.definition.DefKind.TheVariants as kept
use Rattle.aw_schema.specs.declared.fault.SchemaFault.{SchemaFault}
use Rattle.aw_schema.specs.declared.fault.SchemaFault.TheVariants.{Repeat, TooMany, Unknown, WrongKind, NoMemory}
use Rattle.aw_schema.specs.Checking.{repeated_name, refusal}
use Rattle.aw_schema.specs.Definitions.{is_type, object_of}
use Rattle.ses_report.specs.declared.refusal.Refusal.{Refusal}
use Rattle.ses_report.specs.Refusals.{no_form, unknown, wrong_kind, repeated, too_many}
use Rattle.ses_step.specs.declared.definition.Definition.{Definition}
use Rattle.ses_step.specs.declared.definition.NamedKind.{NamedKind}
use Rattle.ses_step.specs.declared.definition.NamedKind.TheVariants.{Dimension, Relation, Valueset, Variable}

-- ---- what a line defines

-- a variable is of one of the types
abbrev pub IsTyped : NamedKind → Type 0
IsTyped (Variable type dimensions) = is_type type ≡ true
IsTyped _ = Unit {0}

-- under a name
pub record IsFormed (d : Definition) : Type 0 where
  pub named : is_name d.name ≡ true
  pub typed : IsTyped d.kind

-- ---- numbers for names

-- the number of the object that has a name; where none has, one that is no object's
abbrev pub number_of : List Def → List ℕ → ℕ
number_of definitions name = unwrap_or (object_of definitions name) 65535

abbrev pub kind_of : List Def → NamedKind → DefKind
kind_of definitions Dimension = kept.Dimension
kind_of definitions (Relation target base) = kept.Relation (number_of definitions target) (number_of definitions base)
kind_of definitions (Valueset dimension) = kept.Valueset (number_of definitions dimension)
kind_of definitions (Variable type dimensions) = kept.Variable type (map (number_of definitions) dimensions)

-- the definition that is kept
abbrev pub def_of : List Def → Definition → Def
def_of definitions d = record { name = d.name; kind = kind_of definitions d.kind }

-- the names of other objects in it, from left to right
abbrev pub names_in : NamedKind → List (List ℕ)
names_in Dimension = []
names_in (Relation target base) = target ∷ base ∷ []
names_in (Valueset dimension) = dimension ∷ []
names_in (Variable type dimensions) = dimensions

-- ---- refusals

-- the first of these names that isn't defined
abbrev pub first_undefined : List Def → NamedKind → Option (List ℕ)
first_undefined definitions kind = find (λ name. is_none (object_of definitions name)) (names_in kind)

-- what a catalogue finds wrong, as a refusal; want of memory is no refusal of a definition
abbrev pub told : List Def → Definition → SchemaFault → Refusal
told definitions d (Repeat name) = repeated name
told definitions d TooMany = too_many
told definitions d (Unknown object) = unknown (unwrap_or (first_undefined definitions d.kind) [])
told definitions d (WrongKind name) = wrong_kind name
told definitions d NoMemory = no_form

abbrev pub define_refusal : List Def → Definition → Option Refusal
define_refusal definitions d =
    option_or (option_map (told definitions d) (repeated_name definitions d.name)) (
    cond (nat_lt 6 (length (names_in d.kind))) (Some too_many) (
    option_map (told definitions d) (refusal definitions (def_of definitions d))))

-- ---- the answer

-- an accepted definition is the last one from then on
abbrev pub accepted_by : List Def → Definition → Option Refusal → Result (List Def) Refusal
accepted_by definitions d (Some refusal) = Err refusal
accepted_by definitions d None = Ok (definitions ++ def_of definitions d ∷ [])

abbrev pub defined : List Def → Definition → Result (List Def) Refusal
defined definitions d = accepted_by definitions d (define_refusal definitions d)
