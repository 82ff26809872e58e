-- How a definition is answered at its last line: which cause of a refusal comes first, and what an accepted one adds.
use Rattle.std.specs.Prelude.{◌≡◌, ◌&&◌, ◌++◌, ℕ, Bool, true, false, not, List, [], ◌∷◌, cond, find, length, nat_le, nat_lt, Option, Some, None, IsSome, Ok, Err}
use Rattle.std.specs.List.{filter_map, list_any}
use Rattle.std.specs.Option.{option_and_then}
use Rattle.aw_cell.specs.Names.{same_word}
use Rattle.aw_schema.specs.declared.definition.Def.{Def}
use Rattle.aw_schema.specs.Definitions.{has_name, is_dimension}
use Rattle.dml_tree.specs.declared.definition.Definition.{Definition as Tree}
use Rattle.dml_grammar.specs.declared.fault.ParseFault.{ParseFault}
use Rattle.dml_lines.specs.Lines.{definition_in}
use Rattle.ses_report.specs.declared.refusal.Refusal.{Refusal}
use Rattle.ses_report.specs.Refusals as report
use Rattle.ses_step.specs.declared.definition.Definition.{Definition}
use Rattle.ses_step.specs.declared.definition.NamedKind.{NamedKind}
use Rattle.ses_step.specs.declared.definition.NamedKind.TheVariants.{Variable}
use Rattle.script_world.specs.Outcomes.{Outcome}
use Rattle.ses_step.specs.Kept.{kept_kind}
use Rattle.script_world.specs.Meaning as world
use Rattle.script_world.specs.Worlds.{line, no_session, silent, refused_so, with_lines, with_definitions, answered}
use Rattle.script_meaning.specs.Defining.{names_in, def_of, first_undefined}
use Rattle.script_meaning.specs.DefinitionLines.{is_block, form_refusal, fault_refusal, unbuilt, late}
use Rattle.script_meaning.specs.Language.{form, HistoryWorld, by_history}

-- ---- the causes

-- the object that has this name, as it was defined
abbrev pub found_as : List Def → List ℕ → Option Def
found_as definitions name = find (has_name name) definitions

-- there are fewer than 4,096 objects, and at most 6 dimensions are written
abbrev pub has_room : List Def → Definition → Bool
has_room definitions d = nat_lt (length definitions) 4096 && nat_le (length (names_in d.kind)) 6

-- the first object that is no dimension
abbrev pub first_other : List Def → Definition → Option Def
first_other definitions d = find (λ (def : Def). not (is_dimension def.kind)) (filter_map (found_as definitions) (names_in d.kind))

-- the first of these names that is the same word as one before it
abbrev pub first_again : List (List ℕ) → List (List ℕ) → Option (List ℕ)
first_again before [] = None
first_again before (name ∷ names) = cond (list_any (same_word name) before) (Some name) (first_again (before ++ name ∷ []) names)

-- the names of the dimensions of a variable
abbrev pub dimensions_of : NamedKind → List (List ℕ)
dimensions_of (Variable type dimensions) = dimensions
dimensions_of _ = []

-- the first dimension of a variable that comes again
abbrev pub first_repeated : List Def → Definition → Option Def
first_repeated definitions d = option_and_then (found_as definitions) (first_again [] (dimensions_of d.kind))

-- ---- the answers

-- the line, the last one of a definition, is refused so: no line is open behind it, and the rest of the world is as it was
abbrev pub IsRefused : List Outcome → HistoryWorld → List ℕ → Refusal → Type 0
IsRefused coming w text refusal = answered (by_history coming) w (line text) ≡ refused_so no_session refusal (with_lines w [])

-- nothing is written, and the definition is the last one from then on
abbrev pub IsAccepted : List Outcome → HistoryWorld → List ℕ → Def → Type 0
IsAccepted coming w text def = answered (by_history coming) w (line text) ≡ silent (with_definitions w (w.definitions ++ def ∷ []))

-- none of the causes applies
pub record HasNoCause (definitions : List Def) (d : Definition) : Type 0 where
  pub is_new : found_as definitions d.name ≡ None
  pub room : has_room definitions d ≡ true
  pub all_defined : first_undefined definitions d.kind ≡ None
  pub all_dimensions : first_other definitions d ≡ None
  pub differ : first_repeated definitions d ≡ None

-- Of an object that can be defined: each cause where none before it applies. Where none does, and only there, the definition is
-- added with numbers for its names.
pub record AnswersDefinition (coming : List Outcome) (w : HistoryWorld) (text : List ℕ) (d : Definition) : Type 0 where
  pub there : (def : Def) → found_as w.definitions d.name ≡ Some def → IsRefused coming w text (report.repeated def.name)
  pub full : found_as w.definitions d.name ≡ None → has_room w.definitions d ≡ false → IsRefused coming w text report.too_many
  pub unknown : found_as w.definitions d.name ≡ None → has_room w.definitions d ≡ true → (name : List ℕ) → first_undefined w.definitions d.kind ≡ Some name → IsRefused coming w text (report.unknown name)
  pub other : found_as w.definitions d.name ≡ None → has_room w.definitions d ≡ true → first_undefined w.definitions d.kind ≡ None → (def : Def) → first_other w.definitions d ≡ Some def → IsRefused coming w text (report.wrong_kind def.name)
  pub again : found_as w.definitions d.name ≡ None → has_room w.definitions d ≡ true → first_undefined w.definitions d.kind ≡ None → first_other w.definitions d ≡ None → (def : Def) → first_repeated w.definitions d ≡ Some def → IsRefused coming w text (report.repeated def.name)
  pub accepted : HasNoCause w.definitions d → IsAccepted coming w text (def_of w.definitions d)
  pub only : (answered (by_history coming) w (line text)).answer ≡ None → HasNoCause w.definitions d

-- the lines of a definition that this line ends
abbrev pub lines_to : HistoryWorld → List ℕ → List (List ℕ)
lines_to w text = w.open_lines ++ text ∷ []

-- What the last line of a definition is answered. While no definition is closed: a line's form comes first, then syntax, then what
-- is defined. Once they are closed, a line's form, and then that they are.
pub record EndsDefinition (coming : List Outcome) (w : HistoryWorld) (text : List ℕ) : Type 0 where
  pub formless : w.shared ≡ None → (refusal : Refusal) → form_refusal (lines_to w text) ≡ Some refusal → IsRefused coming w text refusal
  pub syntax : w.shared ≡ None → form_refusal (lines_to w text) ≡ None → (fault : ParseFault) → definition_in (lines_to w text) ≡ Err fault → IsRefused coming w text (fault_refusal (is_block (lines_to w text)) fault)
  pub unbuilt : w.shared ≡ None → form_refusal (lines_to w text) ≡ None → (d : Tree) → definition_in (lines_to w text) ≡ Ok d → kept_kind d.what ≡ None → IsRefused coming w text (unbuilt w.definitions d.name d.what)
  pub built : w.shared ≡ None → form_refusal (lines_to w text) ≡ None → (d : Tree) → definition_in (lines_to w text) ≡ Ok d → (kind : NamedKind) → kept_kind d.what ≡ Some kind → AnswersDefinition coming w text (record { name = d.name; kind = kind })
  pub closed : IsSome w.shared → IsRefused coming w text (late (lines_to w text))

abbrev pub DefinitionsAreAnswered : List Outcome → HistoryWorld → Type 0
DefinitionsAreAnswered coming w = (text : List ℕ) → form w.open_lines text ≡ world.ends → EndsDefinition coming w text

-- any other line of a block waits for the last one
abbrev pub BlocksAreOpen : List Outcome → HistoryWorld → Type 0
BlocksAreOpen coming w =
    (text : List ℕ) → form w.open_lines text ≡ world.joins → answered (by_history coming) w (line text) ≡ silent (with_lines w (lines_to w text))
