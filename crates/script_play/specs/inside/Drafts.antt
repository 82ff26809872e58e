-- The definitions that a script drafts: what the lines of a definition do to them, while they aren't closed.
use Rattle.std.specs.Prelude.{◌≡◌, ◌++◌, ℕ, List, [], ◌∷◌, find, Option, None, Some, Result, Ok, Err, IsTrue}
use Rattle.std.specs.Option.{ForSome, option_map}
use Rattle.aw_schema.specs.declared.definition.Def.{Def}
use Rattle.aw_schema.specs.declared.fault.SchemaFault.{SchemaFault}
use Rattle.aw_schema.specs.declared.fault.SchemaFault.TheVariants.{Repeat, TooMany, Unknown, WrongKind, NoMemory}
use Rattle.aw_schema.specs.Definitions.{has_name, is_spellable}
use Rattle.dml_tree.specs.declared.definition.Definition.{Definition as Tree}
use Rattle.ses_report.specs.declared.refusal.Refusal.{Refusal}
use Rattle.ses_step.specs.declared.definition.Definition.{Definition}
use Rattle.ses_step.specs.Kept.{kept_kind}
use Rattle.script_meaning.specs.Defining.{def_of, told, define_refusal}
use Rattle.script_meaning.specs.DefinitionLines.{unbuilt, define_kind, define}

-- the name as it was defined, where an object has it
abbrev pub name_there : List Def → List ℕ → Option (List ℕ)
name_there drafted name = option_map (λ (def : Def). def.name) (find (has_name name) drafted)

-- what is drafted after a definition
abbrev pub drafted_after : Option Refusal → List Def → Definition → List Def
drafted_after (Some refusal) drafted definition = drafted
drafted_after None drafted definition = drafted ++ def_of drafted definition ∷ []

-- what a catalogue finds wrong, as a refusal; want of memory is none
abbrev pub refusal_told : List Def → Definition → SchemaFault → Option Refusal
refusal_told drafted definition NoMemory = None
refusal_told drafted definition (Repeat name) = Some (told drafted definition (Repeat name))
refusal_told drafted definition TooMany = Some (told drafted definition TooMany)
refusal_told drafted definition (Unknown object) = Some (told drafted definition (Unknown object))
refusal_told drafted definition (WrongKind name) = Some (told drafted definition (WrongKind name))

abbrev pub DraftsSo : Definition → Option Refusal → List Def → List Def → Type 0
DraftsSo definition refusal old new = (refusal ≡ define_refusal old definition) × (new ≡ drafted_after refusal old definition)

-- ---- lines

-- why lines are refused, if they are, and what is drafted after them
pub record Drafted : Type 0 where
  pub refusal : Option Refusal
  pub drafted : List Def

abbrev pub drafted_by : List Def → Result (List Def) Refusal → Drafted
drafted_by old (Ok drafted) = record { refusal = None; drafted = drafted }
drafted_by old (Err refusal) = record { refusal = Some refusal; drafted = old }

abbrev pub Drafts : Result (List Def) Refusal → Option Refusal → List Def → List Def → Type 0
Drafts result refusal old new = (refusal ≡ (drafted_by old result).refusal) × (new ≡ (drafted_by old result).drafted)

abbrev pub DraftsLines : List (List ℕ) → Option Refusal → List Def → List Def → Type 0
DraftsLines lines refusal old new = Drafts (define old lines) refusal old new

abbrev pub DraftsTree : Tree → Option Refusal → List Def → List Def → Type 0
DraftsTree tree refusal old new = Drafts (define_kind old tree (kept_kind tree.what)) refusal old new

-- what can't be defined yet is refused
abbrev pub unbuilt_refusal : List Def → Tree → Option Refusal
unbuilt_refusal old tree = elim (kept_kind tree.what) [ None ↦ Some (unbuilt old tree.name tree.what) | Some kind ↦ None ]

-- a record has a form for what is defined, whatever is drafted
abbrev pub CanBeDrafted : Tree → Type 0
CanBeDrafted tree = ForSome (kept_kind tree.what) (λ kind. (drafted : List Def) → let d : Definition = record { name = tree.name; kind = kind } in IsTrue (is_spellable (def_of drafted d)))
