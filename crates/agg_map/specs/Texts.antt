-- What a text means as an aggregation map. Its lines are read as those of a definition, between the line that begins one
-- and END, so that the first line with a refusal of the language decides; then they are read over the definitions.
use Rattle.std.specs.Prelude.{ℕ, ◌-◌, ◌==◌, List, [], ◌∷◌, ◌++◌, Ok, Err, codes}
use Rattle.std.specs.List.{slice_split}
use Rattle.aw_schema.specs.declared.definition.Def.{Def}
use Rattle.dml_tree.specs.declared.definition.Defined.{Defined}
use Rattle.dml_tree.specs.declared.definition.Defined.TheVariants as defined
use Rattle.dml_grammar.specs.declared.fault.ParseFault.{ParseFault}
use Rattle.dml_grammar.specs.declared.fault.ParseFault.TheVariants as parse
use Rattle.dml_lines.specs.Lines.{DefinitionRead, definition_in}
use Rattle.agg_map.specs.declared.fault.MapFault.{MapFault}
use Rattle.agg_map.specs.declared.fault.MapFault.TheVariants.{Syntax, NoMemory}
use Rattle.agg_map.specs.Maps.{MapRead, lines_in}

-- the line before the first one of a text, and the line behind its last one
abbrev pub head_line : List ℕ
head_line = codes "DEFINE a AGGMAP"

abbrev pub end_line : List ℕ
end_line = codes "END"

-- the lines of a text: none where it is empty, and else one more than it has line ends
abbrev pub text_lines : List ℕ → List (List ℕ)
text_lines [] = []
text_lines (byte ∷ bytes) = slice_split (λ b. b == 10) (byte ∷ bytes)

abbrev pub block_of : List ℕ → List (List ℕ)
block_of text = head_line ∷ text_lines text ++ end_line ∷ []

-- nothing else is defined by these lines: a law says so ('texts define maps')
abbrev pub map_of : List Def → Defined → MapRead
map_of catalogue (defined.AggMap lines) = lines_in catalogue lines
map_of catalogue _ = Err (Syntax 1 1)

-- Lines count from 1 in the text. No line of a map stands only in lines of a session.
abbrev pub fault_of : ParseFault → MapFault
fault_of (parse.Syntax line column) = Syntax (line - 1) column
fault_of (parse.NotHere line) = Syntax (line - 1) 1
fault_of parse.NoMemory = NoMemory

abbrev pub map_by : List Def → DefinitionRead → MapRead
map_by catalogue (Ok definition) = map_of catalogue definition.what
map_by catalogue (Err fault) = Err (fault_of fault)

-- the map that a text is over these definitions, or why it is none
abbrev pub map_in : List Def → List ℕ → MapRead
map_in catalogue text = map_by catalogue (definition_in (block_of text))
