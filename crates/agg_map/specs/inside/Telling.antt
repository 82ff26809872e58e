-- What a function that reads a map promises.
use Rattle.std.specs.Prelude.{◌≡◌, ◌⊎◌, List, Result, Ok, Err, fold}
use Rattle.aw_schema.specs.declared.definition.Def.{Def}
use Rattle.dml_tree.specs.declared.definition.MapLine.{MapLine as Written}
use Rattle.dml_tree.specs.declared.definition.Definition.{Definition}
use Rattle.dml_grammar.specs.declared.fault.ParseFault.{ParseFault}
use Rattle.dml_grammar.specs.declared.fault.ParseFault.TheVariants as parse
use Rattle.agg_map.specs.declared.fault.MapFault.{MapFault}
use Rattle.agg_map.specs.declared.fault.MapFault.TheVariants.{NoMemory}
use Rattle.agg_map.specs.Maps.{Map, MapRead, with_line}

-- the result is this answer, or says that there was no memory
abbrev pub Tells : MapRead → Result Map MapFault → Type 0
Tells said (Ok map) = said ≡ Ok map
Tells said (Err fault) = (fault ≡ NoMemory) ⊎ (said ≡ Err fault)

abbrev pub Says : Result Definition ParseFault → Result Definition ParseFault → Type 0
Says said (Ok definition) = said ≡ Ok definition
Says said (Err fault) = (fault ≡ parse.NoMemory) ⊎ (said ≡ Err fault)

-- what is answered of lines behind earlier ones
abbrev pub lines_behind : List Def → Map → List Written → MapRead
lines_behind catalogue earlier lines = fold (with_line catalogue) (Ok earlier) lines
