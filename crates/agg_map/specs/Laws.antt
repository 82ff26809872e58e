-- Laws on texts of maps, over every text.
use Rattle.std.specs.Prelude.{ℕ, ◌≡◌, ◌<◌, List, length, Ok, Err}
use Rattle.aw_schema.specs.declared.definition.Def.{Def}
use Rattle.dml_tree.specs.declared.definition.Definition.{Definition}
use Rattle.dml_tree.specs.declared.definition.Defined.TheVariants.{AggMap}
use Rattle.dml_tree.specs.declared.definition.MapLine.{MapLine as Written}
use Rattle.dml_grammar.specs.declared.fault.ParseFault.TheVariants.{NotHere}
use Rattle.dml_lines.specs.Lines.{definition_in}
use Rattle.agg_map.specs.Maps.{Map}
use Rattle.agg_map.specs.Texts.{block_of, map_in}

-- the lines around a text define a map of one line or more, or nothing, and none of them is refused as one of a session
pub record TextsDefineMaps : Type 0 where
  pub maps : (text : List ℕ) (definition : Definition) → definition_in (block_of text) ≡ Ok definition → (lines : List Written) × (definition.what ≡ AggMap lines) × (0 < length lines)
  pub none_barred : (text : List ℕ) (line : ℕ) → definition_in (block_of text) ≡ Err (NotHere line) → ⊥

-- every map has a line
abbrev pub MapsHaveLines : Type 0
MapsHaveLines = (catalogue : List Def) (text : List ℕ) (map : Map) → map_in catalogue text ≡ Ok map → 0 < length map.lines
