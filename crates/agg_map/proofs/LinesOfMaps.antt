-- A map has as many lines as are written.
use Rattle.std.specs.Prelude.{◌≡◌, ◌<◌, ◌+◌, List, [], ◌∷◌, length, fold, Ok, Err}
use Rattle.std.proofs.Common.{◌∙◌, ap, sym, refl, arith}
use Rattle.std.proofs.lemmas.List.{length-append}
use Rattle.aw_schema.specs.declared.definition.Def.{Def}
use Rattle.dml_tree.specs.declared.definition.MapLine.{MapLine as Written}
use Rattle.dml_lines.specs.Lines.{DefinitionRead, definition_in}
use Rattle.agg_map.specs.Maps.{Map, MapRead, LineRead, longer, appended, with_line, line_in}
use Rattle.agg_map.specs.Texts.{block_of, map_of, map_by}
use Rattle.agg_map.specs.Laws.{MapsHaveLines}
use Rattle.agg_map.specs.inside.Telling.{lines_behind}
use Rattle.agg_map.proofs.MapsRead.{stays}
use Rattle.agg_map.proofs.TextsDefine.{texts_define}

as-many : (catalogue : List Def) (map : Map) (written : List Written) (last : Map) → lines_behind catalogue map written ≡ Ok last → length last.lines ≡ length map.lines + length written
as-many catalogue map [] last is = let same : map ≡ last = cc in ap (λ (m : Map). length m.lines) (sym same) ∙ omega arith
as-many catalogue map (line ∷ written) last is = by (line_in catalogue map line) (λ new. as-many catalogue (longer map new) written last) is
  where
    by : (r : LineRead) → ((new : _) → lines_behind catalogue (longer map new) written ≡ Ok last → length last.lines ≡ length (longer map new).lines + length written) → fold (with_line catalogue) (appended map r) written ≡ Ok last → length last.lines ≡ length map.lines + length (line ∷ written)
    by (Ok new) next told = omega (arith, next new told, length-append map.lines (new.0 ∷ []))
    by (Err fault) next told = let none : (let it : MapRead = Err fault in it ≡ Ok last) = sym (stays catalogue fault written) ∙ told in absurd cc

pub have_lines : MapsHaveLines
have_lines catalogue text map is = by (definition_in (block_of text)) refl is
  where
    by : (r : DefinitionRead) → definition_in (block_of text) ≡ r → map_by catalogue r ≡ Ok map → 0 < length map.lines
    by (Ok definition) read told =
        let those = texts_define.maps text definition read in
        let many = as-many catalogue (record { lines = []; dimensions = [] }) those.0 map (ap (map_of catalogue) (sym those.1) ∙ told) in
        omega (arith, many, those.2)
    by (Err fault) read told = absurd cc
