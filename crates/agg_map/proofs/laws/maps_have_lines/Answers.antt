use Rattle.agg_map.proofs.LinesOfMaps.{have_lines}
use Rattle.agg_map.proofs.laws.maps_have_lines.Goals as goal

pub returns : goal.returns
returns c = have_lines
