use Rattle.agg_map.proofs.TextsDefine.{texts_define}
use Rattle.agg_map.proofs.laws.texts_define_maps.Goals as goal

pub returns : goal.returns
returns c = texts_define
