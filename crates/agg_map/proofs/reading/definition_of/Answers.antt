use Rattle.agg_map.proofs.Blocks.{short_block}
use Rattle.agg_map.proofs.reading.definition_of.Goals as goal

pub definition_in-requires : goal.definition_in-requires
definition_in-requires c = record { short = short_block c.args.text.now c.in-Ok.lines c.in-Ok.ensures c.requires.short }
