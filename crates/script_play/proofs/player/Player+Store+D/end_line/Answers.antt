use Rattle.std.proofs.Common.{◌∙◌, refl, ap}
use Rattle.std.specs.Str.Lines.{strip_carriage_return}
use Rattle.script_play.proofs.FedBytes.{Feeds-answered, StopsIn-answered}
use Rattle.script_play.proofs.player.Player+Store+D.end_line.Goals as goal

pub returns-in-Ok-clause-feeds : goal.returns-in-Ok-clause-feeds
returns-in-Ok-clause-feeds g c =
    Feeds-answered g.D.Disk.faults g.D.Disk.clock g.D.Disk.crash _ _ _ _ c.without_return-line.result.now c.in-Ok.refused
    (c.without_return-line.ensures ∙ ap strip_carriage_return c.as_slice.ensures.value)
    c.in-Ok.ensures.responded refl c.clear.ensures.items

pub returns-in-Err-clause-feeds : goal.returns-in-Err-clause-feeds
returns-in-Err-clause-feeds g c =
    StopsIn-answered g.D.Disk.faults g.D.Disk.clock g.D.Disk.crash c.in-Err.stop _ _ _ _ c.without_return-line.result.now
    (c.without_return-line.ensures ∙ ap strip_carriage_return c.as_slice.ensures.value)
    c.in-Err.ensures.responded
