use Rattle.script_play.proofs.Explaining.{plays_so}
use Rattle.script_play.proofs.whole_run.play_disk.Goals as goal

pub returns-clause-plays : goal.returns-clause-plays
returns-clause-plays g c =
    let played = c.play_opened-status in
    plays_so _ played.result.status played.ensures.ends (g.met.D.Disk.is_an_image c.args.disk) played.ensures.source_cause played.ensures.sink_cause played.ensures.disk_cause
