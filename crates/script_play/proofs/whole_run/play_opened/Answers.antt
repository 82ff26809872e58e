use Rattle.std.proofs.Common.{List, subst}
use Rattle.aw_feed.specs.Feed.{Listening}
use Rattle.script_play.specs.Runs.{streams, run_of, Ends}
use Rattle.script_play.specs.inside.Telling.{HasTold}
use Rattle.script_play.proofs.Endings.{opened_ends, opened_later, opened_rose}
use Rattle.script_play.proofs.whole_run.play_opened.Goals as goal

pub returns-in-Ok-clause-ends : goal.returns-in-Ok-clause-ends
returns-in-Ok-clause-ends g c =
    -- opening wrote nothing
    subst (λ (out : g.row.K.Denot). (heard heard_now : List Listening) → HasTold heard heard_now c.in-Ok.store c.play_over-ended.result.store → Ends (run_of g.S.Source.left g.S.Source.faults g.K.Sink.written g.K.Sink.faults g.D.Disk.content g.D.Disk.faults g.D.Disk.clock g.D.Disk.crash c.args.script.now c.play_over-ended.new.script out c.play_over-ended.new.out c.args.disk c.into_disk.result heard heard_now) c.status.result)
    c.in-Ok.ensures.untouched
    (opened_ends g.D.Disk.faults g.D.Disk.clock g.D.Disk.crash g.D.Disk.content c.args.disk c.play_over-ended.result.ending
    (streams (g.S.Source.left c.args.script.now) (g.S.Source.left c.play_over-ended.new.script) (g.K.Sink.written c.open.new.out) (g.K.Sink.written c.play_over-ended.new.out))
    (record { source_before = g.S.Source.faults c.args.script.now; source_now = g.S.Source.faults c.play_over-ended.new.script; sink_before = g.K.Sink.faults c.open.new.out; sink_now = g.K.Sink.faults c.play_over-ended.new.out })
    c.in-Ok.store c.play_over-ended.result.store
    c.in-Ok.ensures.opened.0 c.in-Ok.ensures.opened.1 c.recall_invariant.ensures.images c.in-Ok.ensures.moments c.in-Ok.ensures.later c.play_over-ended.ensures.ends
    c.into_disk.result c.into_disk.ensures (g.met.D.Disk.is_an_image c.play_over-ended.result.store.disk) (record { spellings = c.recall_invariant.ensures.spellings; replayable = c.recall_invariant.ensures.replayable }) c.in-Ok.ensures.holds c.status.result c.status.ensures)
    _ _ c.play_over-ended.ensures.told

pub returns-in-Ok-clause-disk_later : goal.returns-in-Ok-clause-disk_later
returns-in-Ok-clause-disk_later g c =
    opened_later g.D.Disk.faults g.D.Disk.clock g.D.Disk.crash g.D.Disk.content c.args.disk c.play_over-ended.result.ending
    (streams (g.S.Source.left c.args.script.now) (g.S.Source.left c.play_over-ended.new.script) (g.K.Sink.written c.open.new.out) (g.K.Sink.written c.play_over-ended.new.out))
    (record { source_before = g.S.Source.faults c.args.script.now; source_now = g.S.Source.faults c.play_over-ended.new.script; sink_before = g.K.Sink.faults c.open.new.out; sink_now = g.K.Sink.faults c.play_over-ended.new.out })
    c.in-Ok.store c.play_over-ended.result.store
    c.in-Ok.ensures.opened.0 c.in-Ok.ensures.opened.1 c.recall_invariant.ensures.images c.in-Ok.ensures.moments c.in-Ok.ensures.later c.play_over-ended.ensures.ends
    c.into_disk.result c.into_disk.ensures

pub returns-in-Ok-clause-disk_cause : goal.returns-in-Ok-clause-disk_cause
returns-in-Ok-clause-disk_cause g c =
    opened_rose g.D.Disk.faults g.D.Disk.clock g.D.Disk.crash g.D.Disk.content c.args.disk c.play_over-ended.result.ending
    (streams (g.S.Source.left c.args.script.now) (g.S.Source.left c.play_over-ended.new.script) (g.K.Sink.written c.open.new.out) (g.K.Sink.written c.play_over-ended.new.out))
    (record { source_before = g.S.Source.faults c.args.script.now; source_now = g.S.Source.faults c.play_over-ended.new.script; sink_before = g.K.Sink.faults c.open.new.out; sink_now = g.K.Sink.faults c.play_over-ended.new.out })
    c.in-Ok.store c.play_over-ended.result.store
    c.in-Ok.ensures.opened.0 c.in-Ok.ensures.opened.1 c.recall_invariant.ensures.images c.in-Ok.ensures.moments c.in-Ok.ensures.later c.play_over-ended.ensures.ends
    c.into_disk.result c.into_disk.ensures c.status.result c.status.ensures
