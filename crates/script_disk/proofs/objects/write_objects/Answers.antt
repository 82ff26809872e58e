use Rattle.std.proofs.Common.{◌+◌, ◌≤◌, drop, arith, sym, subst}
use Rattle.script_meaning.specs.Dump.{dumped}
use Rattle.script_disk.proofs.Tables.{object_put, object_front, never_none}
use Rattle.script_disk.proofs.Written.{HasPut}
use Rattle.script_disk.proofs.objects.write_objects.Goals as goal
use Rattle.script_disk.proofs.objects.write_objects.Goals.{in-Some+in-Ok, in_default}

pub returns-in-Err-clause-err : goal.returns-in-Err-clause-err
returns-in-Err-clause-err g c =
    object_front c.args.catalogue.now c.args.store.now.table.objects c.loop-object.object c.in-Some.def.now c.in-Some.ensures c.requires.sized
    (g.K.Sink.written c.args.out.now) (g.K.Sink.written c.loop-object.out) (g.K.Sink.written c.write_kept.new.out) c.loop-object.invariant.has c.in-Err.ensures.err

pub loop-object-preserved : goal.loop-object-preserved
loop-object-preserved g c =
    let definitions = c.args.catalogue.now in
    let objects = c.args.store.now.table.objects in
    let at = c.loop-object.object in
    elim c.match-def.branch [
      | in-Some+in-Ok w ↦
          let before = g.K.Sink.written c.args.out.now in
          let put = object_put definitions objects at w.in-Some.def.now w.in-Some.ensures c.requires.sized before (g.K.Sink.written c.loop-object.out) (g.K.Sink.written w.write_kept.new.out) c.loop-object.invariant.has w.in-Ok.ensures.ok in
          record {
            has = subst (λ out. HasPut before (g.K.Sink.written out) (dumped (drop (at + 1) definitions) (drop (at + 1) objects)) (dumped definitions objects)) (sym w.out-is) put;
            later = subst (λ out. g.K.Sink.faults c.args.out.now ≤ g.K.Sink.faults out) (sym w.out-is) (omega (arith, c.loop-object.invariant.later, w.write_kept.ensures.later));
          }
      | in_default w ↦ absurd (never_none definitions at (omega (arith, c.loop-object-test.true, c.len-object-end.ensures.value)) w.in_default.ensures)
    ]
