use Rattle.aw_disk.proofs.Steps.{write-time, write-content, write-torn, sync-time, sync-durable, sync-stays}
use Rattle.aw_disk.proofs.mem_disk.MemDiskDisk.TheImpl.Goals as goal

pub write_at-tells : goal.write_at-tells
write_at-tells c = record {
  written = write-content c.args.self.now c.new.self.now c.args.offset c.args.bytes.now c.result c.ensures.ok c.ensures.within;
  torn = write-torn c.args.self.now c.new.self.now c.args.offset c.args.bytes.now c.result c.ensures.err;
  time = write-time c.args.self.now c.new.self.now c.args.offset c.args.bytes.now c.result c.ensures.ok c.ensures.err;
  later = c.ensures.later;
  cause = c.ensures.cause;
}

pub sync-tells : goal.sync-tells
sync-tells c = record {
  durable = sync-durable c.args.self.now c.new.self.now c.result c.ensures.ok;
  stays = sync-stays c.args.self.now c.new.self.now c.result c.ensures.ok c.ensures.err;
  time = sync-time c.args.self.now c.new.self.now c.result c.ensures.ok c.ensures.err;
  later = c.ensures.later;
  cause = c.ensures.cause;
}
