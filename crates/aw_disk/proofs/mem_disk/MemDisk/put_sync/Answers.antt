use Rattle.std.proofs.Common.{◌∙◌, sym}
use Rattle.aw_disk.specs.inside.MemDiskSteps.{started}
use Rattle.aw_disk.proofs.PickedImages.{all_begin_inside-sync}
use Rattle.aw_disk.proofs.Steps.{content_after-sync}
use Rattle.aw_disk.proofs.mem_disk.MemDisk.put_sync.Goals as goal

pub invariant_of-self-2 : goal.invariant_of-self-2
invariant_of-self-2 c =
    let start = started c.self.inside.start c.self.inside.content.items in
    rw c.in_ok-push.ensures.items
    (record {
      content_is = c.self.invariant.content_is ∙ sym (content_after-sync start c.self.inside.steps.items);
      begin_inside = all_begin_inside-sync start c.self.inside.steps.items c.self.invariant.begin_inside;
    })
