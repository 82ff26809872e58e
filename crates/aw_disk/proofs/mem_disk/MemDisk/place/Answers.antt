use Rattle.std.proofs.Common.{◌≡◌, ◌∷◌, [], ◌++◌, ◌∙◌, ◌≤◌, length, ap, sym, subst, arith, Some}
use Rattle.aw_disk.specs.declared.step.Step.TheVariants.{Write}
use Rattle.aw_disk.specs.inside.MemDiskSteps.{started}
use Rattle.aw_disk.specs.Images.{overwritten}
use Rattle.aw_disk.specs.MemDisk.{MemDiskState, content_of}
use Rattle.aw_disk.proofs.Steps.{content_after-write}
use Rattle.aw_disk.proofs.PickedImages.{all_begin_inside-write}
use Rattle.aw_disk.proofs.mem_disk.MemDisk.place.Goals as goal

pub invariant_of-self-2 : goal.invariant_of-self-2
invariant_of-self-2 c =
    let start = started c.self.inside.start c.self.inside.content.items in
    let kept : c.keep_start.new.start ≡ Some start = grind arith in
    let steps : c.push.new.self.items ≡ c.self.inside.steps.items ++ Write c.args.offset c.args.bytes.now ∷ [] = grind arith in
    let bytes : c.overwrite.new.bytes.items ≡ overwritten c.self.inside.content.items c.args.offset c.args.bytes.now = grind arith in
    rw (kept, steps)
    (record {
      content_is = bytes ∙ ap (λ content. overwritten content c.args.offset c.args.bytes.now) c.self.invariant.content_is
          ∙ sym (content_after-write start c.self.inside.steps.items c.args.offset c.args.bytes.now);
      begin_inside = all_begin_inside-write start c.self.inside.steps.items c.args.offset c.args.bytes.now c.self.invariant.begin_inside (subst (λ (disk : MemDiskState). c.args.offset ≤ length (content_of disk)) (sym c.self.view_is) c.requires);
    })
