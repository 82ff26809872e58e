use Rattle.std.proofs.Common.{◌≡◌, ◌∙◌, ◌-◌, length, take, drop, sym, ap, refl, rules, length-drop, subst, List, ℕ, arith, true, take-append-drop}
use Rattle.std.proofs.lemmas.Bool.{and_parts}
use Rattle.std.proofs.lemmas.List.{take_all}
use Rattle.aw_disk.specs.declared.step.Pick.TheVariants.{Kept}
use Rattle.aw_disk.specs.declared.step.Pick.{Pick}
use Rattle.aw_disk.specs.declared.step.Step.{Step}
use Rattle.aw_disk.specs.inside.MemDiskSteps.{all_begin_inside}
use Rattle.aw_disk.specs.MemDisk.{MemDiskState, content_after}
use Rattle.aw_disk.specs.Covered.{synced_count}
use Rattle.aw_disk.specs.inside.PickedImages.{left_by}
use Rattle.aw_disk.proofs.Picking.{made, IsPicked-made, made-left}
use Rattle.aw_disk.proofs.PickedImages.{all_begin_inside-append}
use Rattle.aw_disk.proofs.mem_disk.MemDisk.image.Goals as goal

-- the image after the steps up to a place and those behind it
in_two_parts : (pick : Pick) (start first middle last : List ℕ) (front steps : List Step) (count at : ℕ) → steps ≡ front → at ≡ count → first ≡ start →
    middle ≡ left_by Kept first (take at steps) → last ≡ left_by pick middle (take (length steps - at) (drop at steps)) →
    last ≡ left_by pick (left_by Kept start (take count front)) (drop count front)
in_two_parts pick start first middle last front steps count at same_steps same_count same_start until since =
    let whole : take (length steps - at) (drop at steps) ≡ drop at steps = take_all (length steps - at) (drop at steps) (omega (arith, length-drop at steps)) in
    since ∙ ap (λ (rest : List Step). left_by pick middle rest) whole
    ∙ rw (until, same_steps, same_count, same_start) refl

image-made : (c : goal.After-from_vec) → c.from_vec.result ≡ made c.args.pick c.args.self.now.start (take c.args.moment c.args.self.now.steps)
image-made c =
    let steps : c.deref.result.now ≡ c.args.self.now.steps = search rules in
    let front = take c.args.moment c.args.self.now.steps in
    let first : c.in_ok-image.image.items ≡ c.args.self.now.start = search rules in
    let count : c.steps_to_last_sync-synced.result ≡ synced_count front = rw (← steps) c.steps_to_last_sync-synced.ensures in
    c.from_vec.ensures
    ∙ in_two_parts c.args.pick c.args.self.now.start c.in_ok-image.image.items c.leave_all.new.image.items c.leave_all-2.new.image.items
    front (take c.args.moment c.deref.result.now) (synced_count front) c.steps_to_last_sync-synced.result
    (ap (λ (all : List Step). take c.args.moment all) steps) count first c.in_ok-leave_all.ensures c.in_ok-leave_all-2.ensures

pub returns-clause-picked : goal.returns-clause-picked
returns-clause-picked c =
    let start = c.args.self.now.start in
    let front = take c.args.moment c.args.self.now.steps in
    let back = drop c.args.moment c.args.self.now.steps in
    let begin : all_begin_inside start c.args.self.now.steps ≡ true =
    subst (λ (disk : MemDiskState). all_begin_inside disk.start disk.steps ≡ true) c.self.view_is c.self.invariant.begin_inside in
    let parts = sym (all_begin_inside-append start front back) ∙ ap (λ (all : List Step). all_begin_inside start all) (take-append-drop c.args.moment c.args.self.now.steps) ∙ begin in
    rw (image-made c) (IsPicked-made c.args.pick start front (and_parts (all_begin_inside start front) (all_begin_inside (content_after start front) back) parts).0)

pub returns-clause-one : goal.returns-clause-one
returns-clause-one c = rw (image-made c) (made-left c.args.pick c.args.self.now.start (take c.args.moment c.args.self.now.steps))
