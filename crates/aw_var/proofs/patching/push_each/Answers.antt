use Rattle.std.proofs.Common.{◌∙◌, ◌++◌, ◌∷◌, [], ◌+◌, ◌-◌, ◌*◌, sym, ap}
use Rattle.std.specs.Option.{option_copied}
use Rattle.aw_var.specs.inside.Differences.{changes_on}
use Rattle.aw_var.specs.inside.Unpacking.{unpacked, with_coords}
use Rattle.aw_var.proofs.GoingOver.{changes-same, changes-differ, changes-none}
use Rattle.aw_var.proofs.patching.push_each.Goals as goal
use Rattle.aw_var.proofs.patching.push_each.Goals.{then-not-is_same_in+in_ok-push, else-not-is_same_in}

pub returns : goal.returns
returns c = changes-none c.args.slots (option_copied c.args.before) (option_copied c.args.now) (64 * c.args.page) c.loop-place.place c.loop-place.patch.items _ c.loop-place-test.false c.loop-place.invariant

pub loop-place-preserved : goal.loop-place-preserved
loop-place-preserved c =
    elim c.if-not-is_same_in.branch [
      | then-not-is_same_in+in_ok-push w ↦
          changes-differ c.args.slots (option_copied c.args.before) (option_copied c.args.now) (64 * c.args.page) c.loop-place.place c.loop-place.patch.items c.if-not-is_same_in.patch.items _ c.loop-place-test.true
          (sym c.is_same_in.ensures ∙ w.if-not-is_same_in.true)
          (ap (λ v. v.items) w.patch-is ∙ w.in_ok-push.ensures.items
          ∙ (λ i. c.loop-place.patch.items ++ ((w.coord_of-coord.ensures ∙ ap (λ n. unpacked c.args.slots n) w.number_at.ensures) i, w.cell_in.ensures i) ∷ []))
          c.loop-place.invariant
      | else-not-is_same_in w ↦
          ap (λ v. v.items ++ with_coords c.args.slots (changes_on (option_copied c.args.before) (option_copied c.args.now) (64 * c.args.page) (c.loop-place.place + 1) (64 - (c.loop-place.place + 1)))) w.patch-is
          ∙ changes-same c.args.slots (option_copied c.args.before) (option_copied c.args.now) (64 * c.args.page) c.loop-place.place c.loop-place.patch.items _ c.loop-place-test.true
          (sym c.is_same_in.ensures ∙ w.if-not-is_same_in.false)
          c.loop-place.invariant
    ]
