use Rattle.std.proofs.Common.{◌≡◌, ◌<◌, length, sym, ap, subst, ◌∙◌, arith}
use Rattle.agg_run.specs.inside.Levels.{depth_within, depth_in}
use Rattle.agg_run.proofs.Depths.{depth_most}
use Rattle.agg_run.proofs.Heights.{AreNoDeeper, height_step, slot_there, same_size, no_deeper, valid_by}
use Rattle.agg_run.proofs.levels.height.Goals as goal
use Rattle.agg_run.proofs.levels.height.Goals.{in-Some+then-depth-height, in-Some+else-depth-height, in_default}

pub loop-place-preserved : goal.loop-place-preserved
loop-place-preserved c =
    let size = same_size c.args.tree.now c.args.dimension.now.entries c.requires in
    let all : c.len-most.result ≡ length c.args.tree.now = c.len-most.ensures.value ∙ sym size in
    elim c.match-at.branch [
      | in-Some+then-depth-height w ↦
          let deep : w.depth-depth.result ≡ depth_in c.args.tree.now w.in-Some.slot = w.depth-depth.ensures.value ∙ ap (λ n. depth_within c.args.tree.now n w.in-Some.slot) all in
          let most = depth_most c.args.tree.now (length c.args.tree.now) w.in-Some.slot in
          let is = w.height-is in
          let more = w.if-depth-height.true in
          height_step c.args.tree.now c.args.dimension.now.entries c.loop-place.place c.loop-place.height c.match-at.height w.in-Some.slot w.depth-depth.result c.len-most.result (sym c.at.ensures ∙ w.in-Some.is) deep
          (omega (arith, is)) (omega (arith, is, more)) (omega (arith, is, deep, most, all)) (w.depth-depth.ensures.valid (omega (arith, c.loop-place-test.true))) c.loop-place.invariant.1
      | in-Some+else-depth-height w ↦
          let deep : w.depth-depth.result ≡ depth_in c.args.tree.now w.in-Some.slot = w.depth-depth.ensures.value ∙ ap (λ n. depth_within c.args.tree.now n w.in-Some.slot) all in
          let is = w.height-is in
          let less = w.if-depth-height.false in
          let before = c.loop-place.invariant.0 in
          height_step c.args.tree.now c.args.dimension.now.entries c.loop-place.place c.loop-place.height c.match-at.height w.in-Some.slot w.depth-depth.result c.len-most.result (sym c.at.ensures ∙ w.in-Some.is) deep
          (omega (arith, is, less)) (omega (arith, is)) (omega (arith, is, before)) (w.depth-depth.ensures.valid (omega (arith, c.loop-place-test.true))) c.loop-place.invariant.1
      | in_default w ↦
          let within : c.loop-place.place < length c.args.dimension.now.entries = omega (arith, c.loop-place-test.true, c.len-most.ensures.value) in
          absurd (slot_there c.args.dimension.now.entries c.loop-place.place within (sym c.at.ensures ∙ w.in_default.is))
    ]

pub returns-clause-deepest : goal.returns-clause-deepest
returns-clause-deepest c =
    let end : c.loop-place.place ≡ length c.args.dimension.now.entries = omega (arith, c.loop-place-test.false, c.loop-place.auto.place-end, c.len-most.ensures.value) in
    no_deeper c.args.tree.now c.args.dimension.now.entries c.loop-place.height c.requires (subst (λ n. AreNoDeeper c.args.tree.now c.args.dimension.now.entries n c.loop-place.height) end c.loop-place.invariant.1)

pub returns-clause-valid : goal.returns-clause-valid
returns-clause-valid c =
    valid_by c.args.tree.now c.args.dimension.now.entries c.loop-place.place c.requires (omega (arith, c.loop-place-test.false, c.len-most.ensures.value)) c.loop-place.invariant.2
