use Rattle.std.specs.Prelude.{filter_map, List, ℕ}
use Rattle.std.specs.Option.{option_and_then}
use Rattle.std.proofs.Common.{◌∙◌, ap}
use Rattle.std.proofs.lemmas.List.{take_all}
use Rattle.mv_view.specs.Each.{object_in}
use Rattle.mv_view.specs.Rules.{change_of}
use Rattle.mv_view.proofs.Listing.{gathered-next, gathered-all}
use Rattle.mv_view.proofs.gathering.gathered.Goals as goal

pub loop-object-preserved : goal.loop-object-preserved
loop-object-preserved c =
    gathered-next (λ object. option_and_then (change_of object) (object_in c.args.objects.now object)) c.as_slice-object-items.result.now c.loop-object.object-index c.loop-object.changes.items c.push_change.new.changes.items c.loop-object-test.true c.in-Ok.ensures c.loop-object.invariant

pub returns : goal.returns
returns c =
    c.from_vec.ensures ∙ c.loop-object.invariant
    ∙ ap (λ (those : List ℕ). filter_map (λ object. option_and_then (change_of object) (object_in c.args.objects.now object)) those) (take_all c.loop-object.object-index c.as_slice-object-items.result.now c.loop-object-test.false)
    ∙ gathered-all c.args.objects.now c.as_slice-object-items.result.now (c.as_slice-object-items.ensures.value ∙ c.requires.owned)
