use Rattle.std.specs.Prelude.{vec_capacity}
use Rattle.mv_view.proofs.Owning.{listed-released}
use Rattle.mv_view.proofs.view.View.release.Goals as goal

pub invariant_of-self : goal.invariant_of-self
invariant_of-self c = rw (c.forget.ensures.items, c.forget.ensures.room, c.step_all.ensures) (listed-released c.self.inside.objects c.self.inside.owned.items c.as_slice.result.now (vec_capacity c.self.inside.owned) c.self.invariant)
