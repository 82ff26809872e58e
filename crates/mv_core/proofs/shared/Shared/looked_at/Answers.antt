use Rattle.std.proofs.Common.{arith, ap, length}
use Rattle.mv_core.proofs.Forms.{length-objects}
use Rattle.mv_core.proofs.shared.Shared.looked_at.Goals as goal

pub all_latest-requires : goal.all_latest-requires
all_latest-requires c =
    omega (arith, ap length c.deref.ensures.value, length-objects c.self.inside.definitions.items c.self.inside.objects.items c.self.invariant.all, c.self.invariant.most)
