use Rattle.mv_core.proofs.Each.{frees-first}
use Rattle.mv_core.proofs.settling.free_all.Goals as goal

pub loop-at-init : goal.loop-at-init
loop-at-init c = frees-first c.args.who c.args.objects.now
