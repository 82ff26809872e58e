use Rattle.mv_core.specs.declared.ready.Todo.TheVariants.{Free}
use Rattle.mv_core.proofs.Forms.{settled-back}
use Rattle.mv_core.proofs.shared.Shared.release.Goals as goal

pub invariant_of-self : goal.invariant_of-self
invariant_of-self c =
    settled-back c.self.inside.definitions.items c.self.inside.objects.len c.self.inside.objects.items c.free.new.objects _ (Free c.args.who c.args.listed.now) c.self.inside.objects.ok.0 c.deref_mut.ensures.value c.free.ensures tt c.self.invariant
