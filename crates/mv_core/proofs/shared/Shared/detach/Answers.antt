use Rattle.mv_core.specs.declared.ready.Todo.TheVariants.{FreeAll}
use Rattle.mv_core.proofs.Forms.{settled-back}
use Rattle.mv_core.proofs.shared.Shared.detach.Goals as goal

pub invariant_of-self : goal.invariant_of-self
invariant_of-self c =
    settled-back c.self.inside.definitions.items c.self.inside.objects.len c.self.inside.objects.items c.free_all.new.objects _ (FreeAll c.args.who) c.self.inside.objects.ok.0 c.deref_mut.ensures.value c.free_all.ensures tt c.self.invariant
