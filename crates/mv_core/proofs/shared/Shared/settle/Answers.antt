use Rattle.std.proofs.Common.{sym, ap, subst}
use Rattle.mv_core.specs.declared.entry.Reply.{Reply}
use Rattle.mv_core.specs.declared.ready.Todo.{Todo}
use Rattle.mv_core.specs.Prepared.{HasForms}
use Rattle.mv_core.specs.Workspace.{Table}
use Rattle.mv_core.proofs.Forms.{settled-back}
use Rattle.mv_core.proofs.shared.Shared.settle.Goals as goal

pub invariant_of-self : goal.invariant_of-self
invariant_of-self c =
    settled-back c.self.inside.definitions.items c.self.inside.objects.len c.self.inside.objects.items c.settle.new.objects c.deref_mut.result.now c.into_parts-reply.result.1 c.self.inside.objects.ok.0 c.deref_mut.ensures.value c.settle.ensures
    (subst (HasForms c.self.inside.definitions.items) (sym (ap (λ (parts : Reply × Todo). parts.1) c.into_parts-reply.ensures)) (subst (λ (table : Table). HasForms table.definitions c.args.ready.todo) (sym c.self.view_is) c.requires))
    c.self.invariant
