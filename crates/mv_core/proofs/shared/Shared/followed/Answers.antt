use Rattle.std.proofs.Common.{List, Option, Vec, Global, subst}
use Rattle.std.specs.Prelude.{All, IfSome}
use Rattle.aw_schema.specs.declared.definition.Def.{Def}
use Rattle.aw_body.specs.declared.change.Fresh.{Fresh}
use Rattle.mv_core.specs.Prepared.{IsOfForm}
use Rattle.mv_core.proofs.Forms.{made-back}
use Rattle.mv_core.proofs.shared.Shared.followed.Goals as goal

pub invariant_of-self : goal.invariant_of-self
invariant_of-self c =
    let forms = subst (λ (found : Option (Vec Fresh Global)). IfSome found (λ made. All (IsOfForm c.deref.result.now) made.items)) c.in-Ok-Some.field-0-is c.in-Ok-Some.ensures.forms in
    made-back c.self.inside.definitions.items c.self.inside.objects.len c.self.inside.objects.items c.put.new.objects c.deref_mut.result.now c.in-Ok-Some.made.items c.self.inside.objects.ok.0 c.deref_mut.ensures.value c.put.ensures
    (subst (λ (definitions : List Def). All (IsOfForm definitions) c.in-Ok-Some.made.items) c.deref.ensures.value forms) c.self.invariant
