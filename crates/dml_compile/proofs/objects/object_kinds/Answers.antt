use Rattle.std.proofs.Common.{rules, arith, ◌≡◌, ◌∙◌, ◌∷◌, ◌++◌, [], map, Some, ap, slice_get}
use Rattle.aw_schema.specs.declared.definition.Def.{Def}
use Rattle.aw_schema.proofs.callers.AcceptedCatalogues.{accepted_few}
use Rattle.dml_exec.specs.declared.kinds.ObjectKind.{ObjectKind}
use Rattle.dml_compile.specs.Objects.{object_kind}
use Rattle.dml_compile.proofs.ObjectKinds.{one_more}
use Rattle.dml_compile.proofs.objects.object_kinds.Goals as goal

pub overflow_cast-object-end : goal.overflow_cast-object-end
overflow_cast-object-end c = omega (arith, accepted_few c.args.catalogue.now c.len-object-end.ensures.accepted, c.len-object-end.ensures.value)

pub loop-object-preserved : goal.loop-object-preserved
loop-object-preserved c =
    let found : slice_get c.args.catalogue.now c.loop-object.object ≡ Some c.in-Some.def.now = search rules in
    one_more (λ (def : Def). object_kind def.kind) c.args.catalogue.now c.loop-object.object c.in-Some.def.now
    c.loop-object.kinds.items c.push.new.self.items
    (map (λ (def : Def). object_kind def.kind) c.args.catalogue.now)
    found c.loop-object.invariant
    (c.in_ok-push.ensures.items ∙ ap (λ (k : ObjectKind). c.loop-object.kinds.items ++ k ∷ []) c.object_kind.ensures)
