use Rattle.std.proofs.Common.{◌≡◌, ◌++◌, map, drop}
use Rattle.aw_schema.specs.declared.definition.Def.{Def}
use Rattle.dml_compile.specs.Objects.{object_kind}
use Rattle.dml_compile.proofs.objects.object_kinds.Given as goal

abbrev pub invariant-loop-object : goal.invariant-loop-object
invariant-loop-object l = l.kinds.items ++ map (λ (def : Def). object_kind def.kind) (drop l.object l.catalogue) ≡ map (λ (def : Def). object_kind def.kind) l.catalogue
