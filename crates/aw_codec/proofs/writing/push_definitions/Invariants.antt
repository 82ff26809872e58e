use Rattle.std.specs.Prelude.{ℕ, ◌≡◌, ◌<◌, ◌++◌, take}
use Rattle.std.specs.List.{flat_map}
use Rattle.std.proofs.Common.{get_or}
use Rattle.aw_schema.specs.declared.definition.Def.{Def}
use Rattle.aw_codec.specs.Records.{IsDefinition}
use Rattle.aw_codec.specs.Spellings as spelling
use Rattle.aw_codec.proofs.writing.push_definitions.Given as goal

abbrev pub invariant-loop-object : goal.invariant-loop-object
invariant-loop-object l = record {
  bytes : l.out.items ≡ l.initial.out.items ++ flat_map spelling.definition (take l.object l.catalogue);
  are : (k : ℕ) (d : Def) → k < l.object → IsDefinition (get_or l.catalogue k d);
}
