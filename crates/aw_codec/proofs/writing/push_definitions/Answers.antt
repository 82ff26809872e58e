use Rattle.std.proofs.Common.{rules, arith, ◌≡◌, ◌<◌, length, Some, slice_get, get_or}
use Rattle.aw_codec.specs.Records.{IsDefinition}
use Rattle.aw_codec.specs.Spellings as spelling
use Rattle.aw_codec.proofs.Accepted.{spellable_at, def_at}
use Rattle.aw_schema.proofs.callers.AcceptedCatalogues.{accepted_few}
use Rattle.aw_codec.proofs.Kept.{kept_more, spelled_more}
use Rattle.aw_codec.proofs.writing.push_definitions.Goals as goal

pub overflow_cast-object-end : goal.overflow_cast-object-end
overflow_cast-object-end c = omega (arith, accepted_few c.args.catalogue.now c.len-object-end.ensures.accepted, c.len-object-end.ensures.value)

pub push_definition-requires : goal.push_definition-requires
push_definition-requires c =
    let defs = c.args.catalogue.now in
    let at = c.loop-object.object in
    let within : at < length defs = omega (arith, c.loop-object-test.true, c.len-object-end.ensures.value) in
    let found : slice_get defs at ≡ Some c.in-Some.def.now = search rules in
    spellable_at defs at c.in-Some.def.now c.len-object-end.ensures.accepted within found

pub loop-object-preserved : goal.loop-object-preserved
loop-object-preserved c =
    let defs = c.args.catalogue.now in
    let at = c.loop-object.object in
    let def = c.in-Some.def.now in
    let within : at < length defs = omega (arith, c.loop-object-test.true, c.len-object-end.ensures.value) in
    let found : slice_get defs at ≡ Some def = search rules in
    let here : def ≡ get_or defs at def = def_at defs at def within found in
    record {
      bytes =
          spelled_more spelling.definition c.args.out.now.items defs at def c.loop-object.out.items c.push_definition.new.out.items within here
          c.loop-object.invariant.bytes c.in_ok-push_definition.ensures.value;
      are = kept_more IsDefinition defs at def within here c.in_ok-push_definition.ensures.is c.loop-object.invariant.are;
    }
