use Rattle.std.specs.Prelude.{◌<◌, length, All}
use Rattle.std.proofs.Common.{arith}
use Rattle.std.proofs.lemmas.Result.{on_ok_weaker}
use Rattle.aw_codec.specs.Records.{IsDefinition}
use Rattle.aw_schema.proofs.callers.AcceptedCatalogues.{accepted_few}
use Rattle.aw_codec.proofs.encoding.push_catalogue.Goals as goal

pub overflow_cast-len : goal.overflow_cast-len
overflow_cast-len c = omega (arith, accepted_few c.args.catalogue.now c.len.ensures.accepted, c.len.ensures.value)

pub returns-clause-record : goal.returns-clause-record
returns-clause-record c =
    let defs = c.args.catalogue.now in
    let few : length defs < 65536 = omega (arith, accepted_few defs c.len.ensures.accepted) in
    on_ok_weaker {P = All IsDefinition defs} {Q = (length defs < 65536) × All IsDefinition defs} c.push_definitions.result (λ are. (few, are)) c.push_definitions.ensures.are
