use Rattle.std.specs.Prelude.{◌≡◌}
use Rattle.std.proofs.Common.{arith}
use Rattle.std.proofs.lemmas.Grind.{common_steps}
use Rattle.aw_codec.specs.declared.record.Decoded.TheVariants.{Definitions}
use Rattle.aw_codec.specs.Records.{spelled}
use Rattle.aw_codec.proofs.callers.Lengths.{record_length, payload_fits}
use Rattle.aw_codec.proofs.encoding.encode_catalogue.Goals as goal

pub returns-then-bytes-gt-MOST-clause-size : goal.returns-then-bytes-gt-MOST-clause-size
returns-then-bytes-gt-MOST-clause-size c = record_length c.args.catalogue.now

pub returns-in_err-out-clause-size : goal.returns-in_err-out-clause-size
returns-in_err-out-clause-size c = record_length c.args.catalogue.now

pub returns-in_err-push_catalogue-clause-size : goal.returns-in_err-push_catalogue-clause-size
returns-in_err-push_catalogue-clause-size c = record_length c.args.catalogue.now

pub returns-clause-size : goal.returns-clause-size
returns-clause-size c = record_length c.args.catalogue.now

pub returns-clause-payload : goal.returns-clause-payload
returns-clause-payload c =
    let value : c.from_vec.result ≡ spelled (Definitions c.args.catalogue.now) = grind (arith, common_steps) in
    payload_fits c.from_vec.result (Definitions c.args.catalogue.now) value
    (omega (arith, record_length c.args.catalogue.now, c.record_len-bytes.ensures, c.if-bytes-gt-MOST.false))
