use Rattle.std.proofs.Common.{arith}
use Rattle.aw_codec.proofs.DecodeLaws.{found_record, found_fault, answers_record, answers_fault}
use Rattle.aw_codec.proofs.decoding.decode.Goals as goal

pub returns-clause-found : goal.returns-clause-found
returns-clause-found c = found_record c.args.bytes.now c.whole_record.result (λ i. omega (arith, c.type_inv.bytes i)) c.whole_record.ensures

pub returns-clause-at : goal.returns-clause-at
returns-clause-at c = λ k e. found_fault c.args.bytes.now c.whole_record.result k c.whole_record.ensures e

pub returns-clause-spelling : goal.returns-clause-spelling
returns-clause-spelling c = λ r fits same. answers_record c.args.bytes.now c.whole_record.result r c.whole_record.ensures fits same

pub returns-clause-fault : goal.returns-clause-fault
returns-clause-fault c = λ k fault. answers_fault c.args.bytes.now c.whole_record.result k c.whole_record.ensures fault
