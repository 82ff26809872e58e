use Rattle.aw_codec.proofs.SpellingLaws.{wholes_are_records}
use Rattle.aw_codec.proofs.laws.wholes_are_records.Goals as goal

pub returns : goal.returns
returns c = wholes_are_records
