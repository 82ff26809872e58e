use Rattle.aw_codec.proofs.SpellingLaws.{spelling_or_fault}
use Rattle.aw_codec.proofs.laws.spelling_or_fault.Goals as goal

pub returns : goal.returns
returns c = spelling_or_fault
