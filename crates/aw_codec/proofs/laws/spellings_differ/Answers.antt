use Rattle.aw_codec.proofs.SpellingLaws.{spellings_differ}
use Rattle.aw_codec.proofs.laws.spellings_differ.Goals as goal

pub returns : goal.returns
returns c = spellings_differ
