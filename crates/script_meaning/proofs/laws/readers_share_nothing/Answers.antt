use Rattle.script_meaning.proofs.Readers.{readers_share_nothing}
use Rattle.script_meaning.proofs.laws.readers_share_nothing.Goals as goal

pub returns : goal.returns
returns c = readers_share_nothing
