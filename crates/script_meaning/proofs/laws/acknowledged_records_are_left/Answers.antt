use Rattle.script_world.proofs.callers.Acknowledged.{leaves_all_done}
use Rattle.script_meaning.specs.Transcript.{SameRecords}
use Rattle.script_meaning.proofs.laws.acknowledged_records_are_left.Goals as goal

pub returns : goal.returns
returns c = leaves_all_done SameRecords
