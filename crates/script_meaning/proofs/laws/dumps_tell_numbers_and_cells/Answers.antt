use Rattle.script_meaning.proofs.DumpedRecords.{records_tell}
use Rattle.script_meaning.proofs.Dumping.{dump_tells}
use Rattle.script_meaning.proofs.laws.dumps_tell_numbers_and_cells.Goals as goal

pub returns-clause-objects : goal.returns-clause-objects
returns-clause-objects c = dump_tells c.texts_tell_apart.ensures

pub returns-clause-records : goal.returns-clause-records
returns-clause-records c = records_tell c.texts_tell_apart.ensures
