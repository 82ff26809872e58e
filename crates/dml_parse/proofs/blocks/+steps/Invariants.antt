use Rattle.std.proofs.Common.{length}
use Rattle.dml_parse.proofs.blocks.+steps.Given as goal

abbrev pub decreases-steps : goal.decreases-steps
decreases-steps l = length l.tokens.now.rest.now
